use Rattle.std.proofs.Common.{◌≡◌, ◌+◌, ◌-◌, ◌<◌, ◌++◌, ◌∷◌, [], suc, length, take, get_or, sym, ap, ap₂, ◌∙◌, arith, rules, append_assoc}
use Rattle.std.specs.Prelude.{replicate, vec_len}
use Rattle.std.proofs.lemmas.List.{get_or_read, take_all}
use Rattle.lrlex_boundaries.specs.Boundaries.{Boundary, last_entries}
use Rattle.lrlex_boundaries.proofs.ArenaLemmas.{last_entries-push}
use Rattle.lrlex_table.specs.Ahead.{begin_at}
use Rattle.lrlex_table.specs.Chain.{end_of, no_mark}
use Rattle.lrlex_table.specs.declared.marks.Mark.{Mark}
use Rattle.lrlex.specs.Plain.{boundaries_of}
use Rattle.lrlex.proofs.lexing.plain.enter_all.Goals as goal

pub tiles-preserved : goal.tiles-preserved
tiles-preserved g c =
    let w = c.tiles.invariant in
    let from = c.args.found.from in
    let marks = c.args.found.marks.now in
    let at = c.tiles.at in
    let start = c.args.progress.now in
    let before = c.tiles.progress.boundaries in
    let stack = last_entries start.boundaries in
    let m = c.index-found-at.result in
    let within : at < length marks = omega (arith, c.tiles-test.true, c.requires.count) in
    let is : m ≡ get_or marks at no_mark = get_or_read marks at m within c.index-found-at.is no_mark in
    let ends : c.end.result ≡ end_of marks at = c.end.ensures ∙ ap (λ (x : Mark). x.end) (sym c.index-found-at.is ∙ is) in
    let one : suc at ≡ at + 1 = omega arith in
    let b : Boundary = record { place = from + c.end.result; entries = last_entries before } in
    let same : b ≡ record { place = from + end_of marks at; entries = stack } = ap₂ (λ p es. let made : Boundary = record { place = from + p; entries = es } in made) ends w.last in
    let kept : c.repeat.new.self ≡ before ++ b ∷ [] = c.in_ok-repeat.ensures in
    record {
      within = omega (arith, c.tiles-test.true);
      place = ap (λ e. from + e) ends ∙ ap (begin_at from start.place marks) one;
      stack = w.stack;
      items = w.items;
      asked = w.asked;
      lookahead = w.lookahead;
      ahead = w.ahead;
      kept = kept ∙ ap₂ (λ xs e. xs ++ e ∷ []) w.kept same ∙ append_assoc start.boundaries (boundaries_of from marks stack at) (record { place = from + end_of marks at; entries = stack } ∷ [])
          ∙ ap (λ n. start.boundaries ++ boundaries_of from marks stack n) one;
      last = ap last_entries kept ∙ last_entries-push before b ∙ w.last;
    }

pub returns : goal.returns
returns g c =
    let w = c.tiles.invariant in
    let from = c.args.found.from in
    let marks = c.args.found.marks.now in
    let start = c.args.progress.now in
    let count = c.args.count in
    let all : c.tiles.at ≡ count = omega (arith, w.within, c.tiles-test.false) in
    let held = c.tiles.progress.ahead in
    let front : take (c.len.result + count) held.items ≡ held.items = take_all (c.len.result + count) held.items (omega (arith, c.len.ensures, held.ok.0)) in
    let more : c.len.result + count - vec_len held ≡ count = omega (arith, c.len.ensures) in
    record {
      place = w.place ∙ ap (begin_at from start.place marks) all;
      stack = ap (λ v. v.items) w.stack;
      items = ap (λ v. v.items) w.items;
      asked = w.asked;
      none = λ e. absurd (omega (arith, e, c.if-count-eq0.false));
      some = λ _. search rules;
      ahead = c.in_ok-resize.ensures.items ∙ ap₂ (λ xs k. xs ++ replicate k 1) front more ∙ ap (λ v. v.items ++ replicate count 1) w.ahead;
      kept = w.kept ∙ ap (λ k. start.boundaries ++ boundaries_of from marks (last_entries start.boundaries) k) all;
    }
