use Rattle.std.proofs.Common.{◌≡◌, ◌<◌, ◌+◌, ◌-◌, ◌++◌, ℕ, length, map, sym, ◌∙◌, ap, subst, arith}
use Rattle.std.specs.List.{All}
use Rattle.std.proofs.lemmas.List.{map-append, length-append}
use Rattle.std.proofs.lemmas.List.Elements.{All-append}
use Rattle.lrlex_base.specs.Places.{AreStartsOfSome, newlines_from, starts_after}
use Rattle.lrlex_base.proofs.NewlineEditLemmas.{fed_more}
use Rattle.lrlex_base.proofs.NewlineLemmas.{newlines_back, newlines_from-append, starts_positive}
use Rattle.lrlex_base.proofs.newlines.NewlineCache.feed.Goals as goal

pub invariant_of-self : goal.invariant_of-self
invariant_of-self g c =
    subst (λ S. All (λ s. 0 < s) S × AreStartsOfSome c.self.inside.bytes S) (sym c.in_err-add_starts.ensures.err) c.self.invariant

pub invariant_of-self-2 : goal.invariant_of-self-2
invariant_of-self-2 g c =
    let added = newlines_from c.self.inside.bytes c.args.piece.now in
    let S = c.self.inside.starts.items in
    let is : c.add_starts.new.starts.items ≡ S ++ starts_after added = c.in_ok-add_starts.ensures.ok in (
      subst (All (λ (s : ℕ). 0 < s)) (sym is) (All-append (λ (s : ℕ). 0 < s) S (starts_after added) c.self.invariant.0 (starts_positive added)),
      subst (AreStartsOfSome (c.self.inside.bytes + length c.args.piece.now)) (sym is) (fed_more c.self.inside.bytes S c.args.piece.now c.self.invariant.1),
    )

pub returns-clause-newlines : goal.returns-clause-newlines
returns-clause-newlines g c =
    let back : ℕ → ℕ = λ s. s - 1 in
    let added = newlines_from c.self.inside.bytes c.args.piece.now in
    let old = c.self.inside.starts.items in
    let fed : c.self.inside.bytes ≡ c.args.self.now.fed = ap (λ v. v.fed) c.self.view_is in
    let had : map back old ≡ c.args.self.now.newlines = ap (λ v. v.newlines) c.self.view_is in
    ap (map back) c.in_ok-add_starts.ensures.ok ∙ map-append back old (starts_after added)
    ∙ ap (λ l. map back old ++ l) (newlines_back added)
    ∙ ap (λ l. l ++ added) had
    ∙ ap (λ n. c.args.self.now.newlines ++ newlines_from n c.args.piece.now) fed

pub returns-clause-pieces : goal.returns-clause-pieces
returns-clause-pieces g c text is =
    let piece = c.args.piece.now in
    let fed : c.self.inside.bytes ≡ c.args.self.now.fed = ap (λ v. v.fed) c.self.view_is in
    let here : 0 + length text ≡ c.args.self.now.fed = omega (arith, is.0) in
    let newlines : map (λ (s : ℕ). s - 1) c.add_starts.new.starts.items ≡ newlines_from 0 (text ++ piece) =
    returns-clause-newlines g c ∙ ap (λ l. l ++ newlines_from c.args.self.now.fed piece) is.1
    ∙ ap (λ n. newlines_from 0 text ++ newlines_from n piece) (sym here)
    ∙ sym (newlines_from-append 0 text piece) in
    (omega (arith, is.0, length-append text piece), newlines)
