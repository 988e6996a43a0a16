use Rattle.std.proofs.Common.{◌≡◌, ◌+◌, ◌-◌, ◌^◌, ◌<◌, ◌≤◌, ◌++◌, length, slice_get, sym, ap, ap₂, ◌∙◌, subst, arith, rules}
use Rattle.lrlex_table.specs.Chain.{end_of, row_of}
use Rattle.lrlex_table.proofs.LinearLemmas.{linear_later}
use Rattle.lrlex.specs.Plain.{AllArePlain, lexemes_of}
use Rattle.lrlex.specs.Searcher.{AreFoundAt}
use Rattle.lrlex_definition.specs.StateTables.{most_tables}
use Rattle.lrlex.specs.Views.{items_by}
use Rattle.lrlex.proofs.ManyLemmas.{many_bytes, many_within, taken_many}
use Rattle.lrlex.proofs.lexing.plain.take_plain.Goals as goal

pub store_tiles-items-requires-clause-tiles : goal.store_tiles-items-requires-clause-tiles
store_tiles-items-requires-clause-tiles g c k w lt read same =
    let text = c.args.text.now in
    let row = row_of c.all_ahead-found.result.marks.now k in
    let at = c.all_ahead-found.ensures.tiles text c.requires.at.searcher k w lt (ap (λ xs. slice_get xs row) (sym c.as_slice-kinds.ensures.value) ∙ read) same in
    let small : length text < 2 ^ 64 = search rules in
    (at.0, omega (arith, at.0, at.1.within, small))

pub enter_all-requires-clause-fits : goal.enter_all-requires-clause-fits
enter_all-requires-clause-fits g c k lt =
    let number = g.S.Numbered.number in
    let table = c.args.table.now in
    let text = c.args.text.now in
    let found = c.all_ahead-found.result in
    let marks = found.marks.now in
    let count = c.store_tiles-items.result.1 in
    let list = c.args.rules.list in
    let plain : AllArePlain table.row_kinds.items list marks count = subst (λ ks. AllArePlain ks list marks count) c.as_slice-kinds.ensures.value c.store_tiles-items.ensures.plain in
    let small : length text < 2 ^ 64 = search rules in
    let ends : found.from + end_of marks k < length text =
    many_within number table text c.args.rules.state list found.from c.args.progress.now.place marks count c.store_tiles-items.ensures.count plain (c.all_ahead-found.ensures.tiles text c.requires.at.searcher) k lt in
    omega (arith, ends, small)

pub returns : goal.returns
returns g c =
    let number = g.S.Numbered.number in
    let seen = g.X.Lexeme.seen in
    let table = c.args.table.now in
    let text = c.args.text.now in
    let s = c.args.searcher.now in
    let p = c.args.progress.now in
    let found = c.all_ahead-found.result in
    let from = found.from in
    let marks = found.marks.now in
    let count = c.store_tiles-items.result.1 in
    let list = c.args.rules.list in
    let q = c.args.rules.state in
    let e = c.in_ok-enter_all.ensures in
    let n = c.enter_all.new.progress in
    let later = c.pass_all.new.self in
    let few = c.store_tiles-items.ensures.count in
    let tiles : AreFoundAt number table q list text from p.place marks = c.all_ahead-found.ensures.tiles text c.requires.at.searcher in
    let near : p.lookahead ≤ 1 = search rules in
    let kinds = c.as_slice-kinds.ensures.value in
    let plain : AllArePlain table.row_kinds.items list marks count = subst (λ ks. AllArePlain ks list marks count) kinds c.store_tiles-items.ensures.plain in
    let given : c.replace-items.result.items ≡ p.items.items = ap (λ v. v.items) c.replace-items.ensures.value ∙ c.in_ok-reserve.ensures.items in
    let items : items_by number seen n.items.items ≡ items_by number seen p.items.items ++ lexemes_of number table.row_kinds.items from p.place marks count =
    ap (items_by number seen) e.items ∙ c.store_tiles-items.ensures.items ∙ ap₂ (λ xs ks. items_by number seen xs ++ lexemes_of number ks from p.place marks count) given kinds in
    let searcher = c.pass_all.ensures.searcher text c.requires.at.searcher in
    let bytes : p.place + count ≤ n.place = omega (arith, e.place, many_bytes number table text q list from p.place marks count few plain tiles count (omega arith)) in
    record {
      taken = record {
        at = taken_many number seen table text q list s later p n from marks count c.requires.at near searcher few plain tiles items e.place e.stack e.asked e.none e.some e.ahead e.kept;
        onward = omega (arith, bytes);
        linear = λ first was. linear_later (most_tables table.tables.items) first p.place n.place later.ends (c.pass_all.ensures.linear first p.place was) (omega (arith, bytes));
      };
    }
