use Rattle.std.proofs.Common.{◌∷◌, [], ◌++◌, map, sym, ap, ◌∙◌, subst, arith}
use Rattle.std.specs.List.{slice_range}
use Rattle.lrlex_table.specs.Table.{IsTableOf}
use Rattle.lrlex_table.specs.declared.merged_tables.Part.{Part}
use Rattle.lrlex_table.specs.Tables.{ArePartsOf}
use Rattle.lrlex_table.proofs.PartLemmas.{grouped_parts}
use Rattle.lrlex_table.proofs.merged_tables.grouped.Goals as goal

pub returns-clause-tables : goal.returns-clause-tables
returns-clause-tables c pattern cached =
    let places = c.args.places.now in
    let from = c.args.from in
    let to = c.args.to in
    let ps = map pattern places in
    let table = c.in-Some.table in
    let numbers = c.in_ok-patterns in
    let p : Part = record { table = table; patterns = numbers.patterns } in
    let serves : IsTableOf (map pattern (slice_range places from to)) table = rw c.in-Some.is at (c.in_ok-made.ensures.table pattern cached) in
    subst (λ asked. ArePartsOf ps from to c.push.new.self.items asked) (sym c.new.ensures.items)
    (subst (λ parts. ArePartsOf ps from to parts []) (sym (c.in_ok-push.ensures.items ∙ ap (λ xs. xs ++ p ∷ []) c.new-parts.ensures.items))
    (grouped_parts pattern places from to p (omega (arith, c.requires.from)) c.requires.to numbers.ensures.rises numbers.ensures.len numbers.ensures.each serves))
