use Rattle.std.proofs.Common.{◌+◌, ◌++◌, ◌∷◌, [], sym, ap, ◌∙◌, subst}
use Rattle.lrlex_table.specs.Table.{IsTableOf}
use Rattle.lrlex_table.specs.declared.merged_tables.Part.{Part}
use Rattle.lrlex_table.specs.Tables.{ArePartsOf}
use Rattle.lrlex_table.proofs.PartLemmas.{one_part, one_asked}
use Rattle.lrlex_table.proofs.merged_tables.alone.Goals as goal
use Rattle.lrlex_table.proofs.merged_tables.alone.Goals.{in-Some+in_ok-push-in-Some+in_ok-push-in-Some-2, in-None+in_ok-push-in-None}

pub returns-clause-tables : goal.returns-clause-tables
returns-clause-tables c pattern ps cached is = elim c.match-branch-2.branch [
  | in-Some+in_ok-push-in-Some+in_ok-push-in-Some-2 w ↦
      let table = w.in-Some.table in
      let p : Part = record { table = table; patterns = w.push.new.self } in
      let serves : IsTableOf (pattern c.args.place ∷ []) table = rw w.in-Some.is at (c.in_ok-table.ensures.given pattern cached) in
      subst (λ asked. ArePartsOf ps c.args.index (c.args.index + 1) c.match-branch-2.parts.items asked) (sym (ap (λ v. v.items) w.asked-is ∙ c.new-asked.ensures.items))
      (subst (λ parts. ArePartsOf ps c.args.index (c.args.index + 1) parts []) (sym (ap (λ v. v.items) w.parts-is ∙ w.in_ok-push-in-Some-2.ensures.items ∙ ap (λ xs. xs ++ p ∷ []) c.new-parts.ensures.items))
      (one_part ps c.args.index p (w.in_ok-push-in-Some.ensures.items ∙ ap (λ xs. xs ++ c.args.index ∷ []) w.new-patterns.ensures.items)
      (subst (λ re. IsTableOf (re ∷ []) table) (sym is) serves)))
  | in-None+in_ok-push-in-None w ↦
      subst (λ asked. ArePartsOf ps c.args.index (c.args.index + 1) c.match-branch-2.parts.items asked) (sym (ap (λ v. v.items) w.asked-is ∙ w.in_ok-push-in-None.ensures.items ∙ ap (λ xs. xs ++ c.args.index ∷ []) c.new-asked.ensures.items))
      (subst (λ parts. ArePartsOf ps c.args.index (c.args.index + 1) parts (c.args.index ∷ [])) (sym (ap (λ v. v.items) w.parts-is ∙ c.new-parts.ensures.items)) (one_asked ps c.args.index))
]
