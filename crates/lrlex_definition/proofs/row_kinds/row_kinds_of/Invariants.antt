use Rattle.std.proofs.Common.{◌≡◌, length, map}
use Rattle.lrlex_definition.proofs.RowKindLemmas.{AreSet}
use Rattle.lrlex_definition.proofs.row_kinds.row_kinds_of.Given as goal

abbrev pub invariant-names : goal.invariant-names
invariant-names g l = (length l.rows.items ≡ l.row) × AreSet l.rules (map (λ v. v.items) l.lists) l.names l.row l.rows.items
