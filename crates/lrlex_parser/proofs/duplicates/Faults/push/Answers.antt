use Rattle.std.proofs.Common.{◌++◌, ◌∷◌, [], Bool, true, false, List, sym, subst}
use Rattle.std.specs.Prelude.{is_ok, if◌then◌else◌}
use Rattle.lrlex_parser.specs.declared.faults.LexBuildError.{LexBuildError}
use Rattle.lrlex_parser.specs.Duplicates.{is_fault_of, fault_index, IsOnlyPlace}
use Rattle.lrlex_parser.specs.LexBuildResult.{as_fault}
use Rattle.lrlex_parser.proofs.Extends.{only_push_fail, lone_fails}
use Rattle.lrlex_parser.proofs.duplicates.Faults.push.Goals as goal

pub invariant_of-self : goal.invariant_of-self
invariant_of-self c = record {
  placed = λ s o.
      let p : LexBuildError → Bool = λ e. is_fault_of s o (as_fault e) in
      let place = fault_index c.args.self.now.places s o in
      let old = c.args.self.now.list.items in
      let P : List LexBuildError → Type 0 = λ xs. IsOnlyPlace p place xs in
      let more : P (old ++ c.args.fault ∷ []) = only_push_fail p old c.args.fault place (c.args.self.now.placed s o) (lone_fails s o (as_fault c.args.fault) c.requires) in
      subst P (sym c.push.ensures.items) (elim (is_ok c.push.result) as (λ b. P (if b then old ++ c.args.fault ∷ [] else old)) [ true ↦ more | false ↦ c.args.self.now.placed s o ]);
}
