-- How high a stack grows in entries.
use Rattle.std.specs.Prelude.{ℕ, ◌+◌, ◌==◌, if◌then◌else◌, List, [], ◌∷◌, Option, None, Some}
use Rattle.lrlex_rules.specs.Definition.{Definition}
use Rattle.lrlex_rules.specs.Active.{rule_at}
use Rattle.lrlex_rules.specs.Tiling.{top, stack_past}
use Rattle.lrlex_rules.specs.declared.states.StartStateOperation.{StartStateOperation}
use Rattle.lrlex_rules.specs.declared.states.StartStateOperation.TheVariants.{ReplaceStack, Push, Pop}
use Rattle.lrlex_rules.specs.Tiling.{Tile}

-- 1 where the target pushes a state other than the top
abbrev pub pushes_other : List ℕ → Option (ℕ × StartStateOperation) → ℕ
pushes_other stack None = 0
pushes_other stack (Some (q, ReplaceStack)) = 0
pushes_other stack (Some (q, Push)) = if q == top stack then 0 else 1
pushes_other stack (Some (q, Pop)) = 0

-- how many tiles push a state other than the top
abbrev pub pushes : Definition → List ℕ → List Tile → ℕ
pushes d stack [] = 0
pushes d stack (t ∷ ts) = pushes_other stack (rule_at d t.rule).target + pushes d (stack_past d stack t) ts
