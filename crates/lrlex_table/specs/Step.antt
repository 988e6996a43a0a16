-- A step of the threads of a pattern's NFA.
use Rattle.std.specs.Prelude.{◌≡◌, ℕ, ◌+◌, ◌-◌, ◌*◌, List, length, vec_len}
use Rattle.regex_vm.specs.Bits.{members}
use Rattle.regex_nfa.specs.declared.nfa.Nfa.{Nfa}
use Rattle.regex_dfa.specs.Walks.{AreStates, Walk}
use Rattle.regex_dfa.specs.declared.step.Place as given
use Rattle.lrlex_table.specs.declared.step.StepContext.{StepContext}
use Rattle.lrlex_table.specs.declared.step.Scratch.{Scratch}

-- the context of a step as `regex_dfa` has it
abbrev pub context_of : StepContext → given.Place
context_of p = record { before = p.before; after = p.after; exact = p.exact; byte = p.byte }

-- the memory of steps is for an NFA of n states
abbrev pub Fits : Scratch → ℕ → Type 0
Fits s n = (length s.seen ≡ n) × (length s.taken ≡ n)

-- all states on the stack and all threads after the step are those of the NFA
pub record HoldsStates (nfa : Nfa) (s : Scratch) : Type 0 where
  -- the states that are still to be visited
  pub work : AreStates nfa s.work.items
  -- the threads that were found
  pub next : AreStates nfa s.next.items

-- the threads' step is as far as this: these states are still to be visited, the first of them next
abbrev pub IsWalk : Nfa → StepContext → List ℕ → List ℕ → Scratch → Type 0
IsWalk nfa context threads states s = Walk nfa (context_of context) threads states s.next.items s.seen s.taken

-- what is left to do: it falls with each state that leaves the stack
abbrev pub work_left : Scratch → ℕ
work_left s = 2 * (length s.seen - members s.seen) + vec_len s.work
