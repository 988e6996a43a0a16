-- The steps of a scanner, one after the other.
use Rattle.std.specs.Prelude.{◌≡◌, ℕ, ◌+◌, Bool, true, false, Option, Some, None, Result, Ok, Err, length, if◌then◌else◌}
use Rattle.std.specs.declared.alloc.AllocError.{AllocError}
use Rattle.lrlex.specs.Scanner.{IsStep, Scanned, after_step, left}
use Rattle.lrlex.specs.declared.lexing.scanner.Step.{Step}
use Rattle.lrlex.specs.declared.lexing.scanner.Step.TheVariants.{Tile as Found, End as Over}
use Rattle.lrlex.specs.declared.lexing.steps.Steps.{Steps}

-- they begin where the scanner stands
abbrev pub BeginsAt : {S : Type 0} → Scanned → Steps S → Type 0
BeginsAt s it = (it.scanner ≡ s) × (it.ended ≡ false)

-- no more of them come than the bytes that are left, and the end
abbrev pub steps_left : {S : Type 0} → Steps S → ℕ
steps_left it = if it.ended then 0 else length (left it.scanner) + 1

-- whether nothing comes after it
abbrev pub is_last : {S : Type 0} → Step S → Bool
is_last (Found x) = false
is_last (Over e) = true

-- The next one is what the scanner says, and the scanner stands past it. After the end, and after refused memory, none comes, and
-- nothing changes any more.
abbrev pub HasStepped : {S : Type 0} → (S → ℕ) → Steps S → Option (Result (Step S) AllocError) → Steps S → Type 0
HasStepped number old None new = (old.ended ≡ true) × (new ≡ old)
HasStepped number old (Some (Ok step)) new =
    (old.ended ≡ false) × IsStep number old.scanner step × (new.scanner ≡ after_step old.scanner step) × (new.ended ≡ is_last step)
HasStepped number old (Some (Err e)) new = (old.ended ≡ false) × (new.scanner ≡ old.scanner) × (new.ended ≡ true)
