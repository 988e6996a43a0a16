-- The steps of a scanner come to an end.
use Rattle.std.proofs.Common.{◌≡◌, ℕ, ◌+◌, ◌<◌, true, false, Option, Some, None, Result, Ok, Err, length, ap, arith}
use Rattle.std.specs.Prelude.{⊤}
use Rattle.std.proofs.lemmas.Bool.{cond-true, cond-false}
use Rattle.std.specs.Iterator.{MakesProgress, at_most}
use Rattle.std.specs.declared.alloc.AllocError.{AllocError}
use Rattle.lrlex.specs.Scanner.{left}
use Rattle.lrlex.specs.Steps.{HasStepped, steps_left}
use Rattle.lrlex.specs.declared.lexing.scanner.Step.{Step}
use Rattle.lrlex.specs.declared.lexing.scanner.Step.TheVariants.{Tile as Found, End as Over}
use Rattle.lrlex.specs.declared.lexing.steps.Steps.{Steps}
use Rattle.lrlex.proofs.ScannerLemmas.{less_left}

-- none is left after the last
none_left : {S : Type 0} (old new : Steps S) → old.ended ≡ false → new.ended ≡ true → steps_left new < steps_left old
none_left old new was is =
    let before = cond-false _ 0 (length (left old.scanner) + 1) was in
    let after = cond-true _ 0 (length (left new.scanner) + 1) is in
    omega (arith, before, after)

-- each step leaves fewer
pub steps_go : {S : Type 0} (number : S → ℕ) (old : Steps S) (r : Option (Result (Step S) AllocError)) (new : Steps S) → HasStepped number old r new →
    MakesProgress (λ _. ⊤) (λ s. at_most (steps_left s)) old r new
steps_go number old None new h = record { on = λ f. tt; keeps = tt; rests = λ f. tt }
steps_go number old (Some (Ok (Found x))) new h =
    let before = cond-false _ 0 (length (left old.scanner) + 1) h.0 in
    let after = cond-false _ 0 (length (left new.scanner) + 1) h.3 in
    let same = ap (λ s. length (left s)) h.2 in
    let less = less_left number old.scanner x h.1.0 h.1.1 h.1.2 in
    record { on = λ f. (tt, tt, omega (arith, before, after, same, less)); keeps = tt; rests = λ f. tt }
steps_go number old (Some (Ok (Over e))) new h = record { on = λ f. (tt, tt, none_left old new h.0 h.3); keeps = tt; rests = λ f. tt }
steps_go number old (Some (Err e)) new h = record { on = λ f. (tt, tt, none_left old new h.0 h.2); keeps = tt; rests = λ f. tt }
