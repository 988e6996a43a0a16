-- One more fault.
use Rattle.std.proofs.Common.{ℕ, List, [], ◌∷◌, ◌++◌, ap, refl, ◌∙◌, sym, append_assoc, append-nil}
use Rattle.lrlex_parser.specs.declared.faults.LexBuildError.{LexBuildError}
use Rattle.lrlex_report.specs.FaultTexts.{IsFaultText, AreFaultTexts}

pub AreFaultTexts_more : (file rules : List ℕ) (es : List LexBuildError) (e : LexBuildError) (shown one : List ℕ) → AreFaultTexts file rules es shown → IsFaultText file rules e one →
    AreFaultTexts file rules (es ++ e ∷ []) (shown ++ one)
AreFaultTexts_more file rules [] e shown one none is = (one, [], is, refl, ap (λ s. s ++ one) none ∙ sym (append-nil one))
AreFaultTexts_more file rules (f ∷ es) e shown one are is =
    (are.0, are.1 ++ one, are.2, AreFaultTexts_more file rules es e are.1 one are.3 is, ap (λ s. s ++ one) are.4 ∙ append_assoc are.0 are.1 one)
