use Rattle.std.proofs.Common.{◌≡◌, ◌∷◌, [], ◌++◌, ◌+◌, ◌<◌, ◌∙◌, List, ℕ, sym, ap, subst, string_bytes, take, length, arith}
use Rattle.std.proofs.lemmas.List.{take_more}
use Rattle.lrlex_parser.specs.declared.faults.LexBuildError.{LexBuildError}
use Rattle.lrlex_report.specs.FaultTexts.{AreFaultTexts}
use Rattle.lrlex_report.proofs.FaultLemmas.{AreFaultTexts_more}
use Rattle.lrlex_report.proofs.faults.faults_text.Goals as goal

pub loop-fault-preserved : goal.loop-fault-preserved
loop-fault-preserved c =
    let i = c.loop-fault.fault-index in
    let faults = c.args.faults.now in
    let shown = string_bytes c.loop-fault.shown in
    let fault = c.fault-item.result in
    let source = c.in_ok-source.source in
    let within : i < length faults = omega arith in
    let front : take (i + 1) faults ≡ take i faults ++ fault ∷ [] = take_more faults i fault within ∙ ap (λ (e : LexBuildError). take i faults ++ e ∷ []) (sym c.fault-item.is) in
    let bytes : string_bytes c.push_str.new.self ≡ shown ++ string_bytes c.in_ok-one.one = c.in_ok-push_str.ensures.bytes ∙ ap (λ (s : List ℕ). shown ++ s) c.deref.ensures in
    let more = AreFaultTexts_more source.file.now source.text.now (take i faults) fault shown (string_bytes c.in_ok-one.one) c.loop-fault.invariant c.in_ok-one.ensures in
    subst (λ (es : List LexBuildError). AreFaultTexts source.file.now source.text.now es (string_bytes c.push_str.new.self)) (sym front)
    (subst (λ (s : List ℕ). AreFaultTexts source.file.now source.text.now (take i faults ++ fault ∷ []) s) (sym bytes) more)
