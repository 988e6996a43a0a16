use Rattle.std.proofs.Common.{◌≡◌, ◌++◌, ◌∙◌, List, ℕ, sym, ap, append_assoc, codes, string_bytes}
use Rattle.std.proofs.lemmas.Result.{on_ok_weaker}
use Rattle.lrlex_report.specs.Reasons.{quoted, unexpected}
use Rattle.lrlex_report.proofs.reasons.push_unexpected.Goals as goal

pub returns-in_ok-push_str-in-Some : goal.returns-in_ok-push_str-in-Some
returns-in_ok-push_str-in-Some c =
    let front = codes "unexpected character " in
    let shown = quoted c.in-Some.c in
    let out = string_bytes c.args.out.now in
    let same : front ++ shown ≡ unexpected c.args.found = ap unexpected (sym c.in-Some.is) in
    let more = λ (e : string_bytes c.push_quoted.new.out ≡ string_bytes c.push_str-in-Some.new.self ++ shown).
    e ∙ ap (λ (s : List ℕ). s ++ shown) c.in_ok-push_str-in-Some.ensures.bytes ∙ append_assoc out front shown ∙ ap (λ (s : List ℕ). out ++ s) same in
    on_ok_weaker c.push_quoted.result more c.push_quoted.ensures
