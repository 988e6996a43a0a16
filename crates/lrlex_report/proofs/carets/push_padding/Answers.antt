use Rattle.std.proofs.Common.{◌≡◌, ◌-◌, ◌++◌, drop, ltb, ap, ◌∙◌, length, string_bytes}
use Rattle.std.proofs.lemmas.Result.{on_ok_weaker}
use Rattle.std.specs.Str.{chars}
use Rattle.lrlex_report.specs.Carets.{padding}
use Rattle.lrlex_report.proofs.CaretLemmas.{padded}
use Rattle.lrlex_report.proofs.carets.push_padding.Goals as goal

pub returns : goal.returns
returns c =
    let out = string_bytes c.args.out.now in
    let mid = string_bytes c.push_if_hidden.new.out in
    let cs = chars c.args.front.now in
    let hidden = length cs - c.args.most in
    let more = λ (e : string_bytes c.push_under_each.new.out ≡ mid ++ padding (chars c.last_chars.result.now)).
    padded (ltb 0 hidden) out mid _ (drop hidden cs) c.in_ok-push_if_hidden.ensures (e ∙ ap (λ xs. mid ++ padding xs) c.last_chars.ensures) in
    on_ok_weaker c.push_under_each.result more c.push_under_each.ensures
