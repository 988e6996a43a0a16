use Rattle.std.proofs.Common.{◌≡◌, ◌++◌, take, drop, true, false, sym, ◌∙◌, ap, rules}
use Rattle.std.proofs.lemmas.List.{append_cancel_left}
use Rattle.std.proofs.lemmas.Slice.Eq.{bytes_eq-Decides}
use Rattle.lrlex_base.proofs.edits.Edit.gives.Goals as goal

pub returns-in-Some-after_prefix : goal.returns-in-Some-after_prefix
returns-in-Some-after_prefix c =
    let old = c.args.old.now in
    let put = c.args.self.now.put.now in
    let front : c.as_bytes-front.result.now ≡ take c.args.self.now.removed.start old = search rules in
    let tail : c.as_bytes-tail.result.now ≡ drop c.args.self.now.removed.end old = search rules in
    let middle : c.as_bytes-in-Some.result.now ≡ put = c.as_bytes-in-Some.ensures.value in
    let whole : c.args.new.now ≡ take c.args.self.now.removed.start old ++ (put ++ c.in-Some-after_prefix.rest.now) =
    sym c.as_bytes.ensures.value ∙ c.in-Some.ensures ∙ ap (λ l. l ++ c.in-Some.rest.now) front
    ∙ ap (λ l. take c.args.self.now.removed.start old ++ l) (c.in-Some-after_prefix.ensures ∙ ap (λ l. l ++ c.in-Some-after_prefix.rest.now) middle) in
    let decides = bytes_eq-Decides c.in-Some-after_prefix.rest.now c.as_bytes-tail.result.now in (
      λ yes. (c.fits.ensures.0 c.if-not-fits.false, whole ∙ ap (λ l. take c.args.self.now.removed.start old ++ (put ++ l)) (decides.0 (sym c.eq.ensures ∙ yes) ∙ tail)),
      λ h. c.eq.ensures ∙ decides.1 (append_cancel_left put _ _ (append_cancel_left (take c.args.self.now.removed.start old) _ _ (sym whole ∙ h.1)) ∙ sym tail),
    )

pub returns-in-None-after_prefix : goal.returns-in-None-after_prefix
returns-in-None-after_prefix c =
    let old = c.args.old.now in
    let put = c.args.self.now.put.now in
    let tail = drop c.args.self.now.removed.end old in
    let front : c.as_bytes-front.result.now ≡ take c.args.self.now.removed.start old = search rules in
    let middle : c.as_bytes-in-Some.result.now ≡ put = c.as_bytes-in-Some.ensures.value in
    let whole : c.args.new.now ≡ take c.args.self.now.removed.start old ++ c.in-Some.rest.now =
    sym c.as_bytes.ensures.value ∙ c.in-Some.ensures ∙ ap (λ l. l ++ c.in-Some.rest.now) front in (
      λ no. let wrong : false ≡ true = no in cc,
      λ h. absurd (c.in-None-after_prefix.ensures tail
          (append_cancel_left (take c.args.self.now.removed.start old) _ _ (sym whole ∙ h.1) ∙ ap (λ l. l ++ tail) (sym middle))),
    )
