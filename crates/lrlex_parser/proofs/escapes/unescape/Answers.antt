use Rattle.std.proofs.Common.{◌≡◌, [], ◌∷◌, ◌++◌, ◌∙◌, List, ℕ, ap, refl, sym}
use Rattle.std.specs.Prelude.{if◌then◌else◌, codes, ◌||◌}
use Rattle.std.specs.Char.{encode_utf8}
use Rattle.std.specs.Str.Iter.{chars_rest}
use Rattle.std.specs.String.{string_bytes}
use Rattle.lrlex_parser.specs.Escape.{is_meta, begins_escape}
use Rattle.lrlex_parser.proofs.EscapeLemmas.{step_char, step_end, step_word_boundary, step_escape, step_done, kept_yes, kept_no}
use Rattle.lrlex_parser.proofs.escapes.unescape.Goals as goal
use Rattle.lrlex_parser.proofs.escapes.unescape.Goals.{then-posix, else-posix, then-keeps_backslash+in_ok-push-in-Some-next, else-keeps_backslash}

pub loop-c-init : goal.loop-c-init
loop-c-init c = rw (c.new-out.ensures.bytes, c.chars-rest.ensures.rest) refl

pub loop-c-preserved-then-c-ne92 : goal.loop-c-preserved-then-c-ne92
loop-c-preserved-then-c-ne92 c = step_char _ _ _ _ c.loop-c.invariant _ _ _ c.if-c-ne92.true c.in-Some.ensures.steps.0 c.in_ok-push.ensures.bytes

pub loop-c-preserved-in_ok-push-in-None : goal.loop-c-preserved-in_ok-push-in-None
loop-c-preserved-in_ok-push-in-None c =
    let left = c.in-None.ensures.steps.0 in
    let first = c.in-Some.ensures.steps.0 ∙ ap (λ (x : ℕ). encode_utf8 x ++ chars_rest c.next.new.self) c.if-c-ne92.false in
    rw (left.1) (step_end _ _ _ _ c.loop-c.invariant _ _ first left.0 c.in_ok-push-in-None.ensures.bytes)

pub loop-c-preserved-in_ok-push_str-in-Some-b : goal.loop-c-preserved-in_ok-push_str-in-Some-b
loop-c-preserved-in_ok-push_str-in-Some-b c =
    let first = c.in-Some.ensures.steps.0 ∙ ap (λ (x : ℕ). encode_utf8 x ++ chars_rest c.next.new.self) c.if-c-ne92.false in
    let second = c.in-Some-b.ensures.steps.0 ∙ ap (λ (x : ℕ). encode_utf8 x ++ chars_rest c.next-in-Some.new.self) c.in-Some-b.field-0-test in
    let text : c.if-posix.push_str.now ≡ (if c.args.posix then codes "\\x08" else codes "\\b") = elim c.if-posix.branch [ then-posix w ↦ rw (w.push_str-is, w.if-posix.true) refl | else-posix w ↦ rw (w.push_str-is, w.if-posix.false) refl ] in
    step_word_boundary _ _ _ _ c.loop-c.invariant _ _ _ first second (c.in_ok-push_str-in-Some-b.ensures.bytes ∙ ap (λ (x : List ℕ). string_bytes c.loop-c.out ++ x) text)

pub loop-c-preserved : goal.loop-c-preserved
loop-c-preserved c =
    let first = c.in-Some.ensures.steps.0 ∙ ap (λ (x : ℕ). encode_utf8 x ++ chars_rest c.next.new.self) c.if-c-ne92.false in
    let keeps = is_meta c.in-Some-next.d || begins_escape c.in-Some-next.d (chars_rest c.next-in-Some.new.self) in
    let tested : c.keeps_backslash.result ≡ keeps = c.keeps_backslash.ensures ∙ ap (λ (x : List ℕ). is_meta c.in-Some-next.d || begins_escape c.in-Some-next.d x) c.as_str.ensures in
    let wrote : string_bytes c.if-keeps_backslash.out ≡ string_bytes c.loop-c.out ++ (if keeps then 92 ∷ [] else []) =
    elim c.if-keeps_backslash.branch [
      | then-keeps_backslash+in_ok-push-in-Some-next w ↦ kept_yes keeps _ _ (sym tested ∙ w.if-keeps_backslash.true) (ap string_bytes w.out-is ∙ w.in_ok-push-in-Some-next.ensures.bytes)
      | else-keeps_backslash w ↦ kept_no keeps _ _ (sym tested ∙ w.if-keeps_backslash.false) (ap string_bytes w.out-is)
    ] in
    step_escape _ _ _ _ c.loop-c.invariant c.in-Some-next.d _ _ _ c.in-Some-next.d-test.1 first c.in-Some-next.ensures.steps.0
    (c.in_ok-push-in-Some-next-2.ensures.bytes ∙ ap (λ (x : List ℕ). x ++ encode_utf8 c.in-Some-next.d) wrote)

pub returns : goal.returns
returns c = step_done _ _ _ _ c.loop-c.invariant c.in_default.ensures.steps.0.0
