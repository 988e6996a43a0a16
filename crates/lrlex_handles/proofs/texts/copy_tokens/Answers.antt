use Rattle.std.proofs.Common.{◌<◌, length, refl, ◌∙◌, sym, ap, set, arith}
use Rattle.lrlex_base.specs.Lexemes.{lexeme_seen}
use Rattle.lrlex.specs.Views.{item_of}
use Rattle.lrlex_handles.specs.Buffers.{put_token}
use Rattle.lrlex_handles.proofs.Fills.{put_next, keep_next, counted, loop_end}
use Rattle.lrlex_handles.proofs.texts.copy_tokens.Goals as goal
use Rattle.lrlex_handles.proofs.texts.copy_tokens.Goals.{in-Ok, in_default}

pub loop-i-init : goal.loop-i-init
loop-i-init c = refl

pub loop-i-preserved : goal.loop-i-preserved
loop-i-preserved c =
    let here : c.loop-i.i < length c.args.items.now = omega arith in
    let room : c.loop-i.i < length c.args.out.now = omega arith in
    elim c.match-items-i.branch [
      | in-Ok w ↦ counted (λ x. put_token (item_of (λ n. n) lexeme_seen x)) c.args.items.now c.args.out.now _ c.loop-i.i
          (w.out-is ∙ ap (λ us. set us c.loop-i.i w.token_of.result) c.loop-i.invariant
          ∙ put_next (λ x. put_token (item_of (λ n. n) lexeme_seen x)) c.args.items.now _ _ c.args.out.now w.token_of.result c.loop-i.i here room w.in-Ok.is (λ t. sym w.token_of.ensures))
      | in_default w ↦ counted (λ x. put_token (item_of (λ n. n) lexeme_seen x)) c.args.items.now c.args.out.now _ c.loop-i.i
          (w.out-is ∙ c.loop-i.invariant ∙ keep_next (λ x. put_token (item_of (λ n. n) lexeme_seen x)) c.args.items.now _ _ c.args.out.now c.loop-i.i here w.in_default.is (λ t. refl))
    ]

pub returns : goal.returns
returns c = loop_end (λ x. put_token (item_of (λ n. n) lexeme_seen x)) c.args.items.now c.args.out.now _ c.loop-i.i _ c.min-room.ensures c.loop-i-test.false c.loop-i.invariant
