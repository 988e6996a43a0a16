use Rattle.std.proofs.Common.{◌≡◌, take}
use Rattle.lrlex_base.specs.Lexemes.{lexeme_seen}
use Rattle.lrlex.specs.Views.{item_of}
use Rattle.lrlex_handles.specs.Buffers.{filled, put_token}
use Rattle.lrlex_handles.proofs.texts.copy_tokens.Given as goal

-- the items so far are written
abbrev pub invariant-loop-i : goal.invariant-loop-i
invariant-loop-i l = l.out ≡ filled (λ x. put_token (item_of (λ n. n) lexeme_seen x)) (take l.i l.items) l.fn.out
