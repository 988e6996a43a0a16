use Rattle.std.proofs.Common.{◌≡◌, ◌++◌, map, take, codes}
use Rattle.std.specs.List.{join_by}
use Rattle.std.specs.String.{string_bytes}
use Rattle.lrlex_tokens.specs.TokenMap.{token_view}
use Rattle.lrlex_tokens.proofs.token_text.push_ids.Given as goal

abbrev pub invariant-loop-i : goal.invariant-loop-i
invariant-loop-i g l = string_bytes l.text ≡ string_bytes l.initial.text ++ join_by (λ t. t.id) (codes ", ") (map token_view (take l.i l.tokens))
