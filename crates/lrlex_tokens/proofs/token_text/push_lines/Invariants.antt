use Rattle.std.proofs.Common.{◌≡◌, ◌++◌, map, take}
use Rattle.std.specs.List.{flat_map}
use Rattle.std.specs.String.{string_bytes}
use Rattle.lrlex_tokens.specs.TokenModule.{constant_line}
use Rattle.lrlex_tokens.specs.TokenMap.{token_view}
use Rattle.lrlex_tokens.proofs.token_text.push_lines.Given as goal

abbrev pub invariant-loop-token : goal.invariant-loop-token
invariant-loop-token g l = string_bytes l.text ≡ string_bytes l.initial.text ++ flat_map (constant_line l.type_name) (map token_view (take l.token-index l.tokens))
