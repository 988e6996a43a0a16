use Rattle.std.proofs.Common.{◌≡◌, [], map, take, drop}
use Rattle.std.specs.String.{string_bytes}
use Rattle.lrlex_tokens.specs.TokenModule.{constant_of, first_fault}
use Rattle.lrlex_tokens.specs.TokenMap.{token_view}
use Rattle.lrlex_tokens.proofs.token_text.first_fault.Given as goal

-- the constants so far are those of the tokens passed, and the first fault of all is that of the others behind these
abbrev pub invariant-loop-token : goal.invariant-loop-token
invariant-loop-token g l = record {
  constants : map string_bytes l.constants.items ≡ map constant_of (map token_view (take l.token-index l.tokens));
  fault : first_fault [] (map token_view l.tokens) ≡ first_fault (map token_view (take l.token-index l.tokens)) (map token_view (drop l.token-index l.tokens));
}
