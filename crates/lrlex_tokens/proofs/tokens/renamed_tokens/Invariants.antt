use Rattle.std.proofs.Common.{◌≡◌, map, take}
use Rattle.lrlex_tokens.specs.TokenModule.{renamed}
use Rattle.lrlex_tokens.specs.TokenMap.{look_up, token_view}
use Rattle.lrlex_tokens.proofs.tokens.renamed_tokens.Given as goal

abbrev pub invariant-loop-token : goal.invariant-loop-token
invariant-loop-token g l = map token_view l.all.items ≡ map (renamed (look_up l.renames)) (map token_view (take l.token-index l.tokens))
