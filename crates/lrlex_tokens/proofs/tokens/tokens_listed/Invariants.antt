use Rattle.std.proofs.Common.{◌≡◌, map}
use Rattle.std.specs.List.{All}
use Rattle.std.specs.String.{string_bytes}
use Rattle.lrlex_tokens.specs.TokenModule.{IsTokenOf}
use Rattle.lrlex_tokens.specs.TokenMap.{entries_of, token_view}
use Rattle.lrlex_tokens.proofs.tokens.tokens_listed.Given as goal

abbrev pub invariant-loop-name : goal.invariant-loop-name
invariant-loop-name g l =
    (map (λ t. string_bytes t.name) l.tokens.items ≡ map (λ e. string_bytes e.0.now) l.yielded)
    × All (λ t. IsTokenOf g.StorageT.Display.output (entries_of l.token_map) (token_view t)) l.tokens.items
