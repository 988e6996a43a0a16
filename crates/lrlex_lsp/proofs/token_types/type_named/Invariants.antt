use Rattle.std.proofs.Common.{◌≡◌, ◌+◌, length, drop}
use Rattle.std.specs.List.{position_or_len}
use Rattle.lrlex_lsp.specs.TokenTypes.{type_names}
use Rattle.lrlex_lsp.proofs.TypeLemmas.{is_text}
use Rattle.lrlex_lsp.proofs.token_types.type_named.Given as goal

abbrev pub invariant-loop-known : goal.invariant-loop-known
invariant-loop-known l = record {
  count : l.number ≡ length l.yielded;
  place : l.number + position_or_len (is_text l.name) (drop l.number type_names) ≡ position_or_len (is_text l.name) type_names;
}
