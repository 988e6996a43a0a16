-- up to `begin` the tokens are told, and no line ends from there to `at`
use Rattle.std.proofs.Common.{◌≡◌, ◌^◌, ◌<◌, ◌≤◌, ◌++◌, ℕ, List, false, length, drop, get_or, IsCharBoundary}
use Rattle.lrlex_lsp.specs.Rows.{IsRowAt}
use Rattle.lrlex_lsp.specs.Tokens.{ends_line}
use Rattle.lrlex_lsp.proofs.ToldLemmas.{IsWalked}
use Rattle.lrlex_lsp.proofs.tokens.Row.push_piece.Given as goal

abbrev pub invariant-loop-at : goal.invariant-loop-at
invariant-loop-at l = record {
  order : l.begin ≤ l.at;
  fits : IsCharBoundary l.text l.begin;
  none : (i : ℕ) → l.begin ≤ i → i < l.at → ends_line (get_or l.text i 0) ≡ false;
  walked : (text rest : List ℕ) → (start : ℕ) → length text < 2 ^ 64 → IsRowAt text start l.fn.self → drop start text ≡ l.text ++ rest → IsWalked text l.kind start l.begin l.text l.fn.self l.self;
}
