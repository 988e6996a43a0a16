use Rattle.std.proofs.Common.{◌≡◌, drop}
use Rattle.lrlex_lsp.specs.Languages.{pairs_of, shown_by}
use Rattle.lrlex_lsp.proofs.languages.shown_by_pairs.Given as goal

abbrev pub invariant-loop-named : goal.invariant-loop-named
invariant-loop-named l = shown_by (pairs_of (drop l.named-index l.pairs)) l.name ≡ shown_by (pairs_of l.pairs) l.name
