use Rattle.std.proofs.Common.{◌≡◌, ◌==◌, drop, length}
use Rattle.std.specs.List.{filter_map, slice_split}
use Rattle.lrlex_lsp.specs.Languages.{pair_in, pairs_in, shown_by}
use Rattle.lrlex_lsp.proofs.languages.shown_by_words.Given as goal

abbrev pub invariant-loop-word : goal.invariant-loop-word
invariant-loop-word l =
    shown_by (filter_map pair_in (drop (length l.yielded) (slice_split (λ c. c == 32) l.words))) l.name ≡ shown_by (pairs_in l.words) l.name
