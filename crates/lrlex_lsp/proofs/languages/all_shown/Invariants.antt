use Rattle.std.proofs.Common.{◌≡◌, take}
use Rattle.lrlex_lsp.specs.Languages.{all_shown, map_pairs}
use Rattle.lrlex_lsp.proofs.languages.all_shown.Given as goal

abbrev pub invariant-loop-rule : goal.invariant-loop-rule
invariant-loop-rule l = l.shown.items ≡ all_shown (map_pairs l.map) (take l.rule-index l.rules)
