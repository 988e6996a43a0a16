use Rattle.std.proofs.Common.{◌≡◌, map}
use Rattle.lrlex_lsp.specs.Servers.{all_open, all_roles, kept_as}
use Rattle.lrlex_lsp.proofs.texts.Texts.close.Given as goal

abbrev pub invariant-loop-uri : goal.invariant-loop-uri
invariant-loop-uri l =
    (map kept_as l.all.items ≡ all_open (map (λ entry. (entry.0.now, entry.1.now)) l.yielded))
    × (map (λ kept. kept.is_rules) l.all.items ≡ all_roles (map (λ entry. (entry.0.now, entry.1.now)) l.yielded))
