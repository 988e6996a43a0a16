use Rattle.std.proofs.Common.{◌≡◌, map, take}
use Rattle.std.specs.Prelude.{fold}
use Rattle.lrlex_lsp.specs.Servers.{KeepsClient, all_open, kept_as, put}
use Rattle.lrlex_lsp.proofs.texts.Texts.reopen.Given as goal

abbrev pub invariant-loop-text : goal.invariant-loop-text
invariant-loop-text l =
    KeepsClient l.fn.self l.self
    × (all_open l.self.open.entries ≡ fold put (all_open l.fn.self.open.entries) (map kept_as (take l.text-index l.fn.kept.items)))
