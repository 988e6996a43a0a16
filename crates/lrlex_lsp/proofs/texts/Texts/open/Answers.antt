use Rattle.std.proofs.Common.{◌≡◌, refl, ap, ◌∙◌}
use Rattle.std.specs.String.{string_bytes}
use Rattle.lrlex_lsp.specs.Servers.{Known, all_open, open_as, put}
use Rattle.lrlex_lsp.proofs.OpenLemmas.{open_inserted}
use Rattle.lrlex_lsp.proofs.texts.Texts.open.Goals as goal

pub returns-clause-opens : goal.returns-clause-opens
returns-clause-opens c =
    let new : Known = record { uri = c.args.uri.now; text = c.args.text.now; version = c.args.version } in
    let is_new : open_as (string_bytes c.in_ok-name.name) c.in_ok-opened.opened ≡ new =
    rw (c.in_ok-name.ensures.ok, c.in_ok-opened.ensures.text, c.in_ok-opened.ensures.version) refl in
    ap all_open c.in_ok-insert.ensures.entries ∙ open_inserted c.args.self.now.open.entries c.in_ok-name.name c.in_ok-opened.opened ∙ ap (put (all_open c.args.self.now.open.entries)) is_new
