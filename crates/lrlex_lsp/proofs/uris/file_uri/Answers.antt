use Rattle.std.proofs.Common.{refl, ap, ◌∙◌, arith}
use Rattle.std.proofs.lemmas.List.Elements.{All-from_get_or}
use Rattle.percent_encoding.proofs.PercentLemmas.{IsByte}
use Rattle.lrlex_lsp.specs.Uris.{named}
use Rattle.lrlex_lsp.proofs.UriLemmas.{escaped_is, named_file}
use Rattle.lrlex_lsp.proofs.uris.file_uri.Goals as goal

pub returns-clause-text : goal.returns-clause-text
returns-clause-text c =
    let small = All-from_get_or IsByte c.args.path.now 0 (λ i within. omega (arith, c.type_inv.path i)) in
    rw (c.in_ok-append_to.ensures.ok, c.percent_encode.ensures.text, c.as_bytes.ensures.value, c.in_ok-uri.ensures.ok, escaped_is c.args.path.now small) refl

pub returns-clause-names : goal.returns-clause-names
returns-clause-names c absolute =
    let small = All-from_get_or IsByte c.args.path.now 0 (λ i within. omega (arith, c.type_inv.path i)) in
    ap named (returns-clause-text c) ∙ named_file c.args.path.now small absolute
