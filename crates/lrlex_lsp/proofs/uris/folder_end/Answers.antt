use Rattle.std.proofs.Common.{◌≡◌, ℕ, ◌⊎◌, inl, inr, refl, rules}
use Rattle.std.specs.Prelude.{Option, Some, None}
use Rattle.lrlex_lsp.proofs.UriLemmas.{folder_to}
use Rattle.lrlex_lsp.proofs.uris.folder_end.Goals as goal

none_or_some : (r : Option ℕ) → (r ≡ None) ⊎ ((i : ℕ) × (r ≡ Some i))
none_or_some None = inl refl
none_or_some (Some i) = inr (i, refl)

pub returns : goal.returns
returns c =
    elim (none_or_some c.rposition.result) [
      | inl e ↦
          let runs = rw e at c.rposition.ensures.runs in
          rw (c.unwrap_or.ensures, e) (folder_to c.args.path.now None (search rules))
      | inr s ↦
          let runs = rw s.1 at c.rposition.ensures.runs in
          rw (c.unwrap_or.ensures, s.1) (folder_to c.args.path.now (Some s.0) (search rules, search rules, search rules))
    ]
