-- Whole messages, one after the other.
use Rattle.std.proofs.Common.{List, ℕ, [], ◌∷◌, ◌++◌, Option, append-nil, subst, sym}
use Rattle.std.proofs.KnownBytes.{Appends-nil, Appends-trans}
use Rattle.std.proofs.lemmas.Grind.{flat_map-append}
use Rattle.std.specs.Io.KnownBytes.{Appends}
use Rattle.lrlex_lsp.specs.Framing.{WritesMessages, framed}

pub nothing_written : (a : Option (List ℕ)) → WritesMessages a a
nothing_written a = ([], Appends-nil a)

pub one_written : (a b : Option (List ℕ)) (body : List ℕ) → Appends a b (framed body) → WritesMessages a b
one_written a b body h = (body ∷ [], subst (Appends a b) (sym (append-nil (framed body))) h)

pub more_written : (a b c : Option (List ℕ)) → WritesMessages a b → WritesMessages b c → WritesMessages a c
more_written a b c first rest =
    (first.0 ++ rest.0, subst (Appends a c) (sym (flat_map-append framed first.0 rest.0)) (Appends-trans a b c _ _ first.1 rest.1))

pub message_written : (a b c : Option (List ℕ)) (body : List ℕ) → WritesMessages a b → Appends b c (framed body) → WritesMessages a c
message_written a b c body first h = more_written a b c first (one_written b c body h)
