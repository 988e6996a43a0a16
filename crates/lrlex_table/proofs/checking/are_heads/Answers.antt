use Rattle.std.proofs.Common.{◌≡◌, ◌<◌, ℕ, length, get_or, sym, ◌∙◌, subst, inl, inr, arith}
use Rattle.std.proofs.lemmas.Bool.{cases_lt}
use Rattle.lrlex_table.proofs.checking.are_heads.Goals as goal
use Rattle.lrlex_table.proofs.checking.are_heads.Goals.{then-first-byte+else-at-heads+else-heads-at, else-first-byte+else-first-byte-2+else-firsts-first}

pub bytes-preserved : goal.bytes-preserved
bytes-preserved c b lt =
    let heads = c.args.heads.now in
    let firsts = c.args.firsts.now in
    let byte = c.bytes.byte in
    elim (cases_lt b byte) [
      | inl before ↦ c.bytes.invariant b before
      | inr last ↦
          let same : byte ≡ b = omega arith in
          subst (λ x. (k : ℕ) × (k < length heads) × (get_or heads k 0 ≡ get_or firsts x 0)) same (elim c.if-first-byte.branch [
            | then-first-byte+else-at-heads+else-heads-at w ↦ (c.bytes.at, omega (arith, w.if-at-heads.false), w.if-heads-at.false ∙ sym w.if-first-byte.true)
            | else-first-byte+else-first-byte-2+else-firsts-first w ↦
                let found = c.bytes.invariant (get_or firsts byte 0) (omega (arith, w.if-first-byte.false, w.if-first-byte-2.false)) in
                (found.0, found.1, found.2 ∙ w.if-firsts-first.false)
          ])
    ]
