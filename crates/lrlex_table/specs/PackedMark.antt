-- A mark in one number of 32 bits: its row below, and its end above.
use Rattle.std.specs.Prelude.{◌≡◌, ⊤, ◌+◌, ◌*◌, ◌/◌, ◌%◌}
use Rattle.std.proofs.Common.{ap, arith}
use Rattle.lrlex_table.specs.Mark.{Mark}
use Rattle.lrlex_table.specs.declared.marks.Mark.TheInside.{Inside}

abbrev pub unpacked : Inside → Mark
unpacked a = record { row = a.bits % 65536; end = a.bits / 65536 }

abbrev pub packed : Mark → Inside
packed m = record { bits = m.row + 65536 * m.end }

pub packed_again : (a : Inside) → ⊤ → packed (unpacked a) ≡ a
packed_again a _ = ap (λ n. let made : Inside = record { bits = n } in made) (omega arith)
