use Rattle.std.proofs.Common.{◌≡◌, ℕ, List, length}
use Rattle.lrlex.specs.declared.lexing.scanner.ScannedTile.{ScannedTile}
use Rattle.lrlex_handles.specs.Buffers.{filled}
use Rattle.lrlex_handles.specs.Scans.{LeadTo, tile_by}
use Rattle.lrlex_handles.proofs.scanners.stepping.fill.Given as goal

-- the tiles so far lead to where the scanner stands, and are written
abbrev pub invariant-loop-i : goal.invariant-loop-i
invariant-loop-i l =
    (found : List (ScannedTile ℕ)) × (length found ≡ l.i) × LeadTo l.fn.scanner found l.scanner × (l.tiles ≡ filled (λ x _. tile_by x) found l.fn.tiles)
