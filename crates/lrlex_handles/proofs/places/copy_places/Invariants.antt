use Rattle.std.proofs.Common.{◌≡◌, take}
use Rattle.lrlex_base.specs.Places.{place_of}
use Rattle.lrlex_report.specs.PlaceTexts.{nearest}
use Rattle.lrlex_handles.specs.Buffers.{filled, place_by}
use Rattle.lrlex_handles.proofs.places.copy_places.Given as goal

-- the places so far are written, and the cursor is one of the text
abbrev pub invariant-loop-i : goal.invariant-loop-i
invariant-loop-i l = (l.out ≡ filled (λ b _. place_by (place_of l.text (nearest l.text b))) (take l.i l.bytes) l.fn.out) × (l.cursor ≡ l.text)
