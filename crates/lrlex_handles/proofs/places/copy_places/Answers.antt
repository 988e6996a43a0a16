use Rattle.std.proofs.Common.{ℕ, ◌<◌, length, refl, ◌∙◌, sym, ap, set, get_or, arith}
use Rattle.lrlex_base.specs.Places.{place_of}
use Rattle.lrlex_report.specs.PlaceTexts.{nearest}
use Rattle.lrlex_handles.specs.Buffers.{place_by}
use Rattle.lrlex_handles.specs.declared.structs.Place.{Place}
use Rattle.lrlex_handles.proofs.Fills.{put_next, counted, loop_end}
use Rattle.lrlex_handles.proofs.places.copy_places.Goals as goal

pub loop-i-preserved : goal.loop-i-preserved
loop-i-preserved c =
    let here : c.loop-i.i < length c.args.bytes.now = omega arith in
    let room : c.loop-i.i < length c.args.out.now = omega arith in (
      counted (λ (b : ℕ) (t : Place). place_by (place_of c.args.text.now (nearest c.args.text.now b))) c.args.bytes.now c.args.out.now _ c.loop-i.i
          (ap (λ us. set us c.loop-i.i c.next_place.result) c.loop-i.invariant.0
          ∙ put_next (λ (b : ℕ) (t : Place). place_by (place_of c.args.text.now (nearest c.args.text.now b))) c.args.bytes.now 0 (get_or c.args.bytes.now c.loop-i.i 0) c.args.out.now c.next_place.result c.loop-i.i here room refl (λ t. sym c.next_place.ensures.place)),
      c.next_place.ensures.cursor,
    )

pub returns : goal.returns
returns c = loop_end (λ (b : ℕ) (t : Place). place_by (place_of c.args.text.now (nearest c.args.text.now b))) c.args.bytes.now c.args.out.now _ c.loop-i.i _ c.min-room.ensures c.loop-i-test.false c.loop-i.invariant.0
