use Rattle.lrlex.specs.Views.{definition_of}
use Rattle.lrlex.specs.Work.{most_cells_of}
use Rattle.lrlex_handles.proofs.TileLemmas.{next_standing, place_standing}
use Rattle.lrlex_handles.proofs.scanners.stepping.next_by.Goals as goal

pub returns-clause-place : goal.returns-clause-place
returns-clause-place c =
    place_standing (definition_of (λ n. n) c.args.definition.now) c.args.text.now (most_cells_of c.args.definition.now c.args.text.now) c.args.tiles.now c.fill.new.tiles
    c.in_ok-scanned.scanned c.in_ok-scanner.scanner c.fill.new.scanner c.args.at.now c.into_place.result
    c.in_ok-scanner.ensures c.into_place.ensures.same c.in_ok-scanned.ensures c.into_place.ensures.place

pub returns-clause-next : goal.returns-clause-next
returns-clause-next c =
    next_standing (definition_of (λ n. n) c.args.definition.now) c.args.text.now (most_cells_of c.args.definition.now c.args.text.now) c.args.tiles.now c.fill.new.tiles
    c.in_ok-scanned.scanned c.in_ok-scanner.scanner c.fill.new.scanner c.args.at.now c.into_place.result
    c.in_ok-scanner.ensures c.into_place.ensures.same c.in_ok-scanned.ensures
