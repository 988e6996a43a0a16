use Rattle.lrlex_report.proofs.PlaceLemmas.{nearest_is}
use Rattle.lrlex_handles.proofs.places.nearest.Goals as goal

pub returns-clause-value : goal.returns-clause-value
returns-clause-value c =
    let found = c.floor_char_boundary in
    nearest_is c.args.text.now c.args.byte found.result found.ensures.bound found.ensures.boundary found.ensures.nearest
