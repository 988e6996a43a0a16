use Rattle.std.proofs.Common.{◌≡◌, ℕ, ◌+◌, ◌<◌, [], ◌∷◌, ◌++◌, length, sym, ap, ap₂, ◌∙◌, subst, set, arith, Some}
use Rattle.std.proofs.lemmas.List.{length-append}
use Rattle.lrlex.specs.Scanner.{EndsBy, IsStep, past}
use Rattle.lrlex.specs.declared.lexing.scanner.Step.TheVariants.{Tile as Found}
use Rattle.lrlex_handles.specs.Buffers.{filled}
use Rattle.lrlex_handles.specs.Scans.{LeadTo, tile_by, told_by}
use Rattle.lrlex_handles.specs.declared.structs.Tile.{Tile}
use Rattle.lrlex.specs.declared.lexing.scanner.ScannedTile.{ScannedTile}
use Rattle.lrlex_handles.proofs.TileLemmas.{lead_more, filled_more}
use Rattle.lrlex_handles.proofs.scanners.stepping.fill.Goals as goal

pub returns-in-End : goal.returns-in-End
returns-in-End c =
    let before = c.loop-i.invariant in
    let e = c.in-End.end in
    let stays : c.next.new.self ≡ c.loop-i.scanner = rw c.in-End.is at c.in_ok-tile.ensures.moved in
    let ends : EndsBy (λ n. n) c.loop-i.scanner e = rw c.in-End.is at c.in_ok-tile.ensures.step in
    record {
      found = before.0;
      end = Some e;
      steps = subst (λ z. LeadTo c.args.scanner.now before.0 z) (sym stays) before.2;
      within = omega (arith, before.1, c.loop-i-test.true);
      ends = subst (λ z. EndsBy (λ n. n) z e) (sym stays) ends;
      tiles-are = before.3;
      out-is = c.told.ensures ∙ ap₂ (λ n p. told_by n p (Some e)) (sym before.1) c.place.ensures;
    }

pub loop-i-preserved : goal.loop-i-preserved
loop-i-preserved c =
    let before = c.loop-i.invariant in
    let xs = before.0 in
    let x = c.in-Tile.tile in
    let room = c.args.tiles.now in
    let moved : c.next.new.self ≡ past c.loop-i.scanner x = rw c.in-Tile.is at c.in_ok-tile.ensures.moved in
    let step : IsStep (λ n. n) c.loop-i.scanner (Found x) = rw c.in-Tile.is at c.in_ok-tile.ensures.step in
    let count : length (xs ++ x ∷ []) ≡ c.loop-i.i + 1 = length-append xs (x ∷ []) ∙ ap (λ n. n + 1) before.1 in
    let within : length xs < length room = omega (arith, before.1, c.loop-i-test.true) in
    let put : set c.loop-i.tiles c.loop-i.i c.tile_of.result ≡ filled (λ (x : ScannedTile ℕ) (t : Tile). tile_by x) (xs ++ x ∷ []) room =
    ap₂ (λ us n. set us n c.tile_of.result) before.3 (sym before.1)
    ∙ filled_more (λ (x : ScannedTile ℕ) (t : Tile). tile_by x) xs x room c.tile_of.result within (λ t. sym c.tile_of.ensures) in
    (xs ++ x ∷ [], count, subst (λ z. LeadTo c.args.scanner.now (xs ++ x ∷ []) z) (sym moved) (lead_more c.args.scanner.now xs c.loop-i.scanner x before.2 step), put)
