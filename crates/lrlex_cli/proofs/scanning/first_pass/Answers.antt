use Rattle.std.proofs.Common.{◌≡◌, ◌∙◌, refl, ap, arith}
use Rattle.lrlex.specs.Scanner.{EndsBy, IsStep, Scanned, past}
use Rattle.lrlex.specs.declared.lexing.scanner.Step.TheVariants.{Tile as Found}
use Rattle.lrlex_cli.specs.Scanning.{error_place}
use Rattle.lrlex_cli.proofs.FirstPassLemmas.{few_before, first_pass_of, less_so_far, more_so_far, none_so_far}
use Rattle.lrlex_cli.proofs.scanning.first_pass.Goals as goal

pub tiles-init : goal.tiles-init
tiles-init g c = none_so_far c.args.scanner.now c.requires.front c.requires.initial

pub tiles-smaller : goal.tiles-smaller
tiles-smaller g c =
    let x = c.in-Tile.tile in
    let moved : c.next.new.self ≡ past c.tiles.scanner x = rw c.in-Tile.is at c.in_ok-tile.ensures.moved in
    let step : IsStep g.S.Numbered.number c.tiles.scanner (Found x) = rw c.in-Tile.is at c.in_ok-tile.ensures.step in
    less_so_far g.S.Numbered.number c.tiles.scanner c.next.new.self x moved step

pub tiles-preserved : goal.tiles-preserved
tiles-preserved g c =
    let x = c.in-Tile.tile in
    let moved : c.next.new.self ≡ past c.tiles.scanner x = rw c.in-Tile.is at c.in_ok-tile.ensures.moved in
    let step : IsStep g.S.Numbered.number c.tiles.scanner (Found x) = rw c.in-Tile.is at c.in_ok-tile.ensures.step in
    more_so_far g.S.Numbered.number c.args.scanner.now c.tiles.scanner c.next.new.self c.tiles.lexemes c.lexemes_of-lexemes.result x moved c.lexemes_of-lexemes.ensures step c.tiles.invariant

pub overflow_add-lexemes : goal.overflow_add-lexemes
overflow_add-lexemes g c =
    let x = c.in-Tile.tile in
    let step : IsStep g.S.Numbered.number c.tiles.scanner (Found x) = rw c.in-Tile.is at c.in_ok-tile.ensures.step in
    let few = few_before g.S.Numbered.number c.args.scanner.now c.tiles.scanner c.tiles.lexemes x step c.tiles.invariant in
    omega (arith, few, c.lexemes_of-lexemes.ensures)

pub returns-in-End-clause-found : goal.returns-in-End-clause-found
returns-in-End-clause-found g c =
    let e = c.in-End.end in
    let stays : c.next.new.self ≡ c.tiles.scanner = rw c.in-End.is at c.in_ok-tile.ensures.moved in
    let ends : EndsBy g.S.Numbered.number c.tiles.scanner e = rw c.in-End.is at c.in_ok-tile.ensures.step in
    let stands : c.place.result ≡ c.tiles.scanner.place = c.place.ensures ∙ ap (λ (y : Scanned). y.place) stays in
    first_pass_of g.S.Numbered.number c.tiles.scanner e _ c.last_of.ensures (c.error_of.ensures ∙ ap (error_place e) stands) ends c.args.scanner.now c.tiles.lexemes refl c.tiles.invariant
