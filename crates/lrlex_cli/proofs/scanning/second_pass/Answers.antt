use Rattle.std.proofs.Common.{arith}
use Rattle.lrlex.specs.Views.{definition_by}
use Rattle.lrlex_cli.proofs.FirstPassLemmas.{less_so_far}
use Rattle.lrlex_cli.proofs.SecondPassLemmas.{all_written, enough, last_fits, more_written, no_more, none_written, tile_cut, tile_fits}
use Rattle.lrlex_cli.proofs.scanning.second_pass.Goals as goal

pub loop-left-init : goal.loop-left-init
loop-left-init g c =
    none_written g.S.Numbered.number (definition_by g.S.Numbered.number c.args.table.now) c.args.text.now c.args.first _ _ c.args.scanner.now c.rewind.new.self c.utf8.text
    c.requires.found c.requires.definition c.requires.text c.rewind.ensures c.requires.none

pub loop-left-smaller : goal.loop-left-smaller
loop-left-smaller g c =
    less_so_far g.S.Numbered.number c.loop-left.scanner c.next_tile.new.scanner c.in_ok-tile.tile c.in_ok-tile.ensures.moved c.in_ok-tile.ensures.step

pub pass_tile-requires : goal.pass_tile-requires
pass_tile-requires g c =
    tile_fits g.S.Numbered.number (definition_by g.S.Numbered.number c.args.table.now) c.args.text.now c.args.first _ _ _ c.loop-left.scanner c.loop-left.left c.in_ok-tile.tile
    c.in_ok-tile.ensures.step c.loop-left-test.true c.loop-left.invariant

pub returns-in_err-tile : goal.returns-in_err-tile
returns-in_err-tile g c =
    no_more g.S.Numbered.number (definition_by g.S.Numbered.number c.args.table.now) c.args.text.now c.args.first _ _ _ c.loop-left.scanner c.loop-left.left
    c.loop-left.invariant _ c.from_residual.ensures.0 c.loop-left-test.true

pub returns-in_err-pass_tile : goal.returns-in_err-pass_tile
returns-in_err-pass_tile g c =
    tile_cut g.S.Numbered.number (definition_by g.S.Numbered.number c.args.table.now) c.args.text.now c.args.first _ _ _ c.loop-left.scanner c.loop-left.left c.in_ok-tile.tile
    c.in_ok-tile.ensures.step c.loop-left-test.true c.loop-left.invariant _ _ c.from_residual-in_err-pass_tile.ensures.0 c.in_err-pass_tile.ensures

pub overflow_sub-left : goal.overflow_sub-left
overflow_sub-left g c =
    let few =
    enough g.S.Numbered.number (definition_by g.S.Numbered.number c.args.table.now) c.args.text.now c.args.first _ _ _ c.loop-left.scanner c.loop-left.left c.in_ok-tile.tile
    c.in_ok-tile.ensures.step c.loop-left-test.true c.loop-left.invariant in
    omega (arith, few, c.lexemes_of-left.ensures)

pub loop-left-preserved : goal.loop-left-preserved
loop-left-preserved g c =
    more_written g.S.Numbered.number (definition_by g.S.Numbered.number c.args.table.now) c.args.text.now c.args.first _ _ _ c.loop-left.scanner c.loop-left.left c.in_ok-tile.tile
    c.in_ok-tile.ensures.step c.loop-left-test.true c.loop-left.invariant _ _ c.next_tile.new.scanner c.lexemes_of-left.result c.in_ok-tile.ensures.moved c.lexemes_of-left.ensures c.in_ok-pass_tile.ensures

pub write_end-requires : goal.write_end-requires
write_end-requires g c =
    last_fits g.S.Numbered.number (definition_by g.S.Numbered.number c.args.table.now) c.args.text.now c.args.first _ _ _ c.loop-left.scanner c.loop-left.left
    c.loop-left.invariant c.loop-left-test.false

pub returns : goal.returns
returns g c =
    all_written g.S.Numbered.number (definition_by g.S.Numbered.number c.args.table.now) c.args.text.now c.args.first _ _ _ c.loop-left.scanner c.loop-left.left
    c.loop-left.invariant c.loop-left-test.false _ _ c.write_end.ensures
