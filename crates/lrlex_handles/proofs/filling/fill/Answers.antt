use Rattle.std.proofs.Common.{◌≡◌, true, false, sym, ◌∙◌}
use Rattle.lrlex_rules.specs.RuleParts.{state_number}
use Rattle.lrlex.specs.Active.{is_state}
use Rattle.lrlex.specs.Scanner.{EndsBy, IsStep, past}
use Rattle.lrlex.specs.declared.lexing.scanner.Step.TheVariants.{Tile as Found}
use Rattle.lrlex_handles.proofs.LexemeLemmas.{initial_of, less_so_far, more_so_far, no_tokens, none_so_far, tokens_so_far}
use Rattle.lrlex_handles.proofs.filling.fill.Goals as goal

pub returns-then-is_none : goal.returns-then-is_none
returns-then-is_none c =
    let lacks : is_state c.args.scanner.now.definition 0 ≡ false = sym (initial_of state_number c.args.scanner.now c.state.result c.requires c.state.ensures) ∙ c.if-is_none.ensures in
    no_tokens c.args.scanner.now c.args.tokens.now c.finish.new.tokens c.finish.result c.requires lacks c.finish.ensures

pub tiles-init : goal.tiles-init
tiles-init c =
    let has : is_state c.args.scanner.now.definition 0 ≡ true = sym (initial_of state_number c.args.scanner.now c.state.result c.requires c.state.ensures) ∙ c.if-is_none.ensures in
    none_so_far c.args.scanner.now c.args.tokens.now c.requires has

pub tiles-smaller : goal.tiles-smaller
tiles-smaller c =
    let x = c.in-Tile.tile in
    let moved : c.next.new.self ≡ past c.tiles.scanner x = rw c.in-Tile.is at c.in_ok-tile.ensures.moved in
    let step : IsStep (λ n. n) c.tiles.scanner (Found x) = rw c.in-Tile.is at c.in_ok-tile.ensures.step in
    less_so_far c.tiles.scanner c.next.new.self x moved step

pub tiles-preserved : goal.tiles-preserved
tiles-preserved c =
    let x = c.in-Tile.tile in
    let moved : c.next.new.self ≡ past c.tiles.scanner x = rw c.in-Tile.is at c.in_ok-tile.ensures.moved in
    let step : IsStep (λ n. n) c.tiles.scanner (Found x) = rw c.in-Tile.is at c.in_ok-tile.ensures.step in
    more_so_far c.args.scanner.now c.tiles.scanner c.next.new.self c.args.tokens.now c.tiles.tokens c.put.new.tokens c.tiles.count c.put.new.count x moved step c.put.ensures c.tiles.invariant

pub returns-in-End : goal.returns-in-End
returns-in-End c =
    let e = c.in-End.end in
    let stays : c.next.new.self ≡ c.tiles.scanner = rw c.in-End.is at c.in_ok-tile.ensures.moved in
    let ends : EndsBy (λ n. n) c.tiles.scanner e = rw c.in-End.is at c.in_ok-tile.ensures.step in
    tokens_so_far c.args.scanner.now c.tiles.scanner c.next.new.self c.args.tokens.now c.tiles.tokens c.finish-in-End.new.tokens c.tiles.count c.finish-in-End.result e stays ends c.finish-in-End.ensures c.tiles.invariant
