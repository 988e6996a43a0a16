use Rattle.std.proofs.Common.{◌+◌, ◌-◌, ◌++◌, ◌∷◌, [], List, length, map, ap, subst, sym, refl, ◌∙◌, arith}
use Rattle.std.specs.Option.{option_copied}
use Rattle.lrlex_base.specs.Classes.{is_white_space}
use Rattle.lrlex_parser.specs.Event.{Event}
use Rattle.lrlex_parser.specs.Outcome.{events_after}
use Rattle.lrlex_parser.specs.Text.{Piece, piece, pieces_left}
use Rattle.lrlex_parser.specs.Declaration.{state_event, declared_name}
use Rattle.lrlex_parser.specs.LexParser.{Represents}
use Rattle.lrlex_parser.proofs.Runs.{events_after_next, events_after_refused}
use Rattle.lrlex_parser.proofs.Declares.{all_left, name_here, short_here}
use Rattle.lrlex_parser.proofs.SectionLemmas.{still_short}
use Rattle.lrlex_parser.proofs.lex_parser.LexParser.declare_start_states.Goals as goal

pub loop-left-init : goal.loop-left-init
loop-left-init g c = record {
  reads = λ flags events was. (events, was, ap (λ (ps : List Piece). events_after state_event events (map (declared_name c.args.exclusive) ps)) (all_left c.args.names.at _ c.args.names.text.now refl));
  short = omega arith;
}

pub declare_start_state-requires : goal.declare_start_state-requires
declare_start_state-requires g c =
    let short = short_here _ (option_copied c.loop-left.left) c.in-Some.rest.now (ap option_copied c.in-Some.is) c.loop-left.invariant.short in
    let within = c.next_name.ensures.within in
    record { fits = omega (arith, c.requires); calm = c.if-self.false }

pub loop-left-preserved : goal.loop-left-preserved
loop-left-preserved g c =
    let end = c.args.names.at + length c.args.names.text.now in
    let is = ap option_copied c.in-Some.is in
    let short = short_here end (option_copied c.loop-left.left) c.in-Some.rest.now is c.loop-left.invariant.short in
    let left = option_copied c.next_name.result.1 in
    let named : Piece → _ = declared_name c.args.exclusive in
    let first = piece (end - length c.in-Some.rest.now) c.next_name.result.0.now in
    record {
      reads = λ flags events was.
          let before = c.loop-left.invariant.reads flags events was in
          let es : List Event = before.0 in
          let calm = sym before.1.refused ∙ c.if-self.false in (
            es ++ state_event es (named first) ∷ [],
            c.in_ok-declare_start_state.ensures flags es before.1,
            sym (events_after_next state_event es (named first) (map named (pieces_left is_white_space end left)) calm)
                ∙ ap (λ (ps : List Piece). events_after state_event es (map named ps)) (sym (name_here end (option_copied c.loop-left.left) c.in-Some.rest.now c.next_name.result.0.now left is short c.next_name.ensures.pieces))
                ∙ before.2,
          );
      short = still_short end c.in-Some.rest.now left short c.next_name.ensures.shorter;
    }

pub returns-then-self : goal.returns-then-self
returns-then-self g c flags events was =
    let before = c.loop-left.invariant.reads flags events was in
    let P : List Event → Type 0 = λ es. Represents g.StorageT.Numbered.number flags c.loop-left.self es in
    subst P (sym (events_after_refused state_event before.0 _ (sym before.1.refused ∙ c.if-self.true)) ∙ before.2) before.1
