use Rattle.std.proofs.Common.{◌≡◌, ◌∙◌, [], ◌∷◌, List, None, true, inl, inr, sym, subst, map}
use Rattle.lrlex_parser.specs.Event.{Event}
use Rattle.lrlex_parser.specs.Outcome.{events_after}
use Rattle.lrlex_parser.specs.Declaration.{state_event, declared_name, Declared, declared_by, declares_exclusive}
use Rattle.std.specs.Prelude.{◌⊎◌}
use Rattle.lrlex_parser.specs.Declaration.Declared.{Wrong}
use Rattle.lrlex_parser.specs.Event.{fault_at}
use Rattle.lrlex_parser.specs.Event.FaultKind.{UnknownDeclaration}
use Rattle.lrlex_base.specs.Classes.{is_white_space}
use Rattle.lrlex_parser.specs.Text.{cut, is_empty}
use Rattle.lrlex_parser.proofs.Runs.{events_after_one}
use Rattle.lrlex_parser.specs.LexParser.{Represents, as_piece}
use Rattle.lrlex_parser.proofs.LexParserLemmas.{on_ok}
use Rattle.lrlex_parser.proofs.Declares.{declared_is, undeclared_is}
use Rattle.lrlex_parser.proofs.lex_parser.LexParser.parse_declaration.Goals as goal
use Rattle.lrlex_parser.proofs.lex_parser.LexParser.parse_declaration.Goals.{in_default-via-in-Some+else-not-is_empty, in_default-via-in_default}

pub returns-in-Some : goal.returns-in-Some
returns-in-Some g c =
    let says : map (declared_name c.in-Some.exclusive) (cut is_white_space (as_piece c.trim-parameters.result)) ≡ declared_by (as_piece c.args.line) =
    declared_is (as_piece c.args.line) _ _ c.in-Some.exclusive (as_piece c.trim-parameters.result) c.first_word.ensures.word c.first_word.ensures.rest c.in-Some.ensures c.trim-parameters.ensures.value (sym c.is_empty.ensures ∙ c.if-not-is_empty.true) in
    on_ok c.declare_start_states.result (λ reads flags events was.
    let P : List Declared → Type 0 = λ ds. Represents g.StorageT.Numbered.number flags c.declare_start_states.new.self (events_after state_event events ds) in
    subst P says (reads flags events was)) c.declare_start_states.ensures

pub returns-in_default : goal.returns-in_default
returns-in_default g c =
    let nothing : (declares_exclusive c.first_word.result.0.now ≡ None) ⊎ (is_empty c.trim-parameters.result.text.now ≡ true) =
    elim c.in_default.branch [
      | in_default-via-in-Some+else-not-is_empty w ↦ inr (sym w.is_empty.ensures ∙ w.if-not-is_empty.false)
      | in_default-via-in_default w ↦ inl (sym w.in_default.ensures)
    ] in
    let says : Wrong (fault_at UnknownDeclaration c.args.line.at) ∷ [] ≡ declared_by (as_piece c.args.line) =
    undeclared_is (as_piece c.args.line) _ _ (as_piece c.trim-parameters.result) c.first_word.ensures.word c.first_word.ensures.rest c.trim-parameters.ensures.value nothing in
    on_ok c.refuse.result (λ adds flags events was.
    let P : List Declared → Type 0 = λ ds. Represents g.StorageT.Numbered.number flags c.refuse.new.self (events_after state_event events ds) in
    let Q : List Event → Type 0 = λ es. Represents g.StorageT.Numbered.number flags c.refuse.new.self es in
    subst P says (subst Q (events_after_one state_event events (Wrong (fault_at UnknownDeclaration c.args.line.at)) (sym was.refused ∙ c.requires.calm)) (adds flags events was))) c.refuse.ensures.adds
