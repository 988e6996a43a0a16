use Rattle.std.proofs.Common.{◌≡◌, ◌∙◌, ℕ, [], ◌∷◌, ◌++◌, length, ap, sym, refl, map}
use Rattle.std.proofs.lemmas.List.{map_push}
use Rattle.lrlex_base.specs.Spans.{Span}
use Rattle.lrlex_rules.specs.Definition.{StartState}
use Rattle.lrlex_parser.specs.Event.{span_of}
use Rattle.lrlex_parser.specs.Event.Subject.{StateName}
use Rattle.lrlex_parser.specs.Duplicates.{with_duplicate}
use Rattle.lrlex_parser.specs.LexParser.{as_piece, as_fault}
use Rattle.lrlex_rules.specs.RuleParts.{as_state}
use Rattle.lrlex_parser.proofs.Places.{span_from}
use Rattle.lrlex_parser.proofs.LexParserLemmas.{on_ok, declares_again, declares_new, declares_right, declares_wrong}
use Rattle.lrlex_parser.proofs.lex_parser.LexParser.declare_start_state.Goals as goal

pub returns-then-not-is_state_name : goal.returns-then-not-is_state_name
returns-then-not-is_state_name g c =
    on_ok c.refuse.result (declares_wrong g.StorageT.Numbered.number c.args.self.now c.refuse.new.self c.args.exclusive (as_piece c.args.name) (sym c.is_state_name.ensures ∙ c.if-not-is_state_name.true)) c.refuse.ensures.adds

pub returns-in-Some : goal.returns-in-Some
returns-in-Some g c =
    on_ok c.add_duplicate.result (λ added. declares_right g.StorageT.Numbered.number c.args.self.now _ c.args.exclusive (as_piece c.args.name) (sym c.is_state_name.ensures ∙ c.if-not-is_state_name.false)
    (declares_again g.StorageT.Numbered.number c.args.self.now _ (as_piece c.args.name) c.args.exclusive (as_state c.in-Some.original.now) c.requires.calm refl refl refl
    (sym c.in-Some.ensures)
    (added ∙ ap (λ (x : Span). with_duplicate StateName (as_state c.in-Some.original.now).name_span x (map as_fault c.args.self.now.faults.list.items)) (span_from c.new-span.result _ _ c.new-span.ensures.start c.new-span.ensures.end)))) (rw c.name_span-first.ensures at c.add_duplicate.ensures)

pub returns : goal.returns
returns g c =
    let old = c.args.self.now.states.list.items in
    let name = c.args.name.text.now in
    let exclusive = c.args.exclusive in
    let count : length c.as_slice-id.result.now ≡ length old = ap (length {A = _}) c.as_slice-id.ensures.value in
    let made : (n : ℕ) (x : Span) → StartState = λ n x. record { id = n; name = name; name_span = x; exclusive = exclusive } in
    let is : as_state c.in_ok-state.state ≡ made (length old) (span_of (as_piece c.args.name)) =
    c.in_ok-state.ensures ∙ ap (made (length c.as_slice-id.result.now)) (span_from c.new-span.result _ _ c.new-span.ensures.start c.new-span.ensures.end) ∙ ap (λ (n : ℕ). made n (span_of (as_piece c.args.name))) count in
    declares_right g.StorageT.Numbered.number c.args.self.now _ c.args.exclusive (as_piece c.args.name) (sym c.is_state_name.ensures ∙ c.if-not-is_state_name.false)
    (declares_new g.StorageT.Numbered.number c.args.self.now _ (as_piece c.args.name) c.args.exclusive c.requires.calm refl refl refl
    (sym c.in_default.ensures)
    (ap (map as_state) c.in_ok-push.ensures ∙ map_push as_state old _ ∙ ap (λ (x : StartState). map as_state old ++ x ∷ []) is))
