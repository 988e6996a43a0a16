use Rattle.std.proofs.Common.{◌≡◌, ◌∙◌, ◌++◌, [], ◌∷◌, List, ℕ, Some, true, length, sym, ap, arith}
use Rattle.std.specs.Prelude.{is_ok, if◌then◌else◌}
use Rattle.std.specs.Option.{option_or}
use Rattle.std.specs.List.{position}
use Rattle.lrlex_rules.specs.declared.states.StartState.{StartState}
use Rattle.lrlex_parser.specs.Names.{index_of_name, index_if_named, state_name, is_name}
use Rattle.lrlex_parser.proofs.Places.{placed_push}
use Rattle.lrlex_parser.proofs.names.States.push.Goals as goal

pub invariant_of-self-2 : goal.invariant_of-self-2
invariant_of-self-2 c =
    let ok : is_ok c.push.result ≡ true = c.push.ensures.succeeds (omega (arith, c.in_ok-reserve.ensures.ok)) in
    let items : c.push.new.self.items ≡ c.reserve.new.self.items ++ c.args.state ∷ [] = c.push.ensures.items ∙ ap (λ b. if b then c.reserve.new.self.items ++ c.args.state ∷ [] else c.reserve.new.self.items) ok in
    let was : (q : List ℕ) → index_of_name c.args.self.now.places q ≡ position (λ x. is_name q (state_name x)) c.reserve.new.self.items =
    λ q. c.args.self.now.placed q ∙ ap (λ xs. position (λ x. is_name q (state_name x)) xs) (sym c.in_ok-reserve.ensures.items) in
    let now : (q : List ℕ) → index_of_name c.note.new.places q ≡ option_or (index_of_name c.args.self.now.places q) (index_if_named (state_name c.args.state) (length c.reserve.new.self.items) q) =
    λ q. c.in_ok-note.ensures.noted q ∙ ap (λ (n : ℕ). option_or (index_of_name c.args.self.now.places q) (index_if_named (Some c.args.name.now) n q)) (ap (length {A = StartState}) c.as_slice.ensures.value)
    ∙ ap (λ (x : List ℕ). option_or (index_of_name c.args.self.now.places q) (index_if_named (Some x) (length c.reserve.new.self.items) q)) (sym c.requires) in
    record { placed = λ q. placed_push state_name (index_of_name c.args.self.now.places) (index_of_name c.note.new.places) c.reserve.new.self.items c.args.state was now q ∙ ap (λ xs. position (λ x. is_name q (state_name x)) xs) (sym items) }
