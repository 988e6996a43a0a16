use Rattle.std.proofs.Common.{◌≡◌, ◌∙◌, ◌++◌, [], ◌∷◌, List, ℕ, Option, true, length, sym, ap, arith}
use Rattle.std.specs.Prelude.{is_ok, if◌then◌else◌}
use Rattle.std.specs.Option.{option_or, option_copied}
use Rattle.std.specs.List.{position}
use Rattle.lrlex_parser.specs.Names.{index_of_name, index_if_named, rule_name, is_name}
use Rattle.lrlex_parser.proofs.Places.{placed_push}
use Rattle.lrlex_parser.proofs.names.Rules.push.Goals as goal

pub invariant_of-self-2 : goal.invariant_of-self-2
invariant_of-self-2 g c =
    let ok : is_ok c.push.result ≡ true = c.push.ensures.succeeds (omega (arith, c.in_ok-reserve.ensures.ok)) in
    let items : c.push.new.self.items ≡ c.reserve.new.self.items ++ c.args.rule ∷ [] = c.push.ensures.items ∙ ap (λ b. if b then c.reserve.new.self.items ++ c.args.rule ∷ [] else c.reserve.new.self.items) ok in
    let was : (q : List ℕ) → index_of_name c.args.self.now.places q ≡ position (λ x. is_name q (rule_name x)) c.reserve.new.self.items =
    λ q. c.args.self.now.placed q ∙ ap (λ xs. position (λ x. is_name q (rule_name x)) xs) (sym c.in_ok-reserve.ensures.items) in
    let now : (q : List ℕ) → index_of_name c.note.new.places q ≡ option_or (index_of_name c.args.self.now.places q) (index_if_named (rule_name c.args.rule) (length c.reserve.new.self.items) q) =
    λ q. c.in_ok-note.ensures.noted q ∙ ap (λ (n : ℕ). option_or (index_of_name c.args.self.now.places q) (index_if_named (option_copied c.args.name) n q)) (ap (length {A = _}) c.as_slice.ensures.value)
    ∙ ap (λ (x : Option (List ℕ)). option_or (index_of_name c.args.self.now.places q) (index_if_named x (length c.reserve.new.self.items) q)) (sym c.requires) in
    record { placed = λ q. placed_push rule_name (index_of_name c.args.self.now.places) (index_of_name c.note.new.places) c.reserve.new.self.items c.args.rule was now q ∙ ap (λ xs. position (λ x. is_name q (rule_name x)) xs) (sym items) }
