use Rattle.std.proofs.Common.{◌≡◌, ◌∙◌, List, ℕ, Option, Bor, false, sym, ap}
use Rattle.std.specs.Prelude.{is_some}
use Rattle.std.specs.Option.{option_copied, option_or}
use Rattle.std.proofs.lemmas.Map.Text.{btree_map_updates_str}
use Rattle.lrlex_parser.specs.Names.{index_of_name, index_if_named}
use Rattle.lrlex_parser.proofs.Places.{noted}
use Rattle.lrlex_parser.proofs.names.note.Goals as goal

pub returns-in_ok-insert-clause-noted : goal.returns-in_ok-insert-clause-noted
returns-in_ok-insert-clause-noted c q =
    let none : is_some (index_of_name c.args.places.now c.in-Some.name.now) ≡ false = sym c.contains_key.ensures ∙ c.if-not-contains_key.true in
    btree_map_updates_str c.in-Some.name.now c.args.places.now c.insert.new.self _ c.in_ok-insert.ensures.updates q
    ∙ noted c.in-Some.name.now q (index_of_name c.args.places.now) c.args.place none
    ∙ ap (λ (o : Option (Bor (List ℕ))). option_or (index_of_name c.args.places.now q) (index_if_named (option_copied o) c.args.place q)) (sym c.in-Some.is)
