-- What a tile that was found ahead is, by the row of the chain in which it ends.
use Rattle.std.proofs.Common.{◌≡◌, ℕ, ◌+◌, ◌-◌, ◌<◌, ◌≤◌, Bor, true, nat_lt, List, length, map, drop, Option, None, Some, is_some, slice_get, slice_index_or, get_or, refl, sym, ap, ◌∙◌, subst, arith}
use Rattle.std.specs.Prelude.{IfSome, max, option_copied, unwrap_or}
use Rattle.std.specs.Option.{ForSome}
use Rattle.std.proofs.lemmas.Bool.{cond-false, cond-true, eq-eqb, ltb-true, ne_eqb}
use Rattle.std.proofs.lemmas.Option.{none-some, same_Some, slice_get_read}
use Rattle.std.proofs.lemmas.List.{length-map}
use Rattle.regex.specs.Patterns.{Re}
use Rattle.lrlex_rules.specs.Definition.{Definition}
use Rattle.lrlex_rules.specs.RuleParts.{as_rule}
use Rattle.lrlex_table.specs.Ahead.{IsBestIn, IsBestUpTo}
use Rattle.lrlex_table.specs.Chain.{list_of, name_of}
use Rattle.lrlex_table.specs.Tables.{AreTablesOf, IsBestAmong, is_tabled}
use Rattle.lrlex_table.specs.declared.looking.MatchAhead.{MatchAhead}
use Rattle.lrlex_table.specs.declared.tables.Tables.{Tables}
use Rattle.lrlex_table.specs.declared.walk.PatternMatch.{PatternMatch}
use Rattle.lrlex_rules.specs.Active.{rule_at}
use Rattle.lrlex_rules.specs.Kinds.{IsPlain}
use Rattle.lrlex_definition.specs.RowKinds.{own_kind}
use Rattle.lrlex.specs.Scanner.{IsSought, sought_at, sought_to}
use Rattle.lrlex_definition.specs.RuleTable.{AreOf}
use Rattle.lrlex.specs.Searcher.{IsFoundAt, IsSearcherOf, tile_of}
use Rattle.lrlex_rules.specs.RuleLists.{list_in}
use Rattle.lrlex_definition.specs.StateTables.{pattern_in, patterns_on}
use Rattle.lrlex_rules.specs.Tiling.{Wins}
use Rattle.lrlex_definition.specs.RuleTable.{definition_by}
use Rattle.lrlex_definition.specs.declared.row_kinds.RowKind.{RowKind}
use Rattle.lrlex_definition.specs.declared.rule_table.RuleTable.{RuleTable}
use Rattle.lrlex_definition.specs.declared.rule_table.StateRules.{StateRules}
use Rattle.lrlex.specs.declared.lexing.cursor.Sought.{Sought}
use Rattle.lrlex.specs.declared.lexing.winner.Searcher.{Searcher}
use Rattle.lrlex.specs.declared.lexing.winner.Tile.{Tile}
use Rattle.lrlex.proofs.DecidedLemmas.{decided_look}
use Rattle.lrlex_definition.proofs.RowKindLemmas.{the_chain, row_list, row_rule, row_plain}
use Rattle.lrlex_definition.proofs.TableLemmas.{active_within, looked_at, told_some, told_bytes, best_wins}
use Rattle.lrlex_rules.proofs.TilingLemmas.{one_len}

-- what was got from a list stands in it
pub got : {X : Type 0} (xs : List X) (i : ℕ) (o : Option (Bor X)) (x : X) → option_copied o ≡ Some x → is_some o ≡ nat_lt i (length xs) → ((d : X) → unwrap_or (option_copied o) d ≡ get_or xs i d) → slice_get xs i ≡ Some x
got xs i None x is has reads = absurd (none-some x is)
got xs i (Some b) x is has reads = slice_get_read xs (length xs) i x refl (ltb-true i (length xs) (sym has)) (sym (same_Some b.now x is) ∙ reads x)

-- in a state with these rules, the next match that was found ahead begins at the place and ends in a row of this kind, of the state's list
module _ {S : Type 0} (number : S → ℕ) (table : RuleTable S) (rules : StateRules) (of : AreOf number table rules.state rules) (s : Searcher) (input : List ℕ) (is : IsSearcherOf table input s) (place : ℕ) (next : MatchAhead) (kind : RowKind S)
    (here : slice_get table.row_kinds.items next.row ≡ Some kind) (same : kind.list ≡ rules.list) (best : ForSome s.ends.chain (λ c. IsBestIn s.ends.lists.now s.ends.text.now place next c.now)) where
  abbrev d : Definition
  d = definition_by number table

  abbrev q : ℕ
  q = rules.state

  abbrev text : List ℕ
  text = drop place s.ends.text.now

  abbrev places : List ℕ
  places = rules.active.now

  abbrev t : Tables
  t = rules.tables.now

  abbrev k : ℕ
  k = name_of (the_chain number table s.ends.chain is.chain next.row kind here).0.now next.row

  list_is : list_of (the_chain number table s.ends.chain is.chain next.row kind here).0.now next.row ≡ rules.list
  list_is = sym (row_list number table s.ends.chain is.chain next.row kind here) ∙ same

  best_here : IsBestUpTo t s.ends.text.now place k next.end
  best_here =
      let chain = the_chain number table s.ends.chain is.chain next.row kind here in
      best chain.0 chain.1 t (ap (slice_get s.ends.lists.now) list_is ∙ ap (λ xs. slice_get xs rules.list) is.lists ∙ of.list)

  pub found_some : place < next.end
  found_some = best_here.some

  abbrev found : PatternMatch
  found = record { pattern = k; len = next.end - place }

  won : (ps : List Re) → AreTablesOf ps t → (0 < next.end - place) × IsBestAmong ps (is_tabled t.parts.items) text k (next.end - place)
  won ps are = (omega (arith, best_here.some), best_here.best ps are)

  is_told : IsBestAmong (patterns_on d.rules places) (looked_at t.parts.items t.asked.items 0) text k (next.end - place)
  is_told = told_some d q text places t.asked.items of.active t refl of.tables (Some found) won found refl

  has_bytes : 0 < next.end - place
  has_bytes = told_bytes d q text places t.asked.items of.active t refl of.tables (Some found) won found refl

  rules_len : length d.rules ≡ length table.rules.items
  rules_len = length-map table.rules.items (as_rule number)

  within : k < length places
  within = omega (arith, is_told.within has_bytes, length-map places (pattern_in d.rules))

  rule_is : kind.rule ≡ get_or places k 0
  rule_is =
      row_rule number table s.ends.chain is.chain next.row kind here
      ∙ ap (λ l. slice_index_or (list_in (map (λ v. v.items) table.lists.items) l) k 0) list_is ∙ ap (λ xs. slice_index_or xs k 0) (sym of.own)

  among : kind.rule < length table.rules.items
  among = omega (arith, rule_is, rules_len, active_within d q places of.active k within)

  pub found_plain : kind.plain ≡ true → IsPlain number (own_kind kind).id (rule_at d kind.rule)
  found_plain plain = row_plain number table s.ends.chain is.chain next.row kind here among plain

  past : length t.asked.items ≤ 0
  past = omega (arith, ap length best_here.tabled)

  pub found_is : IsFoundAt number table q input place (tile_of place (record { kind = kind; next = next }))
  found_is =
      subst (λ xs. IsFoundAt number table q xs place (record { rule = kind.rule; len = next.end - place })) is.text
      (record {
        wins = subst (λ r. Wins d q text r (next.end - place)) (sym rule_is) (best_wins d q text places t.asked.items of.active t refl of.tables 0 k (next.end - place) past is_told has_bytes);
        decided = decided_look d q text places t.asked.items of.active t refl of.tables 0 k (next.end - place) past is_told (next.end - place + 1) best_here.tabled (λ ps are _. best_here.decided ps are);
        cuts = is_told.cuts;
        rule = among;
        within = omega (arith, best_here.within, best_here.some);
        tabled = sym of.untabled ∙ ap length best_here.tabled;
      })

-- what was just sought is what was sought at the place
pub just_sought : (place : ℕ) (winner : Option Tile) → sought_at place (Some (record { place = place; winner = winner })) ≡ Some winner
just_sought place winner = cond-true _ (Some winner) None (eq-eqb place place refl)

-- behind a tile nothing was sought yet
pub none_sought : (place later : ℕ) (o : Option Sought) → IfSome o (λ s. s.place ≤ place) → place < later → sought_at later o ≡ None
none_sought place later None le lt = refl
none_sought place later (Some s) le lt = cond-false _ (Some s.winner) None (ne_eqb s.place later (λ e. omega (arith, le, lt, e)))

pub sought_before : (place later : ℕ) (o : Option Sought) → IfSome o (λ s. s.place ≤ place) → place ≤ later → IfSome o (λ s. s.place ≤ later)
sought_before place later None le more = tt
sought_before place later (Some s) le more = omega (arith, le, more)

-- What was sought at the place is what was found ahead there, so that it takes no more bytes.
pub found_sought : {S : Type 0} (number : S → ℕ) (table : RuleTable S) (text : List ℕ) (place q : ℕ) (o : Option (Option Tile)) → IfSome o (IsSought number table text place q) → (t : Tile) → IsFoundAt number table q text place t →
    sought_to place o ≤ place + max 1 t.len
found_sought number table text place q None is t at = omega arith
found_sought number table text place q (Some None) is t at = omega arith
found_sought number table text place q (Some (Some u)) is t at =
    omega (arith, one_len (definition_by number table) q (drop place text) u.rule u.len t.rule t.len is.wins at.wins)
