-- What a builder that has read a whole text answers.
use Rattle.std.proofs.Common.{◌≡◌, ℕ, true, false, eqb, List, [], ◌∷◌, length, map, Option, None, Result, Ok, Err, refl, sym, ap, subst, ◌∙◌, arith}
use Rattle.std.proofs.lemmas.Bool.{eqb-true}
use Rattle.std.proofs.lemmas.List.{length-map}
use Rattle.lrlex_rules.specs.declared.flags.LexFlags.{LexFlags}
use Rattle.lrlex_parser.specs.declared.lex_parser.LexParser.{LexParser}
use Rattle.lrlex_parser.specs.declared.faults.LexBuildError.{LexBuildError}
use Rattle.lrlex_rules.specs.Flags.{resolved, allows_comments}
use Rattle.lrlex_parser.specs.Event.{Event, Fault, states_of, rules_of}
use Rattle.lrlex_rules.specs.Definition.{StartState, Rule, Definition}
use Rattle.lrlex_parser.specs.Event.Event.{NewState}
use Rattle.lrlex_parser.specs.Declaration.{Declared, initial, state_event, declarations, section_end, trimmed_lines}
use Rattle.lrlex_parser.specs.Outcome.{Settings, events_after, rules_events, events_of, faults_after, definition_or_faults, outcome}
use Rattle.lrlex_parser.specs.LexParser.{Represents, settings, refused_in, refused_of, as_fault}
use Rattle.lrlex_rules.specs.RuleParts.{as_state, as_rule}

some_faults : (flags : LexFlags) (events : List Event) (fs : List Fault) → eqb (length fs) 0 ≡ false → Err fs ≡ definition_or_faults flags events fs
some_faults flags events [] h = cc
some_faults flags events (f ∷ fs) h = refl

no_errors : (es : List LexBuildError) → eqb (length es) 0 ≡ true → es ≡ []
no_errors [] h = refl
no_errors (e ∷ es) h = let none = eqb-true (length (e ∷ es)) 0 h in absurd (omega (arith, none))

-- the same flags, resolved or not, allow comments
abbrev pub ReadWhole : {S : Type 0} → (S → ℕ) → LexFlags → Settings → List ℕ → LexParser S → Type 0
ReadWhole number rr s text b = Represents number rr b (rules_events s text (events_after state_event (NewState initial ∷ []) (declarations (allows_comments rr) text)) (section_end (trimmed_lines text)))

module _ {S : Type 0} (number : S → ℕ) (flags rr : LexFlags) (greatest : ℕ) (refused : Option ℕ) (text : List ℕ) (b : LexParser S) (e : rr ≡ resolved flags) (now : ReadWhole number rr (settings flags greatest refused) text b) where
  pub whole : Represents number rr b (events_of (settings flags greatest refused) text)
  whole =
      let P : List Declared → Type 0 = λ ds. Represents number rr b (rules_events (settings flags greatest refused) text (events_after state_event (NewState initial ∷ []) ds) (section_end (trimmed_lines text))) in
      subst P (ap (λ (f : LexFlags). declarations (allows_comments f) text) e) now

  pub answers_faults : eqb (length b.faults.list.items) 0 ≡ false → Err (map as_fault b.faults.list.items) ≡ outcome (settings flags greatest refused) text
  answers_faults h =
      let some : eqb (length (map as_fault b.faults.list.items)) 0 ≡ false = ap (λ (n : ℕ). eqb n 0) (length-map b.faults.list.items as_fault) ∙ h in
      some_faults flags (events_of (settings flags greatest refused) text) (map as_fault b.faults.list.items) some
      ∙ ap (definition_or_faults flags (events_of (settings flags greatest refused) text)) whole.faults

  pub answers_definition : eqb (length b.faults.list.items) 0 ≡ true → Ok (record { states = map as_state b.states.list.items; rules = map (as_rule number) b.rules.list.items; flags = rr }) ≡ outcome (settings flags greatest refused) text
  answers_definition h =
      let none : faults_after [] (events_of (settings flags greatest refused) text) ≡ [] = sym whole.faults ∙ ap (map as_fault) (no_errors b.faults.list.items h) in
      let made : (ss : List StartState) (rs : List Rule) (f : LexFlags) → Result Definition (List Fault) = λ ss rs f. Ok (record { states = ss; rules = rs; flags = f }) in
      ap (λ (ss : List StartState). made ss (map (as_rule number) b.rules.list.items) rr) whole.states ∙ ap (λ (rs : List Rule). made (states_of (events_of (settings flags greatest refused) text)) rs rr) whole.rules
      ∙ ap (made (states_of (events_of (settings flags greatest refused) text)) (rules_of (events_of (settings flags greatest refused) text))) e
      ∙ ap (definition_or_faults flags (events_of (settings flags greatest refused) text)) (sym none)

pub none_told : {S : Type 0} (b : LexParser S) → eqb (length b.faults.list.items) 0 ≡ true → None ≡ refused_of b
none_told b h = sym (ap (λ (es : List LexBuildError). refused_in (map as_fault es)) (no_errors b.faults.list.items h))
