-- What a survey of a whole text tells.
use Rattle.std.proofs.Common.{◌≡◌, ℕ, Bool, false, List, [], ◌∷◌, map, Option, sym, ap, subst, ◌∙◌}
use Rattle.std.specs.Prelude.{All, unwrap_or, Vec}
use Rattle.std.specs.Option.{option_map}
use Rattle.std.specs.Str.{IsUtf8}
use Rattle.std.specs.declared.alloc.Global.{Global}
use Rattle.lrlex_rules.specs.declared.flags.LexFlags.{LexFlags}
use Rattle.lrlex_parser.specs.declared.faults.LexBuildError.{LexBuildError}
use Rattle.lrlex_parser.specs.declared.text.Line.{Line}
use Rattle.lrlex_parser.specs.declared.fatal.Fatal.{Fatal}
use Rattle.lrlex_rules.specs.Flags.{resolved, config_of, size_limit_of}
use Rattle.lrlex_parser.specs.Text.{Piece}
use Rattle.lrlex_parser.specs.Event.{Fault, Event, refused_patterns}
use Rattle.lrlex_parser.specs.Event.Event.{NewState}
use Rattle.lrlex_parser.specs.Declaration.{initial}
use Rattle.lrlex_parser.specs.AllFaults.{declaration_events, rule_events, all_after, declared_lines, rule_lines, text_fault, then_fault, all_events, part_faults}
use Rattle.lrlex_parser.specs.LexBuildError.{IsPlaced}
use Rattle.lrlex_parser.specs.LexBuildResult.{as_faults, regex_errors, AreRefusals, AreAllFaults, BeginAsRead}
use Rattle.lrlex_parser.specs.LexParser.{as_piece, as_fatal}
use Rattle.lrlex_parser.specs.Survey.{IsToldBy}
use Rattle.lrlex_parser.proofs.AllPlaced.{all_placed}
use Rattle.lrlex_parser.proofs.AsRead.{begin_as_read}
use Rattle.lrlex_parser.proofs.Refusals.{refused_as_given}
use Rattle.lrlex_parser.proofs.Whole.{comments_are}

module _ (flags rr : LexFlags) (greatest : ℕ) (text : List ℕ) (comments : Bool) (dls rls : List Line) (fault : Option Fatal) (e : rr ≡ resolved flags) (asked : comments ≡ unwrap_or rr.allow_wholeline_comments false)
    (declared : map as_piece dls ≡ declared_lines comments text) (rules : map as_piece rls ≡ rule_lines comments text) (whole : option_map as_fatal fault ≡ text_fault text) (refuses : ℕ → Bool) where
  abbrev made : List Piece → List Piece → Option Fault → List Event
  made ds rs f = then_fault (all_after (rule_events flags greatest refuses) (all_after declaration_events (NewState initial ∷ []) ds) rs) f

  events_are : made (map as_piece dls) (map as_piece rls) (option_map as_fatal fault) ≡ all_events flags greatest refuses text
  events_are =
      ap (λ (ds : List Piece). made ds (map as_piece rls) (option_map as_fatal fault)) declared ∙ ap (λ (rs : List Piece). made (declared_lines comments text) rs (option_map as_fatal fault)) rules
      ∙ ap (made (declared_lines comments text) (rule_lines comments text)) whole
      ∙ ap (λ (b : Bool). made (declared_lines b text) (rule_lines b text) (text_fault text)) (asked ∙ sym (comments_are rr flags (sym e)))

  pub are_all : (v : Vec LexBuildError Global) → IsToldBy rr (made (map as_piece dls) (map as_piece rls) (option_map as_fatal fault)) v.items → AreAllFaults flags greatest text v
  are_all v told =
      let P : List Event → Type 0 = λ es. AreRefusals (config_of rr) (size_limit_of rr) (refused_patterns es) (regex_errors v.items) in
      let Q : LexFlags → Type 0 = λ f. AreRefusals (config_of f) (size_limit_of f) (refused_patterns (all_events flags greatest refuses text)) (regex_errors v.items) in
      record { refuses = refuses; exact = told.faults ∙ ap part_faults events_are; refusals = refused_as_given flags _ _ (subst Q e (subst P events_are told.refusals)) }

pub all_begin : (flags : LexFlags) (greatest : ℕ) (text : List ℕ) (v : Vec LexBuildError Global) → AreAllFaults flags greatest text v → BeginAsRead flags greatest text (as_faults v)
all_begin flags greatest text v all = subst (BeginAsRead flags greatest text) (sym all.exact) (begin_as_read flags greatest all.refuses text)

pub all_in_place : (flags : LexFlags) (greatest : ℕ) (text : List ℕ) (v : Vec LexBuildError Global) → IsUtf8 text → AreAllFaults flags greatest text v → All (IsPlaced text) v.items
all_in_place flags greatest text v u all = all_placed flags greatest all.refuses text v.items u all.exact
