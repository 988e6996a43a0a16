-- What the engine returns, what it writes, and what a fault of it displays.
use Rattle.std.specs.Prelude.{◌≡◌, ◌≢◌, ℕ, Bool, true, false, List, All, [], ◌∷◌, codes, Option, None, Result, Ok, Err}
use Rattle.std.specs.Io.KnownBytes.{Appends, Keeps}
use Rattle.lrlex_rules.specs.declared.flags.LexFlags.{LexFlags}
use Rattle.lrlex_rules.specs.Definition.{Definition}
use Rattle.lrlex_parser.specs.LexBuildError.{IsPlaced}
use Rattle.lrlex_parser.specs.Outcome.{outcome}
use Rattle.lrlex_parser.specs.LexBuildResult.{settings, refused_in, as_faults, AreByRegex}
use Rattle.std.specs.List.{list_any}
use Rattle.lrlex.specs.Boundaries.{Boundary}
use Rattle.lrlex.specs.ItemLaws.{is_error}
use Rattle.lrlex.specs.Reach.{IsRun}
use Rattle.lrlex.specs.Tiling.{Tile, Item, End, Done, IsTiling, items}
use Rattle.lrlex_cli.specs.Lines.{lines}
use Rattle.lrlex_cli.specs.Writing.{AppendsFront}
use Rattle.lrlex_cli.specs.declared.engine.Ended.{Ended}
use Rattle.lrlex_cli.specs.declared.engine.Ended.TheVariants.{Lexed, Stopped, Refused}
use Rattle.lrlex_cli.specs.declared.engine.EngineFault.{EngineFault}
use Rattle.lrlex_cli.specs.declared.engine.EngineFault.TheVariants.{Memory, Write}

abbrev pub engine_fault_text : EngineFault → List ℕ
engine_fault_text Memory = codes "Out of memory"
engine_fault_text (Write e) = codes "Can't write"

-- what the engine is asked for: a rule text and an input, with flags and the greatest number of an id
pub record Request : Type 0 where
  pub greatest : ℕ
  pub flags : LexFlags
  pub rules : List ℕ
  pub input : List ℕ

-- the definition that the rule text gives, and the one way in which it cuts the input
pub record Lexing (q : Request) : Type 0 where
  pub definition : Definition
  pub says : outcome (settings q.flags q.greatest None) q.rules ≡ Ok definition
  pub cut : List Tile
  pub end : End
  pub tiling : IsTiling definition q.input (0 ∷ []) cut end
  pub only : (ts : List Tile) (e : End) → IsTiling definition q.input (0 ∷ []) ts e → (ts ≡ cut) × (e ≡ end)

-- the lines of the items
abbrev pub lines_in : (q : Request) → Lexing q → List ℕ
lines_in q x = lines x.definition.rules q.input (items x.definition 0 x.cut x.end)

-- `Lexed` where the whole input was cut and `Stopped` where not, with all lines written; `Refused` with the errors of the rule
-- text, those of patterns as `regex` gives them, each at places in it, and nothing written; nothing written where memory runs
-- out, and the beginning of the lines where a write failed
abbrev pub IsEngineRun : Request → Option (List ℕ) → Option (List ℕ) → Result Ended EngineFault → Type 0
IsEngineRun q old new (Ok Lexed) = (x : Lexing q) × (x.end ≡ Done) × Appends old new (lines_in q x)
IsEngineRun q old new (Ok Stopped) = (x : Lexing q) × (x.end ≢ Done) × Appends old new (lines_in q x)
IsEngineRun q old new (Ok (Refused faults)) =
    (outcome (settings q.flags q.greatest (refused_in (as_faults faults))) q.rules ≡ Err (as_faults faults))
    × AreByRegex q.flags q.greatest q.rules faults
    × All (IsPlaced q.rules) faults.items
    × Keeps old new
IsEngineRun q old new (Err Memory) = Keeps old new
IsEngineRun q old new (Err (Write e)) = (x : Lexing q) × AppendsFront old new (lines_in q x)

-- where the rule text is refused, each error has its places in it
abbrev pub HasPlacedFaults : List ℕ → Result Ended EngineFault → Type 0
HasPlacedFaults rules (Ok (Refused faults)) = All (IsPlaced rules) faults.items
HasPlacedFaults rules _ = Unit {0}

-- how the writing of a run's lines ends; `stopped` is whether an error is among its items
abbrev pub EndsWriting : Option (List ℕ) → Option (List ℕ) → Result Ended EngineFault → List ℕ → Bool → Type 0
EndsWriting old new (Ok Lexed) text stopped = (stopped ≡ false) × Appends old new text
EndsWriting old new (Ok Stopped) text stopped = (stopped ≡ true) × Appends old new text
EndsWriting old new (Ok (Refused faults)) text stopped = ⊥
EndsWriting old new (Err Memory) text stopped = Keeps old new
EndsWriting old new (Err (Write e)) text stopped = AppendsFront old new text

-- a run of the definition on the text has found items, whose lines were written, as far as the result says
abbrev pub WritesItems : Definition → List ℕ → Option (List ℕ) → Option (List ℕ) → Result Ended EngineFault → Type 0
WritesItems d text old new r =
    (found : List Item) × (bounds : List Boundary) × IsRun d text found bounds × EndsWriting old new r (lines d.rules text found) (list_any is_error found)

-- the lines of a run of the definition on the text were written, as far as the result says; nothing where memory runs out
abbrev pub EndsLexing : Definition → List ℕ → Option (List ℕ) → Option (List ℕ) → Result Ended EngineFault → Type 0
EndsLexing d text old new (Ok x) = WritesItems d text old new (Ok x)
EndsLexing d text old new (Err Memory) = Keeps old new
EndsLexing d text old new (Err (Write e)) = WritesItems d text old new (Err (Write e))

-- all of the text at `Ok`, nothing where memory runs out, and the beginning of it where a write failed
abbrev pub IsReport : {X : Type 0} → Option (List ℕ) → Option (List ℕ) → Result X EngineFault → List ℕ → Type 0
IsReport old new (Ok x) text = Appends old new text
IsReport old new (Err Memory) text = Keeps old new
IsReport old new (Err (Write e)) text = AppendsFront old new text
