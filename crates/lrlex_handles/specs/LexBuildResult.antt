-- What reading a rule text gives, with all its faults where it is refused.
use Rattle.std.specs.Prelude.{ℕ, List, Result, Ok, Err, Vec}
use Rattle.std.specs.declared.alloc.Global.{Global}
use Rattle.lrlex_rules.specs.Definition.{Definition}
use Rattle.lrlex_parser.specs.LexBuildResult.{IsAnswer, AreAllFaults, BeginAsRead, as_faults}
use Rattle.lrlex_parser.specs.declared.faults.LexBuildError.{LexBuildError}
use Rattle.lrlex_rules.specs.declared.flags.LexFlags.{LexFlags}

-- reading refuses the text, and these are all its faults: first those that the reading tells
pub record IsRefusedFor (flags : LexFlags) (greatest : ℕ) (text : List ℕ) (faults : Vec LexBuildError Global) : Type 0 where
  pub read : Vec LexBuildError Global
  pub is_refused : IsAnswer (λ (d : Definition). d) flags greatest text (Err read)
  pub all : AreAllFaults flags greatest text faults
  pub begins : BeginAsRead flags greatest text (as_faults faults)

-- the definition that the text says, or all its faults
abbrev pub IsChecked : LexFlags → (greatest : ℕ) → (text : List ℕ) → Result Definition (Vec LexBuildError Global) → Type 0
IsChecked flags greatest text (Ok d) = IsAnswer (λ (d : Definition). d) flags greatest text (Ok d)
IsChecked flags greatest text (Err faults) = IsRefusedFor flags greatest text faults
