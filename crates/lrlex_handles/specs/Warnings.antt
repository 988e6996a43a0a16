-- The warnings of a rule text, as C reads them.
use Rattle.std.specs.Prelude.{◌≡◌, ℕ, List, length, map}
use Rattle.std.specs.List.{position_or_len}
use Rattle.lrlex_base.specs.Places.{place_of}
use Rattle.lrlex.specs.Views.{RuleTable}
use Rattle.lrlex_report.specs.PlaceTexts.{nearest}
use Rattle.lrlex_report.specs.Warnings.{as_told, AreWarnings}
use Rattle.lrlex_report.specs.WarningTexts.{is_named, warning_kinds, warning_name, warning_texts}
use Rattle.lrlex_report.specs.declared.warnings.kinds.Warning as told
use Rattle.lrlex_report.specs.declared.warnings.kinds.WarningKind.{WarningKind}
use Rattle.lrlex_handles.specs.Buffers.{filled}
use Rattle.lrlex_handles.specs.declared.structs.Warning.{Warning}

-- the number of a kind: its place among the kinds
abbrev pub warning_number : WarningKind → ℕ
warning_number kind = position_or_len (is_named (warning_name kind)) warning_kinds

-- a warning, with line and column of its start
abbrev pub warning_by : (rules : List ℕ) → told.Warning → Warning
warning_by rules w =
    let place = place_of rules (nearest rules (as_told w).1.start) in
    record {
      start = (as_told w).1.start;
      end = (as_told w).1.end;
      line = place.0;
      column = place.1;
      kind = warning_number (as_told w).0;
    }

-- the warnings of a rule text and its definition are in the buffer, as many as there is room for, and this is how many there are
pub record AreWarningsIn (t : RuleTable ℕ) (rules : List ℕ) (room out : List Warning) (count : ℕ) : Type 0 where
  pub warnings : List told.Warning
  pub told : AreWarnings (λ n. n) t rules (map as_told warnings)
  pub out-is : out ≡ filled (λ w _. warning_by rules w) warnings room
  pub count-is : count ≡ length warnings

-- this is shown of the warnings of a rule text and its definition
pub record IsWarningReport (t : RuleTable ℕ) (file rules shown : List ℕ) : Type 0 where
  pub warnings : List told.Warning
  pub told : AreWarnings (λ n. n) t rules (map as_told warnings)
  pub shown-is : shown ≡ warning_texts file rules warnings
