-- The warnings so far are shown.
use Rattle.std.proofs.Common.{◌≡◌, string_bytes, take}
use Rattle.lrlex_report.specs.WarningTexts.{warning_texts}
use Rattle.lrlex_report.proofs.warnings.texts.warnings_text.Given as goal

abbrev pub invariant-loop-warning : goal.invariant-loop-warning
invariant-loop-warning l = string_bytes l.shown ≡ warning_texts l.source.file.now l.source.text.now (take l.warning-index l.warnings)
