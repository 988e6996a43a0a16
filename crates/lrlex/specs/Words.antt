-- The words of the crates below that clauses cite, passed on so that a caller names this crate alone.
pub use Rattle.lrlex_base.specs.Spans.{Fits, as_span, span_start, span_end}
pub use Rattle.lrlex_base.specs.Places.{place_of, line_of, column_of}
pub use Rattle.lrlex_base.specs.Edits.{edited}
pub use Rattle.lrlex_positions.specs.Columns.{is_wide, units, width}
pub use Rattle.lrlex_positions.specs.Lines.{with_newlines, HasPosition, IsInBreak, IsNearestPlace}
pub use Rattle.lrlex_positions.specs.Positions.{position_of, IsUpTo, IsLastUpTo}
pub use Rattle.lrlex_base.specs.declared.edits.Edit.{Edit}
pub use Rattle.lrlex_base.specs.LexemeParts.{LexemeParts}
pub use Rattle.lrlex_base.specs.Lexemes.{lexeme_seen}
pub use Rattle.lrlex_base.specs.Items.{items_left}
pub use Rattle.lrlex_rules.specs.Definition.{Definition, Rule, StartState}
pub use Rattle.lrlex_rules.specs.RuleParts.{RuleParts, as_rule, as_state}
pub use Rattle.lrlex_parser.specs.LexBuildResult.{IsAnswer, AreAllFaults, BeginAsRead, as_faults}
pub use Rattle.lrlex_parser.specs.LexBuildError.{IsPlaced, fault_kind, fault_spans}
pub use Rattle.lrlex_parser.specs.DefinitionLaws.{IsLawful}
unfoldable pub use Rattle.lrlex_matching.specs.Matching.{match_length}
pub use Rattle.lrlex_rules.specs.Patterns.{rule_pattern}
