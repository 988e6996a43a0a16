-- Rules and start states, as C reads them.
use Rattle.std.specs.Prelude.{length, is_some, unwrap_or}
use Rattle.std.specs.Option.{option_map_or}
use Rattle.lrlex_rules.specs.Definition.{Rule, StartState}
use Rattle.lrlex_handles.specs.declared.structs.RuleInfo.{RuleInfo}
use Rattle.lrlex_handles.specs.declared.structs.StateInfo.{StateInfo}

abbrev pub rule_info : Rule → RuleInfo
rule_info r = record {
  name_start = r.name_span.start;
  name_end = r.name_span.end;
  name_len = option_map_or length r.name 0;
  id = unwrap_or r.id 0;
  has_id = is_some r.id;
  has_name = is_some r.name;
}

abbrev pub state_info : StartState → StateInfo
state_info s = record {
  id = s.id;
  name_start = s.name_span.start;
  name_end = s.name_span.end;
  name_len = length s.name;
  exclusive = s.exclusive;
}
