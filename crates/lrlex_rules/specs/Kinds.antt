-- What a tile needs of its rule.
use Rattle.std.specs.Prelude.{◌≡◌, ℕ, not, ◌&&◌, true, false, Option, None, is_some, is_none, option_map, if◌then◌else◌}
use Rattle.lrlex_rules.specs.Definition.{Rule}
use Rattle.lrlex_rules.specs.RuleParts.{RuleParts}
use Rattle.lrlex_rules.specs.Active.{lacks_id, lexeme_id}
use Rattle.lrlex_rules.specs.declared.kinds.Kind.{Kind}

-- the id of the rule's lexemes, and whether it has no target, and an id if it has a name
abbrev pub kind_of : {S : Type 0} → RuleParts S → Kind S
kind_of r = record {
  id = if is_some r.name then r.tok_id else None;
  plain = is_none r.target && not (is_some r.name && is_none r.tok_id);
}

-- what a plain rule gives, this id or none, and that it has no target
pub record IsPlain {S : Type 0} (number : S → ℕ) (id : Option S) (r : Rule) : Type 0 where
  pub has_id : lacks_id r ≡ false
  pub gives : lexeme_id r ≡ option_map number id
  pub target : is_none r.target ≡ true
