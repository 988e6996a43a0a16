use Rattle.std.specs.declared.alloc.Global.{Global}
use Rattle.std.specs.Prelude.{Box}
use Rattle.std.proofs.Common.{◌≡◌, ℕ, Option, None, Some, slice_get, length}
use Rattle.regex.specs.declared.string.matcher.Matcher.{Matcher}
use Rattle.lrlex_rules.proofs.matchers.empty_matchers.Given as goal

abbrev pub invariant-rules : goal.invariant-rules
invariant-rules g l = record {
  made : length l.made.items ≡ l._index;
  none : (i : ℕ) (o : Option (Box Matcher Global)) → slice_get l.made.items i ≡ Some o → o ≡ None;
}
