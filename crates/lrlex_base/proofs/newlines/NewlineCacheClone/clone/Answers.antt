use Rattle.std.proofs.Common.{◌++◌, ap₂, ◌∙◌}
use Rattle.lrlex_base.proofs.newlines.NewlineCacheClone.clone.Goals as goal

pub invariant_of-result : goal.invariant_of-result
invariant_of-result g c = rw (c.in_ok-extend_from_slice.ensures.items ∙ ap₂ ◌++◌ c.new-starts.ensures.items c.deref.ensures.value) c.self.invariant
