-- What contracts see of an iterator over items.
use Rattle.std.specs.Prelude.{List, Result}
use Rattle.lrlex_base.specs.declared.lexers.Items.{Items}

-- the items that are left; the types are L, its lexeme, its id and its error
abbrev pub items_left : {L X S E : Type 0} → Items L X S E → List (Result X E)
items_left s = s.rest.now
