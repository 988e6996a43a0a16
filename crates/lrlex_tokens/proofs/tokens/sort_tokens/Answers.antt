use Rattle.std.proofs.Common.{◌≡◌, List, ℕ, rules, of_calls}
use Rattle.std.specs.Ordering.{is_lt, nat_cmp}
use Rattle.std.specs.Cmp.Lexicographic.{slice_cmp}
use Rattle.std.specs.String.{string_bytes}
use Rattle.std.proofs.lemmas.Cmp.{nat_list_cmp_total}
use Rattle.std.proofs.lemmas.Fn.{always_returns_same}
use Rattle.std.proofs.lemmas.List.Sorted.{ranks_by}
use Rattle.lrlex_tokens.specs.declared.tokens.Token.{Token}
use Rattle.lrlex_tokens.proofs.tokens.sort_tokens.Goals as goal

abbrev name_of : {Z : Type 0} → Token Z → List ℕ
name_of t = string_bytes t.name

pub returns-clause-sorted : goal.returns-clause-sorted
returns-clause-sorted g c =
    c.sort_unstable_by.ensures.sorted (λ x y. is_lt (slice_cmp nat_cmp (name_of x) (name_of y))) (ranks_by nat_list_cmp_total name_of)
    (always_returns_same _ (λ a r. is_lt r ≡ is_lt (slice_cmp nat_cmp (name_of a.0.now) (name_of a.1.0.now))) _ (λ a r f k. search (rules, of_calls)))
