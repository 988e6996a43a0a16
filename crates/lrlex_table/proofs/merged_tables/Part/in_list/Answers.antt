use Rattle.std.proofs.Common.{◌≡◌, length, get_or, sym, ap, ◌∙◌, subst}
use Rattle.std.proofs.lemmas.Option.{MatchOption-at_none, MatchOption-at_some}
use Rattle.lrlex_table.specs.Tables.{AreRising, is_among, IsBestAmong}
use Rattle.lrlex_table.proofs.WinnerLemmas.{part_matches_none, part_matches_best}
use Rattle.lrlex_table.proofs.merged_tables.Part.in_list.Goals as goal

pub returns-in_err-found-clause-winner : goal.returns-in_err-found-clause-winner
returns-in_err-found-clause-winner c ps text is utf8 none =
    rw c.from_residual.ensures (part_matches_none ps c.args.self.now.patterns.items text (MatchOption-at_none _ _ c.in_err-found.was none) utf8)

pub returns-clause-winner : goal.returns-clause-winner
returns-clause-winner c ps text is utf8 told =
    let patterns = c.args.self.now.patterns.items in
    let best = MatchOption-at_some _ _ c.in_ok-found.found c.in_ok-found.was told in
    let read : c.in_ok-pattern.pattern ≡ get_or patterns c.in_ok-found.found.pattern 0 =
    (c.in_ok-pattern.ensures.pattern (length ps) (subst (AreRising 0 (length ps)) (sym c.deref.ensures.value) is.rises)).1 ∙ ap (λ xs. get_or xs c.in_ok-found.found.pattern 0) c.deref.ensures.value in (
      best.some,
      subst (λ k. IsBestAmong ps (is_among patterns) text k c.in_ok-found.found.len) (sym read) (part_matches_best ps patterns text c.in_ok-found.found.pattern c.in_ok-found.found.len is.rises best),
    )
