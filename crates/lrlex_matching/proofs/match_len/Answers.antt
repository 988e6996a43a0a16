use Rattle.std.proofs.Common.{Some, None, option_map, refl, sym, ap, ◌∙◌, subst, IsCharBoundary}
use Rattle.std.proofs.lemmas.Str.{IsCharBoundary-start}
use Rattle.regex.specs.Strings.{matcher_pattern, match_span}
use Rattle.lrlex_matching.proofs.FindLemmas.{match_length_found, match_length_other, end_elsewhere}
use Rattle.lrlex_matching.proofs.match_len.Goals as goal

pub returns-then-start-eq0-clause-length : goal.returns-then-start-eq0-clause-length
returns-then-start-eq0-clause-length c =
    let found = c.in-Some.found in
    c.end.ensures ∙ match_length_found (matcher_pattern c.args.matcher.now) c.args.text.now found.start found.end c.in-Some.ensures.found
    (sym c.start-start.ensures ∙ c.if-start-eq0.true)
    (subst (λ hay. IsCharBoundary hay found.end) c.in-Some.ensures.within found.ends_cleanly)

pub returns-else-start-eq0-clause-length : goal.returns-else-start-eq0-clause-length
returns-else-start-eq0-clause-length c =
    let found = c.in-Some.found in
    match_length_other (matcher_pattern c.args.matcher.now) c.args.text.now (Some (found.start, found.end)) c.in-Some.ensures.found
    (end_elsewhere c.args.text.now found.start found.end (λ e. c.if-start-eq0.false (c.start-start.ensures ∙ e)))

pub returns-in-None-clause-length : goal.returns-in-None-clause-length
returns-in-None-clause-length c =
    match_length_other (matcher_pattern c.args.matcher.now) c.args.text.now None (sym (ap (option_map match_span) c.in-None.is) ∙ c.find.ensures.found) refl

pub returns-else-start-eq0-clause-boundary : goal.returns-else-start-eq0-clause-boundary
returns-else-start-eq0-clause-boundary c = IsCharBoundary-start c.args.text.now c.utf8.text

pub returns-in-None-clause-boundary : goal.returns-in-None-clause-boundary
returns-in-None-clause-boundary c = IsCharBoundary-start c.args.text.now c.utf8.text
