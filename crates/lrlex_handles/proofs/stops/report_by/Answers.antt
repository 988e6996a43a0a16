use Rattle.std.proofs.Common.{◌≡◌, ◌-◌, length, slice_get, option_map, map, unwrap_or, false, ap, sym, subst, refl, ◌∙◌}
use Rattle.lrlex_base.specs.Lexemes.{lexeme_seen}
use Rattle.lrlex.specs.LexRun.{end_of, end_state_of}
use Rattle.lrlex.specs.Views.{item_of}
use Rattle.lrlex_handles.specs.Answers.{outcome}
use Rattle.lrlex_handles.proofs.Fills.{last_seen}
use Rattle.lrlex_handles.proofs.stops.report_by.Goals as goal

pub returns-in-Some : goal.returns-in-Some
returns-in-Some c =
    let r = c.in_ok-run.run' in
    record {
      found = map (item_of (λ n. n) lexeme_seen) r.items;
      bounds = r.boundaries;
      run = c.in_ok-run.ensures.run;
      error = c.in-Some.error.now;
      last = last_seen (item_of (λ n. n) lexeme_seen) r.items ∙ ap (λ o. option_map (item_of (λ n. n) lexeme_seen) o) (ap (λ xs. slice_get xs (length xs - 1)) (sym c.items.ensures) ∙ c.in-Some.ensures.found);
      shown-is = rw c.rule_table.ensures at c.in_ok-stop_text_in-in-Some.ensures;
    }

pub returns : goal.returns
returns c =
    let r = c.in_ok-run.run' in
    let found = map (item_of (λ n. n) lexeme_seen) r.items in
    let seen : slice_get found (length found - 1) ≡ option_map (item_of (λ n. n) lexeme_seen) (slice_get c.items.result.now (length c.items.result.now - 1)) =
    last_seen (item_of (λ n. n) lexeme_seen) r.items ∙ ap (λ xs. option_map (item_of (λ n. n) lexeme_seen) (slice_get xs (length xs - 1))) (sym c.items.ensures) in
    record {
      found = found;
      bounds = r.boundaries;
      run = c.in_ok-run.ensures.run;
      whole = subst (λ o. (outcome o (length found) (end_of r.boundaries) (unwrap_or (end_state_of r.boundaries) 0)).stopped ≡ false) (sym seen)
          (c.in-None.ensures.none refl (length found) (end_of r.boundaries) (unwrap_or (end_state_of r.boundaries) 0));
    }
