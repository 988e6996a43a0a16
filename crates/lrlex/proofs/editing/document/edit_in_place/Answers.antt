use Rattle.std.proofs.Common.{rules, ◌≡◌, ◌+◌, ◌∙◌, ap, ap₂, length, refl, slice_range, subst, sym}
use Rattle.std.specs.String.{string_bytes}
use Rattle.lrlex_base.specs.Edits.{edited}
use Rattle.lrlex_base.specs.Spans.{as_span, span}
use Rattle.lrlex.specs.Changes.{HasChanged}
use Rattle.lrlex.specs.Progress.{IsEditOf}
use Rattle.lrlex_definition.specs.RuleTable.{definition_by}
use Rattle.lrlex.specs.Views.{items_by}
use Rattle.lrlex_positions.specs.Nearest.{FitsAt}
use Rattle.lrlex.proofs.DocumentLemmas.{edited_back, edited_fits, span_fits}
use Rattle.lrlex.proofs.editing.document.edit_in_place.Goals as goal

pub put_text-requires-in-Err-clause-fits : goal.put_text-requires-in-Err-clause-fits
put_text-requires-in-Err-clause-fits g c =
    let was = string_bytes c.args.it.now.text in
    let put = c.args.edit.now.put.now in
    let from = c.start-from.result in
    let to = c.end-to.result in
    let here : FitsAt was from to = span_fits was c.args.edit.now.removed from to c.start-from.ensures c.end-to.ensures c.requires.fits in
    let made : string_bytes c.put_text.new.text ≡ edited was (span from to) put = c.put_text.ensures.text ∙ ap (λ t. edited t (span from to) put) c.in_ok-newlines.ensures.text in
    subst (λ t. FitsAt t from (from + length put)) (sym made) (edited_fits was put from to here c.in_ok-newlines.ensures.old_utf8 c.in_ok-newlines.ensures.put_utf8)

pub returns-in-Err-clause-kept : goal.returns-in-Err-clause-kept
returns-in-Err-clause-kept g c =
    let was = string_bytes c.args.it.now.text in
    let put = c.args.edit.now.put.now in
    let from = c.start-from.result in
    let to = c.end-to.result in
    let here : FitsAt was from to = span_fits was c.args.edit.now.removed from to c.start-from.ensures c.end-to.ensures c.requires.fits in
    let made : string_bytes c.put_text.new.text ≡ edited was (span from to) put = c.put_text.ensures.text ∙ ap (λ t. edited t (span from to) put) c.in_ok-newlines.ensures.text in
    let gone = c.deref-in-Err.result.now in
    let gone_is : gone ≡ slice_range was from to = c.deref-in-Err.ensures ∙ c.in_ok-newlines.ensures.gone ∙ ap₂ (slice_range was) (sym c.start-from.ensures) (sym c.end-to.ensures) in
    record {
      text = c.put_text-in-Err.ensures.text ∙ ap (λ t. edited t (span from (from + length put)) gone) made ∙ edited_back was put from to here gone gone_is;
      newlines = refl;
      lines = refl;
      found = c.in-Err.ensures.kept;
    }

pub returns-in-Ok-clause-changed : goal.returns-in-Ok-clause-changed
returns-in-Ok-clause-changed g c =
    let was = string_bytes c.args.it.now.text in
    let put = c.args.edit.now.put.now in
    let from = c.start-from.result in
    let to = c.end-to.result in
    let made : c.deref.result.now ≡ edited was (as_span c.args.edit.now.removed) put =
    c.deref.ensures ∙ c.put_text.ensures.text ∙ ap₂ (λ t x. edited t x put) c.in_ok-newlines.ensures.text (ap₂ span c.start-from.ensures c.end-to.ensures) in
    let known : IsEditOf g.S.Numbered.number g.X.Lexeme.seen c.args.table.now c.args.it.now.lexed.items.items c.args.it.now.lexed.boundaries c.args.it.now.lexed.ahead.items c.args.edit.now.removed put c.deref.result.now = record {
      text = was;
      small = search rules;
      looks = c.requires.known.1;
      run = c.requires.known.2;
      fits = c.requires.fits;
      gives = made;
    } in
    subst (λ t. HasChanged (definition_by g.S.Numbered.number c.args.table.now) was t (as_span c.args.edit.now.removed) put (items_by g.S.Numbered.number g.X.Lexeme.seen c.args.it.now.lexed.items.items)
    (items_by g.S.Numbered.number g.X.Lexeme.seen c.relex_in_place.new.lexed.items.items) c.args.it.now.lexed.boundaries c.relex_in_place.new.lexed.boundaries c.in-Ok.changed c.in-Ok.changed.pieces.inserted)
    c.deref.ensures (c.in-Ok.ensures.changed known)
