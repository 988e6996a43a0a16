use Rattle.std.proofs.Common.{map}
use Rattle.lrlex_base.specs.Lexemes.{lexeme_seen}
use Rattle.lrlex.specs.Views.{item_of}
use Rattle.lrlex_handles.proofs.entering.entered_by_text.Goals as goal

pub returns : goal.returns
returns c =
    let r = c.in_ok-run.run' in record {
      found = map (item_of (λ n. n) lexeme_seen) r.items;
      bounds = r.boundaries;
      run = c.in_ok-run.ensures.run;
      where-is = c.entered_of.ensures;
    }
