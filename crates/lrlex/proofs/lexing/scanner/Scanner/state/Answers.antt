use Rattle.std.proofs.Common.{◌≡◌, ap, sym, subst, ◌∙◌}
use Rattle.lrlex_boundaries.specs.Entries.{AreEntries, plain}
use Rattle.lrlex_rules.specs.RuleParts.{state_number}
use Rattle.lrlex.specs.Scanner.{Scanned, scanned, scanned_by, top_state}
use Rattle.lrlex_rules.specs.Tiling.{top}
use Rattle.lrlex.proofs.ScannedRuns.{on_top}
use Rattle.lrlex.proofs.lexing.scanner.Scanner.state.Goals as goal

pub top_of-requires : goal.top_of-requires
top_of-requires g c = subst AreEntries (sym c.deref.ensures.value) (rw c.in-Some.is at c.self.invariant.0).stands.entries

pub returns-in-Some : goal.returns-in-Some
returns-in-Some g c =
    let table = c.self.inside.source.table.now in
    let text = c.self.inside.source.text.now in
    let stack = plain c.in-Some.cursor.stack.items in
    let at : scanned_by g.S.Numbered.number table text c.in-Some.cursor ≡ c.args.self.now = ap (scanned g.S.Numbered.number table text) (sym c.in-Some.is) ∙ c.self.view_is in
    let is : state_number c.new.result ≡ top stack = c.new.ensures ∙ c.top_of.ensures ∙ ap (λ s. top (plain s)) c.deref.ensures.value in
    on_top stack (state_number c.new.result) (rw c.in-Some.is at c.self.invariant.0).stands.some is ∙ ap (λ (s : Scanned). top_state s.stack) at

pub returns-in-None : goal.returns-in-None
returns-in-None g c =
    ap (λ (s : Scanned). top_state s.stack) (ap (scanned g.S.Numbered.number c.self.inside.source.table.now c.self.inside.source.text.now) (sym c.in-None.is) ∙ c.self.view_is)
