use Rattle.std.proofs.Common.{◌<◌, length, slice_index, sym, ap, subst, ◌∙◌, arith}
use Rattle.std.proofs.lemmas.List.{get_or_default}
use Rattle.lrlex.specs.LexRun.{Run}
use Rattle.lrlex.specs.Views.{definition_of}
use Rattle.lrlex.proofs.LookaheadLemmas.{looks_known}
use Rattle.lrlex.proofs.lexing.run.LexRun.ahead.Goals as goal

pub returns : goal.returns
returns g c =
    let s = c.self.inside in
    let len = (looks_known (definition_of g.L.StorageT.Numbered.number s.definition.now) s.text.now s.lexed.boundaries s.lexed.ahead.items c.self.invariant.0).len in
    let within = subst (λ (v : Run _ _). c.args.index < length v.boundaries) (sym c.self.view_is) c.requires in
    c.index.ensures ∙ get_or_default s.lexed.ahead.items c.args.index c.index.result.now 0 (omega (arith, len, within)) ∙ ap (λ (v : Run _ _). slice_index v.ahead c.args.index) c.self.view_is

pub index-requires : goal.index-requires
index-requires g c =
    let s = c.self.inside in
    let len = (looks_known (definition_of g.L.StorageT.Numbered.number s.definition.now) s.text.now s.lexed.boundaries s.lexed.ahead.items c.self.invariant.0).len in
    let within = subst (λ (v : Run _ _). c.args.index < length v.boundaries) (sym c.self.view_is) c.requires in
    omega (arith, len, within)
