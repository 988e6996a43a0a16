use Rattle.std.proofs.Common.{length, refl, sym, ap, ◌∙◌, subst, arith}
use Rattle.lrlex_table.specs.Chain.{AreMarksOf}
use Rattle.lrlex_table.proofs.AheadLemmas.{written_back}
use Rattle.lrlex_table.proofs.ahead.Ahead.look.Goals as goal

pub returns-clause-found : goal.returns-clause-found
returns-clause-found c =
    let self = c.has_room.new.self in
    let m = c.mark_in_lanes-count in
    let marks = written_back m.new.marks self.marks.items self.marks.len (omega (arith, self.marks.ok.0)) (m.ensures.room ∙ ap length c.deref_mut.ensures.value) in
    record {
      all = c.has_room.ensures.at;
      room = omega (arith, m.ensures.count, ap length marks);
      from_is = c.has_room.ensures.from;
      begin = λ some. refl;
      cut = λ t l is. subst (λ xs. AreMarksOf t l c.args.chain.now c.args.text.now c.args.from 0 xs m.result) (sym marks) (m.ensures.marks t l is);
    }
