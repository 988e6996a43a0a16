use Rattle.std.proofs.Common.{◌+◌, refl, sym, subst}
use Rattle.lrlex_table.specs.Determinizer.{lists_of, IsFilling}
use Rattle.lrlex_table.proofs.DeterminizerLemmas.{filling_push, classes_none}
use Rattle.lrlex_table.proofs.determinize.Determinizer.fill.Goals as goal

pub bytes-preserved : goal.bytes-preserved
bytes-preserved c =
    let nfa = c.args.dfa.now.nfa in
    let made = c.cell_for.new.self in
    let byte = c.bytes.byte in
    let filling = rw (c.in-Some-found.is, c.deref-in-bytes.ensures.value) at c.in_ok-found.ensures.filling in
    let cell = rw c.in-Some-found.is at c.in_ok-found.ensures.cell in (
      c.cell_for.ensures.fits,
      record {
        filling = subst (λ xs. IsFilling nfa (lists_of made.rows) xs made.wins.items c.args.row (byte + 1) c.in_ok-threads.threads.items c.in-Some.matched) (sym c.in_ok-push.ensures.items)
            (filling_push nfa (lists_of made.rows) made.next.items made.wins.items c.args.row byte c.in_ok-threads.threads.items c.in-Some.matched c.in-Some-found.to filling.filling cell c.bytes-test.true);
        classes = filling.classes;
        wide = filling.wide;
      },
    )

pub bytes-init : goal.bytes-init
bytes-init c = (
  c.begin.ensures.fits,
  record {
    filling = rw (c.in-Some.is, c.deref.ensures.value) at c.in_ok-matched.ensures.filling;
    classes = classes_none c.args.dfa.now (lists_of c.begin.new.self.rows) c.in-Some.matched c.args.row 256;
    wide = refl;
  },
)
