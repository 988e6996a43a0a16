use Rattle.std.proofs.Common.{◌≡◌, ◌-◌, ◌<◌, [], ◌∷◌, ◌++◌, length, vec_len, append-nil, true≢false, sym, ap, subst, ◌∙◌, arith}
use Rattle.lrlex_boundaries.specs.Entries.{plain, AreEntries}
use Rattle.lrlex.proofs.EntryLemmas.{entries-front, entries-last, entries-raised, plain-more, plain-one, popped, some_plain, some_of_entries, not_none}
use Rattle.lrlex.proofs.lexing.stack.pop_state.Goals as goal
use Rattle.lrlex.proofs.lexing.stack.pop_state.Goals.{in-Some+then-count-gt1+in_ok-push, in-Some+else-count-gt1, in_default}

pub returns-else-is_empty-clause-popped : goal.returns-else-is_empty-clause-popped
returns-else-is_empty-clause-popped c =
    elim c.match-last.branch [
      | in-Some+then-count-gt1+in_ok-push w ↦
          let front = c.pop-last.new.self.items in
          let n = w.in-Some.count in
          let is = ap (λ v. plain v.items) w.entries-is ∙ ap plain w.in_ok-push.ensures.items in
          let old = ap plain w.in-Some.ensures.items ∙ plain-more front (n - 1) n w.in-Some.state (omega arith) in
          is ∙ popped _ (plain (front ++ (n - 1, w.in-Some.state) ∷ [])) w.in-Some.state old (some_plain front (n - 1) w.in-Some.state (omega arith))
      | in-Some+else-count-gt1 w ↦
          let front = c.pop-last.new.self in
          let n = w.in-Some.count in
          let all = subst AreEntries w.in-Some.ensures.items c.requires in
          let one : n ≡ 1 = omega (arith, entries-last front.items (n, w.in-Some.state) all) in
          let old = ap plain w.in-Some.ensures.items ∙ ap (λ i. plain (front.items ++ (i, w.in-Some.state) ∷ [])) one ∙ plain-one front.items w.in-Some.state in
          let some : 0 < length front.items = omega (arith, front.ok.0, ap vec_len w.entries-is, not_none _ c.if-is_empty.ensures) in
          ap (λ v. plain v.items) w.entries-is ∙ popped _ (plain front.items) w.in-Some.state old (some_of_entries front.items (entries-front front.items (n, w.in-Some.state) all) some)
      | in_default w ↦
          let now = c.pop-last.new.self in
          let same : length c.args.entries.now.items ≡ length now.items = ap length (w.in_default.ensures.items ∙ append-nil now.items) in
          let some : 0 < vec_len c.args.entries.now = omega (arith, now.ok.0, c.args.entries.now.ok.0, same, ap vec_len w.entries-is, not_none _ c.if-is_empty.ensures) in
          absurd (true≢false (sym (w.in_default.ensures.variant.1 some)))
    ]

pub returns-else-is_empty-clause-entries : goal.returns-else-is_empty-clause-entries
returns-else-is_empty-clause-entries c =
    elim c.match-last.branch [
      | in-Some+then-count-gt1+in_ok-push w ↦
          subst AreEntries (sym (ap (λ v. v.items) w.entries-is ∙ w.in_ok-push.ensures.items))
          (entries-raised c.pop-last.new.self.items w.in-Some.count (w.in-Some.count - 1) w.in-Some.state (subst AreEntries w.in-Some.ensures.items c.requires) (omega arith))
      | in-Some+else-count-gt1 w ↦
          subst AreEntries (sym (ap (λ v. v.items) w.entries-is)) (entries-front c.pop-last.new.self.items (w.in-Some.count, w.in-Some.state) (subst AreEntries w.in-Some.ensures.items c.requires))
      | in_default w ↦
          subst AreEntries (w.in_default.ensures.items ∙ append-nil c.pop-last.new.self.items ∙ sym (ap (λ v. v.items) w.entries-is)) c.requires
    ]
