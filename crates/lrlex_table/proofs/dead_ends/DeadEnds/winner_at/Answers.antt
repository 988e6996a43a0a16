use Rattle.std.proofs.Common.{◌≡◌, ◌+◌, ◌-◌, ◌≤◌, min, vec_len, refl, sym, ap, ◌∙◌, subst, arith}
use Rattle.std.specs.HashMap.{hash_map_len}
use Rattle.std.proofs.lemmas.Bool.{ltb-false}
use Rattle.lrlex_table.specs.DeadEnds.{more_of}
use Rattle.lrlex_table.specs.Looking.{HasSameEnds}
use Rattle.lrlex_table.specs.Tables.{len_of}
use Rattle.lrlex_table.specs.Work.{cells, IsLook}
use Rattle.lrlex_table.proofs.WinnerLemmas.{decided_all}
use Rattle.lrlex_table.proofs.WorkLemmas.{look_near, look_far, look_again}
use Rattle.lrlex_table.specs.Linear.{HasWorkedTo}
use Rattle.lrlex_table.proofs.LinearLemmas.{linear_after, look_from}
use Rattle.lrlex_table.proofs.dead_ends.DeadEnds.winner_at.Goals as goal
use Rattle.lrlex_table.proofs.dead_ends.DeadEnds.winner_at.Goals.{then-place-self+in_default, else-place-self, then-scan-le-FAR-via-then-scan-le-FAR, then-scan-le-FAR-via-else-scan-le-FAR+then-not-is_far, then-place-self-2+else-scan-le-FAR+else-not-is_far, else-place-self-2}

pub returns-clause-decided : goal.returns-clause-decided
returns-clause-decided c ps are none =
    decided_all ps c.args.tables.now.parts.items c.args.tables.now.asked.items c.args.rest.now c.winner_of_parts_at-scan.result.reach are none (c.winner_of_parts_at-scan.ensures.scan ps are).decided

pub returns-then-scan-le-FAR-clause-work : goal.returns-then-scan-le-FAR-clause-work
returns-then-scan-le-FAR-clause-work c ps are kept =
    let old = c.args.self.now in
    let tables = c.args.tables.now in
    let scan = c.winner-scan.result in
    let same : HasSameEnds old c.if-place-self.self = elim c.if-place-self.branch [
      | then-place-self+in_default w ↦ subst (λ s. HasSameEnds old s) (sym w.self-is) w.found_at.ensures.ends
      | else-place-self w ↦ subst (λ s. HasSameEnds old s) (sym w.self-is) (record { known = refl; forgot = refl; looked = refl; chain = refl })
    ] in
    let near : scan.reach ≤ len_of scan.winner + 128 = elim c.then-scan-le-FAR.branch [
      | then-scan-le-FAR-via-then-scan-le-FAR w ↦ omega (arith, w.if-scan-le-FAR.true)
      | then-scan-le-FAR-via-else-scan-le-FAR+then-not-is_far w ↦ ltb-false _ _ (sym w.is_far.ensures ∙ w.if-not-is_far.true)
    ] in
    subst (λ known. IsLook 3 (vec_len tables.parts) (len_of scan.winner) (c.count.new.self.looked - old.looked) (hash_map_len old.known) (hash_map_len known)) (sym (c.count.ensures.known ∙ same.known))
    (look_near (vec_len tables.parts) (len_of scan.winner) (c.count.new.self.looked - old.looked) (cells tables.parts.items c.args.rest.now) scan.reach (hash_map_len old.known)
    (omega (arith, c.count.ensures.looked, same.looked, c.winner-scan.ensures.looked)) c.winner-scan.ensures.most near)

pub returns-clause-counted : goal.returns-clause-counted
returns-clause-counted c less =
    let old = c.args.self.now in
    let same : HasSameEnds old c.if-place-self.self = elim c.if-place-self.branch [
      | then-place-self+in_default w ↦ subst (λ s. HasSameEnds old s) (sym w.self-is) w.found_at.ensures.ends
      | else-place-self w ↦ subst (λ s. HasSameEnds old s) (sym w.self-is) (record { known = refl; forgot = refl; looked = refl; chain = refl })
    ] in
    let up : min old.looked 18446744073709551615 ≤ c.if-place-self-2.self.looked = elim c.if-place-self-2.branch [
      | then-place-self-2+else-scan-le-FAR+else-not-is_far w ↦ omega (arith, ap (λ s. s.looked) w.self-is, w.count.ensures.looked, same.looked)
      | else-place-self-2 w ↦ omega (arith, ap (λ s. s.looked) w.self-is, same.looked)
    ] in
    omega (arith, less, up, c.count-2.ensures.looked, c.winner_of_parts_at-scan.ensures.looked)

pub returns-clause-work : goal.returns-clause-work
returns-clause-work c ps are kept =
    let old = c.args.self.now in
    let tables = c.args.tables.now in
    let scan = c.winner_of_parts_at-scan.result in
    let same : HasSameEnds old c.if-place-self.self = elim c.if-place-self.branch [
      | then-place-self+in_default w ↦ subst (λ s. HasSameEnds old s) (sym w.self-is) w.found_at.ensures.ends
      | else-place-self w ↦ subst (λ s. HasSameEnds old s) (sym w.self-is) (record { known = refl; forgot = refl; looked = refl; chain = refl })
    ] in
    let all = c.count-2.new.self.looked - old.looked in
    let after = hash_map_len c.count-2.new.self.known in
    let kept' = sym c.count-2.ensures.forgot ∙ kept in
    let known' : hash_map_len c.winner_of_parts_at-scan.new.self.known ≡ after = ap (λ m. hash_map_len m) (sym c.count-2.ensures.known) in
    let two = c.winner_of_parts_at-scan.ensures.work ps are kept' in
    elim c.if-place-self-2.branch [
      | then-place-self-2+else-scan-le-FAR+else-not-is_far w ↦
          let first : c.if-place-self-2.self.known ≡ old.known = ap (λ s. s.known) w.self-is ∙ w.count.ensures.known ∙ same.known in
          let one = c.winner_of_parts_at-scan.ensures.fresh ps are kept'
          (λ part row here le. ap (λ s. more_of s.known c.args.list part row here) w.self-is ∙ ap (λ m. more_of m c.args.list part row here) w.count.ensures.known ∙ c.if-place-self.self.up_to c.args.list part row here (omega (arith, w.if-place-self-2.true, le))) in
          subst (λ n. IsLook 3 (vec_len tables.parts) (len_of scan.winner) all n after) (ap (λ m. hash_map_len m) first)
          (subst (λ n. IsLook 3 (vec_len tables.parts) (len_of scan.winner) all (hash_map_len c.if-place-self-2.self.known) n) known'
          (look_far (vec_len tables.parts) (len_of scan.winner) w.winner-scan.result.looked (cells tables.parts.items c.args.rest.now) scan.looked (hash_map_len c.if-place-self-2.self.known)
          (hash_map_len c.winner_of_parts_at-scan.new.self.known) all w.winner-scan.ensures.looked one two
          (omega (arith, c.count-2.ensures.looked, c.winner_of_parts_at-scan.ensures.looked, ap (λ s. s.looked) w.self-is, w.count.ensures.looked, same.looked))))
      | else-place-self-2 w ↦
          let first : c.if-place-self-2.self.known ≡ old.known = ap (λ s. s.known) w.self-is ∙ same.known in
          subst (λ n. IsLook 3 (vec_len tables.parts) (len_of scan.winner) all n after) (ap (λ m. hash_map_len m) first)
          (subst (λ n. IsLook 3 (vec_len tables.parts) (len_of scan.winner) all (hash_map_len c.if-place-self-2.self.known) n) known'
          (look_again (vec_len tables.parts) (len_of scan.winner) scan.looked (hash_map_len c.if-place-self-2.self.known) (hash_map_len c.winner_of_parts_at-scan.new.self.known) all two
          (omega (arith, c.count-2.ensures.looked, c.winner_of_parts_at-scan.ensures.looked, ap (λ s. s.looked) w.self-is, same.looked))))
    ]

pub returns-then-scan-le-FAR-clause-linear : goal.returns-then-scan-le-FAR-clause-linear
returns-then-scan-le-FAR-clause-linear c ps most from are le is =
    let old = c.args.self.now in
    let before = c.if-place-self.self in
    let place = c.args.place in
    let parts = vec_len c.args.tables.now.parts in
    let len = len_of c.winner-scan.result.winner in
    let same : HasSameEnds old before = elim c.if-place-self.branch [
      | then-place-self+in_default w ↦ subst (λ s. HasSameEnds old s) (sym w.self-is) w.found_at.ensures.ends
      | else-place-self w ↦ subst (λ s. HasSameEnds old s) (sym w.self-is) (record { known = refl; forgot = refl; looked = refl; chain = refl })
    ] in
    let here : HasWorkedTo most from place before = elim c.if-place-self.branch [
      | then-place-self+in_default w ↦ subst (λ s. HasWorkedTo most from place s) (sym w.self-is) (w.found_at.ensures.linear most from is)
      | else-place-self w ↦ subst (λ s. HasWorkedTo most from place s) (sym w.self-is) is
    ] in
    linear_after most parts from place len before c.count.new.self here le c.count.ensures.ahead (λ was. c.count.ensures.forgot ∙ was)
    (λ kept. look_from parts len old before c.count.new.self same (returns-then-scan-le-FAR-clause-work c ps are kept))

pub returns-clause-linear : goal.returns-clause-linear
returns-clause-linear c ps most from are le is =
    let old = c.args.self.now in
    let before = c.if-place-self.self in
    let after = c.count-2.new.self in
    let place = c.args.place in
    let parts = vec_len c.args.tables.now.parts in
    let len = len_of c.winner_of_parts_at-scan.result.winner in
    let same : HasSameEnds old before = elim c.if-place-self.branch [
      | then-place-self+in_default w ↦ subst (λ s. HasSameEnds old s) (sym w.self-is) w.found_at.ensures.ends
      | else-place-self w ↦ subst (λ s. HasSameEnds old s) (sym w.self-is) (record { known = refl; forgot = refl; looked = refl; chain = refl })
    ] in
    let here : HasWorkedTo most from place before = elim c.if-place-self.branch [
      | then-place-self+in_default w ↦ subst (λ s. HasWorkedTo most from place s) (sym w.self-is) (w.found_at.ensures.linear most from is)
      | else-place-self w ↦ subst (λ s. HasWorkedTo most from place s) (sym w.self-is) is
    ] in
    let ahead : c.if-place-self-2.self.ahead ≡ before.ahead = elim c.if-place-self-2.branch [
      | then-place-self-2+else-scan-le-FAR+else-not-is_far w ↦ ap (λ s. s.ahead) w.self-is ∙ w.count.ensures.ahead
      | else-place-self-2 w ↦ ap (λ s. s.ahead) w.self-is
    ] in
    let forgot : c.if-place-self-2.self.forgot ≡ before.forgot = elim c.if-place-self-2.branch [
      | then-place-self-2+else-scan-le-FAR+else-not-is_far w ↦ ap (λ s. s.forgot) w.self-is ∙ w.count.ensures.forgot
      | else-place-self-2 w ↦ ap (λ s. s.forgot) w.self-is
    ] in
    linear_after most parts from place len before after here le (c.count-2.ensures.ahead ∙ c.winner_of_parts_at-scan.ensures.ahead ∙ ahead)
    (λ was. c.count-2.ensures.forgot ∙ c.winner_of_parts_at-scan.ensures.forgot (forgot ∙ was))
    (λ kept. look_from parts len old before after same (returns-clause-work c ps are kept))
