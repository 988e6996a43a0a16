-- Edits of parts of lists, and changes in a row.
use Rattle.std.proofs.Common.{◌≡◌, ℕ, ◌+◌, ◌-◌, ◌≤◌, List, ◌++◌, length, take, drop, sym, ◌∙◌, ap, ap₂, arith, append_assoc}
use Rattle.std.proofs.lemmas.List.{take-append-drop, take-take, drop-take, drop-drop, length-drop, map-id}
use Rattle.lrlex_lsp.specs.Changes.{replaced}
use Rattle.lrlex.specs.Changes.{IsChange}
use Rattle.lrlex.specs.declared.editing.changes.Change.{Change}

-- an edit of a part, done in the whole
pub part_replaced : (xs put more : List ℕ) (from to start removed : ℕ) → from ≤ to → start + removed ≤ to - from
    → replaced (take (to - from) (drop from xs)) start removed more ≡ put → replaced xs (from + start) removed more ≡ take from xs ++ (put ++ drop to xs)
part_replaced xs put more from to start removed order fits e =
    let part = take (to - from) (drop from xs) in
    let m = start + removed in
    let d = to - from - m in
    let front : take (from + start) xs ≡ take from xs ++ take start part =
    sym (take-append-drop from (take (from + start) xs))
    ∙ ap₂ (λ a b. a ++ b) (take-take from (from + start) xs (omega arith)) (drop-take from start xs ∙ sym (take-take start (to - from) (drop from xs) (omega (arith, fits)))) in
    let long : to - from ≡ m + d = omega (arith, fits) in
    let there : drop m part ≡ take d (drop (from + m) xs) =
    ap (λ n. drop m (take n (drop from xs))) long ∙ drop-take m d (drop from xs) ∙ ap (take d) (drop-drop m from xs) in
    let at : to ≡ from + m + d = omega (arith, fits, order) in
    let behind : drop to xs ≡ drop d (drop (from + m) xs) = ap (λ n. drop n xs) at ∙ sym (drop-drop d (from + m) xs) in
    let back : drop (from + start + removed) xs ≡ drop m part ++ drop to xs =
    (let same : from + start + removed ≡ from + m = omega arith in ap (λ n. drop n xs) same)
    ∙ sym (take-append-drop d (drop (from + m) xs)) ∙ ap₂ (λ a b. a ++ b) (sym there) (sym behind) in
    ap₂ (λ a b. a ++ (more ++ b)) front back
    ∙ append_assoc (take from xs) (take start part) (more ++ (drop m part ++ drop to xs))
    ∙ ap (λ l. take from xs ++ (take start part ++ l)) (sym (append_assoc more (drop m part) (drop to xs)))
    ∙ ap (λ l. take from xs ++ l) (sym (append_assoc (take start part) (more ++ drop m part) (drop to xs)))
    ∙ ap (λ l. take from xs ++ (l ++ drop to xs)) e

-- as much follows the new part as followed the old one
pub same_rest : (c : Change) (old new : List ℕ) → IsChange (λ x. x) c old new → length new - (c.first + c.inserted) ≡ length old - (c.first + c.removed)
same_rest c old new h =
    omega (arith, length-drop (c.first + c.inserted) new, length-drop (c.first + c.removed) old, ap length h.after, ap length (map-id (drop (c.first + c.removed) old)))

-- what one change and then another do, as one: both go up to `end` in the list between
pub joins : (one other both : Change) (old mid new : List ℕ) (end : ℕ) → IsChange (λ x. x) one old mid → IsChange (λ x. x) other mid new
    → both.first ≤ one.first → both.first ≤ other.first → end ≤ length mid
    → one.first + one.inserted ≤ end → other.first + other.removed ≤ end
    → both.first + both.removed ≡ one.first + one.removed + (end - (one.first + one.inserted))
    → both.first + both.inserted ≡ other.first + other.inserted + (end - (other.first + other.removed))
    → IsChange (λ x. x) both old new
joins one other both old mid new end h k low low' within from from' removed inserted =
    let F = both.first in
    let a = one.first + one.inserted in
    let b = other.first + other.removed in
    let up : a + (end - a) ≡ b + (end - b) = omega (arith, from, from') in
    record {
      before =
          sym (take-take F other.first new low') ∙ ap (take F) k.before ∙ take-take F other.first mid low'
          ∙ sym (take-take F one.first mid low) ∙ ap (take F) h.before ∙ take-take F one.first old low;
      after =
          ap (λ n. drop n new) inserted ∙ sym (drop-drop (end - b) (other.first + other.inserted) new) ∙ ap (drop (end - b)) (k.after ∙ map-id (drop b mid)) ∙ drop-drop (end - b) b mid
          ∙ ap (λ n. drop n mid) (sym up) ∙ sym (drop-drop (end - a) a mid)
          ∙ ap (drop (end - a)) (h.after ∙ map-id (drop (one.first + one.removed) old)) ∙ drop-drop (end - a) (one.first + one.removed) old
          ∙ ap (λ n. drop n old) (sym removed) ∙ sym (map-id (drop (F + both.removed) old));
      in_old = omega (arith, removed, within, from, same_rest one old mid h, h.in_old, h.in_new);
      in_new = omega (arith, inserted, within, from', same_rest other mid new k, k.in_old, k.in_new);
    }
