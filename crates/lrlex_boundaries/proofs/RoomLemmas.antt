-- What putting values into a list in place of some of its own leaves of the list.
use Rattle.std.proofs.Common.{◌≡◌, ℕ, ◌+◌, ◌-◌, ◌≤◌, List, [], ◌++◌, length, take, drop, refl, sym, ap, ap₂, ◌∙◌, arith, length-append, length-drop, length-take-le}
use Rattle.std.proofs.lemmas.List.{append-nil, drop-append-le, drop-drop, drop_at, take-append-le, take-take, take_at}
use Rattle.std.specs.List.{copy_within}
use Rattle.std.specs.Prelude.{Result, Ok, Err, IfOk, IsErr, OnErr}
use borrow.Rule.Slice.PartMut.{put_mid}

module _ {X : Type 0} where
  -- a list that is another one up to `a`, and that has from `e` on what the other has from `b` on
  pub record HasRoom (old xs : List X) (a b e : ℕ) : Type 0 where
    pub within : e ≤ length xs
    pub front : take a xs ≡ take a old
    pub behind : drop e xs ≡ drop b old

  pub has_room_already : {old xs : List X} {b e : ℕ} (a : ℕ) → xs ≡ old → e ≡ b → b ≤ length old → HasRoom old xs a b e
  has_room_already {old} {xs} {b} {e} a is at within = record {
    within = omega (arith, ap length is);
    front = ap (take a) is;
    behind = ap₂ drop at is;
  }

  -- the values behind those that go, moved to behind those that come
  pub moved_up : {old xs more moved : List X} (between : List X) (a b e n i : ℕ) → a ≤ b → a ≤ e → b ≤ n → n ≡ length old → more ≡ old ++ take i between → i ≡ e - b → i ≤ length between →
      moved ≡ copy_within more b n e → xs ≡ take (e + (n - b)) moved → HasRoom old xs a b e
  moved_up {old} {xs} {more} {moved} between a b e n i ab ae bn long is at few moved_is xs_is =
      let added = take i between in
      let all : length more ≡ n + i = omega (arith, ap length is, length-append old added, length-take-le i between few) in
      let front = take e more in
      let rest = take (n - b) (drop b more) in
      let front_long : length front ≡ e = length-take-le e more (omega arith) in
      let rest_long : length rest ≡ n - b = length-take-le (n - b) (drop b more) (omega (arith, length-drop b more)) in
      let parts : xs ≡ front ++ rest =
      xs_is ∙ ap (take (e + (n - b))) moved_is ∙ take_at (front ++ rest) (drop (e + (n - b)) more) (e + (n - b)) (omega (arith, length-append front rest)) in
      let rest_is : rest ≡ drop b old =
      ap (λ ys. take (n - b) (drop b ys)) is ∙ ap (take (n - b)) (drop-append-le b old added (omega arith))
      ∙ take_at (drop b old) added (n - b) (omega (arith, length-drop b old)) in
      record {
        within = omega (arith, ap length parts, length-append front rest);
        front = ap (take a) parts ∙ take-append-le a front rest (omega arith) ∙ take-take a e more ae ∙ ap (take a) is ∙ take-append-le a old added (omega arith);
        behind = ap (drop e) parts ∙ drop_at front rest e front_long ∙ rest_is;
      }

  -- and the values that come, between them
  pub put_between : {old xs ys between : List X} {a b e : ℕ} → HasRoom old xs a b e → a ≤ e → ys ≡ between → put_mid a (e - a) xs ys ≡ take a old ++ (between ++ drop b old)
  put_between {old} {xs} {ys} {between} {a} {b} {e} h le is =
      let end : a + (e - a) ≡ e = omega arith in
      ap₂ ◌++◌ h.front (ap₂ ◌++◌ is (drop-drop (e - a) a xs ∙ ap (λ i. drop i xs) end ∙ h.behind))

  pub part_length : (xs : List X) (a e : ℕ) → e ≤ length xs → length (take (e - a) (drop a xs)) ≡ e - a
  part_length xs a e within = length-take-le (e - a) (drop a xs) (omega (arith, length-drop a xs))

  pub length-put_mid : (xs ys : List X) (a k : ℕ) → a + k ≤ length xs → length ys ≡ k → length (put_mid a k xs ys) ≡ length xs
  length-put_mid xs ys a k within long =
      let rest = drop k (drop a xs) in
      omega (arith, length-append (take a xs) (ys ++ rest), length-append ys rest, length-take-le a xs (omega arith), length-drop k (drop a xs), length-drop a xs)

  -- a list with values behind those of another
  pub longer_by : (old more : List X) {new : List X} → new ≡ old ++ more → new ≡ old ++ drop (length old) new
  longer_by old more {new} e = e ∙ ap (λ ys. old ++ ys) (sym (ap (drop (length old)) e ∙ drop_at old more (length old) refl))

  pub same_behind : {old new : List X} → new ≡ old → new ≡ old ++ drop (length old) new
  same_behind {old} e = longer_by old [] (e ∙ sym (append-nil old))

pub on_err : {T E : Type 0} {P : Type 0} (r : Result T E) → P → OnErr r P
on_err (Ok x) p = tt
on_err (Err e) p = p

pub none_of_err : {T E : Type 0} (r : Result T E) (P : T → Type 0) → IsErr r → IfOk r P
none_of_err (Ok x) P h = absurd (cc h)
none_of_err (Err e) P h = tt
