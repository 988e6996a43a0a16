-- Writing one text after another.
use Rattle.std.proofs.Common.{◌≡◌, ℕ, ◌+◌, List, [], ◌++◌, length, take, Option, Result, Ok, Err, sym, subst, ap, ◌∙◌, arith, append_assoc, append-nil}
use lib.Seq.{take-append-le, take-append-add, take_all}
use Rattle.std.proofs.KnownBytes.{Appends-nil, Appends-trans}
use Rattle.std.proofs.lemmas.List.{length-append}
use Rattle.std.specs.Io.KnownBytes.{Appends}
use Rattle.std.specs.Result.{IsErr}
use Rattle.lrlex_cli.specs.Writing.{AppendsFront, Writes, WritesSome, WritesUpTo, Passes}

-- where the first of two texts wasn't written to its end, both weren't
pub first_fails : (old new : Option (List ℕ)) (a b : List ℕ) → AppendsFront old new a → AppendsFront old new (a ++ b)
first_fails old new a b (n, less, has) =
    let both = length-append a b in
    (n, omega arith, subst (Appends old new) (sym (take-append-le n a b (omega arith))) has)

-- nor where it was, and the second wasn't
second_fails : (old mid new : Option (List ℕ)) (a b : List ℕ) → Appends old mid a → AppendsFront mid new b → AppendsFront old new (a ++ b)
second_fails old mid new a b first (n, less, has) =
    let both = length-append a b in
    (length a + n, omega arith, subst (Appends old new) (sym (take-append-add a b n)) (Appends-trans old mid new a (take n b) first has))

-- after the first text, writing the second writes both
pub writes_both : {T E : Type 0} (old mid new : Option (List ℕ)) (r : Result T E) (a b : List ℕ) → Appends old mid a → Writes mid new r b → Writes old new r (a ++ b)
writes_both old mid new (Ok x) a b first h = Appends-trans old mid new a b first h
writes_both old mid new (Err e) a b first h = second_fails old mid new a b first h

-- an error while the second of three texts was written
pub second_of_three : {T E : Type 0} (old mid new : Option (List ℕ)) (r : Result T E) (a b c : List ℕ) → IsErr r → Appends old mid a → AppendsFront mid new b → Writes old new r (a ++ (b ++ c))
second_of_three old mid new (Ok x) a b c h first second = cc
second_of_three old mid new (Err e) a b c h first second = second_fails old mid new a (b ++ c) first (first_fails mid new b c second)

-- some beginning was written, whatever the writer answered
pub some_written : {T E : Type 0} (old new : Option (List ℕ)) (r : Result T E) (bs : List ℕ) → Writes old new r bs → WritesSome old new bs
some_written old new (Ok x) bs h = (length bs, subst (Appends old new) (sym (take_all (length bs) bs (omega arith))) h)
some_written old new (Err e) bs (n, less, has) = (n, has)

-- after the first text, writing the second leaves none that waits
pub none_waits : {T E : Type 0} (old mid new : Option (List ℕ)) (r : Result T E) (a b w : List ℕ) → Appends old mid a → Writes mid new r b → w ≡ [] → Passes old new r (a ++ b) w
none_waits old mid new (Ok x) a b w first h none =
    (a ++ b, Appends-trans old mid new a b first h, ap (λ l. (a ++ b) ++ l) none ∙ append-nil (a ++ b))
none_waits old mid new (Err e) a b w first h none = second_fails old mid new a b first h

-- behind what waits of a, b is passed on
pub passes_more : {T E : Type 0} (old mid new : Option (List ℕ)) (r : Result T E) (a b w v : List ℕ) → WritesUpTo old mid a w → Passes mid new r (w ++ b) v
    → Passes old new r (a ++ b) v
passes_more old mid new (Ok x) a b w v (front, first, is) (back, second, same) = (
  front ++ back,
  Appends-trans old mid new front back first second,
  append_assoc front back v ∙ ap (λ l. front ++ l) same ∙ sym (append_assoc front w b) ∙ ap (λ l. l ++ b) is,
)
passes_more old mid new (Err e) a b w v (front, first, is) h =
    subst (AppendsFront old new) (sym (append_assoc front w b) ∙ ap (λ l. l ++ b) is) (second_fails old mid new front (w ++ b) first h)

-- where a wasn't written to its end, neither was what begins with it
pub begun_fails : (old new : Option (List ℕ)) (a b c : List ℕ) → a ++ b ≡ c → AppendsFront old new a → AppendsFront old new c
begun_fails old new a b c is h = subst (AppendsFront old new) is (first_fails old new a b h)

-- an error while a was passed on, with which c begins
pub passes_cut : {T E : Type 0} (old new : Option (List ℕ)) (r : Result T E) (a b c v : List ℕ) → IsErr r → a ++ b ≡ c → AppendsFront old new a → Passes old new r c v
passes_cut old new (Ok x) a b c v err is h = cc
passes_cut old new (Err e) a b c v err is h = begun_fails old new a b c is h

-- two texts, behind what waits
pub passes_both : {T E : Type 0} (old mid new : Option (List ℕ)) (r : Result T E) (w a b u v : List ℕ) → WritesUpTo old mid (w ++ a) u → Passes mid new r (u ++ b) v
    → Passes old new r (w ++ (a ++ b)) v
passes_both old mid new r w a b u v first h =
    subst (λ l. Passes old new r l v) (append_assoc w a b) (passes_more old mid new r (w ++ a) b u v first h)

-- of a text that is written another way
pub passes_as : {T E : Type 0} (old new : Option (List ℕ)) (r : Result T E) (a b v : List ℕ) → a ≡ b → Passes old new r a v → Passes old new r b v
passes_as old new r a b v is h = subst (λ l. Passes old new r l v) is h

pub up_to_as : (old new : Option (List ℕ)) (a b v : List ℕ) → a ≡ b → WritesUpTo old new a v → WritesUpTo old new b v
up_to_as old new a b v is h = subst (λ l. WritesUpTo old new l v) is h

pub front_as : (old new : Option (List ℕ)) (a b : List ℕ) → a ≡ b → AppendsFront old new a → AppendsFront old new b
front_as old new a b is h = subst (AppendsFront old new) is h

-- more of what is written
pub up_to_more : (old mid new : Option (List ℕ)) (a b w v : List ℕ) → WritesUpTo old mid a w → WritesUpTo mid new (w ++ b) v → WritesUpTo old new (a ++ b) v
up_to_more old mid new a b w v first h = passes_more {T = Unit {0}} {E = Unit {0}} old mid new (Ok tt) a b w v first h

pub up_to_fails : (old mid new : Option (List ℕ)) (a b w : List ℕ) → WritesUpTo old mid a w → AppendsFront mid new (w ++ b) → AppendsFront old new (a ++ b)
up_to_fails old mid new a b w first h = passes_more {T = Unit {0}} {E = Unit {0}} old mid new (Err tt) a b w w first h

-- what waited is written
pub up_to_end : {T E : Type 0} (old mid new : Option (List ℕ)) (r : Result T E) (a b w : List ℕ) → a ≡ b → WritesUpTo old mid a w → Writes mid new r w → Writes old new r b
up_to_end old mid new r a b w is (front, first, same) h = subst (λ l. Writes old new r l) (same ∙ is) (writes_both old mid new r front w first h)

-- an error while a was written, with which c begins
pub writes_cut : {T E : Type 0} (old new : Option (List ℕ)) (r : Result T E) (a b c : List ℕ) → IsErr r → a ++ b ≡ c → AppendsFront old new a → Writes old new r c
writes_cut old new (Ok x) a b c err is h = cc
writes_cut old new (Err e) a b c err is h = begun_fails old new a b c is h

-- where there is nothing to pass on
pub passes_nothing : (bytes : Option (List ℕ)) (w text : List ℕ) → text ≡ [] → WritesUpTo bytes bytes (w ++ text) w
passes_nothing bytes w text none = ([], Appends-nil bytes, sym (append-nil w) ∙ ap (λ l. w ++ l) (sym none))
