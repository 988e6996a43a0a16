-- The best match among the patterns of several tables.
use Rattle.std.proofs.Common.{◌≡◌, ℕ, ◌+◌, ◌<◌, ◌≤◌, ◌⊎◌, ◌||◌, Bool, true, false, List, All, [], ◌∷◌, length, map, take, get_or, IsUtf8, Option, Some, None, IfSome, refl, sym, ap, ◌∙◌, subst, inl, inr, arith}
use Rattle.std.proofs.lemmas.Bool.{cases_lt}
use Rattle.std.proofs.lemmas.List.{length-map, get_or-map}
use Rattle.std.proofs.lemmas.List.Elements.{All-get_or}
use Rattle.std.proofs.lemmas.List.Folds.{list_any_more}
use Rattle.std.proofs.lemmas.Str.{IsCharBoundary-start}
use Rattle.regex.specs.Patterns.{Re, empty}
use Rattle.lrlex_matching.specs.Matching.{match_length}
use Rattle.lrlex_table.specs.Table.{pattern_at, IsLongest, NoneMatches}
use Rattle.lrlex_table.specs.declared.merged_tables.Part.{Part}
use Rattle.lrlex_table.specs.declared.tables.Tables.{Tables}
use Rattle.lrlex_table.specs.Tables.{is_among, is_tabled, patterns_at, AreRising, ArePartsOf, AreTablesOf, IsPartOf, IsLongestOf, IsBestAmong, IsWinnerAmong, IsDecidedAmong, IsTableScanOf}
use Rattle.lrlex_table.specs.Reach.{IsDecidedBy}
use Rattle.lrlex_table.specs.declared.walk.TableScan.{TableScan}
use Rattle.lrlex_table.specs.declared.walk.PatternMatch.{PatternMatch}
use Rattle.lrlex_table.proofs.PrefixLemmas.{alike_less}
use Rattle.lrlex_table.proofs.LongestLemmas.{decided_of_matches}
use Rattle.lrlex_table.proofs.PartLemmas.{rising_within, rising_order, among_at}

-- among none
pub best_start : (ps : List Re) (among : ℕ → Bool) (text : List ℕ) → ((j : ℕ) → among j ≡ true → ⊥) → IsUtf8 text → IsBestAmong ps among text 0 0
best_start ps among text none utf8 = record {
  most = λ j lt is. absurd (none j is);
  takes = λ some. absurd (omega arith);
  first = λ some. absurd (omega arith);
  within = λ some. absurd (omega arith);
  cuts = IsCharBoundary-start text utf8;
}

-- the better of two is the best among the patterns of both
pub best_of_both : (ps : List Re) (one other among : ℕ → Bool) (text : List ℕ) (k n j m : ℕ) → IsBestAmong ps one text k n → IsBestAmong ps other text j m →
    m ≤ n → (m ≡ n → 0 < n → k ≤ j) → ((i : ℕ) → among i ≡ true → (one i ≡ true) ⊎ (other i ≡ true)) → IsBestAmong ps among text k n
best_of_both ps one other among text k n j m a b le earlier each = record {
  most = λ i lt is. elim (each i is) [
    | inl here ↦ a.most i lt here
    | inr there ↦ omega (arith, b.most i lt there)
  ];
  takes = a.takes;
  first = λ some i lt is. elim (each i is) [
    | inl here ↦ a.first some i lt here
    | inr there ↦ elim (cases_lt m n) [
      | inl less ↦ omega (arith, b.most i (omega (arith, a.within some)) there)
      | inr ge ↦ omega (arith, b.first (omega arith) i (omega (arith, earlier (omega arith) some)) there)
    ]
  ];
  within = a.within;
  cuts = a.cuts;
}

-- among fewer
pub best_of_fewer : (ps : List Re) (among fewer : ℕ → Bool) (text : List ℕ) (k n : ℕ) → ((i : ℕ) → fewer i ≡ true → among i ≡ true) → IsBestAmong ps among text k n →
    IsBestAmong ps fewer text k n
best_of_fewer ps among fewer text k n each best = record {
  most = λ j lt is. best.most j lt (each j is);
  takes = best.takes;
  first = λ some j lt is. best.first some j lt (each j is);
  within = best.within;
  cuts = best.cuts;
}

pub none_before : (parts : List Part) (k : ℕ) → is_tabled (take 0 parts) k ≡ true → ⊥
none_before [] k is = cc
none_before (p ∷ ps) k is = cc

pub either_false : (b : Bool) → (b || false) ≡ true → b ≡ true
either_false true is = refl
either_false false is = is

-- one more part
pub tabled_more : (parts : List Part) (i : ℕ) (d : Part) → i < length parts → (k : ℕ) → is_tabled (take (i + 1) parts) k ≡ true →
    (is_tabled (take i parts) k || is_among (get_or parts i d).patterns.items k) ≡ true
tabled_more parts i d lt k is = sym (list_any_more (λ (p : Part). is_among p.patterns.items k) parts i d lt) ∙ is

-- ---- the winner of a part

pub length_of : (ps : List Re) (patterns : List ℕ) (text : List ℕ) (i : ℕ) → i < length patterns →
    match_length (pattern_at (map (λ k. pattern_at ps k) patterns) i) text ≡ match_length (pattern_at ps (get_or patterns i 0)) text
length_of ps patterns text i lt = ap (λ re. match_length re text) (get_or-map (λ k. pattern_at ps k) patterns i 0 empty lt)

pub part_matches_none : (ps : List Re) (patterns : List ℕ) (text : List ℕ) → NoneMatches (map (λ k. pattern_at ps k) patterns) text → IsUtf8 text →
    IsBestAmong ps (is_among patterns) text 0 0
part_matches_none ps patterns text none utf8 = record {
  most = λ j lt is.
      let at = among_at patterns j is in
      let zero = none at.0 (omega (arith, at.1, length-map patterns (λ k. pattern_at ps k))) in
      let same : match_length (pattern_at ps j) text ≡ 0 = ap (λ r. match_length (pattern_at ps r) text) (sym at.2) ∙ sym (length_of ps patterns text at.0 at.1) ∙ zero in
      omega arith;
  takes = λ some. absurd (omega arith);
  first = λ some. absurd (omega arith);
  within = λ some. absurd (omega arith);
  cuts = IsCharBoundary-start text utf8;
}

pub part_matches_best : (ps : List Re) (patterns : List ℕ) (text : List ℕ) (k n : ℕ) → AreRising 0 (length ps) patterns → IsLongest (map (λ j. pattern_at ps j) patterns) text k n →
    IsBestAmong ps (is_among patterns) text (get_or patterns k 0) n
part_matches_best ps patterns text k n rises best =
    let len = length-map patterns (λ j. pattern_at ps j) in
    let within : k < length patterns = omega (arith, len, best.within) in
    record {
      most = λ j lt is.
          let at = among_at patterns j is in
          let same : match_length (pattern_at ps j) text ≡ match_length (pattern_at (map (λ i. pattern_at ps i) patterns) at.0) text
          = ap (λ r. match_length (pattern_at ps r) text) (sym at.2) ∙ sym (length_of ps patterns text at.0 at.1) in
          omega (arith, best.greatest at.0 (omega (arith, at.1, len)));
      takes = λ some. sym (length_of ps patterns text k within) ∙ best.takes;
      first = λ some j lt is.
          let at = among_at patterns j is in
          let same : match_length (pattern_at ps j) text ≡ match_length (pattern_at (map (λ i. pattern_at ps i) patterns) at.0) text
          = ap (λ r. match_length (pattern_at ps r) text) (sym at.2) ∙ sym (length_of ps patterns text at.0 at.1) in
          omega (arith, best.earliest at.0 (rising_order 0 (length ps) patterns at.0 k rises at.1 (omega (arith, at.2))));
      within = λ some. (rising_within 0 (length ps) patterns k rises within).1;
      cuts = best.cuts;
    }

-- ---- what decides a scan by several tables

pub decided_farther : (ps : List Re) (among : ℕ → Bool) (text : List ℕ) (n m : ℕ) → n ≤ m → IsDecidedAmong ps among text n → IsDecidedAmong ps among text m
decided_farther ps among text n m le is other also same k lt this = is other also (alike_less n m text other le same) k lt this

pub decided_both : (ps : List Re) (one other among : ℕ → Bool) (text : List ℕ) (n : ℕ) → IsDecidedAmong ps one text n → IsDecidedAmong ps other text n →
    ((k : ℕ) → among k ≡ true → (one k ≡ true) ⊎ (other k ≡ true)) → IsDecidedAmong ps among text n
decided_both ps one other among text n a b each now also same k lt this = elim (each k this) [
  | inl here ↦ a now also same k lt here
  | inr there ↦ b now also same k lt there
]

pub decided_part : (ps : List Re) (patterns text : List ℕ) (n : ℕ) → IsDecidedBy (map (λ k. pattern_at ps k) patterns) text n → IsDecidedAmong ps (is_among patterns) text n
decided_part ps patterns text n is other also same k lt this =
    let at = among_at patterns k this in
    let here : match_length (pattern_at ps (get_or patterns at.0 0)) other ≡ match_length (pattern_at ps (get_or patterns at.0 0)) text
    = sym (length_of ps patterns other at.0 at.1) ∙ is.matches other also same at.0 (omega (arith, at.1, length-map patterns (λ j. pattern_at ps j))) ∙ length_of ps patterns text at.0 at.1 in
    subst (λ j. match_length (pattern_at ps j) other ≡ match_length (pattern_at ps j) text) at.2 here

tabled_or_not : (b : Bool) → (b ≡ false → false ≡ true) → b ≡ true
tabled_or_not true h = refl
tabled_or_not false h = h refl

-- where each pattern has a table
pub decided_all : (ps : List Re) (parts : List Part) (asked text : List ℕ) (n : ℕ) → ArePartsOf ps 0 (length ps) parts asked → asked ≡ [] →
    IsDecidedAmong ps (is_tabled parts) text n → IsDecidedBy ps text n
decided_all ps parts asked text n are none is =
    decided_of_matches ps text n (λ other also same k lt.
    is other also same k lt
    (tabled_or_not (is_tabled parts k) (λ bare. sym (ap (λ xs. is_among xs k) none) ∙ are.each k (omega arith) lt bare)))

pub scan_start : (ps : List Re) (among : ℕ → Bool) (text : List ℕ) → ((j : ℕ) → among j ≡ true → ⊥) → IsUtf8 text → IsTableScanOf ps among text (record { winner = None; reach = 0; looked = 0 })
scan_start ps among text none utf8 = record {
  winner = best_start ps among text none utf8;
  decided = λ other also same k lt this. absurd (none k this);
}

winner_of_fewer : (ps : List Re) (among fewer : ℕ → Bool) (text : List ℕ) (o : Option PatternMatch) → ((i : ℕ) → fewer i ≡ true → among i ≡ true) → IsWinnerAmong ps among text o →
    IsWinnerAmong ps fewer text o
winner_of_fewer ps among fewer text None each best = best_of_fewer ps among fewer text 0 0 each best
winner_of_fewer ps among fewer text (Some t) each best = (best.0, best_of_fewer ps among fewer text t.pattern t.len each best.1)

pub scan_of_fewer : (ps : List Re) (among fewer : ℕ → Bool) (text : List ℕ) (s : TableScan) → ((i : ℕ) → fewer i ≡ true → among i ≡ true) → IsTableScanOf ps among text s →
    IsTableScanOf ps fewer text s
scan_of_fewer ps among fewer text s each is = record {
  winner = winner_of_fewer ps among fewer text s.winner each is.winner;
  decided = λ other also same k lt this. is.decided other also same k lt (each k this);
}

-- where there is only one table, its scan is that of all
pub only_part : (ps : List Re) (t : Tables) (part : Part) (text : List ℕ) (s : TableScan) → t.parts.items ≡ part ∷ [] → AreTablesOf ps t →
    (IsPartOf ps 0 (length ps) part → IsTableScanOf ps (is_among part.patterns.items) text s) → IsTableScanOf ps (is_tabled t.parts.items) text s
only_part ps t part text s only are sees =
    scan_of_fewer ps (is_among part.patterns.items) (is_tabled t.parts.items) text s
    (λ k some. either_false (is_among part.patterns.items k) (subst (λ xs. is_tabled xs k ≡ true) only some))
    (sees (All-get_or (IsPartOf ps 0 (length ps)) (part ∷ []) 0 part (omega arith) (subst (All (IsPartOf ps 0 (length ps))) only are.are)))

-- the winner among the patterns at these places is one of them
pub among_places : (ps : List Re) (places text : List ℕ) (found : Option PatternMatch) → IsLongestOf (patterns_at ps places) text found → IfSome found (λ t. t.pattern < length places)
among_places ps places text None is = tt
among_places ps places text (Some t) is = subst (λ n. t.pattern < n) (length-map places (λ k. pattern_at ps k)) is.within
