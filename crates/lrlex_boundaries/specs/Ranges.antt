-- Boundaries whose stacks are ranges of one list of entries.
use Rattle.std.specs.Prelude.{◌≡◌, ℕ, ◌+◌, ◌-◌, ◌*◌, ◌^◌, ◌<◌, ◌≤◌, max, Bool, List, All, [], ◌∷◌, ◌++◌, nat_eq, nat_le, nat_lt, if◌then◌else◌, length, take, drop, slice_range}
use Rattle.std.specs.List.{AllPairs}
use Rattle.lrlex_boundaries.specs.Boundaries.{Boundary}
use Rattle.lrlex_boundaries.specs.declared.stretch.Stretch.{Stretch}

-- what stands before the first stretch
abbrev pub no_stretch : Stretch
no_stretch = record { from = 0; first = 0; end = 0 }

-- the last stretch
abbrev pub last_stretch : Stretch → List Stretch → Stretch
last_stretch before [] = before
last_stretch before (s ∷ ss) = last_stretch s ss

-- the last of the stretches that begin at the boundary or before it
abbrev pub begun_by : Stretch → List Stretch → ℕ → Stretch
begun_by before [] k = before
begun_by before (s ∷ ss) k = begun_by (if nat_le s.from k then s else before) ss k

-- the stretch that the boundary is in
abbrev pub stretch_at : List Stretch → ℕ → Stretch
stretch_at ss k = begun_by no_stretch ss k

abbrev pub entries_of : List (ℕ × ℕ) → Stretch → List (ℕ × ℕ)
entries_of entries s = slice_range entries s.first s.end

-- the boundaries at these places, the first of which is the one at k
abbrev pub boundaries_from : List (ℕ × ℕ) → List Stretch → ℕ → List ℕ → List Boundary
boundaries_from entries ss k [] = []
boundaries_from entries ss k (p ∷ ps) = record { place = p; entries = entries_of entries (stretch_at ss k) } ∷ boundaries_from entries ss (k + 1) ps

-- the range lies in the list
pub record IsRange (len : ℕ) (s : Stretch) : Type 0 where
  pub ordered : s.first ≤ s.end
  pub within : s.end ≤ len

-- the greatest number of entries of a stretch
abbrev pub longest : List Stretch → ℕ
longest [] = 0
longest (s ∷ ss) = max (s.end - s.first) (longest ss)

-- how many entries the stretch has beyond those of the one before, where both begin with the same
abbrev pub own_entries : Stretch → Stretch → ℕ
own_entries before s = if nat_eq s.first before.first then s.end - before.end else s.end - s.first

-- how many entries the stretches have among them
abbrev pub entries_among : Stretch → List Stretch → ℕ
entries_among before [] = 0
entries_among before (s ∷ ss) = own_entries before s + entries_among s ss

-- whether more than half of the entries, and more than some, are beyond those that the stretches have among them
abbrev pub are_loose : List (ℕ × ℕ) → List Stretch → Bool
are_loose entries ss = nat_lt (2 * entries_among no_stretch ss + 64) (length entries)

-- the place once what stood at p stands at q
abbrev pub moved_place : ℕ → ℕ → ℕ → ℕ
moved_place p q place = (place + q) - p

-- the place fits the numbers once it is moved
pub record IsMovablePlace (p q place : ℕ) : Type 0 where
  pub from : p ≤ place
  pub fits : place + q < p + 2 ^ 64

-- the stretch once the boundary at i is the one at j
abbrev pub moved_stretch : ℕ → ℕ → Stretch → Stretch
moved_stretch i j s = record { from = moved_place i j s.from; first = s.first; end = s.end }

-- each stretch begins behind the one before
abbrev pub AreRising : List Stretch → Type 0
AreRising ss = AllPairs (λ s t. s.from < t.from) ss

-- the first n stretches, and no others, begin at the boundary or before it
pub record AreBegun (ss : List Stretch) (n k : ℕ) : Type 0 where
  pub within : n ≤ length ss
  pub begun : All (λ s. s.from ≤ k) (take n ss)
  pub later : All (λ s. k < s.from) (drop n ss)

-- the first n stretches, and no others, begin before the boundary
pub record AreBefore (ss : List Stretch) (n k : ℕ) : Type 0 where
  pub within : n ≤ length ss
  pub before : All (λ s. s.from < k) (take n ss)
  pub behind : All (λ s. k ≤ s.from) (drop n ss)

-- the stretch so many boundaries and entries further on
abbrev pub placed_stretch : ℕ → ℕ → Stretch → Stretch
placed_stretch k n s = record { from = s.from + k; first = s.first + n; end = s.end + n }

-- it fits the numbers there
pub record IsPlaceable (k n : ℕ) (s : Stretch) : Type 0 where
  pub from : s.from + k < 2 ^ 64
  pub first : s.first + n < 2 ^ 64
  pub end : s.end + n < 2 ^ 64

-- Stretches that stand for those of other boundaries from the one at k on, behind a stretch: with their ranges of the entries, each
-- boundary has the stack that it has there.
pub record StandFor (entries more : List (ℕ × ℕ)) (before : Stretch) (k : ℕ) (ss now : List Stretch) : Type 0 where
  pub ranges : All (IsRange (length more)) now
  pub rising : AreRising now
  pub behind : All (λ s. k ≤ s.from) now
  pub begun : (n : ℕ) → 0 < n → All (λ s. s.from < n) ss → All (λ s. s.from < k + n) now
  pub stacks : (i j : ℕ) → j ≡ k + i → entries_of more (begun_by before now j) ≡ entries_of entries (stretch_at ss i)

-- They stand behind the first so many stretches, up to the end that is told, in the place of those up to the passed ones.
pub record AreJoined (entries more : List (ℕ × ℕ)) (mine passed k : ℕ) (ss old new : List Stretch) (end : ℕ) : Type 0 where
  pub own : List Stretch
  pub is : new ≡ take mine old ++ (own ++ drop passed old)
  pub end_is : end ≡ mine + length own
  pub stand : StandFor entries more (last_stretch no_stretch (take mine old)) k ss own

-- the fields of the program's boundaries, once they are lists
pub record AreInOrder (entries : List (ℕ × ℕ)) (ss : List Stretch) (ps : List ℕ) : Type 0 where
  pub ranges : All (IsRange (length entries)) ss
  pub begun : All (λ s. s.from < length ps) ss
  pub rising : AreRising ss
