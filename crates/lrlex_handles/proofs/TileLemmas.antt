-- Tiles of a scanner, one after the other.
use Rattle.std.proofs.Common.{◌≡◌, ℕ, ◌<◌, List, [], ◌∷◌, ◌++◌, length, sym, ap, ap₂, ◌∙◌, subst, set, arith}
use Rattle.lrlex_rules.specs.Definition.{Definition}
use Rattle.lrlex.specs.Scanner.{IsPlaceOf, IsStep, Scanned, past, standing}
use Rattle.lrlex.specs.declared.lexing.cursor.ScanPlace.{ScanPlace}
use Rattle.lrlex.specs.declared.lexing.scanner.ScannedTile.{ScannedTile}
use Rattle.lrlex.specs.declared.lexing.scanner.Step.TheVariants.{Tile as Found}
use Rattle.lrlex_handles.specs.Buffers.{filled}
use Rattle.lrlex_handles.specs.Scans.{AreNext, LeadTo}
use Rattle.lrlex_handles.specs.declared.structs.Scanned as told
use Rattle.lrlex_handles.specs.declared.structs.Tile.{Tile}

-- one more step
pub lead_more : (s : Scanned) (xs : List (ScannedTile ℕ)) (m : Scanned) (x : ScannedTile ℕ) → LeadTo s xs m → IsStep (λ n. n) m (Found x) → LeadTo s (xs ++ x ∷ []) (past m x)
lead_more s [] m x h step = (subst (λ z. IsStep (λ n. n) z (Found x)) h step, ap (λ z. past z x) h)
lead_more s (y ∷ ys) m x h step = (h.0, lead_more (past s y) ys m x h.1 step)

-- steps change neither the definition nor the text, nor how many cells it may look at
pub lead_definition : (s : Scanned) (xs : List (ScannedTile ℕ)) (t : Scanned) → LeadTo s xs t → t.definition ≡ s.definition
lead_definition s [] t h = ap (λ (z : Scanned). z.definition) h
lead_definition s (y ∷ ys) t h = lead_definition (past s y) ys t h.1

pub lead_text : (s : Scanned) (xs : List (ScannedTile ℕ)) (t : Scanned) → LeadTo s xs t → t.text ≡ s.text
lead_text s [] t h = ap (λ (z : Scanned). z.text) h
lead_text s (y ∷ ys) t h = lead_text (past s y) ys t h.1

pub lead_cells : (s : Scanned) (xs : List (ScannedTile ℕ)) (t : Scanned) → LeadTo s xs t → t.most_cells ≡ s.most_cells
lead_cells s [] t h = ap (λ (z : Scanned). z.most_cells) h
lead_cells s (y ∷ ys) t h = lead_cells (past s y) ys t h.1

-- one more item in the buffer, behind all others
pub filled_more : {X T : Type 0} (put : X → T → T) (xs : List X) (x : X) (room : List T) (v : T) → length xs < length room → ((t : T) → put x t ≡ v)
    → set (filled put xs room) (length xs) v ≡ filled put (xs ++ x ∷ []) room
filled_more put [] x [] v lt gives = let z : ⊥ = omega (arith, lt) in absurd z
filled_more put [] x (t ∷ ts) v lt gives = ap (λ u. u ∷ ts) (sym (gives t))
filled_more put (y ∷ ys) x [] v lt gives = let z : ⊥ = omega (arith, lt) in absurd z
filled_more put (y ∷ ys) x (t ∷ ts) v lt gives = let le : length ys < length ts = omega (arith, lt) in ap (λ us. put y t ∷ us) (filled_more put ys x ts v le gives)

-- where a scanner stands in the end, by the definition, the text and the most cells that it began with
pub stands_at : (d : Definition) (text : List ℕ) (most : ℕ) (room tiles : List Tile) (out : told.Scanned) (s z : Scanned) (p q : ScanPlace)
    → s ≡ standing d text p most → z ≡ standing z.definition z.text q z.most_cells → AreNext s room tiles out z → z ≡ standing d text q most
stands_at d text most room tiles out s z p q front back h =
    let same : z.definition ≡ d = lead_definition s h.found z h.steps ∙ ap (λ (x : Scanned). x.definition) front in
    let kept : z.text ≡ text = lead_text s h.found z h.steps ∙ ap (λ (x : Scanned). x.text) front in
    let cells : z.most_cells ≡ most = lead_cells s h.found z h.steps ∙ ap (λ (x : Scanned). x.most_cells) front in
    back ∙ ap₂ (λ x y. standing x y q z.most_cells) same kept ∙ ap (standing d text q) cells

pub next_standing : (d : Definition) (text : List ℕ) (most : ℕ) (room tiles : List Tile) (out : told.Scanned) (s z : Scanned) (p q : ScanPlace)
    → s ≡ standing d text p most → z ≡ standing z.definition z.text q z.most_cells → AreNext s room tiles out z
    → AreNext (standing d text p most) room tiles out (standing d text q most)
next_standing d text most room tiles out s z p q front back h =
    subst (λ x. AreNext (standing d text p most) room tiles out x) (stands_at d text most room tiles out s z p q front back h) (subst (λ x. AreNext x room tiles out z) front h)

pub place_standing : (d : Definition) (text : List ℕ) (most : ℕ) (room tiles : List Tile) (out : told.Scanned) (s z : Scanned) (p q : ScanPlace)
    → s ≡ standing d text p most → z ≡ standing z.definition z.text q z.most_cells → AreNext s room tiles out z → IsPlaceOf z.definition z.text q → IsPlaceOf d text q
place_standing d text most room tiles out s z p q front back h at =
    let end = stands_at d text most room tiles out s z p q front back h in
    subst (λ t. IsPlaceOf d t q) (ap (λ (x : Scanned). x.text) end) (subst (λ e. IsPlaceOf e z.text q) (ap (λ (x : Scanned). x.definition) end) at)
