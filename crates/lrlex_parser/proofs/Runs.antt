-- Events, one item after another.
use Rattle.std.proofs.Common.{◌≡◌, ℕ, ◌+◌, ◌<◌, Bool, true, false, List, [], ◌∷◌, ◌++◌, length, take, drop, get_or, map, refl, sym, ap, ◌∙◌}
use Rattle.std.specs.Prelude.{if◌then◌else◌}
use Rattle.std.proofs.lemmas.List.{take_more, map_push, take-append-drop, append_assoc, append-nil}
use Rattle.std.specs.List.{flat_map}
use Rattle.lrlex_parser.specs.Event.{Event, is_refused}
use Rattle.lrlex_parser.specs.Outcome.{events_after}

-- one item more at the end
chosen : (b : Bool) (es rest more : List Event) (g : List Event → Event) → is_refused es ≡ b → is_refused (if b then es else rest) ≡ false → (is_refused rest ≡ false → more ≡ rest ++ g rest ∷ [])
    → (if b then es else more) ≡ (if b then es else rest) ++ g (if b then es else rest) ∷ []
chosen true es rest more g e h k = cc
chosen false es rest more g e h k = k h

pub events_after-push : {X : Type 0} (f : List Event → X → Event) (events : List Event) (xs : List X) (x : X) → is_refused (events_after f events xs) ≡ false
    → events_after f events (xs ++ x ∷ []) ≡ events_after f events xs ++ f (events_after f events xs) x ∷ []
events_after-push f events [] x h = rw h refl
events_after-push f events (y ∷ ys) x h =
    let next = events ++ f events y ∷ [] in
    chosen (is_refused events) events (events_after f next ys) (events_after f next (ys ++ x ∷ [])) (λ es. f es x) refl h (events_after-push f next ys x)

-- the same at a list that is read by index, where v is what an item means
pub events_after_more : {X Y : Type 0} (f : List Event → X → Event) (v : Y → X) (events : List Event) (ys : List Y) (i : ℕ) (d : Y) → i < length ys → is_refused (events_after f events (map v (take i ys))) ≡ false
    → events_after f events (map v (take i ys)) ++ f (events_after f events (map v (take i ys))) (v (get_or ys i d)) ∷ [] ≡ events_after f events (map v (take (i + 1) ys))
events_after_more f v events ys i d lt h =
    sym (events_after-push f events (map v (take i ys)) (v (get_or ys i d)) h) ∙ ap (events_after f events) (sym (ap (map v) (take_more ys i d lt) ∙ map_push v (take i ys) (get_or ys i d)))

-- none follows a fatal one
pub events_after_refused : {X : Type 0} (f : List Event → X → Event) (events : List Event) (xs : List X) → is_refused events ≡ true → events_after f events xs ≡ events
events_after_refused f events [] h = refl
events_after_refused f events (x ∷ xs) h = rw h refl

choose_append : (b : Bool) (es two three : List Event) → is_refused es ≡ b → (b ≡ true → three ≡ es) → (b ≡ false → three ≡ two) → three ≡ (if b then es else two)
choose_append true es two three h k l = k refl
choose_append false es two three h k l = l refl

pub events_after-append : {X : Type 0} (f : List Event → X → Event) (events : List Event) (xs ys : List X) → events_after f (events_after f events xs) ys ≡ events_after f events (xs ++ ys)
events_after-append f events [] ys = refl
events_after-append f events (x ∷ xs) ys =
    let next = events ++ f events x ∷ [] in
    choose_append (is_refused events) events (events_after f next (xs ++ ys)) (events_after f (if is_refused events then events else events_after f next xs) ys) refl
    (λ h. rw h (events_after_refused f events ys h)) (λ h. rw h (events_after-append f next xs ys))

map-split : {X Y : Type 0} (v : Y → X) (ys zs : List Y) → map v (ys ++ zs) ≡ map v ys ++ map v zs
map-split v [] zs = refl
map-split v (y ∷ ys) zs = ap (λ xs. v y ∷ xs) (map-split v ys zs)

flat_map-split : {X Y : Type 0} (g : Y → List X) (ys zs : List Y) → flat_map g (ys ++ zs) ≡ flat_map g ys ++ flat_map g zs
flat_map-split g [] zs = refl
flat_map-split g (y ∷ ys) zs = ap (λ xs. g y ++ xs) (flat_map-split g ys zs) ∙ sym (append_assoc (g y) (flat_map g ys) (flat_map g zs))

-- where a loop stops at a fatal one, the items that are left say nothing more
pub events_after_stop : {X Y : Type 0} (f : List Event → X → Event) (v : Y → X) (events : List Event) (ys : List Y) (i : ℕ) → is_refused (events_after f events (map v (take i ys))) ≡ true
    → events_after f events (map v (take i ys)) ≡ events_after f events (map v ys)
events_after_stop f v events ys i h =
    sym (events_after_refused f (events_after f events (map v (take i ys))) (map v (drop i ys)) h) ∙ events_after-append f events (map v (take i ys)) (map v (drop i ys))
    ∙ ap (events_after f events) (sym (map-split v (take i ys) (drop i ys)) ∙ ap (map v) (take-append-drop i ys))

-- the same where each item says many things
pub said_after_more : {X Y Z : Type 0} (f : List Event → X → Event) (g : Y → List X) (v : Z → Y) (events : List Event) (ys : List Z) (i : ℕ) (d : Z) → i < length ys
    → events_after f (events_after f events (flat_map g (map v (take i ys)))) (g (v (get_or ys i d))) ≡ events_after f events (flat_map g (map v (take (i + 1) ys)))
said_after_more f g v events ys i d lt =
    events_after-append f events (flat_map g (map v (take i ys))) (g (v (get_or ys i d)))
    ∙ ap (events_after f events) (ap (λ xs. flat_map g (map v (take i ys)) ++ xs) (sym (append-nil (g (v (get_or ys i d))))) ∙ sym (flat_map-split g (map v (take i ys)) (v (get_or ys i d) ∷ []))
    ∙ ap (flat_map g) (sym (ap (map v) (take_more ys i d lt) ∙ map_push v (take i ys) (get_or ys i d))))

pub said_after_stop : {X Y Z : Type 0} (f : List Event → X → Event) (g : Y → List X) (v : Z → Y) (events : List Event) (ys : List Z) (i : ℕ) → is_refused (events_after f events (flat_map g (map v (take i ys)))) ≡ true
    → events_after f events (flat_map g (map v (take i ys))) ≡ events_after f events (flat_map g (map v ys))
said_after_stop f g v events ys i h =
    sym (events_after_refused f (events_after f events (flat_map g (map v (take i ys)))) (flat_map g (map v (drop i ys))) h) ∙ events_after-append f events (flat_map g (map v (take i ys))) (flat_map g (map v (drop i ys)))
    ∙ ap (events_after f events) (sym (flat_map-split g (map v (take i ys)) (map v (drop i ys))) ∙ ap (flat_map g) (sym (map-split v (take i ys) (drop i ys)) ∙ ap (map v) (take-append-drop i ys)))

pub events_after_one : {X : Type 0} (f : List Event → X → Event) (events : List Event) (x : X) → is_refused events ≡ false → events ++ f events x ∷ [] ≡ events_after f events (x ∷ [])
events_after_one f events x h = sym (rw h refl)

pub events_after_next : {X : Type 0} (f : List Event → X → Event) (events : List Event) (x : X) (xs : List X) → is_refused events ≡ false → events_after f events (x ∷ xs) ≡ events_after f (events ++ f events x ∷ []) xs
events_after_next f events x xs h = rw h refl
