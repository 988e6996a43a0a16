-- The tiles into which a lexer cuts a text, and the items that they give.
use Rattle.std.specs.Prelude.{◌≡◌, ◌≢◌, ℕ, ◌+◌, ◌-◌, ◌<◌, ◌≤◌, Bool, true, false, List, [], ◌∷◌, ◌++◌, length, take, drop, Option, Some, None, slice_index, nat_lt, if◌then◌else◌}
use Rattle.lrlex_rules.specs.Definition.{Definition}
use Rattle.lrlex_rules.specs.Active.{active_count, taken, rule_at, lexeme_id, lacks_id, lacks_target}
use Rattle.lrlex_rules.specs.declared.states.StartStateOperation.{StartStateOperation}
use Rattle.lrlex_rules.specs.declared.states.StartStateOperation.TheVariants.{ReplaceStack, Push, Pop}

-- the text that a winner takes: the place of its rule, counted from 0, and how many bytes it takes
pub record Tile : Type 0 where
  pub rule : ℕ
  pub len : ℕ

-- What a run gives: a lexeme by its id, place and length, and whether it is marked as made up by error recovery, or
-- an error by the two ends of its span, with its state.
pub data Item : Type 0 where
  Lexeme : (id start len : ℕ) → (faulty : Bool) → Item
  Error : (start end : ℕ) → (state : Option ℕ) → Item
  deriving IsSet as Item-set

-- Maximal munch: rule k takes n bytes, no rule takes more, and no earlier rule as many.
pub record Wins (d : Definition) (q : ℕ) (text : List ℕ) (k n : ℕ) : Type 0 where
  pub some : 0 < n
  pub takes : taken d q text k ≡ n
  pub greatest : (j : ℕ) → taken d q text j ≤ n
  pub earliest : (j : ℕ) → j < k → taken d q text j < n

-- no rule takes a byte
abbrev pub IsStuck : Definition → ℕ → List ℕ → Type 0
IsStuck d q text = (j : ℕ) → taken d q text j ≡ 0

-- the state on top of a stack, which is written from bottom to top
abbrev pub top : List ℕ → ℕ
top stack = slice_index stack (length stack - 1)

-- the stack, or state 0 alone where it is empty
abbrev pub or_initial : List ℕ → List ℕ
or_initial [] = 0 ∷ []
or_initial (q ∷ qs) = q ∷ qs

-- the stack after a rule with this target
unfoldable pub stack_after : List ℕ → Option (ℕ × StartStateOperation) → List ℕ
stack_after stack None = stack
stack_after stack (Some (q, ReplaceStack)) = q ∷ []
stack_after stack (Some (q, Push)) = stack ++ q ∷ []
stack_after stack (Some (q, Pop)) = or_initial (take (length stack - 1) stack)

-- why lexing ends
pub data End : Type 0 where
  Done : End
  NoMatch : (state : ℕ) → End
  NoId : End
  NoTarget : (tile : Tile) → End

-- the tile wins at the beginning of the text
abbrev pub IsWinner : Definition → List ℕ → List ℕ → Tile → Type 0
IsWinner d text stack t = Wins d (top stack) text t.rule t.len

-- lexing ends before this text
abbrev pub IsEnd : Definition → List ℕ → List ℕ → End → Type 0
IsEnd d text stack Done = text ≡ []
IsEnd d text stack (NoMatch q) = (text ≢ []) × (q ≡ top stack) × IsStuck d q text
IsEnd d text stack NoId = (t : Tile) × IsWinner d text stack t × (lacks_id (rule_at d t.rule) ≡ true)
IsEnd d text stack (NoTarget t) =
    IsWinner d text stack t × (lacks_id (rule_at d t.rule) ≡ false) × (lacks_target d (rule_at d t.rule) ≡ true)

-- the tile is taken, and lexing goes on after it
pub record IsTaken (d : Definition) (text stack : List ℕ) (t : Tile) : Type 0 where
  pub wins : IsWinner d text stack t
  pub has_id : lacks_id (rule_at d t.rule) ≡ false
  pub has_target : lacks_target d (rule_at d t.rule) ≡ false

-- the stack after a tile
abbrev pub stack_past : Definition → List ℕ → Tile → List ℕ
stack_past d stack t = stack_after stack (rule_at d t.rule).target

-- from the stack, the text is cut into these tiles, up to this end
abbrev pub IsTiling : Definition → List ℕ → List ℕ → List Tile → End → Type 0
IsTiling d text stack [] e = IsEnd d text stack e
IsTiling d text stack (t ∷ ts) e =
    IsTaken d text stack t × IsTiling d (drop t.len text) (stack_past d stack t) ts e

-- there is one way to cut the text from the stack, and no other
pub record HasOneTiling (d : Definition) (text stack : List ℕ) : Type 0 where
  pub cut : List Tile
  pub end : End
  pub tiling : IsTiling d text stack cut end
  pub only : (ts : List Tile) (e : End) → IsTiling d text stack ts e → (ts ≡ cut) × (e ≡ end)

abbrev pub lexeme_of : Option ℕ → ℕ → ℕ → List Item
lexeme_of None place len = []
lexeme_of (Some id) place len = Lexeme id place len false ∷ []

-- what a tile at this place gives
abbrev pub tile_items : Definition → ℕ → Tile → List Item
tile_items d place t = lexeme_of (lexeme_id (rule_at d t.rule)) place t.len

-- what an end at this place gives
abbrev pub end_items : Definition → ℕ → End → List Item
end_items d place Done = []
end_items d place (NoMatch q) = Error place place (Some q) ∷ []
end_items d place NoId = Error place place None ∷ []
end_items d place (NoTarget t) = tile_items d place t ++ Error place place None ∷ []

-- the items of tiles from this place on
abbrev pub items : Definition → ℕ → List Tile → End → List Item
items d place [] e = end_items d place e
items d place (t ∷ ts) e = tile_items d place t ++ items d (place + t.len) ts e

-- the places with their stacks at which the tiling is entered
abbrev pub boundaries : Definition → ℕ → List ℕ → List Tile → List (ℕ × List ℕ)
boundaries d place stack [] = (place, stack) ∷ []
boundaries d place stack (t ∷ ts) =
    (place, stack) ∷ boundaries d (place + t.len) (stack_past d stack t) ts

-- the searches that a boundary needs in a text of this length: one for each active rule, and none at the text's end
abbrev pub asked_at : Definition → ℕ → ℕ × List ℕ → ℕ
asked_at d end b = if nat_lt b.0 end then active_count d (top b.1) else 0

-- an item that many places further on
abbrev pub moved : ℕ → Item → Item
moved n (Lexeme id start len faulty) = Lexeme id (n + start) len faulty
moved n (Error start end state) = Error (n + start) (n + end) state

-- the lexemes of tiles from this place on
abbrev pub lexemes : Definition → ℕ → List Tile → List Item
lexemes d place [] = []
lexemes d place (t ∷ ts) = tile_items d place t ++ lexemes d (place + t.len) ts

-- an item of the text from p on, where that text stands from q on
abbrev pub rebased : ℕ → ℕ → Item → Item
rebased p q (Lexeme id start len faulty) = Lexeme id ((start + q) - p) len faulty
rebased p q (Error start end state) = Error ((start + q) - p) ((end + q) - p) state
