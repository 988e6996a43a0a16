-- What a run of a definition that a rule text says has found.
use Rattle.std.proofs.Common.{◌≡◌, ◌≢◌, ◌∙◌, ap, sym, ap₂, refl, subst, ℕ, ◌+◌, Bool, true, false, List, [], ◌∷◌, ◌++◌, ◌||◌, map, Option, Some, None, Result, Ok, Err, IfOk, is_err, Vec}
use Rattle.std.specs.List.{list_any}
use Rattle.std.specs.Io.KnownBytes.{Appends, Keeps}
use Rattle.std.specs.Result.{IsErrAnd}
use Rattle.std.specs.declared.alloc.Global.{Global}
use Rattle.std.proofs.lemmas.List.Folds.{list_any-append}
use Rattle.lrlex_rules.specs.declared.errors.LRLexError.{LRLexError}
use Rattle.lrlex_parser.specs.declared.faults.LexBuildError.{LexBuildError}
use Rattle.lrlex_rules.specs.Definition.{Definition}
use Rattle.lrlex.specs.Active.{is_state}
use Rattle.lrlex.specs.Boundaries.{Boundary}
use Rattle.lrlex_parser.specs.Outcome.{outcome}
use Rattle.lrlex.specs.ItemLaws.{is_error}
use Rattle.lrlex.specs.Reach.{IsRun}
use Rattle.lrlex_parser.specs.LexBuildResult.{seen, settings, refused_by, as_faults}
use Rattle.lrlex.specs.Scanner.{IsAtFront, Scanned, at_front}
use Rattle.lrlex.specs.Tiling.{Tile, Item, Error, End, Done, NoMatch, NoId, NoTarget, items, tile_items, lexeme_of}
use Rattle.lrlex_base.specs.LexemeParts.{LexemeParts}
use Rattle.lrlex.specs.Views.{item_of, items_by}
use Rattle.lrlex_cli.specs.Engine.{Request, Lexing, lines_in, IsEngineRun, EndsWriting, EndsLexing}
use Rattle.lrlex_cli.specs.Lines.{lines}
use Rattle.lrlex_cli.specs.Scanning.{WritesRun}
use Rattle.lrlex_cli.specs.Writing.{AppendsFront, Writes}
use Rattle.lrlex_cli.specs.declared.engine.Ended.{Ended}
use Rattle.lrlex_cli.specs.declared.engine.Ended.TheVariants.{Lexed, Stopped, Refused}
use Rattle.lrlex_cli.specs.declared.engine.EngineFault.{EngineFault}
use Rattle.lrlex_cli.specs.declared.engine.EngineFault.TheVariants.{Memory, Write}

abbrev pub stops : End → Bool
stops Done = false
stops (NoMatch q) = true
stops NoId = true
stops (NoTarget t) = true

no_error : (id : Option ℕ) (place len : ℕ) → list_any is_error (lexeme_of id place len) ≡ false
no_error None place len = refl
no_error (Some id) place len = refl

-- no error is among a tile's own items
error_past_tile : (d : Definition) (place : ℕ) (t : Tile) (rest : List Item) → list_any is_error (tile_items d place t ++ rest) ≡ list_any is_error rest
error_past_tile d place t rest = list_any-append is_error (tile_items d place t) rest ∙ ap (λ (b : Bool). b || list_any is_error rest) (no_error _ place t.len)

-- an error is among the items where lexing doesn't reach the end
error_at_end : (d : Definition) (place : ℕ) (ts : List Tile) (e : End) → list_any is_error (items d place ts e) ≡ stops e
error_at_end d place [] Done = refl
error_at_end d place [] (NoMatch q) = refl
error_at_end d place [] NoId = refl
error_at_end d place [] (NoTarget t) = error_past_tile d place t (Error place place None ∷ [])
error_at_end d place (t ∷ ts) e = error_past_tile d place t (items d (place + t.len) ts e) ∙ error_at_end d (place + t.len) ts e

-- an error is among the results that the engine has where it is among their items
errors_seen : {S X : Type 0} (number : S → ℕ) (see : X → LexemeParts S) (xs : List (Result X LRLexError))
    → list_any (λ x. is_err x) xs ≡ list_any is_error (map (item_of number see) xs)
errors_seen number see [] = refl
errors_seen number see (Ok x ∷ xs) = errors_seen number see xs
errors_seen number see (Err e ∷ xs) = refl

done : (e : End) → stops e ≡ false → e ≡ Done
done Done h = refl
done (NoMatch q) h = cc
done NoId h = cc
done (NoTarget t) h = cc

not_done : (e : End) → stops e ≡ true → e ≢ Done
not_done e h same = cc

kept : (bytes : Option (List ℕ)) → Keeps bytes bytes
kept None = tt
kept (Some xs) = refl

-- for want of memory nothing was written
pub without_memory : (q : Request) (bytes : Option (List ℕ)) (r : Result Ended EngineFault) → IsErrAnd r (λ e. e ≡ Memory) → IsEngineRun q bytes bytes r
without_memory q bytes (Ok x) h = absurd h
without_memory q bytes (Err Memory) h = kept bytes
without_memory q bytes (Err (Write e)) h = cc

-- writing the lines of a lexing ends as a run does
ended : (q : Request) (x : Lexing q) (old new : Option (List ℕ)) (r : Result Ended EngineFault) (text : List ℕ) (stopped : Bool)
    → text ≡ lines_in q x → stopped ≡ stops x.end → EndsWriting old new r text stopped → IsEngineRun q old new r
ended q x old new (Ok Lexed) text stopped same ends h = (x, done x.end (sym ends ∙ h.0), subst (Appends old new) same h.1)
ended q x old new (Ok Stopped) text stopped same ends h = (x, not_done x.end (sym ends ∙ h.0), subst (Appends old new) same h.1)
ended q x old new (Ok (Refused faults)) text stopped same ends h = absurd h
ended q x old new (Err Memory) text stopped same ends h = h
ended q x old new (Err (Write e)) text stopped same ends h = (x, subst (AppendsFront old new) same h)

-- A run of the definition that the rule text says has found these items, and their lines were written.
pub ran : {D : Type 0} (view : D → Definition) (q : Request) (built : Result D (Vec LexBuildError Global)) (def : D) (found : List Item) (bounds : List Boundary)
    (old new : Option (List ℕ)) (r : Result Ended EngineFault)
    → built ≡ Ok def → seen view as_faults built ≡ outcome (settings q.flags q.greatest (refused_by built)) q.rules
    → is_state (view def) 0 ≡ true → IsRun (view def) q.input found bounds
    → EndsWriting old new r (lines (view def).rules q.input found) (list_any is_error found)
    → IsEngineRun q old new r
ran view q built def found bounds old new r is says initial run wrote =
    let P : Result _ (Vec LexBuildError Global) → Type 0 = λ b. seen view as_faults b ≡ outcome (settings q.flags q.greatest (refused_by b)) q.rules in
    let l = run.lexed initial in
    let x : Lexing q = record { definition = view def; says = sym (subst P is says); cut = l.cut; end = l.end; tiling = l.tiling; only = l.only } in
    let text = ap (λ (is : List Item). lines (view def).rules q.input is) l.items_are in
    let ends = ap (λ (is : List Item). list_any is_error is) l.items_are ∙ error_at_end (view def) 0 l.cut l.end in
    ended q x old new r _ _ text ends wrote

-- the definition that was built has start state 0
pub initial_of : {D : Type 0} (view : D → Definition) (built : Result D (Vec LexBuildError Global)) (def : D) → built ≡ Ok def → IfOk built (λ d. is_state (view d) 0 ≡ true)
    → is_state (view def) 0 ≡ true
initial_of view built def is initial =
    let I : Result _ (Vec LexBuildError Global) → Type 0 = λ b. IfOk b (λ d. is_state (view d) 0 ≡ true) in
    subst I is initial

-- A run has found items, and their lines were written.
pub lexing_ends : (d : Definition) (text : List ℕ) (found : List Item) (bounds : List Boundary) (old new : Option (List ℕ)) (r : Result Ended EngineFault)
    → IsRun d text found bounds → EndsWriting old new r (lines d.rules text found) (list_any is_error found) → EndsLexing d text old new r
lexing_ends d text found bounds old new (Ok x) run wrote = (found, bounds, run, wrote)
lexing_ends d text found bounds old new (Err Memory) run wrote = wrote
lexing_ends d text found bounds old new (Err (Write e)) run wrote = (found, bounds, run, wrote)

-- for want of memory nothing was written of a run
pub lexing_without_memory : (d : Definition) (text : List ℕ) (bytes : Option (List ℕ)) (r : Result Ended EngineFault) → IsErrAnd r (λ e. e ≡ Memory) → EndsLexing d text bytes bytes r
lexing_without_memory d text bytes (Ok x) h = absurd h
lexing_without_memory d text bytes (Err Memory) h = kept bytes
lexing_without_memory d text bytes (Err (Write e)) h = cc

-- The lines of what the two passes found were written.
pub passes_end : {T E : Type 0} (d : Definition) (text : List ℕ) (stopped : Bool) (old new : Option (List ℕ)) (written : Result T E) (r : Result Ended EngineFault)
    → WritesRun d text stopped old new written → ((lines : List ℕ) → Writes old new written lines → EndsWriting old new r lines stopped) → EndsLexing d text old new r
passes_end d text stopped old new written r h ends =
    lexing_ends d text h.0 h.1 old new r h.2 (subst (λ b. EndsWriting old new r (lines d.rules text h.0) b) (sym h.3) (ends (lines d.rules text h.0) h.4))

-- The lines of items that a run has found were written.
pub items_end : {T E S X : Type 0} (number : S → ℕ) (see : X → LexemeParts S) (d : Definition) (text : List ℕ) (xs ys : List (Result X LRLexError)) (bounds : List Boundary) (stopped : Bool)
    (old new : Option (List ℕ)) (written : Result T E) (r : Result Ended EngineFault)
    → xs ≡ ys → IsRun d text (items_by number see ys) bounds → stopped ≡ list_any (λ x. is_err x) xs
    → Writes old new written (lines d.rules text (items_by number see xs)) → ((lines : List ℕ) → Writes old new written lines → EndsWriting old new r lines stopped) → EndsLexing d text old new r
items_end number see d text xs ys bounds stopped old new written r same run is wrote ends =
    lexing_ends d text (items_by number see xs) bounds old new r (subst (λ zs. IsRun d text (items_by number see zs) bounds) (sym same) run)
    (subst (λ b. EndsWriting old new r (lines d.rules text (items_by number see xs)) b) (is ∙ errors_seen number see xs) (ends (lines d.rules text (items_by number see xs)) wrote))

-- a scanner at the front is at the front of its own text
pub own_front : (d : Definition) (text : List ℕ) (most : ℕ) (s : Scanned) → s ≡ at_front d text most → IsAtFront s.definition s.text s
own_front d text most s is =
    is ∙ ap₂ (λ e t. at_front e t most) (sym (ap (λ (y : Scanned). y.definition) is)) (sym (ap (λ (y : Scanned). y.text) is))
    ∙ ap (at_front s.definition s.text) (sym (ap (λ (y : Scanned). y.most_cells) is))

-- Lexing by the definition that the rule text says ends as a run does.
pub lexing_runs : {D : Type 0} (view : D → Definition) (q : Request) (built : Result D (Vec LexBuildError Global)) (def : D)
    (old new : Option (List ℕ)) (r : Result Ended EngineFault)
    → built ≡ Ok def → seen view as_faults built ≡ outcome (settings q.flags q.greatest (refused_by built)) q.rules
    → IfOk built (λ d. is_state (view d) 0 ≡ true) → EndsLexing (view def) q.input old new r
    → IsEngineRun q old new r
lexing_runs view q built def old new (Ok x) is says initial h =
    ran view q built def h.0 h.1 old new (Ok x) is says (initial_of view built def is initial) h.2 h.3
lexing_runs view q built def old new (Err Memory) is says initial h = h
lexing_runs view q built def old new (Err (Write e)) is says initial h =
    ran view q built def h.0 h.1 old new (Err (Write e)) is says (initial_of view built def is initial) h.2 h.3
