-- What the second pass over a text finds on its way, and what it has written.
use Rattle.std.proofs.Common.{◌≡◌, ◌∙◌, ℕ, ◌+◌, ◌-◌, ◌<◌, ◌≤◌, List, [], ◌∷◌, ◌++◌, length, take, drop, Option, Some, None, is_some, Result, refl, sym, ap, subst, arith, append_assoc, append-nil, length-append}
use Rattle.std.proofs.KnownBytes.{Appends-nil}
use Rattle.std.proofs.lemmas.List.{drop-drop, get_or_append_left}
use Rattle.std.proofs.lemmas.List.Concat.{flat_map-append}
use Rattle.std.proofs.lemmas.List.Elements.{All-tail}
use Rattle.std.specs.List.{All, list_any}
use Rattle.std.specs.Prelude.{IsUtf8, unwrap_or}
use Rattle.std.specs.Result.{IsErr}
use Rattle.lrlex_base.specs.Spans.{Span, span_end}
use Rattle.lrlex.specs.Boundaries.{Boundary}
use Rattle.lrlex_rules.specs.Definition.{Definition, Rule}
use Rattle.lrlex.specs.Active.{rule_at}
use Rattle.lrlex.specs.Errors.{stop_text}
use Rattle.lrlex.specs.Ids.{name_of}
use Rattle.lrlex.specs.ItemLaws.{FitsText, is_error}
use Rattle.lrlex.specs.Reach.{IsRun}
use Rattle.lrlex.specs.Scanner.{IsStep, IsTileAt, Scanned, at_front, left, past}
use Rattle.lrlex.specs.Tiling.{Item, Lexeme, Error, Tile, End, IsTaken, IsTiling, lexemes, stack_after, stack_past, tile_items}
use Rattle.lrlex.specs.declared.lexing.scanner.ScannedTile.{ScannedTile}
use Rattle.lrlex.specs.declared.lexing.scanner.Step.TheVariants.{Tile as Found}
use Rattle.lrlex.proofs.ItemLemmas.{have_laws}
use Rattle.lrlex_rules.proofs.TilingLemmas.{one_winner}
use Rattle.lrlex_cli.specs.Lines.{line, lines}
use Rattle.lrlex_cli.specs.Scanning.{Finds, IsErrorAt, IsFirstPass, WritesRun, last_lexeme, lexeme_by, stop_line}
use Rattle.lrlex_cli.specs.Writing.{AppendsFront, Writes, WritesUpTo}
use Rattle.lrlex_cli.specs.declared.scanning.FirstPass.{FirstPass}
use Rattle.lrlex_cli.proofs.FirstPassLemmas.{tile_lexeme}
use Rattle.lrlex_cli.proofs.WritingLemmas.{up_to_fails, up_to_more, writes_both, writes_cut}

-- ---- parts of a list

All-first : {X : Type 0} (P : X → Type 0) (xs ys : List X) → All P (xs ++ ys) → All P xs
All-first P xs ys h k d lt = subst P (get_or_append_left xs ys d k lt) (h k d (omega (arith, lt, length-append xs ys)))

All-second : {X : Type 0} (P : X → Type 0) (xs ys : List X) → All P (xs ++ ys) → All P ys
All-second P [] ys h = h
All-second P (x ∷ xs) ys h = All-second P xs ys (All-tail P x (xs ++ ys) h)

-- ---- what is found behind a tile

module _ {S : Type 0} (number : S → ℕ) where
  -- what is found behind the next tile
  record FindsPast (s : Scanned) (x : ScannedTile S) (found : List Item) : Type 0 where
    pub rest : List Item
    pub parts : found ≡ lexeme_by number x ++ rest
    pub finds : Finds (past s x) rest

  past_by : (s : Scanned) (x : ScannedTile S) (t : Tile) (cut : List Tile) (e : End) → IsTileAt number s.definition s.place x t → IsTaken s.definition (left s) s.stack t →
      0 < length (lexemes s.definition s.place cut) → IsTiling s.definition (left s) s.stack cut e → FindsPast s x (lexemes s.definition s.place cut)
  past_by s x t [] e at taken some h = absurd (omega (arith, some))
  past_by s x t (u ∷ us) e at taken some h =
      let d = s.definition in
      let same : u ≡ t = one_winner d (left s) s.stack u t h.0.wins taken.wins in
      let place : span_end x.span ≡ s.place + t.len = ap (λ (sp : Span). sp.end) at.bytes in
      let place' : span_end x.span ≡ s.place + u.len = place ∙ ap (λ (v : Tile). s.place + v.len) (sym same) in
      let target : stack_after s.stack (rule_at d x.rule).target ≡ stack_past d s.stack u = ap (λ k. stack_after s.stack (rule_at d k).target) at.rule ∙ ap (stack_past d s.stack) (sym same) in
      let rest : drop u.len (left s) ≡ drop (span_end x.span) s.text = drop-drop u.len s.place s.text ∙ ap (λ k. drop k s.text) (sym place') in
      record {
        rest = lexemes d (s.place + u.len) us;
        parts = ap (λ xs. xs ++ lexemes d (s.place + u.len) us) (ap (tile_items d s.place) same ∙ sym (tile_lexeme number d s.place x t at));
        finds = record {
          cut = us;
          end = e;
          tiling = subst (λ st. IsTiling d (drop (span_end x.span) s.text) st us e) (sym target) (subst (λ w. IsTiling d w (stack_past d s.stack u) us e) rest h.1);
          gives = ap (λ k. lexemes d k us) (sym place');
        };
      }

  finds_past : (s : Scanned) (x : ScannedTile S) (found : List Item) → IsStep number s (Found x) → 0 < length found → Finds s found → FindsPast s x found
  finds_past s x found step some h =
      subst (FindsPast s x) (sym h.gives) (past_by s x step.0 h.cut h.end step.1 step.2 (subst (λ xs. 0 < length xs) h.gives some) h.tiling)

-- ---- lines

lines-append : (rules : List Rule) (text : List ℕ) (xs ys : List Item) → lines rules text (xs ++ ys) ≡ lines rules text xs ++ lines rules text ys
lines-append rules text xs ys = flat_map-append (line rules text) xs ys

-- a line has a byte
some_line : (rules : List Rule) (text : List ℕ) (xs ys : List Item) → 0 < length xs → 0 < length (lines rules text (xs ++ ys))
some_line rules text [] ys some = absurd (omega (arith, some))
some_line rules text (x ∷ xs) ys some = omega (arith, length-append (line rules text x) (lines rules text (xs ++ ys)), by x) where
  by : (x : Item) → 0 < length (line rules text x)
  by (Lexeme id start len faulty) = omega (arith, length-append (unwrap_or (name_of rules id) []) (32 ∷ (take len (drop start text) ++ 10 ∷ [])))
  by (Error start end state) = omega arith

-- ---- what was written

-- that of an error
line_of_error : (rules : List Rule) (text : List ℕ) (error : Option ℕ) (xs : List Item) → IsErrorAt error xs → lines rules text xs ≡ stop_line error
unfolding stop_line
line_of_error rules text None xs h = ap (lines rules text) h
line_of_error rules text (Some place) xs h = ap (lines rules text) h.1 ∙ append-nil (stop_text place ++ 10 ∷ [])

module _ {S : Type 0} (number : S → ℕ) (d : Definition) (text : List ℕ) (first : FirstPass S) where
  abbrev said_by : List Item → List ℕ
  said_by xs = lines d.rules text xs

  abbrev last : List Item
  last = last_lexeme number first.last

  -- The lines before those of the rest were written, but for what waits. In the rest so many lexemes are left.
  pub record HasWritten (old now : Option (List ℕ)) (waiting : List ℕ) (s : Scanned) (count : ℕ) : Type 0 where
    pub whole : List Item
    pub bounds : List Boundary
    pub run : IsRun d text whole bounds
    pub stops : list_any is_error whole ≡ is_some first.error
    pub error : List Item
    pub stop : IsErrorAt first.error error
    pub rest : List Item
    pub finds : Finds s rest
    pub counted : count ≡ length rest
    pub fit : All (FitsText text) (rest ++ (last ++ error))
    pub said : List ℕ
    pub wrote : WritesUpTo old now said waiting
    pub joined : said ++ said_by (rest ++ (last ++ error)) ≡ said_by whole

  pub none_written : (bytes : Option (List ℕ)) (waiting : List ℕ) (s z : Scanned) → IsUtf8 text → IsFirstPass number d text first →
      s.definition ≡ d → s.text ≡ text → z ≡ at_front s.definition s.text s.most_cells → waiting ≡ [] → HasWritten bytes bytes waiting z first.lexemes
  none_written bytes waiting s z utf8 h same_definition same_text at none = record {
    whole = h.found ++ (last ++ h.error);
    bounds = h.bounds;
    run = h.run;
    stops = h.stops;
    error = h.error;
    stop = h.stop;
    rest = h.found;
    finds = subst (λ y. Finds y h.found) (ap (λ e. at_front e text s.most_cells) (sym same_definition) ∙ ap (λ t. at_front s.definition t s.most_cells) (sym same_text) ∙ sym at) (h.finds s.most_cells);
    counted = h.count;
    fit = (have_laws d text (h.found ++ (last ++ h.error)) h.bounds h.run).items.fit utf8;
    said = [];
    wrote = ([], Appends-nil bytes, none);
    joined = refl;
  }

  -- ---- past a tile

  module _ (old now : Option (List ℕ)) (waiting : List ℕ) (s : Scanned) (count : ℕ) (x : ScannedTile S) (step : IsStep number s (Found x)) (some : 0 < count) (h : HasWritten old now waiting s count) where
    next : FindsPast number s x h.rest
    next = finds_past number s x h.rest step (omega (arith, some, h.counted)) h.finds

    behind : List Item
    behind = next.rest ++ (last ++ h.error)

    parts : h.rest ++ (last ++ h.error) ≡ lexeme_by number x ++ behind
    unfolding behind
    parts = ap (λ xs. xs ++ (last ++ h.error)) next.parts ∙ append_assoc (lexeme_by number x) next.rest (last ++ h.error)

    whole_of : (h.said ++ said_by (lexeme_by number x)) ++ said_by behind ≡ said_by h.whole
    whole_of =
        append_assoc h.said (said_by (lexeme_by number x)) (said_by behind)
        ∙ ap (λ l. h.said ++ l) (sym (lines-append d.rules text (lexeme_by number x) behind) ∙ ap said_by (sym parts)) ∙ h.joined

    pub tile_fits : All (FitsText text) (lexeme_by number x)
    tile_fits = All-first (FitsText text) (lexeme_by number x) behind (subst (All (FitsText text)) parts h.fit)

    pub enough : length (lexeme_by number x) ≤ count
    enough = omega (arith, h.counted, ap length next.parts, length-append (lexeme_by number x) next.rest)

    pub more_written : (new : Option (List ℕ)) (wait : List ℕ) (z : Scanned) (one : ℕ) → z ≡ past s x → one ≡ length (lexeme_by number x) →
        WritesUpTo now new (waiting ++ said_by (lexeme_by number x)) wait → HasWritten old new wait z (count - one)
    unfolding behind
    more_written new wait z one moved is wrote =
        let fewer : count - one ≡ length next.rest = omega (arith, is, h.counted, ap length next.parts, length-append (lexeme_by number x) next.rest) in
        record {
          whole = h.whole;
          bounds = h.bounds;
          run = h.run;
          stops = h.stops;
          error = h.error;
          stop = h.stop;
          rest = next.rest;
          finds = subst (λ y. Finds y next.rest) (sym moved) next.finds;
          counted = fewer;
          fit = All-second (FitsText text) (lexeme_by number x) behind (subst (All (FitsText text)) parts h.fit);
          said = h.said ++ said_by (lexeme_by number x);
          wrote = up_to_more old now new h.said (said_by (lexeme_by number x)) waiting wait h.wrote wrote;
          joined = whole_of;
        }

    -- its line was not written to the end
    pub tile_cut : {T E : Type 0} (new : Option (List ℕ)) (r : Result T E) → IsErr r → AppendsFront now new (waiting ++ said_by (lexeme_by number x)) → WritesRun d text (is_some first.error) old new r
    tile_cut new r err failed =
        (h.whole, h.bounds, h.run, h.stops, writes_cut old new r _ _ _ err whole_of (up_to_fails old now new h.said (said_by (lexeme_by number x)) waiting h.wrote failed))

  -- ---- at the end

  module _ (old now : Option (List ℕ)) (waiting : List ℕ) (s : Scanned) (count : ℕ) (h : HasWritten old now waiting s count) where
    -- no more can be written, though lines are left
    pub no_more : {T E : Type 0} (r : Result T E) → IsErr r → 0 < count → WritesRun d text (is_some first.error) old now r
    no_more r err some =
        let more = said_by (h.rest ++ (last ++ h.error)) in
        let line : 0 < length more = some_line d.rules text h.rest (last ++ h.error) (omega (arith, some, h.counted)) in
        let failed : AppendsFront now now (waiting ++ more) = (0, omega (arith, line, length-append waiting more), Appends-nil now) in
        (h.whole, h.bounds, h.run, h.stops, writes_cut old now r _ [] _ err (append-nil (h.said ++ more) ∙ h.joined) (up_to_fails old now now h.said more waiting h.wrote failed))

    module _ (none : count ≤ 0) where
      no_rest : (xs : List Item) → count ≡ length xs → xs ≡ []
      no_rest [] is = refl
      no_rest (x ∷ xs) is = absurd (omega (arith, none, is))

      parts_of : h.rest ++ (last ++ h.error) ≡ last ++ h.error
      parts_of = ap (λ xs. xs ++ (last ++ h.error)) (no_rest h.rest h.counted)

      ends : (h.said ++ said_by last) ++ stop_line first.error ≡ said_by h.whole
      ends =
          ap (λ l. (h.said ++ said_by last) ++ l) (sym (line_of_error d.rules text first.error h.error h.stop)) ∙ append_assoc h.said (said_by last) (said_by h.error)
          ∙ ap (λ l. h.said ++ l) (sym (lines-append d.rules text last h.error)) ∙ ap (λ xs. h.said ++ said_by xs) (sym parts_of) ∙ h.joined

      pub last_fits : All (FitsText text) last
      last_fits = All-first (FitsText text) last h.error (subst (All (FitsText text)) parts_of h.fit)

      -- what comes with the end is written behind what waits
      pub all_written : {T E : Type 0} (new : Option (List ℕ)) (r : Result T E) → Writes now new r (waiting ++ (said_by last ++ stop_line first.error)) →
          WritesRun d text (is_some first.error) old new r
      all_written new r written =
          let more = said_by last ++ stop_line first.error in
          let front = h.wrote.0 in
          let whole : front ++ (waiting ++ more) ≡ said_by h.whole =
          sym (append_assoc front waiting more) ∙ ap (λ l. l ++ more) h.wrote.2
          ∙ sym (append_assoc h.said (said_by last) (stop_line first.error)) ∙ ends in
          (h.whole, h.bounds, h.run, h.stops, subst (λ l. Writes old new r l) whole (writes_both old now new r front (waiting ++ more) h.wrote.1 written))
