-- What a declaration line says.
use Rattle.std.proofs.Common.{◌⊎◌, ◌≡◌, ℕ, ◌+◌, ◌-◌, ◌≤◌, Bool, true, false, List, [], ◌∷◌, length, drop, map, Option, Some, None, ⊎_elim, refl, sym, ap, subst, ◌∙◌, arith}
use Rattle.std.specs.Option.{IfSome}
use Rattle.lrlex_parser.specs.Text.{Piece, piece, trim, cut, pieces_left, is_empty}
use Rattle.lrlex_base.specs.Classes.{is_white_space}
use Rattle.lrlex_parser.specs.Declaration.{first_word, declares_exclusive, declared_name, declared_names, declared_by}
use Rattle.lrlex_parser.specs.Declaration.Declared.{Wrong}
use Rattle.lrlex_parser.specs.Event.{fault_at}
use Rattle.lrlex_parser.specs.Event.FaultKind.{UnknownDeclaration}

pub declared_is : (line : Piece) (word rest : List ℕ) (exclusive : Bool) (parameters : Piece) → word ≡ first_word line.text → rest ≡ drop (length word) line.text → Some exclusive ≡ declares_exclusive word
    → parameters ≡ trim (piece (line.at + length word) rest) → is_empty parameters.text ≡ false → map (declared_name exclusive) (cut is_white_space parameters) ≡ declared_by line
declared_is line word rest exclusive parameters ew er ee ep h =
    sym (ap (λ (w : List ℕ). declared_names line (declares_exclusive w) (trim (piece (line.at + length w) (drop (length w) line.text)))) (sym ew)
    ∙ ap (λ (o : Option Bool). declared_names line o (trim (piece (line.at + length word) (drop (length word) line.text)))) (sym ee)
    ∙ ap (λ (r : List ℕ). declared_names line (Some exclusive) (trim (piece (line.at + length word) r))) (sym er)
    ∙ ap (declared_names line (Some exclusive)) (sym ep) ∙ rw h refl)

no_declaration : (line parameters : Piece) (o : Option Bool) → (o ≡ None) ⊎ (is_empty parameters.text ≡ true) → declared_names line o parameters ≡ Wrong (fault_at UnknownDeclaration line.at) ∷ []
no_declaration line parameters None h = refl
no_declaration line parameters (Some exclusive) h = ⊎_elim (λ (e : Some exclusive ≡ None). cc) (λ (e : is_empty parameters.text ≡ true). rw e refl) h

pub undeclared_is : (line : Piece) (word rest : List ℕ) (parameters : Piece) → word ≡ first_word line.text → rest ≡ drop (length word) line.text
    → parameters ≡ trim (piece (line.at + length word) rest) → (declares_exclusive word ≡ None) ⊎ (is_empty parameters.text ≡ true) → Wrong (fault_at UnknownDeclaration line.at) ∷ [] ≡ declared_by line
undeclared_is line word rest parameters ew er ep h =
    sym (ap (λ (w : List ℕ). declared_names line (declares_exclusive w) (trim (piece (line.at + length w) (drop (length w) line.text)))) (sym ew)
    ∙ ap (λ (r : List ℕ). declared_names line (declares_exclusive word) (trim (piece (line.at + length word) r))) (sym er)
    ∙ ap (declared_names line (declares_exclusive word)) (sym ep) ∙ no_declaration line parameters (declares_exclusive word) h)

-- ---- the names of a declaration, one after another
pub all_left : (at end : ℕ) (text : List ℕ) → end ≡ at + length text → pieces_left is_white_space end (Some text) ≡ cut is_white_space (piece at text)
all_left at end text e = ap (λ (n : ℕ). cut is_white_space (piece n text)) (omega arith)

pub name_here : (end : ℕ) (left : Option (List ℕ)) (rest first : List ℕ) (more : Option (List ℕ)) → left ≡ Some rest → length rest ≤ end → ((o : ℕ) → cut is_white_space (piece o rest) ≡ piece o first ∷ pieces_left is_white_space (o + length rest) more)
    → pieces_left is_white_space end left ≡ piece (end - length rest) first ∷ pieces_left is_white_space end more
name_here end left rest first more is short next =
    ap (pieces_left is_white_space end) is ∙ next (end - length rest) ∙ ap (λ (n : ℕ). piece (end - length rest) first ∷ pieces_left is_white_space n more) (omega arith)

pub short_here : (end : ℕ) (left : Option (List ℕ)) (rest : List ℕ) → left ≡ Some rest → IfSome left (λ r. length r ≤ end) → length rest ≤ end
short_here end left rest is short = subst (λ (o : Option (List ℕ)). IfSome o (λ r. length r ≤ end)) is short
