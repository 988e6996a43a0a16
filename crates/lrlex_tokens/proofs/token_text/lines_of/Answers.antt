use Rattle.std.proofs.Common.{◌≡◌, ◌++◌, append_assoc, Bool, List, ℕ, [], if◌then◌else◌, codes, map, sym, ◌∙◌, ap}
use Rattle.std.specs.List.{flat_map, join_by}
use Rattle.std.specs.String.{string_bytes}
use Rattle.lrlex_tokens.specs.TokenModule.{Token, constant_line}
use Rattle.lrlex_tokens.specs.TokenMap.{token_view}
use Rattle.lrlex_tokens.proofs.token_text.lines_of.Goals as goal
use Rattle.lrlex_tokens.proofs.token_text.lines_of.Goals.{then-dead_code, else-dead_code}

regroup : (a b c d e f g h i : List ℕ) → (((((((a ++ b) ++ c) ++ d) ++ e) ++ f) ++ g) ++ h) ++ i ≡ a ++ (b ++ (c ++ (d ++ (e ++ (f ++ (g ++ (h ++ i)))))))
regroup a b c d e f g h i = simp append_assoc

pub returns : goal.returns
returns g c =
    let tokens = map token_view c.args.tokens.now in
    let name = c.args.mod_name.now in
    let type = c.args.type_name.now in
    let lines = flat_map (constant_line type) tokens in
    let ids = join_by (λ (t : Token). t.id) (codes ", ") tokens in
    let list = codes "    #[allow(dead_code)]\n    pub const TOK_IDS: &[" in
    let rest = name ++ (codes " {\n" ++ (lines ++ (list ++ (type ++ (codes "] = &[" ++ (ids ++ codes "];\n}\n")))))) in
    let opened = λ (dead_code : Bool). (if dead_code then codes "#[allow(dead_code)]\n" else []) ++ codes "mod " in
    let opening : c.if-dead_code.opening.now ≡ opened c.args.dead_code =
    elim c.if-dead_code.branch [
      | then-dead_code w ↦ ap (λ r. r.now) w.opening-is ∙ sym (ap opened w.if-dead_code.true)
      | else-dead_code w ↦ ap (λ r. r.now) w.opening-is ∙ sym (ap opened w.if-dead_code.false)
    ] in
    let pushed : string_bytes c.push_str-6.new.self ≡ (((((((c.if-dead_code.opening.now ++ name) ++ codes " {\n") ++ lines) ++ list) ++ type) ++ codes "] = &[") ++ ids) ++ codes "];\n}\n" =
    cc (c.in_ok-text.ensures.ok, c.in_ok-push_str.ensures.bytes, c.in_ok-push_str-2.ensures.bytes, c.in_ok-push_lines.ensures, c.in_ok-push_str-3.ensures.bytes, c.in_ok-push_str-4.ensures.bytes, c.in_ok-push_str-5.ensures.bytes, c.in_ok-push_ids.ensures, c.in_ok-push_str-6.ensures.bytes) in
    pushed
    ∙ regroup c.if-dead_code.opening.now name (codes " {\n") lines list type (codes "] = &[") ids (codes "];\n}\n")
    ∙ ap (λ l. l ++ rest) opening
    ∙ append_assoc (if c.args.dead_code then codes "#[allow(dead_code)]\n" else []) (codes "mod ") rest
