use Rattle.std.proofs.Common.{◌≡◌, ◌≤◌, ◌∙◌, length, lit<, true, false, sym, rules, arith}
use Rattle.std.specs.Prelude.{bytes_eq, ◌==◌}
use Rattle.std.specs.List.{filter_map, slice_split}
use Rattle.std.proofs.lemmas.Iterator.Consumers.{YieldsList-turn, YieldsList-end}
use Rattle.std.proofs.lemmas.Iterator.Splits.{YieldsList-from_str_split}
use Rattle.std.proofs.lemmas.List.{at_drop_all, length_push}
use Rattle.std.proofs.lemmas.Str.Pattern.{split_once_first}
use Rattle.lrlex_lsp.specs.Languages.{pair_in, shown_by}
use Rattle.lrlex_lsp.proofs.MapLemmas.{said_at, unsaid_at}
use Rattle.lrlex_lsp.proofs.languages.shown_by_words.Goals as goal

pub returns-then-eq : goal.returns-then-eq
returns-then-eq c =
    let here = YieldsList-turn (YieldsList-from_str_split 32 c.args.words.now (lit< tt) (search rules) (search rules) (search rules)) c.loop-word.yielded _ c.loop-word.yielded_by _ _ c.in-Some.word c.in-Some.is c.next.ensures.steps in
    let found = rw c.in-Some-split_once.is at (split_once_first 61 c.in-Some.word.now c.split_once.result c.split_once.ensures.cases (lit< tt)) in
    let test : bytes_eq c.in-Some-split_once.named.now c.args.name.now ≡ true = search rules in
    let said = rw test at (said_at c.args.name.now (slice_split (λ byte. byte == 32) c.args.words.now) (length c.loop-word.yielded) c.in-Some.word.now c.in-Some-split_once.named.now c.in-Some-split_once.kind.now here found) in
    c.shown_as.ensures ∙ sym said ∙ c.loop-word.invariant

pub loop-word-preserved-else-eq : goal.loop-word-preserved-else-eq
loop-word-preserved-else-eq c =
    let here = YieldsList-turn (YieldsList-from_str_split 32 c.args.words.now (lit< tt) (search rules) (search rules) (search rules)) c.loop-word.yielded _ c.loop-word.yielded_by _ _ c.in-Some.word c.in-Some.is c.next.ensures.steps in
    let found = rw c.in-Some-split_once.is at (split_once_first 61 c.in-Some.word.now c.split_once.result c.split_once.ensures.cases (lit< tt)) in
    let test : bytes_eq c.in-Some-split_once.named.now c.args.name.now ≡ false = search rules in
    let said = rw test at (said_at c.args.name.now (slice_split (λ byte. byte == 32) c.args.words.now) (length c.loop-word.yielded) c.in-Some.word.now c.in-Some-split_once.named.now c.in-Some-split_once.kind.now here found) in
    rw (length_push c.loop-word.yielded c.in-Some.word) (sym said ∙ c.loop-word.invariant)

pub loop-word-preserved : goal.loop-word-preserved
loop-word-preserved c =
    let here = YieldsList-turn (YieldsList-from_str_split 32 c.args.words.now (lit< tt) (search rules) (search rules) (search rules)) c.loop-word.yielded _ c.loop-word.yielded_by _ _ c.in-Some.word c.in-Some.is c.next.ensures.steps in
    let lacks = rw c.in_default.is at (split_once_first 61 c.in-Some.word.now c.split_once.result c.split_once.ensures.cases (lit< tt)) in
    let said = unsaid_at c.args.name.now (slice_split (λ byte. byte == 32) c.args.words.now) (length c.loop-word.yielded) c.in-Some.word.now here lacks in
    rw (length_push c.loop-word.yielded c.in-Some.word) (sym said ∙ c.loop-word.invariant)

pub returns : goal.returns
returns c =
    let end = YieldsList-end (YieldsList-from_str_split 32 c.args.words.now (lit< tt) (search rules) (search rules) (search rules)) c.loop-word.yielded _ c.loop-word.yielded_by _ _ c.in-None.is c.next.ensures.steps in
    let past : length (slice_split (λ byte. byte == 32) c.args.words.now) ≤ length c.loop-word.yielded = omega (arith, end.1) in
    sym (at_drop_all (λ words. shown_by (filter_map pair_in words) c.args.name.now) (slice_split (λ byte. byte == 32) c.args.words.now) (length c.loop-word.yielded) past)
    ∙ c.loop-word.invariant
