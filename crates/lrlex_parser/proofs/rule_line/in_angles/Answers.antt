use Rattle.std.proofs.Common.{lit<, None, Some}
use Rattle.std.proofs.lemmas.Str.Pattern.{strip_prefix_char}
use Rattle.lrlex_parser.proofs.Angles.{begins_no, begins_angle, closed_has, open_lacks, closed_inside, closed_after}
use Rattle.lrlex_parser.proofs.rule_line.in_angles.Goals as goal

pub returns-in_default : goal.returns-in_default
returns-in_default c = begins_no 60 c.args.text.now (strip_prefix_char 60 c.args.text.now None c.in_default.ensures.cases (lit< tt))

pub returns-in-Some-split_once : goal.returns-in-Some-split_once
returns-in-Some-split_once c =
    let begins = strip_prefix_char 60 c.args.text.now (Some c.in-Some.rest) c.in-Some.ensures.cases (lit< tt) in
    let parts = c.in-Some-split_once.ensures.byte (lit< tt) (λ w o h. h) in
    (begins_angle c.args.text.now c.in-Some.rest.now begins, closed_has c.args.text.now c.in-Some.rest.now begins parts.2, closed_inside c.args.text.now c.in-Some.rest.now _ begins parts.0, closed_after c.args.text.now c.in-Some.rest.now _ begins parts.1)

pub returns-in-None : goal.returns-in-None
returns-in-None c =
    let begins = strip_prefix_char 60 c.args.text.now (Some c.in-Some.rest) c.in-Some.ensures.cases (lit< tt) in
    (begins_angle c.args.text.now c.in-Some.rest.now begins, open_lacks c.args.text.now c.in-Some.rest.now begins (c.in-None.ensures.byte (lit< tt) (λ w o h. h)))
