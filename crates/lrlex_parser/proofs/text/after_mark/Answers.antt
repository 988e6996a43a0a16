use Rattle.lrlex_parser.proofs.Marks.{behind_boundary}
use Rattle.lrlex_parser.proofs.text.after_mark.Goals as goal

pub split_at-requires : goal.split_at-requires
split_at-requires c = behind_boundary c.args.at c.args.text.now c.args.mark c.utf8.text c.requires.mark
