use Rattle.lrlex_parser.proofs.CutLaws.{some_cut, only_cut, offsets_cut}
use Rattle.lrlex_parser.proofs.laws.line_laws.Goals as goal

pub returns-clause-some : goal.returns-clause-some
returns-clause-some c = λ p x. some_cut p _

pub returns-clause-only : goal.returns-clause-only
returns-clause-only c = λ p x pieces between h. only_cut p x.at _ pieces between h

pub returns-clause-offsets : goal.returns-clause-offsets
returns-clause-offsets c = λ p x pieces between h. offsets_cut p x.at _ pieces between h
