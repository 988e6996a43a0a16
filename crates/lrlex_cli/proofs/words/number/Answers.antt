use Rattle.std.specs.Str.Parse.{ParsesUnsigned, ExplainsUnsignedError, HasUnsignedDigitsIfOk}
use Rattle.clap.specs.Words.{found_of}
use Rattle.lrlex_cli.proofs.NumberLemmas.{read_number}
use Rattle.lrlex_cli.proofs.words.number.Goals as goal

pub returns-clause-value : goal.returns-clause-value
returns-clause-value c = (read_number _ 64 (λ t x. ParsesUnsigned 64 10 t x × ExplainsUnsignedError 10 t x × HasUnsignedDigitsIfOk t x) (λ t x g. g.0) c.map_err.result _
    (found_of c.args.matches.now) c.args.name.now c.try_get_one.result c.try_get_one.ensures.none c.try_get_one.ensures.value c.map_err.ensures.cases).0

pub returns-clause-refused : goal.returns-clause-refused
returns-clause-refused c = (read_number _ 64 (λ t x. ParsesUnsigned 64 10 t x × ExplainsUnsignedError 10 t x × HasUnsignedDigitsIfOk t x) (λ t x g. g.0) c.map_err.result _
    (found_of c.args.matches.now) c.args.name.now c.try_get_one.result c.try_get_one.ensures.none c.try_get_one.ensures.value c.map_err.ensures.cases).1
