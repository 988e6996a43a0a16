use Rattle.std.proofs.Common.{◌∷◌, ◌++◌, [], List, map, refl, sym, ap, subst}
use Rattle.lrlex_parser.specs.declared.faults.LexBuildError.{LexBuildError}
use Rattle.lrlex_rules.specs.Flags.{unset, config_of, size_limit_of}
use Rattle.lrlex_parser.specs.Event.{Event}
use Rattle.lrlex_parser.specs.Event.Event.{NewState}
use Rattle.lrlex_parser.specs.Declaration.{initial}
use Rattle.lrlex_parser.specs.AllFaults.{part_faults}
use Rattle.lrlex_parser.specs.LexBuildResult.{as_fault, regex_errors, AreRefusals}
use Rattle.lrlex_parser.proofs.survey.Survey.new.Goals as goal

pub returns-clause-stands : goal.returns-clause-stands
returns-clause-stands g c flags =
    let first : List Event = NewState initial ∷ [] in
    let none = sym c.new-2.ensures.items in (
      record {
        since = first;
        parser = c.in_ok-new.ensures flags;
        states = refl;
        rules = refl;
        told = λ more. ap (λ (es : List LexBuildError). map as_fault es ++ part_faults (first ++ more)) none;
        patterns = [];
        refused = refl;
        refusals = subst (λ (es : List LexBuildError). AreRefusals (config_of flags) (size_limit_of flags) [] (regex_errors es)) none tt;
      },
      refl,
    )

pub returns-clause-calm : goal.returns-clause-calm
returns-clause-calm g c = (c.in_ok-new.ensures unset).refused
