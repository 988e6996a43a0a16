use Rattle.std.proofs.Common.{◌≡◌, ◌+◌, ◌<◌, ◌≤◌, IfSome, IsCharBoundary, MatchOption, Some, drop, vec_len, sym, subst, arith}
use Rattle.std.specs.Prelude.{max}
use Rattle.lrlex.specs.Scanner.{IsSought, sought_at, sought_to}
use Rattle.lrlex_rules.specs.Tiling.{IsStuck, Wins}
use Rattle.lrlex_definition.specs.RuleTable.{definition_by}
use Rattle.lrlex.specs.Work.{HasWorked, won_bytes}
use Rattle.lrlex.proofs.FoundLemmas.{just_sought}
use Rattle.lrlex.proofs.lexing.scanning.seek.Goals as goal

pub take_tile-requires-clause-sought : goal.take_tile-requires-clause-sought
take_tile-requires-clause-sought g c =
    let table = c.args.table.now in
    let d = definition_by g.S.Numbered.number table in
    let k = c.args.cursor.now in
    let q = k.rules.state in
    let winner = c.in-Ok.scan.winner in
    let rest : c.range_from-rest.result.now ≡ drop k.place c.args.text.now = c.range_from-rest.ensures.value in
    record {
      inside = omega (arith, c.if-place-text.false, c.requires.cursor.stands.boundary.0);
      wins = subst (λ r. MatchOption winner (IsStuck d q r) (λ t. Wins d q r t.rule t.len)) rest c.in-Ok.ensures.scan.winner;
      tile = subst (λ r. IfSome winner (λ t. IsCharBoundary r t.len × (t.rule < vec_len table.rules))) rest c.in-Ok.ensures.tile;
    }

pub take_tile-requires-clause-cursor : goal.take_tile-requires-clause-cursor
take_tile-requires-clause-cursor g c =
    let was = c.requires.cursor in
    let table = c.args.table.now in
    let k = c.args.cursor.now in
    let winner = c.in-Ok.scan.winner in
    let here : sought_at k.place (Some (record { place = k.place; winner = winner })) ≡ Some winner = just_sought k.place winner in
    let sought : IsSought g.S.Numbered.number table c.args.text.now k.place k.rules.state winner = take_tile-requires-clause-sought g c in
    record {
      stands = was.stands;
      initial = was.initial;
      rules = was.rules;
      state = was.state;
      searcher = c.in-Ok.ensures.searcher c.args.text.now was.searcher;
      behind = omega arith;
      sought = subst (λ o. IfSome o (IsSought g.S.Numbered.number table c.args.text.now k.place k.rules.state)) (sym here) sought;
      worked = λ kept. subst (λ o. HasWorked table k.from (sought_to k.place o) c.winner.new.self.ends) (sym here)
          (c.in-Ok.ensures.linear k.from (subst (λ o. HasWorked table k.from (sought_to k.place o) k.searcher.ends) c.requires.unsought (was.worked kept)));
    }

pub take_tile-requires-clause-within : goal.take_tile-requires-clause-within
take_tile-requires-clause-within g c =
    let k = c.args.cursor.now in
    let winner = c.in-Ok.scan.winner in
    subst (λ o. sought_to k.place o ≤ k.place + max 1 (won_bytes winner)) (sym (just_sought k.place winner)) (omega arith)
