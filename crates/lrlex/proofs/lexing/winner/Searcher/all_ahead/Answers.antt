use Rattle.std.specs.Option.{ForSome}
use Rattle.lrlex_table.specs.Ahead.{IsBestIn, begin_at, match_at}
use Rattle.lrlex.proofs.FoundLemmas.{found_is, found_plain, found_some}
use Rattle.lrlex.proofs.lexing.winner.Searcher.all_ahead.Goals as goal

pub returns-clause-tiles : goal.returns-clause-tiles
returns-clause-tiles g c input is k w lt read same =
    let number = g.S.Numbered.number in
    let table = c.args.table.now in
    let rules = c.args.rules.now in
    let s = c.args.self.now in
    let found = c.matches_ahead.result in
    let place = begin_at found.from c.args.place found.marks.now k in
    let next = match_at found.from found.marks.now k in
    let best : ForSome s.ends.chain (λ chain. IsBestIn s.ends.lists.now s.ends.text.now place next chain.now) = λ chain at. c.matches_ahead.ensures.best chain at k lt in
    let of = c.requires.rules in (
      found_some number table rules of s input is place next w read same best,
      found_is number table rules of s input is place next w read same best,
      found_plain number table rules of s input is place next w read same best,
    )
