use Rattle.std.proofs.Common.{◌≡◌, ◌+◌, ◌≤◌, ◌++◌, length, map}
use Rattle.std.specs.Prelude.{vec_len, vec_capacity}
use Rattle.lrlex_table.specs.Ahead.{begin_at}
use Rattle.lrlex.specs.Plain.{AllArePlain, lexemes_of}
use Rattle.lrlex.specs.Views.{item_of}
use Rattle.lrlex.proofs.lexing.plain.store_tiles.Given as goal

abbrev pub invariant-tiles : goal.invariant-tiles
invariant-tiles g l = record {
  within : l.at ≤ length l.found.marks.now;
  begin : l.begin ≡ begin_at l.found.from l.place l.found.marks.now l.at;
  plain : AllArePlain l.kinds l.list l.found.marks.now l.at;
  items : map (item_of g.S.Numbered.number g.X.Lexeme.seen) l.items.items
      ≡ map (item_of g.S.Numbered.number g.X.Lexeme.seen) l.fn.items.items ++ lexemes_of g.S.Numbered.number l.kinds l.found.from l.place l.found.marks.now l.at;
  len : vec_len l.items ≤ vec_len l.fn.items + l.at;
  capacity : vec_capacity l.items ≡ vec_capacity l.fn.items;
}
