-- What the budget's rows pay for: the rows of tables, and of a chain one row for each 256 cells.
use Rattle.std.specs.Prelude.{ℕ, List, Option, Some, None, vec_len}
use Rattle.std.specs.List.{sum_by}
use Rattle.std.specs.Int.{div_ceil}
use Rattle.lrlex_table.specs.Tables.{rows_of}
use Rattle.lrlex_table.specs.declared.cached_table.CachedTable.{CachedTable}
use Rattle.lrlex_table.specs.declared.chain.Chain.{Chain}
use Rattle.lrlex_table.specs.declared.merged_tables.Part.{Part}
use Rattle.lrlex_table.specs.declared.table.Table.{Table}
use Rattle.lrlex_table.specs.declared.tables.Tables.{Tables}

-- the rows of a table, where there is one
abbrev pub table_rows : Option Table → ℕ
table_rows None = 0
table_rows (Some t) = vec_len t.wins

-- the rows of a part's table, where there is one
abbrev pub part_rows : Option Part → ℕ
part_rows None = 0
part_rows (Some p) = vec_len p.table.wins

-- the rows that a chain is paid as, where there is one
abbrev pub chain_rows : Option Chain → ℕ
chain_rows None = 0
chain_rows (Some c) = div_ceil (vec_len c.cells) 256

-- the rows of the tables that the cache holds
abbrev pub cached_rows : List CachedTable → ℕ
cached_rows cache = sum_by (λ s. table_rows s.table) cache

-- the rows of the tables of a list of patterns
abbrev pub tables_rows : Tables → ℕ
tables_rows t = rows_of t.parts.items

-- the rows of the tables of a list of patterns, where there are some
abbrev pub some_rows : Option Tables → ℕ
some_rows None = 0
some_rows (Some t) = tables_rows t

-- the rows of all tables of these lists
abbrev pub rows_held : List Tables → ℕ
rows_held lists = sum_by tables_rows lists
