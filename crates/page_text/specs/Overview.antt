-- The tables, and the rules by how many violations they have.
use Rattle.std.specs.Prelude.{ℕ, ◌==◌, List, [], ◌++◌, Option, None, Some, if◌then◌else◌, length, slice_get, slice_index}
use Rattle.schema_core.specs.declared.schema.Table.{Table}
use Rattle.html_text.specs.Escaped.{escaped}
use Rattle.html_text.specs.Elements.{cell, each_place, number_between, number_cell}
use Rattle.page_text.specs.Kinds.{Kind}
use Rattle.page_text.specs.Markup.{markup}
use Rattle.page_text.specs.declared.markup.Piece.{Piece}
use Rattle.page_text.specs.declared.markup.Piece.TheVariants as piece
use Rattle.page_text.specs.declared.rows.RowCounts.{RowCounts}

-- ---- tables

-- the table, its file, how many rows were read, and how many it has now
abbrev pub table_row : Table → ℕ → ℕ → List ℕ
table_row table read now = markup piece.Row ++ cell table.name ++ cell table.file ++ number_cell read ++ number_cell now ++ markup piece.RowEnd

abbrev pub table_of : Option Table → ℕ → ℕ → List ℕ
table_of None read now = []
table_of (Some table) read now = table_row table read now

abbrev pub table_at : List Table → RowCounts → ℕ → List ℕ
table_at tables rows place = table_of (slice_get tables place) (slice_index rows.read place) (slice_index rows.present place)

abbrev pub tables_rows : List Table → RowCounts → List ℕ
tables_rows tables rows = each_place (table_at tables rows) (length tables)

-- ---- rules

-- the name of a rule, which leads to what is told of it, if anything is
abbrev pub rule_link : Piece → List ℕ → ℕ → List ℕ
rule_link link name place = number_between (markup link) place (markup piece.LinkText) ++ escaped name ++ markup piece.LinkEnd

abbrev pub rule_name : Piece → List ℕ → ℕ → ℕ → List ℕ
rule_name link name place count = if count == 0 then escaped name else rule_link link name place

abbrev pub rule_head : Piece → List ℕ → ℕ → ℕ → List ℕ
rule_head link name place count = markup piece.FirstCell ++ rule_name link name place count ++ markup piece.Break

-- a bar as long, against the longest, as there are violations
abbrev pub bar : ℕ → ℕ → List ℕ
bar count largest =
    if count == 0 then markup piece.NoBar
    else number_between (markup piece.Bar) count (markup piece.Slash) ++ number_between [] largest (markup piece.BarEnd)

abbrev pub row_end : ℕ → ℕ → List ℕ
row_end count largest = markup piece.CellEnd ++ number_cell count ++ bar count largest

module _ {Rule Found : Type 0} (kind : Kind Rule Found) where
  abbrev pub rule_row_of : List Table → Option Rule → ℕ → ℕ → ℕ → List ℕ
  rule_row_of tables None place count largest = []
  rule_row_of tables (Some rule) place count largest =
      rule_head kind.link (kind.name rule) place count ++ kind.words tables rule ++ row_end count largest

  abbrev pub rule_row_at : List Table → List Rule → List ℕ → ℕ → ℕ → List ℕ
  rule_row_at tables rules counts largest place = rule_row_of tables (slice_get rules place) place (slice_index counts place) largest

  abbrev pub rule_rows : List Table → List Rule → List ℕ → ℕ → List ℕ
  rule_rows tables rules counts largest = each_place (rule_row_at tables rules counts largest) (length rules)
