-- Row ids, and how many rows there are.
use Rattle.std.specs.Prelude.{ℕ, List, ◌++◌, take, length, nat_lt, if◌then◌else◌, decimal}
use Rattle.std.specs.List.{flat_map}
use Rattle.html_text.specs.Elements.{number_cell}
use Rattle.page_text.specs.Markup.{markup, more_text}
use Rattle.page_text.specs.declared.markup.Piece.{Piece}
use Rattle.page_text.specs.declared.markup.Piece.TheVariants as piece
use Rattle.page_text.specs.declared.rows.Shown.{Shown}

-- a row that wasn't read came by the script
abbrev pub id_end : Shown → ℕ → Piece
id_end shown row = if nat_lt shown.read row then piece.Star else piece.Blank

abbrev pub id_text : Shown → ℕ → List ℕ
id_text shown row = decimal row ++ markup (id_end shown row)

abbrev pub ids_text : Shown → List ℕ → List ℕ
ids_text shown rows = flat_map (id_text shown) (take shown.first rows) ++ more_text piece.More shown.first (length rows) piece.MoreEnd

-- how many rows these are, and their ids
unfoldable pub rows_cells : Shown → List ℕ → List ℕ
rows_cells shown rows = number_cell (length rows) ++ markup piece.Cell ++ ids_text shown rows ++ markup piece.LastCellEnd
