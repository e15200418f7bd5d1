-- Tables that together have too many rows, or would need too many cells of indexes: how many rows each has.
use Rattle.std.specs.Prelude.{ℕ, ◌-◌, ◌^◌, min, List, [], ◌++◌, length, sum_by, Option, None, Some, codes, decimal}
use Rattle.std.specs.List.{flat_map, zip}
use Rattle.text_lists.specs.declared.limits.Limits.{Limits}
use Rattle.schema_core.specs.declared.schema.Schema.{Schema}
use Rattle.schema_core.specs.declared.schema.Table.{Table}
use Rattle.cli_output.specs.declared.refusal.Cause.{Cause}
use Rattle.cli_output.specs.declared.refusal.Cause.TheVariants as cause
use Rattle.view_refusal.specs.RowCounts.{count_line}
use Rattle.view_refusal.specs.declared.anew.Anew.{Anew}

-- ---- how many rows each table has

abbrev pub pair_count : Table × List (List (List ℕ)) → List ℕ
pair_count (table, rows) = count_line table (length rows)

abbrev pub counts_text : List Table → List (List (List (List ℕ))) → List ℕ
counts_text tables all = flat_map pair_count (zip tables all)

-- ---- how many all have

-- the number stops at the last one of its type
abbrev pub row_total : List (List (List (List ℕ))) → ℕ
row_total all = min (sum_by (λ (rows : List (List (List ℕ))). length rows) all) (2 ^ 64 - 1)

unfoldable pub most_words : Limits → List ℕ
most_words limits = codes "; at most " ++ decimal limits.rows ++ codes " rows, and " ++ decimal limits.index_cells ++ codes " cells of indexes\n"

abbrev pub total_line : Limits → ℕ → List ℕ
total_line limits total = decimal total ++ codes " rows in all tables" ++ most_words limits

abbrev pub tables_full : Limits → List Table → List (List (List (List ℕ))) → List ℕ
tables_full limits tables all = counts_text tables all ++ total_line limits (row_total all)

abbrev pub anew_full : Limits → Option Schema → Option (List (List (List (List ℕ)))) → List ℕ
anew_full limits None all = []
anew_full limits (Some schema) None = []
anew_full limits (Some schema) (Some all) = tables_full limits schema.tables all

-- where that is the cause, and all could be read again
abbrev pub full_text : Limits → Cause → Anew → List ℕ
full_text limits cause.RowsFull anew = anew_full limits anew.schema anew.tables
full_text limits other anew = []
