-- The tables of a state, one after the other.
use Rattle.std.proofs.Common.{◌≡◌, ℕ, ◌+◌, ◌<◌, List, [], ◌∷◌, ◌++◌, length, take, Option, ap, sym, ◌∙◌}
use Rattle.std.specs.Option.{option_map_or}
use Rattle.std.proofs.lemmas.List.{map_more}
use Rattle.std.proofs.lemmas.Option.{slice_get-get_or}
use Rattle.bench_core.specs.State.{State, TableState, rows_at}
use Rattle.project_flaws.specs.Rows.{all_rows, parted, table_rows}
use Rattle.project_flaws.specs.declared.rows.TableRows.{TableRows}

any_table : TableState
any_table = record { rows = []; next_id = 0 }

-- one table more
pub all_rows-more : (state : State) (place : ℕ) (before after : List TableRows) (rows : TableRows) → place < length state → before ≡ all_rows (take place state) → rows ≡ parted (rows_at state place) → after ≡ before ++ rows ∷ [] → after ≡ all_rows (take (place + 1) state)
all_rows-more state place before after rows within so_far this more =
    let there = ap (λ (o : Option TableState). parted (option_map_or (λ (t : TableState). t.rows) o [])) (slice_get-get_or state place any_table within) in
    more ∙ ap (λ b. b ++ rows ∷ []) so_far ∙ ap (λ (r : TableRows). all_rows (take place state) ++ r ∷ []) (this ∙ there) ∙ sym (map_more table_rows state place any_table within)
