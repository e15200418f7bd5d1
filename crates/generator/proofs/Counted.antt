-- How many rows the first table of a bench has.
use Rattle.std.proofs.Common.{◌≡◌, ℕ, ◌≤◌, List, [], ◌∷◌, length, Option, Some, refl, ap, sym, ◌∙◌, arith}
use Rattle.std.specs.FinMap as finmap
use Rattle.std.specs.List.{slice_get}
use Rattle.std.specs.Option.{option_map_or}
use Rattle.std.proofs.lemmas.List.{length-map}
use Rattle.bench_core.specs.State.{State, TableState, rows_at}
use Rattle.bench_core.specs.Stored.{Stored, row_of, table_state}

-- as many as are stored
pub rows_counted : (state : State) (texts : List (List ℕ)) (table : Stored) (count : ℕ) → slice_get state 0 ≡ Some (table_state texts table) → count ≡ finmap.len table.rows → count ≡ length (rows_at state 0)
rows_counted state texts table count there is =
    is ∙ finmap.len-entries table.rows ∙ sym (length-map (finmap.entries table.rows) (row_of texts))
    ∙ ap (λ (o : Option TableState). length (option_map_or (λ (t : TableState). t.rows) o [])) (sym there)

-- none, where there is no table
pub none_counted : (state : State) → length state ≤ 0 → 0 ≡ length (rows_at state 0)
none_counted [] none = refl
none_counted (table ∷ tables) none = absurd (omega arith)
