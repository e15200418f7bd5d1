-- How many rows the tables of a state have.
use Rattle.std.proofs.Common.{◌≡◌, ℕ, zero, suc, ◌+◌, ◌<◌, List, [], ◌∷◌, ◌++◌, length, take, Some, ap, sym, ◌∙◌}
use Rattle.std.specs.Prelude.{slice_get}
use Rattle.std.specs.FinMap as finmap
use Rattle.std.proofs.lemmas.List.{length-map, take_more}
use Rattle.std.proofs.lemmas.Option.{none-some, same_Some, get_or_from_slice_get}
use Rattle.bench_core.specs.State.{State, TableState}
use Rattle.bench_core.specs.Stored.{Stored, row_of, table_state}
use Rattle.view_project.specs.Looking.{counts_of}

same-count : (first table : TableState) → Some first ≡ Some table → Some (length first.rows) ≡ Some (length table.rows)
same-count first table same = ap (λ (t : TableState). Some (length t.rows)) (same_Some first table same)

count-at : (state : State) (place : ℕ) (table : TableState) → slice_get state place ≡ Some table → slice_get (counts_of state) place ≡ Some (length table.rows)
count-at [] place table is = absurd (none-some table is)
count-at (first ∷ state) zero table is = same-count first table is
count-at (first ∷ state) (suc place) table is = count-at state place table is

pub counts-long : (state : State) → length (counts_of state) ≡ length state
counts-long state = length-map state (λ (table : TableState). length table.rows)

pub count-stored : (state : State) (place : ℕ) (texts : List (List ℕ)) (stored : Stored) (count : ℕ) → slice_get state place ≡ Some (table_state texts stored) → count ≡ finmap.len stored.rows → slice_get (counts_of state) place ≡ Some count
count-stored state place texts stored count is counted =
    count-at state place (table_state texts stored) is ∙ ap Some (length-map (finmap.entries stored.rows) (row_of texts) ∙ sym (finmap.len-entries stored.rows) ∙ sym counted)

pub counts-more : (all : List ℕ) (place count : ℕ) (before after : List ℕ) → place < length all → slice_get all place ≡ Some count → before ≡ take place all → after ≡ before ++ count ∷ [] → after ≡ take (place + 1) all
counts-more all place count before after within is so_far more =
    more ∙ ap (λ (counts : List ℕ). counts ++ count ∷ []) so_far ∙ ap (λ n. take place all ++ n ∷ []) (sym (get_or_from_slice_get all place count 0 is)) ∙ sym (take_more all place 0 within)
