-- What is stored of tables of a pool that are loaded one after another.
use Rattle.std.proofs.Common.{◌≡◌, ℕ, ◌+◌, ◌≤◌, List, [], All, arith, refl, Vec, Global}
use Rattle.std.proofs.lemmas.List.Elements.{All-nil}
use Rattle.text_lists.specs.declared.limits.Limits.{Limits}
use Rattle.row_store.specs.Tuple.{Tuple}
use Rattle.rule_model.specs.Books.{Book}
use Rattle.bench_index.specs.declared.all_indexes.AllIndexes.{AllIndexes}
use Rattle.bench_core.specs.Stored.{Stored, RowsHaveTexts, state_of}
use Rattle.bench_core.specs.Indexed.{IsIndexed, load_probes, tuples_of}
use Rattle.bench_core.specs.Loading.{CanLoad, tables_in}
use Rattle.bench_core.specs.declared.sizes.Counts.{Counts}
use Rattle.bench_core.proofs.Loads.{IsSoFar}

pub record AreStored (rules : Book) (limits : Limits) (texts : List (List ℕ)) (yielded : List (Vec Tuple Global)) (tables : List Stored) (numbers : Counts) (index : AllIndexes) (before after : ℕ) : Type 0 where
  pub so_far : IsSoFar rules limits (tables_in texts yielded) (state_of texts tables) numbers.weights.items numbers.rows numbers.cells
  pub named : All (λ (table : Stored). RowsHaveTexts texts table.rows) tables
  pub indexed : IsIndexed rules texts (tuples_of tables) index
  pub probes : after ≤ before + load_probes rules (state_of texts tables)

-- before the first table
pub so_far-none : {rules : Book} {limits : Limits} {texts : List (List ℕ)} {tables : List (Vec Tuple Global)} {numbers : Counts} {index : AllIndexes} → CanLoad rules limits texts tables numbers index → (steps : ℕ) → AreStored rules limits texts [] [] numbers index steps steps
so_far-none {rules} {limits} {texts} {tables} {numbers} {index} can steps =
    let rows : numbers.rows ≡ 0 = can.counts.rows-is in
    let cells : numbers.cells ≡ 0 = can.counts.cells-is in
    let probes : load_probes rules [] ≡ 0 = refl in
    record {
      so_far = record { loaded-is = refl; clear = λ place lt. absurd (omega arith); counts = can.counts; few_rows = omega arith; few_cells = omega arith };
      named = All-nil (λ (table : Stored). RowsHaveTexts texts table.rows);
      indexed = can.indexed;
      probes = omega arith;
    }
