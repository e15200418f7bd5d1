-- The numbers of rows and cells, counted again as one table changes.
use Rattle.std.proofs.Common.{◌≡◌, ℕ, ◌+◌, ◌-◌, ◌*◌, ◌^◌, ◌<◌, ◌≤◌, List, length, get_or, slice_index, arith}
use Rattle.std.specs.List.{slice_set}
use Rattle.std.proofs.lemmas.List.FromFn.{length-map-range_with_len, get_or-map-range_with_len}
use Rattle.std.proofs.lemmas.Slice.Zip.{AllZip-long}
use Rattle.text_lists.specs.declared.limits.Limits.{Limits}
use Rattle.rule_model.specs.Books.{Book}
use Rattle.bench_core.specs.State.{TableState, State}
use Rattle.bench_core.specs.Sizes.{stopped_weight, total_rows, total_cells, weight}
use Rattle.bench_core.specs.Bench.{IsBench, AreCounts}
use Rattle.bench_core.proofs.Totals.{total_rows-set, total_cells-set, length-le-total_rows, cells-le-total_cells, mul-stopped}

module _ {rules : Book} {limits : Limits} {state : State} {weights : List ℕ} {rows cells : ℕ} (bench : IsBench rules limits state) (counts : AreCounts rules state weights rows cells)
    (number : ℕ) (inside : number < length state) where
  pub in_tables : number < length rules.schema.tables
  in_tables = let long = AllZip-long _ _ _ bench.tables in omega arith

  pub in_weights : number < length weights
  in_weights = rw (counts.weights-is) (rw (length-map-range_with_len (stopped_weight rules) 0 (length rules.schema.tables)) in_tables)

  pub weight-is : slice_index weights number ≡ stopped_weight rules number
  weight-is = rw (counts.weights-is) (get_or-map-range_with_len (stopped_weight rules) 0 (length rules.schema.tables) number number 0 in_tables (omega arith))

  -- the table becomes another, and the state is still one that the bench may have
  module _ (before after : TableState) (at : get_or state number before ≡ before) (later : IsBench rules limits (slice_set state number after)) where
    rows-set : total_rows (slice_set state number after) + length before.rows ≡ total_rows state + length after.rows
    rows-set = total_rows-set state number before after inside at

    cells-set : total_cells rules (slice_set state number after) + length before.rows * weight rules number ≡ total_cells rules state + length after.rows * weight rules number
    cells-set = total_cells-set rules state number before after inside at

    before-rows : length before.rows ≤ rows
    before-rows = rw (counts.rows-is) (length-le-total_rows state number before inside at)

    after-rows : length after.rows ≤ limits.rows
    after-rows = let few = later.few_rows in let total = rows-set in let part = length-le-total_rows state number before inside at in omega arith

    before-cells : length before.rows * slice_index weights number ≡ length before.rows * weight rules number
    before-cells =
        let most = bench.allowed.index_cells in
        let few = bench.few_cells in
        let part = cells-le-total_cells rules state number before inside at in
        rw weight-is (mul-stopped (length before.rows) (weight rules number) (2 ^ 64 - 1) limits.index_cells (omega arith) (omega arith))

    after-cells-le : length after.rows * weight rules number ≤ limits.index_cells
    after-cells-le = let few = later.few_cells in let total = cells-set in let part = cells-le-total_cells rules state number before inside at in omega arith

    after-cells : length after.rows * slice_index weights number ≡ length after.rows * weight rules number
    after-cells =
        let most = bench.allowed.index_cells in
        rw weight-is (mul-stopped (length after.rows) (weight rules number) (2 ^ 64 - 1) limits.index_cells after-cells-le (omega arith))

    pub rows-fit : (length before.rows ≤ rows) × (rows + length after.rows < 2 ^ 64)
    rows-fit = (before-rows, let few = after-rows in let most = bench.allowed.rows in let held = bench.few_rows in let rows-is = counts.rows-is in omega arith)

    pub cells-fit : (length before.rows * slice_index weights number ≤ cells) × (cells + length after.rows * slice_index weights number < 2 ^ 64)
    cells-fit = (
      rw before-cells (rw (counts.cells-is) (cells-le-total_cells rules state number before inside at)),
      let few = after-cells-le in let most = bench.allowed.index_cells in let held = bench.few_cells in let cells-is = counts.cells-is in rw after-cells (omega arith),
    )

    pub counts-after : AreCounts rules (slice_set state number after) weights (rows - length before.rows + length after.rows) (cells - length before.rows * slice_index weights number + length after.rows * slice_index weights number)
    counts-after =
        let total = rows-set in
        let all = cells-set in
        let part = before-rows in
        let part_cells = cells-le-total_cells rules state number before inside at in
        let rows-is = counts.rows-is in
        let cells-is = counts.cells-is in
        record {
          weights-is = counts.weights-is;
          rows-is = omega arith;
          cells-is = rw (before-cells, after-cells) (omega arith);
        }
