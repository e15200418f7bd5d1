-- The rows and cells of a state, as one table of it changes or joins.
use Rattle.std.proofs.Common.{◌≡◌, ℕ, ◌+◌, ◌*◌, ◌<◌, ◌≤◌, min, [], ◌∷◌, ◌++◌, length, get_or, set, suc, zero, nat_le, arith, refl, inl, inr, zero-mul, zero-add}
use Rattle.std.specs.List.{enumerate_from}
use Rattle.std.proofs.lemmas.Bool.{cases_lt, lt-leb}
use Rattle.std.proofs.lemmas.List.FromFn.{length-enumerate_from, get_or-enumerate_from}
use Rattle.std.proofs.lemmas.List.Sums.{sum_by-set, sum_by-append, get_or-le-sum_by}
use Rattle.rule_model.specs.Books.{Book}
use Rattle.bench_core.specs.State.{TableState, State}
use Rattle.bench_core.specs.Sizes.{total_rows, total_cells, weight}
use Rattle.bench_core.proofs.Numbers.{enumerate_from-set, enumerate_from-push}

-- ---- rows

pub total_rows-set : (state : State) (n : ℕ) (before after : TableState) → n < length state → get_or state n before ≡ before
    → total_rows (set state n after) + length before.rows ≡ total_rows state + length after.rows
total_rows-set state n before after within at = rw at at (sum_by-set (λ (table : TableState). length table.rows) state n after before within)

pub length-le-total_rows : (state : State) (n : ℕ) (table : TableState) → n < length state → get_or state n table ≡ table → length table.rows ≤ total_rows state
length-le-total_rows state n table within at = rw at at (get_or-le-sum_by (λ (table : TableState). length table.rows) state n table within)

pub total_rows-push : (state : State) (table : TableState) → total_rows (state ++ table ∷ []) ≡ total_rows state + length table.rows
total_rows-push state table = let summed = sum_by-append (λ (table : TableState). length table.rows) state (table ∷ []) in grind (arith, summed)

-- ---- cells

abbrev pub cells_at : Book → ℕ × TableState → ℕ
cells_at rules at = length at.1.rows * weight rules at.0

at_number : (state : State) (n : ℕ) (table : TableState) → n < length state → get_or state n table ≡ table → get_or (enumerate_from 0 state) n (n, table) ≡ (n, table)
at_number state n table within at = rw (get_or-enumerate_from 0 state n (n, table) within, at, zero-add) refl

pub total_cells-set : (rules : Book) (state : State) (n : ℕ) (before after : TableState) → n < length state → get_or state n before ≡ before
    → total_cells rules (set state n after) + length before.rows * weight rules n ≡ total_cells rules state + length after.rows * weight rules n
total_cells-set rules state n before after within at =
    let inside : n < length (enumerate_from 0 state) = rw (length-enumerate_from 0 state) within in
    let summed = sum_by-set (cells_at rules) (enumerate_from 0 state) n (n, after) (n, before) inside in
    let there = at_number state n before within at in
    let numbered = enumerate_from-set 0 state n after in
    rw (numbered, zero-add) (rw there at summed)

pub cells-le-total_cells : (rules : Book) (state : State) (n : ℕ) (table : TableState) → n < length state → get_or state n table ≡ table → length table.rows * weight rules n ≤ total_cells rules state
cells-le-total_cells rules state n table within at =
    let inside : n < length (enumerate_from 0 state) = rw (length-enumerate_from 0 state) within in
    rw (at_number state n table within at) at (get_or-le-sum_by (cells_at rules) (enumerate_from 0 state) n (n, table) inside)

pub total_cells-push : (rules : Book) (state : State) (table : TableState) → total_cells rules (state ++ table ∷ []) ≡ total_cells rules state + length table.rows * weight rules (length state)
total_cells-push rules state table =
    let summed = sum_by-append (cells_at rules) (enumerate_from 0 state) ((0 + length state, table) ∷ []) in
    rw (enumerate_from-push 0 state table, summed, zero-add) (grind arith)

-- ---- weights that stop

-- a product within a bound has no factor that stops above it
pub mul-stopped : (k w m most : ℕ) → k * w ≤ most → most < m → k * min w m ≡ k * w
mul-stopped zero w m most within below = simp zero-mul
mul-stopped (suc k) w m most within below =
    let low : w ≤ suc k * w = grind arith in
    let same : min w m ≡ w = omega arith in
    rw same refl

-- the test is the same
pub nat_le-stopped : (cells k w m most : ℕ) → most < m → nat_le (cells + k * min w m) most ≡ nat_le (cells + k * w) most
nat_le-stopped cells zero w m most below = simp zero-mul
nat_le-stopped cells (suc k) w m most below =
    elim (cases_lt m w) [
      | inl above ↦
          let least : min w m ≡ m = omega arith in
          let low : m ≤ suc k * m = grind arith in
          let high : w ≤ suc k * w = grind arith in
          rw (least, lt-leb (cells + suc k * m) most (omega arith), lt-leb (cells + suc k * w) most (omega arith)) refl
      | inr within ↦ let least : min w m ≡ w = omega arith in rw least refl
    ]
