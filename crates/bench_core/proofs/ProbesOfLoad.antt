-- The probes of loading, table by table.
use Rattle.std.proofs.Common.{◌≡◌, ℕ, ◌+◌, ◌*◌, ◌≤◌, [], ◌∷◌, ◌++◌, length, arith, zero-add}
use Rattle.std.specs.List.{enumerate_from}
use Rattle.std.proofs.lemmas.List.FromFn.{length-enumerate_from}
use Rattle.std.proofs.lemmas.List.Sums.{sum_by-append}
use Rattle.bench_index.specs.AllIndexes.{most_probes}
use Rattle.rule_model.specs.Books.{Book}
use Rattle.bench_core.specs.State.{TableState, State}
use Rattle.bench_core.specs.Indexed.{load_probes}
use Rattle.bench_core.specs.Loading.{Tuples, loaded_table}
use Rattle.bench_core.proofs.Numbers.{enumerate_from-push}

-- the probes of one table more
pub load_probes-push : (rules : Book) (state : State) (table : TableState) → load_probes rules (state ++ table ∷ []) ≡ load_probes rules state + length table.rows * most_probes rules (length state)
load_probes-push rules state table =
    let summed = sum_by-append (λ (at : ℕ × TableState). length at.1.rows * most_probes rules at.0) (enumerate_from 0 state) ((0 + length state, table) ∷ []) in
    rw (enumerate_from-push 0 state table, summed, zero-add) (grind arith)

-- one table more
pub probes-table : (rules : Book) (begun before after : ℕ) (state more : State) (tuples : Tuples) → before ≤ begun + load_probes rules state → after ≤ before + length tuples * most_probes rules (length state) → more ≡ state ++ loaded_table tuples ∷ [] → after ≤ begun + load_probes rules more
probes-table rules begun before after state more tuples so_far next joined =
    let long : length (loaded_table tuples).rows ≡ length tuples = length-enumerate_from 1 tuples in
    let summed = load_probes-push rules state (loaded_table tuples) in
    rw joined (rw (summed, long) (omega (arith, so_far, next)))
