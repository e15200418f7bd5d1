-- The names of rows, and the rows after a change of one of them.
use Rattle.std.proofs.Common.{◌≡◌, ℕ, Bool, true, cond, List, Some, None, ap, ◌∙◌, arith}
use Rattle.std.specs.Prelude.{◌==◌, ◌&&◌}
use Rattle.std.specs.Ordering.{nat_cmp, eq_by_cmp}
use Rattle.std.specs.Cmp.{IsTotalOrder}
use Rattle.std.specs.FinMap as finite
use Rattle.std.specs.FinMap.{IsAntisymmetric}
use Rattle.std.proofs.lemmas.Bool.Decides.{nat_tests}
use Rattle.std.proofs.lemmas.Cmp.{then_total, on_total, nat_cmp_total}
use Rattle.std.proofs.lemmas.Map.Lookups.{exact_pairs, exact_unsigned}
use Rattle.master_index.specs.Masters.{RowName, MasterRows, row_name_cmp}

pub names_total : IsTotalOrder row_name_cmp
names_total = then_total (on_total (λ (name : RowName). name.0) nat_cmp_total) (on_total (λ (name : RowName). name.1) nat_cmp_total)

pub names_apart : IsAntisymmetric row_name_cmp
names_apart = exact_pairs nat_cmp nat_cmp exact_unsigned exact_unsigned

-- the names' own `==`
abbrev pub same_name : RowName → RowName → Bool
same_name one other = (one.0 == other.0) && (one.1 == other.1)

pub name_tie : (one other : RowName) → eq_by_cmp row_name_cmp one other ≡ same_name one other
name_tie one other = grind (arith, nat_tests)

-- the rows after a change, as indexes see them
pub row_after_insert : (rows : MasterRows) (table row t r : ℕ) (ids : List ℕ) → finite.get (finite.insert rows (table, row) ids) (t, r) ≡ cond ((t == table) && (r == row)) (Some ids) (finite.get rows (t, r))
row_after_insert rows table row t r ids = finite.get-insert names_total rows (table, row) ids (t, r) ∙ ap (λ b. cond b (Some ids) (finite.get rows (t, r))) (name_tie (t, r) (table, row))

pub row_now : (rows : MasterRows) (table row : ℕ) (ids : List ℕ) → finite.get (finite.insert rows (table, row) ids) (table, row) ≡ Some ids
row_now rows table row ids =
    let here : ((table == table) && (row == row)) ≡ true = grind (arith, nat_tests) in
    row_after_insert rows table row table row ids ∙ ap (λ b. cond b (Some ids) (finite.get rows (table, row))) here

pub row_after_remove : (rows : MasterRows) (table row t r : ℕ) → finite.get (finite.remove rows (table, row)) (t, r) ≡ cond ((t == table) && (r == row)) None (finite.get rows (t, r))
row_after_remove rows table row t r = finite.get-remove names_total rows (table, row) (t, r) ∙ ap (λ b. cond b None (finite.get rows (t, r))) (name_tie (t, r) (table, row))

pub no_row : (t r : ℕ) → finite.get (finite.empty {X = List ℕ} {R = row_name_cmp}) (t, r) ≡ None
no_row t r = finite.get-empty row_name_cmp (t, r)
