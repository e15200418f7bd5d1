-- The rows of master tables after one of them followed a row.
use Rattle.std.proofs.Common.{◌≡◌, ℕ, Bool, true, false, cond, List, Option, Some, None, refl, sym, ap, ◌∙◌, arith}
use Rattle.std.specs.Prelude.{◌==◌, ◌&&◌}
use Rattle.std.specs.FinMap as finite
use Rattle.std.proofs.lemmas.Bool.Decides.{nat_tests}
use Rattle.schema_core.specs.Lookups.{master_at}
use Rattle.rule_model.specs.Books.{Book}
use Rattle.row_store.specs.Watches.{with_row}
use Rattle.master_index.specs.Masters.{Masters, MasterRows}
use Rattle.master_index.proofs.MasterRowFacts.{row_after_insert, row_after_remove, no_row}
use Rattle.bench_index.specs.AllIndexes.{Tuples, masters_of, FollowAsMaster}

-- a row that has the tuple already is given it again
pub row_again : (tuples : Tuples) (table row : ℕ) (tuple : Option (List ℕ)) → tuples table row ≡ tuple → (t r : ℕ) → with_row tuples table row tuple t r ≡ tuples t r
row_again tuples table row tuple there t r = by ((t == table) && (r == row)) refl
  where
    by : (b : Bool) → ((t == table) && (r == row)) ≡ b → cond b tuple (tuples t r) ≡ tuples t r
    by false _ = refl
    by true here =
        let is_table : table ≡ t = grind (arith, nat_tests, here) in
        let is_row : row ≡ r = grind (arith, nat_tests, here) in
        sym there ∙ ap (λ n. tuples n row) is_table ∙ ap (tuples t) is_row

module _ (table row : ℕ) where
  pub follow-other : (new : Option (List ℕ)) (masters : Masters) → FollowAsMaster false table row new masters masters
  follow-other new masters = record { lists = refl; rows = λ t r. refl }

  pub follow-insert : (ids : List ℕ) (before after : Masters) → after.lists ≡ before.lists → after.rows ≡ finite.insert before.rows (table, row) ids → FollowAsMaster true table row (Some ids) before after
  follow-insert ids before after lists rows = record { lists = lists; rows = λ t r. ap (λ m. finite.get m (t, r)) rows ∙ row_after_insert before.rows table row t r ids }

  pub follow-remove : (before after : Masters) → after.lists ≡ before.lists → after.rows ≡ finite.remove before.rows (table, row) → FollowAsMaster true table row None before after
  follow-remove before after lists rows = record { lists = lists; rows = λ t r. ap (λ m. finite.get m (t, r)) rows ∙ row_after_remove before.rows table row t r }

-- A row of a table t, of which another table may have got one: where `here` says that it is that one, it has the new tuple,
-- if the other table is one of master data, and then t is that table.
pub row-given : (rules : Book) (table t : ℕ) (here : Bool) → (here ≡ true → t ≡ table) → (new tuple before after : Option (List ℕ)) → before ≡ cond (master_at rules.schema t) tuple None
    → after ≡ cond (master_at rules.schema table) (cond here new before) before → after ≡ cond (master_at rules.schema t) (cond here new tuple) None
row-given rules table t here there new tuple before after held is = by (master_at rules.schema table) refl is
  where
    of_master : (b : Bool) → here ≡ b → master_at rules.schema table ≡ true → cond b new before ≡ cond (master_at rules.schema t) (cond b new tuple) None
    of_master false _ marked = held
    of_master true is marked = sym (ap (λ m. cond m new None) (ap (master_at rules.schema) (there is) ∙ marked))

    of_other : (b : Bool) → here ≡ b → master_at rules.schema table ≡ false → before ≡ cond (master_at rules.schema t) (cond b new tuple) None
    of_other false _ plain = held
    of_other true is plain =
        let unmarked = ap (master_at rules.schema) (there is) ∙ plain in
        held ∙ ap (λ m. cond m tuple None) unmarked ∙ sym (ap (λ m. cond m new None) unmarked)

    by : (b : Bool) → master_at rules.schema table ≡ b → after ≡ cond b (cond here new before) before → after ≡ cond (master_at rules.schema t) (cond here new tuple) None
    by true marked is = is ∙ of_master here refl marked
    by false plain is = is ∙ of_other here refl plain

-- the rows of all master tables
pub masters-followed : (rules : Book) (tuples : Tuples) (table row : ℕ) (new : Option (List ℕ)) (before after : Masters)
    → ((t r : ℕ) → finite.get before.rows (t, r) ≡ masters_of rules tuples t r) → FollowAsMaster (master_at rules.schema table) table row new before after
    → (t r : ℕ) → finite.get after.rows (t, r) ≡ masters_of rules (with_row tuples table row new) t r
masters-followed rules tuples table row new before after in_step followed t r =
    row-given rules table t ((t == table) && (r == row)) (λ is. grind (arith, nat_tests, is)) new (tuples t r) (finite.get before.rows (t, r)) (finite.get after.rows (t, r)) (in_step t r) (followed.rows t r)

-- without rows
pub masters-empty : (rules : Book) (rows : MasterRows) → rows ≡ finite.empty → (t r : ℕ) → finite.get rows (t, r) ≡ masters_of rules (λ _ _. None) t r
masters-empty rules rows empty t r = ap (λ m. finite.get m (t, r)) empty ∙ no_row t r ∙ by None (master_at rules.schema t)
  where
    by : (tuple : Option (List ℕ)) (b : Bool) → tuple ≡ cond b tuple tuple
    by tuple true = refl
    by tuple false = refl
