-- Indexes that take all rows of a table at once, of which they had none before.
use Rattle.std.specs.Prelude.{◌≡◌, ℕ, ◌==◌, nat_lt, Bool, List, All, Option, None, if◌then◌else◌}
use Rattle.std.specs.FinMap as finite
use Rattle.std.specs.Option.{ForSome}
use Rattle.rule_model.specs.Books.{Book}
use Rattle.row_store.specs.Watch.{IsWide}
use Rattle.row_store.specs.Watches.{IsInStep, with_row}
use Rattle.row_store.specs.declared.watch.Watch.{Ghosts}
use Rattle.master_index.specs.Masters.{Masters}
use Rattle.bench_index.specs.AllIndexes.{Tuples, AreInStepWith}
use Rattle.bench_index.specs.declared.all_indexes.AllIndexes.{AllIndexes}

-- the tuples after a table got these rows
abbrev pub with_table : Tuples → ℕ → (ℕ → Option (List ℕ)) → Tuples
with_table tuples table own t r = if t == table then own r else tuples t r

-- the rows whose ids are less
abbrev pub rows_below : ℕ → (ℕ → Option (List ℕ)) → ℕ → Option (List ℕ)
rows_below id own row = if nat_lt row id then own row else None

-- the table has no row
abbrev pub IsWithoutRows : ℕ → Tuples → Type 0
IsWithoutRows table tuples = (row : ℕ) → tuples table row ≡ None

module _ {Self : Type 0} (watch : Ghosts Self) (table : ℕ) where
  -- it is in step with some tuples, in which the table has no row
  pub record HasNoRows (w : Self) : Type 0 where
    pub tuples : Tuples
    pub in_step : IsInStep watch tuples w
    pub none : IsWithoutRows table tuples

  -- whatever tuples it was in step with, in which the row wasn't there, it is now in step with those in which it has the tuple
  pub record HasGained (row : ℕ) (new : Option (List ℕ)) (before after : Self) : Type 0 where
    pub made : watch.made after ≡ watch.made before
    pub in_step : (tuples : Tuples) → tuples table row ≡ None → IsInStep watch tuples before → IsInStep watch (with_row tuples table row new) after

  -- the same of all rows of the table
  pub record HasLoaded (own : ℕ → Option (List ℕ)) (before after : Self) : Type 0 where
    pub made : watch.made after ≡ watch.made before
    pub in_step : (tuples : Tuples) → IsWithoutRows table tuples → IsInStep watch tuples before → IsInStep watch (with_table tuples table own) after

  -- each is in step with some tuples, in which the table has no row, and its rows have all attributes
  pub record CanLoad (own : ℕ → Option (List ℕ)) (watches : List Self) : Type 0 where
    pub none : All HasNoRows watches
    pub wide : All (λ w. (row : ℕ) → ForSome (own row) (IsWide (watch.attributes (watch.made w) table))) watches

-- the rows of master tables get those of the table, if it is one
pub record LoadedAsMaster (is_master : Bool) (table : ℕ) (own : ℕ → Option (List ℕ)) (before after : Masters) : Type 0 where
  pub lists : after.lists ≡ before.lists
  pub rows : (t r : ℕ) → finite.get after.rows (t, r) ≡ if is_master then with_table (λ a b. finite.get before.rows (a, b)) table own t r else finite.get before.rows (t, r)

-- all indexes are in step with some tuples, in which the table has no row
pub record HaveNoRows (rules : Book) (table : ℕ) (all : AllIndexes) : Type 0 where
  pub texts : List (List ℕ)
  pub tuples : Tuples
  pub in_step : AreInStepWith rules texts tuples all
  pub none : IsWithoutRows table tuples

-- whatever tuples they were in step with, in which the table had no row, they are now in step with those in which it has these
abbrev pub AllLoad : Book → ℕ → (ℕ → Option (List ℕ)) → AllIndexes → AllIndexes → Type 0
AllLoad rules table own before after =
    (texts : List (List ℕ)) (tuples : Tuples) → IsWithoutRows table tuples → AreInStepWith rules texts tuples before
    → AreInStepWith rules texts (with_table tuples table own) after
