-- All indexes take the rows of a table.
use Rattle.std.proofs.Common.{◌≡◌, ℕ, Bool, true, false, cond, List, Option, None, refl, sym, ◌∙◌, subst, arith}
use Rattle.std.specs.Prelude.{◌==◌}
use Rattle.std.specs.FinMap as finite
use Rattle.std.specs.List.{AllZip}
use Rattle.std.specs.Option.{ForSome}
use Rattle.std.proofs.lemmas.Bool.Decides.{nat_tests}
use Rattle.schema_core.specs.Lookups.{master_at}
use Rattle.rule_model.specs.Books.{Book, IsBook}
use Rattle.master_index.specs.Masters.{IsWideFor, Masters}
use Rattle.bench_index.specs.Watching.{group_watch, cind_watch}
use Rattle.bench_index.specs.AllIndexes.{Tuples, IsAsWide, masters_of}
use Rattle.bench_index.specs.Loading.{AllLoad, CanLoad, HasLoaded, HaveNoRows, LoadedAsMaster, with_table}
use Rattle.bench_index.specs.declared.all_indexes.AllIndexes.{AllIndexes}
use Rattle.bench_index.proofs.AllSteps.{indexes-alike}
use Rattle.bench_index.proofs.MasterChanges.{row-given}
use Rattle.bench_index.proofs.Loaded.{made-loaded, in_step-loaded}
use Rattle.bench_index.proofs.Widths.{wide_for_groups, wide_for_cinds, wide_for_masters}

module _ (rules : Book) (book : IsBook rules) (table : ℕ) (own : ℕ → Option (List ℕ)) (all : AllIndexes) (have : HaveNoRows rules table all) (wide : (row : ℕ) → ForSome (own row) (IsAsWide rules table)) where
  pub groups-can_load : CanLoad group_watch table own all.index.groups.items
  groups-can_load = record {
    none = λ k d within. record { tuples = have.tuples; in_step = have.in_step.groups k d within; none = have.none };
    wide = λ k d within row ids is. wide_for_groups rules book table ids (wide row ids is) have.texts all.index have.in_step.indexes k d within;
  }

  pub cinds-can_load : CanLoad cind_watch table own all.index.cinds.items
  cinds-can_load = record {
    none = λ k d within. record { tuples = have.tuples; in_step = have.in_step.cinds k d within; none = have.none };
    wide = λ k d within row ids is. wide_for_cinds rules book table ids (wide row ids is) have.texts all.index have.in_step.indexes k d within;
  }

  pub masters-without : (row : ℕ) → finite.get all.masters.rows (table, row) ≡ None
  masters-without row = have.in_step.rows table row ∙ by (master_at rules.schema table)
    where
      by : (b : Bool) → cond b (have.tuples table row) None ≡ None
      by true = have.none row
      by false = refl

  pub masters-wide_of_all : (row : ℕ) → ForSome (own row) (IsWideFor all.masters.lists table)
  masters-wide_of_all row ids is = subst (λ lists. IsWideFor lists table ids) (sym have.in_step.lists) (wide_for_masters rules book table ids (wide row ids is))

-- the rows of all master tables
masters-loaded : (rules : Book) (tuples : Tuples) (table : ℕ) (own : ℕ → Option (List ℕ)) (before after : Masters)
    → ((t r : ℕ) → finite.get before.rows (t, r) ≡ masters_of rules tuples t r) → LoadedAsMaster (master_at rules.schema table) table own before after
    → (t r : ℕ) → finite.get after.rows (t, r) ≡ masters_of rules (with_table tuples table own) t r
masters-loaded rules tuples table own before after in_step loaded t r =
    row-given rules table t (t == table) (λ is. grind (arith, nat_tests, is)) (own r) (tuples t r) (finite.get before.rows (t, r)) (finite.get after.rows (t, r)) (in_step t r) (loaded.rows t r)

pub all-loaded_in_step : (rules : Book) (table : ℕ) (own : ℕ → Option (List ℕ)) (before after : AllIndexes)
    → AllZip (HasLoaded group_watch table own) before.index.groups.items after.index.groups.items → AllZip (HasLoaded cind_watch table own) before.index.cinds.items after.index.cinds.items
    → LoadedAsMaster (master_at rules.schema table) table own before.masters after.masters → AllLoad rules table own before after
all-loaded_in_step rules table own before after groups cinds masters texts tuples without in_step = record {
  indexes =
      indexes-alike rules texts before.index after.index (made-loaded group_watch table own before.index.groups.items after.index.groups.items groups)
      (made-loaded cind_watch table own before.index.cinds.items after.index.cinds.items cinds) in_step.indexes;
  groups = in_step-loaded group_watch table own tuples without before.index.groups.items after.index.groups.items groups in_step.groups;
  cinds = in_step-loaded cind_watch table own tuples without before.index.cinds.items after.index.cinds.items cinds in_step.cinds;
  lists = masters.lists ∙ in_step.lists;
  rows = masters-loaded rules tuples table own before.masters after.masters in_step.rows masters;
}
