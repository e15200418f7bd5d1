-- All indexes in step with tuples: what they hold of a row, and that they stay in step.
use Rattle.std.proofs.Common.{◌≡◌, ℕ, Bool, true, false, cond, List, get_or, Option, None, Result, Ok, Err, OnOk, sym, ap, ◌∙◌, subst}
use Rattle.std.specs.Prelude.{All, IfSome}
use Rattle.std.specs.Option.{ForSome}
use Rattle.std.specs.FinMap as finite
use Rattle.schema_core.specs.Lookups.{master_at}
use Rattle.value_pool.specs.Pool.{KeepsIds}
use Rattle.rule_model.specs.declared.dep.Dep.{Dep}
use Rattle.rule_model.specs.declared.cind.Cind.{Cind}
use Rattle.rule_model.specs.Books.{Book, IsBook, book_deps, book_cinds}
use Rattle.row_store.specs.Watches.{HoldsOfRow, HoldsTheSame, IsInStep}
use Rattle.row_store.specs.declared.watch.Watch.{Ghosts}
use Rattle.row_store.proofs.Zips.{all_through}
use Rattle.row_store.proofs.InStep.{still_in_step as held_in_step}
use Rattle.group_index.specs.GroupSet.{GroupSet}
use Rattle.cind_index.specs.declared.index.CindIndex.{CindIndex}
use Rattle.master_index.specs.Masters.{IsWideFor}
use Rattle.bench_index.specs.InStep.{AreInStep, AreMadeAlike, AreTheSame, CanFollow, Follow}
use Rattle.bench_index.specs.Watching.{group_watch, cind_watch}
use Rattle.bench_index.specs.Indexes.{AreIndexesOf, IsIndexOfDep, IsIndexOfCind}
use Rattle.bench_index.specs.AllIndexes.{Tuples, AreInStepWith, IsAsWide, HaveRow, AllFollow, AreAsBefore, FollowAsMaster}
use Rattle.bench_index.specs.declared.index.BenchIndex.{BenchIndex}
use Rattle.bench_index.specs.declared.all_indexes.AllIndexes.{AllIndexes}
use Rattle.bench_index.proofs.Zips.{zip_weaker, zip_joined, Joined}
use Rattle.bench_index.proofs.Made.{index-kept, cind_index-kept}
use Rattle.bench_index.proofs.WatchSteps.{made-same}
use Rattle.bench_index.proofs.MasterChanges.{masters-followed}
use Rattle.bench_index.proofs.Widths.{wide_for_groups, wide_for_cinds, wide_for_masters}

-- ---- indexes of the same rules

group-alike : (texts : List (List ℕ)) (dep : Dep) (s : GroupSet) → Joined (IsIndexOfDep texts) (λ b a. group_watch.made a ≡ group_watch.made b) dep s → IsIndexOfDep texts dep s
group-alike texts dep s both =
    let is = both.1 in
    let made = both.2 in
    record { table = ap (λ m. m.table) made ∙ is.table; rule = rw made is.rule }

cind-alike : (texts : List (List ℕ)) (cind : Cind) (s : CindIndex) → Joined (IsIndexOfCind texts) (λ b a. cind_watch.made a ≡ cind_watch.made b) cind s → IsIndexOfCind texts cind s
cind-alike texts cind s both =
    let is = both.1 in
    let made = both.2 in
    record { left = ap (λ m. m.left) made ∙ is.left; right = ap (λ m. m.right) made ∙ is.right; rule = rw (ap (λ m. m.rule) made) is.rule }

pub indexes-alike : (rules : Book) (texts : List (List ℕ)) (before after : BenchIndex) → AreMadeAlike group_watch before.groups.items after.groups.items → AreMadeAlike cind_watch before.cinds.items after.cinds.items
    → AreIndexesOf rules texts before → AreIndexesOf rules texts after
indexes-alike rules texts before after groups cinds are = record {
  groups =
      zip_weaker (Joined (IsIndexOfDep texts) (λ b a. group_watch.made a ≡ group_watch.made b)) (IsIndexOfDep texts) (group-alike texts) (book_deps rules) after.groups.items
      (zip_joined (IsIndexOfDep texts) (λ b a. group_watch.made a ≡ group_watch.made b) (book_deps rules) before.groups.items after.groups.items are.groups groups);
  cinds =
      zip_weaker (Joined (IsIndexOfCind texts) (λ b a. cind_watch.made a ≡ cind_watch.made b)) (IsIndexOfCind texts) (cind-alike texts) (book_cinds rules) after.cinds.items
      (zip_joined (IsIndexOfCind texts) (λ b a. cind_watch.made a ≡ cind_watch.made b) (book_cinds rules) before.cinds.items after.cinds.items are.cinds cinds);
}

-- ---- what they hold of a row

present : {Self : Type 0} (watch : Ghosts Self) (tuples : Tuples) (table row : ℕ) (tuple : Option (List ℕ)) → tuples table row ≡ tuple → (watches : List Self) → AreInStep watch tuples watches → All (HoldsOfRow watch table row tuple) watches
present watch tuples table row tuple there watches in_step k d within = subst (λ t. HoldsOfRow watch table row t (get_or watches k d)) there (in_step k d within table row)

module _ (rules : Book) (book : IsBook rules) (table row : ℕ) (old new : Option (List ℕ)) (all : AllIndexes) (have : HaveRow rules table row old all) (wide_old : ForSome old (IsAsWide rules table)) (wide_new : ForSome new (IsAsWide rules table)) where
  pub groups-can_follow : CanFollow group_watch table row old new all.index.groups.items
  groups-can_follow = record {
    present = present group_watch have.tuples table row old have.there all.index.groups.items have.in_step.groups;
    wide_old = λ ids is. wide_for_groups rules book table ids (wide_old ids is) have.texts all.index have.in_step.indexes;
    wide_new = λ ids is. wide_for_groups rules book table ids (wide_new ids is) have.texts all.index have.in_step.indexes;
  }

  pub cinds-can_follow : CanFollow cind_watch table row old new all.index.cinds.items
  cinds-can_follow = record {
    present = present cind_watch have.tuples table row old have.there all.index.cinds.items have.in_step.cinds;
    wide_old = λ ids is. wide_for_cinds rules book table ids (wide_old ids is) have.texts all.index have.in_step.indexes;
    wide_new = λ ids is. wide_for_cinds rules book table ids (wide_new ids is) have.texts all.index have.in_step.indexes;
  }

  pub masters-wide : ForSome new (IsWideFor all.masters.lists table)
  masters-wide ids is = subst (λ lists. IsWideFor lists table ids) (sym have.in_step.lists) (wide_for_masters rules book table ids (wide_new ids is))

-- ---- they stay in step

pub on_ok_three : {T E A B C D : Type 0} (r : Result T E) → OnOk r A → OnOk r B → OnOk r C → (A → B → C → D) → OnOk r D
on_ok_three (Ok _) a b c all = all a b c
on_ok_three (Err _) a b c all = tt

pub all-followed : (rules : Book) (table row : ℕ) (old new : Option (List ℕ)) (before after : AllIndexes)
    → Follow group_watch table row old new before.index.groups.items after.index.groups.items → Follow cind_watch table row old new before.index.cinds.items after.index.cinds.items
    → FollowAsMaster (master_at rules.schema table) table row new before.masters after.masters
    → AreMadeAlike group_watch before.index.groups.items after.index.groups.items → AreMadeAlike cind_watch before.index.cinds.items after.index.cinds.items
    → AllFollow rules table row old new before after
all-followed rules table row old new before after groups cinds masters groups_alike cinds_alike texts tuples there in_step = record {
  indexes = indexes-alike rules texts before.index after.index groups_alike cinds_alike in_step.indexes;
  groups = groups tuples there in_step.groups;
  cinds = cinds tuples there in_step.cinds;
  lists = masters.lists ∙ in_step.lists;
  rows = masters-followed rules tuples table row new before.masters after.masters in_step.rows masters;
}

still_alike : {Self : Type 0} (watch : Ghosts Self) (tuples : Tuples) (before after : List Self) → AreTheSame watch before after → AreInStep watch tuples before → AreInStep watch tuples after
still_alike watch tuples before after same in_step = all_through (IsInStep watch tuples) (IsInStep watch tuples) (HoldsTheSame watch) (λ b a was step. held_in_step watch tuples b a step was) before after in_step same

-- after a refusal they are in step with what they were in step with
pub still_in_step : (rules : Book) (texts : List (List ℕ)) (tuples : Tuples) (before after : AllIndexes) → AreAsBefore before after → AreInStepWith rules texts tuples before → AreInStepWith rules texts tuples after
still_in_step rules texts tuples before after same in_step = record {
  indexes = indexes-alike rules texts before.index after.index (made-same group_watch before.index.groups.items after.index.groups.items same.groups) (made-same cind_watch before.index.cinds.items after.index.cinds.items same.cinds) in_step.indexes;
  groups = still_alike group_watch tuples before.index.groups.items after.index.groups.items same.groups in_step.groups;
  cinds = still_alike cind_watch tuples before.index.cinds.items after.index.cinds.items same.cinds in_step.cinds;
  lists = ap (λ m. m.lists) same.masters ∙ in_step.lists;
  rows = λ t r. ap (λ m. finite.get m.rows (t, r)) same.masters ∙ in_step.rows t r;
}

-- they are in step still where texts join the pool
pub in_step-grown : (rules : Book) (old new : List (List ℕ)) (tuples : Tuples) (all : AllIndexes) → KeepsIds old new → AreInStepWith rules old tuples all → AreInStepWith rules new tuples all
in_step-grown rules old new tuples all kept in_step = record {
  indexes = record {
    groups = zip_weaker (IsIndexOfDep old) (IsIndexOfDep new) (index-kept old new kept) (book_deps rules) all.index.groups.items in_step.indexes.groups;
    cinds = zip_weaker (IsIndexOfCind old) (IsIndexOfCind new) (cind_index-kept old new kept) (book_cinds rules) all.index.cinds.items in_step.indexes.cinds;
  };
  groups = in_step.groups;
  cinds = in_step.cinds;
  lists = in_step.lists;
  rows = in_step.rows;
}

-- ---- what a reader of the master rows needs

module _ (rules : Book) (texts : List (List ℕ)) (tuples : Tuples) (all : AllIndexes) (in_step : AreInStepWith rules texts tuples all) where
  -- what holds of each tuple holds of each master row
  pub each_master_row : (IsGood : ℕ → List ℕ → Type 0) → ((table row : ℕ) → IfSome (tuples table row) (IsGood table)) → (table row : ℕ) → IfSome (finite.get all.masters.rows (table, row)) (IsGood table)
  each_master_row IsGood good table row = subst (λ o. IfSome o (IsGood table)) (sym (in_step.rows table row)) (by (master_at rules.schema table))
    where
      by : (b : Bool) → IfSome (cond b (tuples table row) None) (IsGood table)
      by true = good table row
      by false = tt
