-- What an index goes over is what the rules and the rows of the state say.
use Rattle.std.proofs.Common.{◌≡◌, ℕ, ◌*◌, ◌<◌, ◌≤◌, ◌+◌, List, [], ◌∷◌, length, Some, All, sym, ap, subst, ◌∙◌}
use Rattle.std.specs.Prelude.{slice_get}
use Rattle.std.specs.List.{AllZip}
use Rattle.std.specs.Option.{ForSome, option_map_or}
use Rattle.std.specs.Str.{bytes_eq}
use Rattle.std.proofs.lemmas.List.Elements.{All-cons, All-nil}
use Rattle.std.proofs.lemmas.Option.{get_or_from_slice_get, slice_get_within}
use Rattle.std.proofs.lemmas.Slice.Zip.{AllZip-long}
use Rattle.value_pool.specs.Pool.{HasId, HaveOneId}
use Rattle.cfd_semantics.specs.declared.inclusion.InclusionRow.{InclusionRow}
use Rattle.cfd_semantics.specs.Renaming.{HasKnownCells, HasKnownConstants, renamed_rows}
use Rattle.cfd_semantics.specs.Violation.{entries}
use Rattle.cfd_semantics.specs.Orphan.{left_entries, right_entries}
use Rattle.rule_model.specs.declared.dep.Dep.{Dep}
use Rattle.rule_model.specs.declared.cind.Cind.{Cind}
use Rattle.rule_model.specs.Books.{Book, book_cinds, book_deps}
use Rattle.group_index.specs.Answers.{AreDirty, IsSettled}
use Rattle.group_index.specs.GroupSet.{GroupSet}
use Rattle.cind_index.specs.KeysHeld.{lefts, rights}
use Rattle.cind_index.specs.Orphans.{IsDirtyCount}
use Rattle.cind_index.specs.declared.index.CindIndex.{CindIndex}
use Rattle.bench_index.specs.ByIds.{HasText, HaveIds, IsInclusionRowByIds, IsRowByIds}
use Rattle.bench_index.specs.Indexes.{AreRowsInTexts, IsIndexOfCind, IsIndexOfDep}
use Rattle.bench_index.specs.declared.all_indexes.AllIndexes.{AllIndexes}
use Rattle.bench_index.proofs.InTexts.{dependency-texts, inclusion-texts, kept_apart, row-known}
use Rattle.bench_index.proofs.Reading.{of_cind, of_dep}
use Rattle.bench_core.specs.DirtyCounts.{cind_dirty, cind_rows, cind_walk, cind_walk_at, dep_dirty, dep_rows, dep_walk, dep_walk_at, dirty_groups, dirty_groups_at, dirty_keys, dirty_keys_at}
use Rattle.bench_core.specs.Indexed.{IsIndexed, tuples_of}
use Rattle.bench_core.specs.State.{State, rows_at}
use Rattle.bench_core.specs.Stored.{RowsHaveTexts, Stored, state_of, text_of}
use Rattle.bench_core.proofs.Answering.{item-there, renamed-is, rows-in-texts, settled, stored_rows, zip-at}
use Rattle.bench_core.proofs.DirtyByIds.{groups_counted, keys_counted}
use Rattle.bench_core.proofs.DirtyRenamed.{dirty_groups-renamed, dirty_keys-renamed}

-- what each pair of two lists says of the second item
second-known : {A B : Type 0} (R : A → B → Type 0) (P : B → Type 0) → ((x : A) (y : B) → R x y → P y) → (xs : List A) (ys : List B) → AllZip R xs ys → All P ys
second-known R P each [] [] all = All-nil P
second-known R P each [] (y ∷ ys) all = absurd all
second-known R P each (x ∷ xs) [] all = absurd all
second-known R P each (x ∷ xs) (y ∷ ys) all = All-cons P y ys (each x y all.0) (second-known R P each xs ys all.1)

ids-known : (texts values : List (List ℕ)) (ids : List ℕ) → HaveIds texts values ids → All (HasText texts) ids
ids-known texts values ids have = second-known (HasId texts) (HasText texts) (λ text id has. slice_get_within texts id text has) values ids have

constants-known : (texts : List (List ℕ)) (row : InclusionRow (List ℕ)) (by_ids : InclusionRow ℕ) → IsInclusionRowByIds texts row by_ids → HasKnownConstants (HasText texts) by_ids
constants-known texts row by_ids is = record { xp = ids-known texts row.xp by_ids.xp is.xp; yp = ids-known texts row.yp by_ids.yp is.yp }

module _ (rules : Book) (texts : List (List ℕ)) (tables : List Stored) (index : AllIndexes) (named : All (λ (t : Stored). RowsHaveTexts texts t.rows) tables) (indexed : IsIndexed rules texts (tuples_of tables) index) (number : ℕ) where
  abbrev state : State
  state = state_of texts tables

  rows : (n : ℕ) → AreRowsInTexts texts (tuples_of tables n) (stored_rows tables n)
  rows n = rows-in-texts texts tables n named

  -- no row has two entries in an index
  settled-at : (s : GroupSet) → slice_get index.index.groups.items number ≡ Some s → IsSettled s
  settled-at s here =
      subst IsSettled (get_or_from_slice_get index.index.groups.items number s s here) ((settled rules texts tables index named indexed).each number s (slice_get_within index.index.groups.items number s here))

  -- ---- by dirty groups and keys

  module _ (distinct : HaveOneId texts) where
    groups-among : (dep : Dep) (s : GroupSet) (count : ℕ) → slice_get (book_deps rules) number ≡ Some dep → slice_get index.index.groups.items number ≡ Some s → AreDirty s count → count ≡ dep_dirty state dep
    groups-among dep s count at here dirty =
        let own = stored_rows tables dep.table in
        let d = s.made.dependency in
        let of = of_dep index.index number s here rules texts (tuples_of tables) dep own indexed.in_step.indexes indexed.in_step.groups at (rows dep.table) in
        let cells = second-known (IsRowByIds texts) (HasKnownCells (HasText texts)) (row-known texts) dep.rule.rows d.rows of.rule.rows in
        groups_counted s count (entries d own) of.list dirty
        ∙ sym (dirty_groups-renamed (kept_apart texts distinct) d own cells (rows dep.table).named)
        ∙ sym (ap (λ e. dirty_groups bytes_eq e (entries e (renamed_rows (text_of texts) own))) (dependency-texts texts dep.rule d of.rule))
        ∙ ap (λ rs. dirty_groups bytes_eq dep.rule (entries dep.rule rs)) (renamed-is texts tables dep.table)

    groups-are : (dep : Dep) (s : GroupSet) (count : ℕ) → slice_get (book_deps rules) number ≡ Some dep → slice_get index.index.groups.items number ≡ Some s → AreDirty s count → length s.made.dependency.rows * count ≡ dep_walk state dep
    groups-are dep s count at here dirty =
        let is = zip-at (IsIndexOfDep texts) (book_deps rules) index.index.groups.items number dep s indexed.in_step.indexes.groups at here in
        let long = AllZip-long (IsRowByIds texts) dep.rule.rows s.made.dependency.rows is.rule.rows in
        let among = groups-among dep s count at here dirty in
        λ i. long i * among i

    keys-among : (cind : Cind) (s : CindIndex) (count : ℕ) → slice_get (book_cinds rules) number ≡ Some cind → slice_get index.index.cinds.items number ≡ Some s → IsDirtyCount s.rule (lefts s.keys) (rights s.keys) count → count ≡ cind_dirty state cind
    keys-among cind s count at here dirty =
        let left_rows = stored_rows tables cind.left in
        let right_rows = stored_rows tables cind.right in
        let rule = s.rule in
        let name = text_of texts in
        let of = of_cind index.index number s here rules texts (tuples_of tables) cind left_rows right_rows indexed.in_step.indexes indexed.in_step.cinds at (rows cind.left) (rows cind.right) in
        let constants = second-known (IsInclusionRowByIds texts) (HasKnownConstants (HasText texts)) (constants-known texts) cind.rule.rows rule.rows of.rule.rows in
        keys_counted rule (lefts s.keys) (rights s.keys) (left_entries rule left_rows) (right_entries rule right_rows) of.left of.right count dirty
        ∙ sym (dirty_keys-renamed (kept_apart texts distinct) rule left_rows right_rows constants (rows cind.left).named (rows cind.right).named)
        ∙ sym (ap (λ e. dirty_keys bytes_eq e (left_entries e (renamed_rows name left_rows)) (right_entries e (renamed_rows name right_rows))) (inclusion-texts texts cind.rule rule of.rule))
        ∙ ap (λ rs. dirty_keys bytes_eq cind.rule (left_entries cind.rule rs) (right_entries cind.rule (renamed_rows name right_rows))) (renamed-is texts tables cind.left)
        ∙ ap (λ rs. dirty_keys bytes_eq cind.rule (left_entries cind.rule (rows_at state cind.left)) (right_entries cind.rule rs)) (renamed-is texts tables cind.right)

    keys-are : (cind : Cind) (s : CindIndex) (count : ℕ) → slice_get (book_cinds rules) number ≡ Some cind → slice_get index.index.cinds.items number ≡ Some s → IsDirtyCount s.rule (lefts s.keys) (rights s.keys) count → length s.rule.rows * count ≡ cind_walk state cind
    keys-are cind s count at here dirty =
        let is = zip-at (IsIndexOfCind texts) (book_cinds rules) index.index.cinds.items number cind s indexed.in_step.indexes.cinds at here in
        let long = AllZip-long (IsInclusionRowByIds texts) cind.rule.rows s.rule.rows is.rule.rows in
        let among = keys-among cind s count at here dirty in
        λ i. long i * among i

    -- how many are dirty, by the number of the rule
    pub groups-dirty : (s : GroupSet) (count : ℕ) → number < length (book_deps rules) → slice_get index.index.groups.items number ≡ Some s → (IsSettled s → AreDirty s count) → count ≡ dirty_groups_at rules state number
    groups-dirty s count within here dirty =
        let (dep, at) = item-there (book_deps rules) number within in
        groups-among dep s count at here (dirty (settled-at s here)) ∙ sym (ap (λ o. option_map_or (dep_dirty state) o 0) at)

    pub keys-dirty : (s : CindIndex) (count : ℕ) → number < length (book_cinds rules) → slice_get index.index.cinds.items number ≡ Some s → IsDirtyCount s.rule (lefts s.keys) (rights s.keys) count → count ≡ dirty_keys_at rules state number
    keys-dirty s count within here dirty =
        let (cind, at) = item-there (book_cinds rules) number within in
        keys-among cind s count at here dirty ∙ sym (ap (λ o. option_map_or (cind_dirty state) o 0) at)

    -- a walk over the dirty groups for each tableau row, and over the dirty keys
    pub groups-walked : (s : GroupSet) (count before after : ℕ) → number < length (book_deps rules) → slice_get index.index.groups.items number ≡ Some s → (IsSettled s → AreDirty s count) → count ≡ s.dirty
        → ForSome (slice_get index.index.groups.items number) (λ s. after ≤ before + length s.made.dependency.rows * s.dirty) → after ≤ before + dep_walk_at rules state number
    groups-walked s count before after within here dirty is few =
        let (dep, at) = item-there (book_deps rules) number within in
        let walk = ap (λ n. length s.made.dependency.rows * n) (sym is) ∙ groups-are dep s count at here (dirty (settled-at s here)) ∙ sym (ap (λ o. option_map_or (dep_walk state) o 0) at) in
        subst (λ n. after ≤ before + n) walk (few s here)

    pub keys-walked : (s : CindIndex) (count before after : ℕ) → number < length (book_cinds rules) → slice_get index.index.cinds.items number ≡ Some s → IsDirtyCount s.rule (lefts s.keys) (rights s.keys) count → count ≡ s.keys.marked
        → ForSome (slice_get index.index.cinds.items number) (λ s. after ≤ before + length s.rule.rows * s.keys.marked) → after ≤ before + cind_walk_at rules state number
    keys-walked s count before after within here dirty is few =
        let (cind, at) = item-there (book_cinds rules) number within in
        let walk = ap (λ n. length s.rule.rows * n) (sym is) ∙ keys-are cind s count at here dirty ∙ sym (ap (λ o. option_map_or (cind_walk state) o 0) at) in
        subst (λ n. after ≤ before + n) walk (few s here)

  -- ---- by tableau rows

  pub dep-rows-probed : (before after : ℕ) → number < length (book_deps rules) → number < length index.index.groups.items → ForSome (slice_get index.index.groups.items number) (λ s. after ≤ before + length s.made.dependency.rows) → after ≤ before + dep_rows rules number
  dep-rows-probed before after within indexed_within few =
      let (dep, at) = item-there (book_deps rules) number within in
      let (s, here) = item-there index.index.groups.items number indexed_within in
      let is = zip-at (IsIndexOfDep texts) (book_deps rules) index.index.groups.items number dep s indexed.in_step.indexes.groups at here in
      let long = AllZip-long (IsRowByIds texts) dep.rule.rows s.made.dependency.rows is.rule.rows in
      subst (λ n. after ≤ before + n) (long ∙ sym (ap (λ o. option_map_or (λ (dep : Dep). length dep.rule.rows) o 0) at)) (few s here)

  pub cind-rows-probed : (before after : ℕ) → number < length (book_cinds rules) → number < length index.index.cinds.items → ForSome (slice_get index.index.cinds.items number) (λ s. after ≤ before + length s.rule.rows) → after ≤ before + cind_rows rules number
  cind-rows-probed before after within indexed_within few =
      let (cind, at) = item-there (book_cinds rules) number within in
      let (s, here) = item-there index.index.cinds.items number indexed_within in
      let is = zip-at (IsIndexOfCind texts) (book_cinds rules) index.index.cinds.items number cind s indexed.in_step.indexes.cinds at here in
      let long = AllZip-long (IsInclusionRowByIds texts) cind.rule.rows s.rule.rows is.rule.rows in
      subst (λ n. after ≤ before + n) (long ∙ sym (ap (λ o. option_map_or (λ (cind : Cind). length cind.rule.rows) o 0) at)) (few s here)
