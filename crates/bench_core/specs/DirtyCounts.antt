-- How many groups and keys are dirty, told by the rules and the rows: what a list has to go over.
use Rattle.std.specs.Prelude.{ℕ, ◌+◌, ◌*◌, ◌||◌, Bool, List, length, map, filter, slice_get, sum_by}
use Rattle.std.specs.List.{list_any}
use Rattle.std.specs.Option.{option_map_or}
use Rattle.std.specs.Set.{distinct_count}
use Rattle.std.specs.Str.{bytes_eq}
use Rattle.cfd_semantics.specs.declared.dependency.TableauRow.{TableauRow}
use Rattle.cfd_semantics.specs.declared.dependency.Dependency.{Dependency}
use Rattle.cfd_semantics.specs.declared.inclusion.InclusionRow.{InclusionRow}
use Rattle.cfd_semantics.specs.declared.inclusion.Inclusion.{Inclusion}
use Rattle.cfd_semantics.specs.Tuple.{same_values}
use Rattle.cfd_semantics.specs.Violation.{Entry, entries, is_pair, is_single}
use Rattle.cfd_semantics.specs.Orphan.{SideEntry, is_orphan, left_entries, right_entries}
use Rattle.rule_model.specs.declared.dep.Dep.{Dep}
use Rattle.rule_model.specs.declared.cind.Cind.{Cind}
use Rattle.rule_model.specs.Books.{Book, book_cinds, book_deps}
use Rattle.bench_core.specs.State.{State, rows_at}

module _ {V : Type 0} (eq : V → V → Bool) where
  -- The row violates the dependency: for some tableau row it does so alone, or together with another row.
  abbrev pub violates : Dependency V → List (Entry V) → Entry V → Bool
  violates d all e = list_any (λ (t : TableauRow V). is_single eq t e || list_any (is_pair eq t e) all) d.rows

  -- A group is the rows with the same values on X. It is dirty where one of its rows violates the dependency: so many are.
  abbrev pub dirty_groups : Dependency V → List (Entry V) → ℕ
  dirty_groups d all = distinct_count (same_values eq) (map (λ (e : Entry V). e.x) (filter (violates d all) all))

  -- The left row is an orphan for some tableau row.
  abbrev pub lacks_answer : Inclusion V → List (SideEntry V) → SideEntry V → Bool
  lacks_answer i rights left = list_any (λ (t : InclusionRow V). is_orphan eq t rights left) i.rows

  -- A key is the values on X. It is dirty where a left row with it is an orphan: so many are.
  abbrev pub dirty_keys : Inclusion V → List (SideEntry V) → List (SideEntry V) → ℕ
  dirty_keys i lefts rights = distinct_count (same_values eq) (map (λ (left : SideEntry V). left.key) (filter (lacks_answer i rights) lefts))

-- the same of a rule in a state
abbrev pub dep_dirty : State → Dep → ℕ
dep_dirty state dep = dirty_groups bytes_eq dep.rule (entries dep.rule (rows_at state dep.table))

abbrev pub cind_dirty : State → Cind → ℕ
cind_dirty state cind = dirty_keys bytes_eq cind.rule (left_entries cind.rule (rows_at state cind.left)) (right_entries cind.rule (rows_at state cind.right))

-- and by the number of the rule
abbrev pub dirty_groups_at : Book → State → ℕ → ℕ
dirty_groups_at rules state number = option_map_or (dep_dirty state) (slice_get (book_deps rules) number) 0

abbrev pub dirty_keys_at : Book → State → ℕ → ℕ
dirty_keys_at rules state number = option_map_or (cind_dirty state) (slice_get (book_cinds rules) number) 0

-- ---- what goes over them for each tableau row

-- each dirty group of a dependency for each of its tableau rows, and each dirty key of an inclusion for each of its own
abbrev pub dep_walk : State → Dep → ℕ
dep_walk state dep = length dep.rule.rows * dep_dirty state dep

abbrev pub cind_walk : State → Cind → ℕ
cind_walk state cind = length cind.rule.rows * cind_dirty state cind

-- What one list of all violations takes: each dependency and each inclusion gone over once. Rows that violate nothing don't
-- count.
abbrev pub list_probes : Book → State → ℕ
list_probes rules state = sum_by (dep_walk state) (book_deps rules) + sum_by (cind_walk state) (book_cinds rules)

-- the same by the number of the rule
abbrev pub dep_walk_at : Book → State → ℕ → ℕ
dep_walk_at rules state number = option_map_or (dep_walk state) (slice_get (book_deps rules) number) 0

abbrev pub cind_walk_at : Book → State → ℕ → ℕ
cind_walk_at rules state number = option_map_or (cind_walk state) (slice_get (book_cinds rules) number) 0

-- how many tableau rows a numbered rule has, whatever is dirty
abbrev pub dep_rows : Book → ℕ → ℕ
dep_rows rules number = option_map_or (λ (dep : Dep). length dep.rule.rows) (slice_get (book_deps rules) number) 0

abbrev pub cind_rows : Book → ℕ → ℕ
cind_rows rules number = option_map_or (λ (cind : Cind). length cind.rule.rows) (slice_get (book_cinds rules) number) 0
