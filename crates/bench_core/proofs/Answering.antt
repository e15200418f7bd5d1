-- What the indexes of a bench list is what the rules find among the rows of its state.
use Rattle.std.proofs.Common.{◌≡◌, ℕ, zero, suc, ◌<◌, true, false, List, [], ◌∷◌, length, filter, Option, Some, None, All, refl, sym, ap, subst, ◌∙◌, arith}
use Rattle.std.specs.Prelude.{IfOk, Result, Ok, Err, ◌==◌, slice_get, option_and_then, get_or, is_some, IsSome}
use Rattle.std.specs.List.{AllZip}
use Rattle.std.specs.Option.{option_map_or}
use Rattle.std.specs.Str.{bytes_eq}
use Rattle.std.specs.FinMap as finmap
use Rattle.std.proofs.lemmas.List.Elements.{All-append, All-cons, All-head, All-nil, All-tail}
use Rattle.std.proofs.lemmas.List.{length-map}
use Rattle.std.proofs.lemmas.Option.{get_or_from_slice_get, none-some, same_Some, slice_get_read, slice_get_within}
use Rattle.std.proofs.lemmas.Slice.Zip.{AllZip-long}
use Rattle.value_pool.specs.Pool.{HaveOneId}
use Rattle.cfd_semantics.specs.declared.violation.Violation.{Violation}
use Rattle.cfd_semantics.specs.Renaming.{renamed_rows}
use Rattle.cfd_semantics.specs.Violation.{entries, violations}
use Rattle.cfd_semantics.specs.Orphan.{left_entries, right_entries, orphans}
use Rattle.cfd_semantics.proofs.Members.{contains_nothing}
use Rattle.cfd_semantics.proofs.RowSets.{rows_of_map}
use Rattle.cfd_semantics.proofs.Sets.{rising-nil}
use Rattle.rule_model.specs.declared.dep.Dep.{Dep}
use Rattle.rule_model.specs.declared.cind.Cind.{Cind}
use Rattle.schema_core.specs.Lookups.{attrs_at}
use Rattle.text_lists.specs.declared.limits.Limits.{Limits}
use Rattle.rule_model.specs.Books.{Book, IsBook, book_deps, book_cinds}
use Rattle.rule_model.specs.Rules.{IsValidCind, IsValidDep}
use Rattle.bench_index.specs.Indexes.{AreOrphansOfCind, AreRowsInTexts, AreViolationsOfDep, IsIndexOfCind, IsIndexOfDep}
use Rattle.bench_index.specs.Replies.{AreOrphansOfRow, AreSettled, AreViolationsOfRow, IsOrphanCountOfCind, IsViolationCountOfDep, IsWideForCind, IsWideForDep}
use Rattle.bench_index.specs.declared.all_indexes.AllIndexes.{AllIndexes}
use Rattle.bench_index.proofs.Settled.{settled_in_step}
use Rattle.row_store.specs.Store.{Store}
use Rattle.bench_core.specs.State.{State, TableState, rows_at, texts_of}
use Rattle.bench_core.specs.Bench.{IsBench, IsHeld, tables_of}
use Rattle.bench_core.specs.declared.project.Project.{Project}
use Rattle.bench_core.specs.Stored.{HaveTexts, Stored, StoredRow, RowsHaveTexts, state_of, stored, table_state, text_of}
use Rattle.bench_core.specs.Answers.{cind_orphans, dep_violations, orphans_at, orphans_of_row, row_texts, violations_at, violations_of_row}
use Rattle.bench_core.specs.Indexed.{IsIndexed, tuples_of}
use Rattle.bench_core.proofs.Holding.{all-there, state-there, stored-at}
use Rattle.bench_core.proofs.Planned.{have-texts, texts-absent}
use Rattle.bench_core.proofs.TuplesAt.{row-full, tuple-there}

pub ok_weaker : {X E : Type 0} {P Q : X → Type 0} (r : Result X E) → ((x : X) → P x → Q x) → IfOk r P → IfOk r Q
ok_weaker (Ok x) weaker holds = weaker x holds
ok_weaker (Err e) weaker holds = holds

-- an item whose place is in range
pub item-there : {X : Type 0} (xs : List X) (k : ℕ) → k < length xs → (x : X) × (slice_get xs k ≡ Some x)
item-there [] k within = absurd (omega arith)
item-there (x ∷ xs) zero within = (x, refl)
item-there (x ∷ xs) (suc k) within = item-there xs k (omega arith)

-- ---- the rows of a table, by their ids

abbrev pub stored_rows : List Stored → ℕ → List StoredRow
stored_rows tables n = option_map_or (λ (t : Stored). finmap.entries t.rows) (slice_get tables n) []

pub renamed-is : (texts : List (List ℕ)) (tables : List Stored) (n : ℕ) → renamed_rows (text_of texts) (stored_rows tables n) ≡ rows_at (state_of texts tables) n
renamed-is texts [] n = refl
renamed-is texts (t ∷ tables) zero = refl
renamed-is texts (t ∷ tables) (suc n) = renamed-is texts tables n

no_rows : (texts : List (List ℕ)) → AreRowsInTexts texts (λ row. None) []
no_rows texts = record {
  rows-at = record {
    rising = rising-nil (λ (row : ℕ × List ℕ). row.0);
    found = λ row tuple. ((λ is. absurd (none-some tuple is)), (λ inside. absurd (contains_nothing (row, tuple) inside)));
  };
  named = All-nil _;
}

pub rows-in-texts : (texts : List (List ℕ)) (tables : List Stored) (n : ℕ) → All (λ (t : Stored). RowsHaveTexts texts t.rows) tables → AreRowsInTexts texts (tuples_of tables n) (stored_rows tables n)
rows-in-texts texts [] n named = no_rows texts
rows-in-texts texts (t ∷ tables) zero named =
    let rows = rows_of_map t.rows in
    record { rows-at = record { rising = rows.rising; found = rows.found }; named = All-head (λ (t : Stored). RowsHaveTexts texts t.rows) t tables named }
rows-in-texts texts (t ∷ tables) (suc n) named = rows-in-texts texts tables n (All-tail (λ (t : Stored). RowsHaveTexts texts t.rows) t tables named)

-- ---- answers

module _ (rules : Book) (texts : List (List ℕ)) (tables : List Stored) (index : AllIndexes) (named : All (λ (t : Stored). RowsHaveTexts texts t.rows) tables) (indexed : IsIndexed rules texts (tuples_of tables) index) where
  abbrev state : State
  state = state_of texts tables

  pub settled : AreSettled index.index
  settled = settled_in_step (tuples_of tables) index.index indexed.in_step.groups

  pub dep-indexed : (number : ℕ) → number < length (book_deps rules) → number < length index.index.groups.items
  dep-indexed number within = subst (λ n. number < n) (sym (AllZip-long (IsIndexOfDep texts) (book_deps rules) index.index.groups.items indexed.in_step.indexes.groups)) within

  pub cind-indexed : (number : ℕ) → number < length (book_cinds rules) → number < length index.index.cinds.items
  cind-indexed number within = subst (λ n. number < n) (sym (AllZip-long (IsIndexOfCind texts) (book_cinds rules) index.index.cinds.items indexed.in_step.indexes.cinds)) within

  rows : (n : ℕ) → AreRowsInTexts texts (tuples_of tables n) (stored_rows tables n)
  rows n = rows-in-texts texts tables n named

  dep-is : (dep : Dep) (number : ℕ) → slice_get (book_deps rules) number ≡ Some dep
      → violations bytes_eq dep.rule (entries dep.rule (renamed_rows (text_of texts) (stored_rows tables dep.table))) ≡ violations_at rules state number
  dep-is dep number at =
      ap (λ rs. violations bytes_eq dep.rule (entries dep.rule rs)) (renamed-is texts tables dep.table)
      ∙ sym (ap (λ o. option_map_or (dep_violations state) o []) at)

  cind-is : (cind : Cind) (number : ℕ) → slice_get (book_cinds rules) number ≡ Some cind
      → orphans bytes_eq cind.rule (left_entries cind.rule (renamed_rows (text_of texts) (stored_rows tables cind.left))) (right_entries cind.rule (renamed_rows (text_of texts) (stored_rows tables cind.right))) ≡ orphans_at rules state number
  cind-is cind number at =
      ap (λ rs. orphans bytes_eq cind.rule (left_entries cind.rule rs) (right_entries cind.rule (renamed_rows (text_of texts) (stored_rows tables cind.right)))) (renamed-is texts tables cind.left)
      ∙ ap (λ rs. orphans bytes_eq cind.rule (left_entries cind.rule (rows_at state cind.left)) (right_entries cind.rule rs)) (renamed-is texts tables cind.right)
      ∙ sym (ap (λ o. option_map_or (cind_orphans state) o []) at)

  module _ (distinct : HaveOneId texts) (number : ℕ) where
    pub violations-are : (found : List (ℕ × Violation)) → number < length (book_deps rules) → AreViolationsOfDep index.index number found → found ≡ violations_at rules state number
    violations-are found within are =
        let (dep, at) = item-there (book_deps rules) number within in
        are rules texts (tuples_of tables) dep (stored_rows tables dep.table) distinct indexed.in_step.indexes indexed.in_step.groups at (rows dep.table) ∙ dep-is dep number at

    pub violation-count : (count : ℕ) → number < length (book_deps rules) → IsViolationCountOfDep index.index number count → count ≡ length (violations_at rules state number)
    violation-count count within are =
        let (dep, at) = item-there (book_deps rules) number within in
        are rules texts (tuples_of tables) dep (stored_rows tables dep.table) distinct indexed.in_step.indexes indexed.in_step.groups at (rows dep.table) ∙ ap (λ vs. length vs) (dep-is dep number at)

    pub row-violations : (row : ℕ) (ids : List ℕ) (found : List (ℕ × Violation)) (dep : Dep) → slice_get (book_deps rules) number ≡ Some dep → tuples_of tables dep.table row ≡ Some ids → AreViolationsOfRow index.index number row ids found
        → found ≡ violations_of_row rules state number row
    row-violations row ids found dep at there are =
        are rules texts (tuples_of tables) dep (stored_rows tables dep.table) distinct indexed.in_step.indexes indexed.in_step.groups at (rows dep.table) there
        ∙ ap (filter (λ (violation : ℕ × Violation). violation.1.row == row)) (dep-is dep number at)

    pub orphans-are : (found : List (ℕ × ℕ)) → number < length (book_cinds rules) → AreOrphansOfCind index.index number found → found ≡ orphans_at rules state number
    orphans-are found within are =
        let (cind, at) = item-there (book_cinds rules) number within in
        are rules texts (tuples_of tables) cind (stored_rows tables cind.left) (stored_rows tables cind.right) distinct indexed.in_step.indexes indexed.in_step.cinds at (rows cind.left) (rows cind.right) ∙ cind-is cind number at

    pub orphan-count : (count : ℕ) → number < length (book_cinds rules) → IsOrphanCountOfCind index.index number count → count ≡ length (orphans_at rules state number)
    orphan-count count within are =
        let (cind, at) = item-there (book_cinds rules) number within in
        are rules texts (tuples_of tables) cind (stored_rows tables cind.left) (stored_rows tables cind.right) distinct indexed.in_step.indexes indexed.in_step.cinds at (rows cind.left) (rows cind.right) ∙ ap (λ os. length os) (cind-is cind number at)

    pub row-orphans : (row : ℕ) (ids : List ℕ) (found : List (ℕ × ℕ)) (cind : Cind) → slice_get (book_cinds rules) number ≡ Some cind → tuples_of tables cind.left row ≡ Some ids → AreOrphansOfRow index.index number row ids found
        → found ≡ orphans_of_row rules state number row
    row-orphans row ids found cind at there are =
        are rules texts (tuples_of tables) cind (stored_rows tables cind.left) (stored_rows tables cind.right) distinct indexed.in_step.indexes indexed.in_step.cinds at (rows cind.left) (rows cind.right) there
        ∙ ap (filter (λ (orphan : ℕ × ℕ). orphan.1 == row)) (cind-is cind number at)

-- ---- one row of a table

-- what is at one place of two lists
pub zip-at : {X Y : Type 0} (R : X → Y → Type 0) (xs : List X) (ys : List Y) (n : ℕ) (x : X) (y : Y) → AllZip R xs ys → slice_get xs n ≡ Some x → slice_get ys n ≡ Some y → R x y
zip-at R [] ys n x y zip at there = absurd (none-some x at)
zip-at R (a ∷ xs) [] n x y zip at there = absurd zip
zip-at R (a ∷ xs) (b ∷ ys) zero x y zip at there = let one : a ≡ x = same_Some a x at in let other : b ≡ y = same_Some b y there in subst (λ a. R a y) one (subst (R a) other zip.0)
zip-at R (a ∷ xs) (b ∷ ys) (suc n) x y zip at there = zip-at R xs ys n x y zip.1 at there

-- a rule of the book, which was read
pub rule-at : {X : Type 0} (all rules : List X) (n : ℕ) (rule : X) → rules ≡ all → n < length all → rule ≡ get_or rules n rule → slice_get all n ≡ Some rule
rule-at all rules n rule same within is = slice_get_read all (length all) n rule refl within (is ∙ ap (λ rs. get_or rs n rule) same)

module _ (rules : Book) (book : IsBook rules) where
  pub dep-valid : (n : ℕ) (dep : Dep) → slice_get (book_deps rules) n ≡ Some dep → IsValidDep rules.schema dep
  dep-valid n dep at = subst (IsValidDep rules.schema) (get_or_from_slice_get (book_deps rules) n dep dep at) (book.deps n dep (slice_get_within (book_deps rules) n dep at))

  pub cind-valid : (n : ℕ) (cind : Cind) → slice_get (book_cinds rules) n ≡ Some cind → IsValidCind rules.schema cind
  cind-valid n cind at = subst (IsValidCind rules.schema) (get_or_from_slice_get (book_cinds rules) n cind cind at) (book.cinds n cind (slice_get_within (book_cinds rules) n cind at))

  module _ (texts : List (List ℕ)) (tuples : ℕ → ℕ → Option (List ℕ)) (index : AllIndexes) (indexed : IsIndexed rules texts tuples index) (n : ℕ) (ids : List ℕ) where
    reach : (table : ℕ) → length ids ≡ length (attrs_at rules.schema table) → (own attrs : List ℕ) → attrs ≡ own → All (λ attr. attr < length (attrs_at rules.schema table)) own → All (λ attr. attr < length ids) attrs
    reach table full own attrs same within = subst (λ own_attrs. All (λ attr. attr < length ids) own_attrs) (sym same) (subst (λ k. All (λ attr. attr < k) own) (sym full) within)

    pub dep-wide : (dep : Dep) → slice_get (book_deps rules) n ≡ Some dep → length ids ≡ length (attrs_at rules.schema dep.table) → IsWideForDep index.index n ids
    dep-wide dep at full s there =
        let is = zip-at (IsIndexOfDep texts) (book_deps rules) index.index.groups.items n dep s indexed.in_step.indexes.groups at there in
        let valid = dep-valid n dep at in
        All-cons (λ attr. attr < length ids) s.made.dependency.a s.made.dependency.x
        (subst (λ a. a < length ids) (sym is.rule.a) (subst (λ k. dep.rule.a < k) (sym full) valid.a))
        (reach dep.table full dep.rule.x s.made.dependency.x is.rule.x valid.x)

    pub cind-wide : (cind : Cind) → slice_get (book_cinds rules) n ≡ Some cind → length ids ≡ length (attrs_at rules.schema cind.left) → IsWideForCind index.index n ids
    cind-wide cind at full s there =
        let is = zip-at (IsIndexOfCind texts) (book_cinds rules) index.index.cinds.items n cind s indexed.in_step.indexes.cinds at there in
        let valid = cind-valid n cind at in
        All-append (λ attr. attr < length ids) s.rule.x s.rule.xp
        (reach cind.left full cind.rule.x s.rule.x is.rule.x valid.x)
        (reach cind.left full cind.rule.xp s.rule.xp is.rule.xp valid.xp)

module _ (rules : Book) (limits : Limits) (texts : List (List ℕ)) (tables : List Stored) (bench : IsBench rules limits (state_of texts tables)) where
  -- a table of the schema is stored
  pub is-stored : (n : ℕ) → n < length rules.schema.tables → n < length tables
  is-stored n within =
      let long = AllZip-long _ _ _ bench.tables in
      let same = length-map tables (table_state texts) in
      omega (arith, within, long, same)

  module _ (n row : ℕ) (table : Stored) (at : slice_get tables n ≡ Some table) where
    -- its row with these ids
    module _ (ids : List ℕ) (found : finmap.get table.rows row ≡ Some ids) where
      pub row-there : tuples_of tables n row ≡ Some ids
      row-there = tuple-there tables n row table at ∙ found

      pub row-wide : length ids ≡ length (attrs_at rules.schema n)
      row-wide = row-full rules limits texts tables bench n row ids row-there

      pub row-named : All (λ (t : Stored). RowsHaveTexts texts t.rows) tables → HaveTexts texts ids
      row-named named = have-texts texts table row ids (all-there (λ (t : Stored). RowsHaveTexts texts t.rows) tables n table named at) found

    -- a row that has texts is stored
    pub row-absent : finmap.get table.rows row ≡ None → IsSome (row_texts (state_of texts tables) n row) → ⊥
    row-absent none there = not_some (sym there ∙ ap is_some (ap (option_and_then (λ (t : TableState). texts_of t row)) (state-there texts n tables table at) ∙ texts-absent texts table row none))
      where
        not_some : true ≡ false → ⊥
        not_some e = cc

-- ---- a table that is read

module _ (project : Project) (held : IsHeld project) (table : ℕ) (valid : table < length project.rules.schema.tables) where
  pub table-within : table < length project.stores.items
  table-within =
      let here = is-stored project.rules project.limits project.pool (tables_of project) held.history.present table valid in
      subst (λ n. table < n) (length-map project.stores.items stored) here

  pub store-read : (store : Store) → store ≡ get_or project.stores.items table store → slice_get (tables_of project) table ≡ Some (stored store)
  store-read store is = stored-at project.stores.items table store table-within is
