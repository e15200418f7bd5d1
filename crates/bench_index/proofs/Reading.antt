-- What the index of a rule lists, told of the texts of the rows.
use Rattle.std.proofs.Common.{◌≡◌, ℕ, zero, suc, Bool, true, false, cond, ◌&&◌, List, [], ◌∷◌, ◌++◌, filter, length, Option, Some, None, refl, sym, ap, ◌∙◌, subst, arith}
use Rattle.std.specs.Prelude.{◌==◌, nat_eq, All, slice_get}
use Rattle.std.specs.List.{AllZip, Contains, filter_map}
use Rattle.std.specs.Option.{option_map, option_map_or, option_to_list}
use Rattle.std.specs.Str.{bytes_eq}
use Rattle.std.proofs.lemmas.Bool.Decides.{nat_tests}
use Rattle.std.proofs.lemmas.Option.{get_or_from_slice_get, slice_get_within}
use Rattle.value_pool.specs.Pool.{HaveOneId}
use Rattle.cfd_semantics.specs.declared.violation.Violation.{Violation}
use Rattle.cfd_semantics.specs.declared.dependency.TableauRow.{TableauRow}
use Rattle.cfd_semantics.specs.declared.inclusion.InclusionRow.{InclusionRow}
use Rattle.cfd_semantics.specs.Numbered.{numbered}
use Rattle.cfd_semantics.specs.EntrySets.{IsEntryList, IsSideList, IsGivenBy, gives_side}
use Rattle.cfd_semantics.specs.Renaming.{renamed_rows}
use Rattle.cfd_semantics.specs.Violation.{Entry, entry_of, entries, is_single, least_partner, violation_of, violating, violations}
use Rattle.cfd_semantics.specs.Orphan.{SideEntry, side_entry_of, left_entry_of, left_entries, right_entries, is_orphan, orphaned, orphans}
use Rattle.cfd_semantics.proofs.SideLists.{side_from_parts}
use Rattle.cfd_semantics.proofs.Members.{contains-filter_map}
use Rattle.cfd_semantics.proofs.RowSets.{AreRowsOf, entries_of_rows, side_entries_of_rows}
use Rattle.row_store.specs.Watch.{entries_of, IsWide}
use Rattle.row_store.specs.Watches.{IsInStep}
use Rattle.rule_model.specs.Books.{Book, book_deps, book_cinds}
use Rattle.rule_model.specs.declared.dep.Dep.{Dep}
use Rattle.rule_model.specs.declared.cind.Cind.{Cind}
use Rattle.group_index.specs.GroupSet.{GroupSet, holds_entry}
use Rattle.group_index.proofs.OwnEntries.{entry_at, entry_there}
use Rattle.cind_index.specs.declared.index.CindIndex.{CindIndex}
use Rattle.cind_index.specs.declared.side.Side.{Side}
use Rattle.cind_index.specs.declared.side.Side.TheVariants.{Left, Right}
use Rattle.cind_index.specs.KeysHeld.{held, lefts, rights}
use Rattle.cind_index.specs.Entries.{CindEntry, key_on, pattern_on, table_on, gives_on, gives_entry}
use Rattle.cind_index.specs.Index.{made_of}
use Rattle.cind_index.proofs.OwnEntries.{values_there}
use Rattle.cind_index.proofs.SideFacts.{wide_front, wide_back}
use Rattle.row_store.specs.Tuple.{ids_at}
use Rattle.bench_index.specs.ByIds.{text_of, IsDependencyByIds, IsInclusionByIds}
use Rattle.bench_index.specs.InStep.{AreInStep}
use Rattle.bench_index.specs.Watching.{group_watch, cind_watch}
use Rattle.bench_index.specs.Indexes.{IsIndexOfDep, IsIndexOfCind, AreIndexesOf, AreRowsAt, AreRowsInTexts, AreViolationsOfDep, AreOrphansOfCind}
use Rattle.bench_index.specs.Lists.{OfViolations, OfOrphans, AreLinesOf, AreOrphanLinesOf}
use Rattle.bench_index.specs.Replies.{IsViolationCountOfDep, IsOrphanCountOfCind, AreViolationsOfRow, AreOrphansOfRow}
use Rattle.bench_index.specs.declared.index.BenchIndex.{BenchIndex}
use Rattle.bench_index.proofs.InTexts.{violations_in_texts, orphans_in_texts}
use Rattle.bench_index.proofs.OwnLines.{filter-numbered, own_only, given_where}
use Rattle.bench_index.proofs.Settled.{exact_ids, given_in_step}

-- items at one place of two lists
pub zip_at : {A B : Type 0} (R : A → B → Type 0) (xs : List A) (ys : List B) (k : ℕ) (x : A) (y : B) → AllZip R xs ys → slice_get xs k ≡ Some x → slice_get ys k ≡ Some y → R x y
zip_at R [] ys k x y all at beside = absurd (cc)
zip_at R (a ∷ xs) [] k x y all at beside = absurd all
zip_at R (a ∷ xs) (b ∷ ys) zero x y all at beside =
    let one : a ≡ x = cc in
    let other : b ≡ y = cc in
    subst (λ z. R z y) one (subst (R a) other all.0)
zip_at R (a ∷ xs) (b ∷ ys) (suc k) x y all at beside = zip_at R xs ys k x y all.1 at beside

rows_of : (rows : List (ℕ × List ℕ)) (tuple_at : ℕ → Option (List ℕ)) → AreRowsAt rows tuple_at → AreRowsOf rows tuple_at
rows_of rows tuple_at are = record { rising = are.rising; found = are.found }

pub all_at : {X : Type 0} (P : X → Type 0) (xs : List X) (k : ℕ) (x : X) → All P xs → slice_get xs k ≡ Some x → P x
all_at P xs k x all at = subst P (get_or_from_slice_get xs k x x at) (all k x (slice_get_within xs k x at))

pub same_at : {X : Type 0} (xs : List X) (k : ℕ) (x y : X) → slice_get xs k ≡ Some x → slice_get xs k ≡ Some y → x ≡ y
same_at xs k x y at beside = cc

-- ---- dependencies

-- what is known of the index of a dependency
pub record IsOfDep (texts : List (List ℕ)) (dep : Dep) (s : GroupSet) (rows : List (ℕ × List ℕ)) : Type 0 where
  pub rule : IsDependencyByIds texts dep.rule s.made.dependency
  pub list : IsEntryList (holds_entry s) (entries s.made.dependency rows)

-- a violation is listed of its row
line_row : (t : TableauRow ℕ) (all : List (Entry ℕ)) (e : Entry ℕ) (v : Violation) → violation_of nat_eq t all e ≡ Some v → v.row ≡ e.row
line_row t all e v is = by (is_single nat_eq t e) (least_partner nat_eq t all e) is
  where
    by : (b : Bool) (o : Option ℕ) → cond b (Some (record { row = e.row; partner = None })) (option_map (λ partner. record { row = e.row; partner = Some partner }) o) ≡ Some v → v.row ≡ e.row
    by true o is = let same : record { row = e.row; partner = None } ≡ v = cc in sym (ap (λ (w : Violation). w.row) same)
    by false None is = absurd (cc)
    by false (Some n) is = let same : record { row = e.row; partner = Some n } ≡ v = cc in sym (ap (λ (w : Violation). w.row) same)

module _ (index : BenchIndex) (number : ℕ) (s : GroupSet) (here : slice_get index.groups.items number ≡ Some s) where
  pub of_dep : (rules : Book) (texts : List (List ℕ)) (tuples : ℕ → ℕ → Option (List ℕ)) (dep : Dep) (rows : List (ℕ × List ℕ)) → AreIndexesOf rules texts index → AreInStep group_watch tuples index.groups.items
      → slice_get (book_deps rules) number ≡ Some dep → AreRowsInTexts texts (tuples dep.table) rows → IsOfDep texts dep s rows
  of_dep rules texts tuples dep rows are in_step at are_rows =
      let is = zip_at (IsIndexOfDep texts) (book_deps rules) index.groups.items number dep s are.groups at here in
      let given = given_in_step tuples s (all_at (IsInStep group_watch tuples) index.groups.items number s in_step here) in
      let found = subst (λ table. AreRowsOf rows (tuples table)) (sym is.table) (rows_of rows (tuples dep.table) are_rows.rows-at) in
      record { rule = is.rule; list = entries_of_rows nat_eq exact_ids s.made.dependency rows (tuples s.made.table) (holds_entry s) found given }

  read_fact : (Fact : List (ℕ × Violation) → Type 0) → OfViolations s Fact
      → (rules : Book) (texts : List (List ℕ)) (tuples : ℕ → ℕ → Option (List ℕ)) (dep : Dep) (rows : List (ℕ × List ℕ)) → HaveOneId texts → AreIndexesOf rules texts index → AreInStep group_watch tuples index.groups.items
      → slice_get (book_deps rules) number ≡ Some dep → AreRowsInTexts texts (tuples dep.table) rows → Fact (violations bytes_eq dep.rule (entries dep.rule (renamed_rows (text_of texts) rows)))
  read_fact Fact fact rules texts tuples dep rows distinct are in_step at are_rows =
      let of = of_dep rules texts tuples dep rows are in_step at are_rows in
      subst Fact (violations_in_texts texts distinct dep.rule s.made.dependency rows of.rule are_rows.named) (fact (entries s.made.dependency rows) of.list)

  pub read_violations : (found : List (ℕ × Violation)) → OfViolations s (λ all. found ≡ all) → AreViolationsOfDep index number found
  read_violations found fact = read_fact (λ all. found ≡ all) fact

  pub read_violation_count : (count : ℕ) → OfViolations s (λ all. count ≡ length all) → IsViolationCountOfDep index number count
  read_violation_count count fact = read_fact (λ all. count ≡ length all) fact

  pub read_lines : (row : ℕ) (ids : List ℕ) (lines : List (ℕ × Violation)) → IsWide (s.made.dependency.a ∷ s.made.dependency.x) ids → AreLinesOf s row ids lines → AreViolationsOfRow index number row ids lines
  read_lines row ids lines wide are_lines rules texts tuples dep rows distinct are in_step at are_rows there =
      let d = s.made.dependency in
      let of = of_dep rules texts tuples dep rows are in_step at are_rows in
      let all = entries d rows in
      let e = entry_at s.made row ids in
      let is = entry_there s.made row ids wide in
      let inside : Contains all e = contains-filter_map (entry_of d) rows (row, ids) e ((are_rows.rows-at.found row ids).0 there) is in
      let gives = λ (t : TableauRow ℕ). violating nat_eq t all in
      let own = λ (v : Violation). v.row == row in
      let each : (t : TableauRow ℕ) → filter own (gives t) ≡ option_to_list (violation_of nat_eq t all e) =
      λ t. own_only (λ (f : Entry ℕ). f.row) (λ (v : Violation). v.row) (violation_of nat_eq t all) (line_row t all) row all of.list.rising e inside refl in
      are_lines e all is of.list ∙ sym (filter-numbered own gives d.rows ∙ ap (λ lists. numbered lists d.rows) (λ i t. each t i))
      ∙ ap (filter (λ (v : ℕ × Violation). v.1.row == row)) (violations_in_texts texts distinct dep.rule d rows of.rule are_rows.named)

-- ---- inclusions

own_table : (n : ℕ) → (n == n) ≡ true
own_table n = grind (arith, nat_tests)

module _ (tuples : ℕ → ℕ → Option (List ℕ)) (s : CindIndex) (in_step : IsInStep cind_watch tuples s) where
  side_given : (side : Side) → IsGivenBy (λ (e : SideEntry ℕ). e.row) (gives_side nat_eq (key_on s.rule side) (pattern_on s.rule side)) (tuples (table_on (made_of s) side)) (held s.keys side)
  side_given side e = in_step table e.row entry refl refl ∙ at (tuples table e.row)
    where
      table : ℕ
      table = table_on (made_of s) side

      entry : CindEntry
      entry = record { side = side; entry = e }

      at : (o : Option (List ℕ)) → entries_of (gives_entry (made_of s) table e.row) o entry ≡ option_map_or (λ tuple. gives_side nat_eq (key_on s.rule side) (pattern_on s.rule side) e.row tuple e) o false
      at None = refl
      at (Some ids) = ap (λ b. b && gives_on s.rule side e.row ids e) (own_table table)

  -- the list of a side's set is what the rows of its table give
  pub side_list : (side : Side) (rows : List (ℕ × List ℕ)) (table : ℕ) → table_on (made_of s) side ≡ table → AreRowsAt rows (tuples table) → IsSideList (held s.keys side) (filter_map (side_entry_of (key_on s.rule side) (pattern_on s.rule side)) rows)
  side_list side rows table is are =
      let found = subst (λ t. AreRowsOf rows (tuples t)) (sym is) (rows_of rows (tuples table) are) in
      side_entries_of_rows nat_eq exact_ids (key_on s.rule side) (pattern_on s.rule side) rows (tuples (table_on (made_of s) side)) (held s.keys side) found (side_given side)

-- what is known of the index of an inclusion
pub record IsOfCind (texts : List (List ℕ)) (cind : Cind) (s : CindIndex) (left_rows right_rows : List (ℕ × List ℕ)) : Type 0 where
  pub rule : IsInclusionByIds texts cind.rule s.rule
  pub left : IsSideList (lefts s.keys) (left_entries s.rule left_rows)
  pub right : IsSideList (rights s.keys) (right_entries s.rule right_rows)

module _ (index : BenchIndex) (number : ℕ) (s : CindIndex) (here : slice_get index.cinds.items number ≡ Some s) where
  pub of_cind : (rules : Book) (texts : List (List ℕ)) (tuples : ℕ → ℕ → Option (List ℕ)) (cind : Cind) (left_rows right_rows : List (ℕ × List ℕ)) → AreIndexesOf rules texts index → AreInStep cind_watch tuples index.cinds.items
      → slice_get (book_cinds rules) number ≡ Some cind → AreRowsInTexts texts (tuples cind.left) left_rows → AreRowsInTexts texts (tuples cind.right) right_rows → IsOfCind texts cind s left_rows right_rows
  of_cind rules texts tuples cind left_rows right_rows are in_step at are_lefts are_rights =
      let is = zip_at (IsIndexOfCind texts) (book_cinds rules) index.cinds.items number cind s are.cinds at here in
      let own = all_at (IsInStep cind_watch tuples) index.cinds.items number s in_step here in record {
        rule = is.rule;
        left = side_list tuples s own Left left_rows cind.left is.left are_lefts.rows-at;
        right = side_list tuples s own Right right_rows cind.right is.right are_rights.rows-at;
      }

  read_orphan_fact : (Fact : List (ℕ × ℕ) → Type 0) → OfOrphans s Fact
      → (rules : Book) (texts : List (List ℕ)) (tuples : ℕ → ℕ → Option (List ℕ)) (cind : Cind) (left_rows right_rows : List (ℕ × List ℕ)) → HaveOneId texts → AreIndexesOf rules texts index → AreInStep cind_watch tuples index.cinds.items
      → slice_get (book_cinds rules) number ≡ Some cind → AreRowsInTexts texts (tuples cind.left) left_rows → AreRowsInTexts texts (tuples cind.right) right_rows
      → Fact (orphans bytes_eq cind.rule (left_entries cind.rule (renamed_rows (text_of texts) left_rows)) (right_entries cind.rule (renamed_rows (text_of texts) right_rows)))
  read_orphan_fact Fact fact rules texts tuples cind left_rows right_rows distinct are in_step at are_lefts are_rights =
      let of = of_cind rules texts tuples cind left_rows right_rows are in_step at are_lefts are_rights in
      subst Fact (orphans_in_texts texts distinct cind.rule s.rule left_rows right_rows of.rule are_lefts.named are_rights.named) (fact (left_entries s.rule left_rows) (right_entries s.rule right_rows) of.left of.right)

  pub read_orphans : (found : List (ℕ × ℕ)) → OfOrphans s (λ all. found ≡ all) → AreOrphansOfCind index number found
  read_orphans found fact = read_orphan_fact (λ all. found ≡ all) fact

  pub read_orphan_count : (count : ℕ) → OfOrphans s (λ all. count ≡ length all) → IsOrphanCountOfCind index number count
  read_orphan_count count fact = read_orphan_fact (λ all. count ≡ length all) fact

  pub read_orphan_lines : (row : ℕ) (ids : List ℕ) (lines : List (ℕ × ℕ)) → IsWide (s.rule.x ++ s.rule.xp) ids → AreOrphanLinesOf s row ids lines → AreOrphansOfRow index number row ids lines
  read_orphan_lines row ids lines wide are_lines rules texts tuples cind left_rows right_rows distinct are in_step at are_lefts are_rights there =
      let of = of_cind rules texts tuples cind left_rows right_rows are in_step at are_lefts are_rights in
      let rule = s.rule in
      let ls = left_entries rule left_rows in
      let rs = right_entries rule right_rows in
      let left : SideEntry ℕ = record { key = ids_at ids rule.x; pattern = ids_at ids rule.xp; row = row } in
      let is : left_entry_of rule (row, ids) ≡ Some left =
      side_from_parts rule.x rule.xp (row, ids) left.key left.pattern (values_there ids rule.x (wide_front rule.x rule.xp ids wide)) (values_there ids rule.xp (wide_back rule.x rule.xp ids wide)) in
      let inside : Contains ls left = contains-filter_map (left_entry_of rule) left_rows (row, ids) left ((are_lefts.rows-at.found row ids).0 there) is in
      let gives = λ (t : InclusionRow ℕ). orphaned nat_eq t ls rs in
      let own = λ (r : ℕ). r == row in
      let each : (t : InclusionRow ℕ) → filter own (gives t) ≡ cond (is_orphan nat_eq t rs left) (row ∷ []) [] =
      λ t. ap (filter own) (given_where (is_orphan nat_eq t rs) (λ (e : SideEntry ℕ). e.row) ls)
      ∙ own_only (λ (e : SideEntry ℕ). e.row) (λ (r : ℕ). r) (λ (e : SideEntry ℕ). cond (is_orphan nat_eq t rs e) (Some e.row) None) (orphan_row t rs) row ls of.left.rising left inside refl
      ∙ listed_once (is_orphan nat_eq t rs left) row in
      are_lines left rs is of.right ∙ sym (filter-numbered own gives rule.rows ∙ ap (λ lists. numbered lists rule.rows) (λ i t. each t i))
      ∙ ap (filter (λ (o : ℕ × ℕ). o.1 == row)) (orphans_in_texts texts distinct cind.rule rule left_rows right_rows of.rule are_lefts.named are_rights.named)
    where
      orphan_row : (t : InclusionRow ℕ) (rs : List (SideEntry ℕ)) (e : SideEntry ℕ) (r : ℕ) → cond (is_orphan nat_eq t rs e) (Some e.row) None ≡ Some r → r ≡ e.row
      orphan_row t rs e r is = by (is_orphan nat_eq t rs e) is
        where
          by : (b : Bool) → cond b (Some e.row) None ≡ Some r → r ≡ e.row
          by true is = let same : e.row ≡ r = cc in sym same
          by false is = absurd (cc)

      listed_once : (b : Bool) (n : ℕ) → option_to_list (cond b (Some n) None) ≡ cond b (n ∷ []) []
      listed_once true n = refl
      listed_once false n = refl
