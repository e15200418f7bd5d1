-- Nothing is told of a row exactly where the list has no line of it.
use Rattle.std.proofs.Common.{◌≡◌, ◌↔◌, ℕ, suc, ◌≤◌, ◌==◌, Bool, true, false, cond, List, [], ◌∷◌, ◌++◌, map, length, Option, None, Some, refl, ap, sym, ◌∙◌, subst, arith, codes, true≢false}
use Rattle.std.specs.Prelude.{⊤, option_and_then, option_map, sum_by}
use Rattle.std.specs.Cmp.{IsEquivalence, and_equiv, nat_eq_equiv, on_equiv}
use Rattle.std.specs.Cmp.Lexicographic.{lists_equiv, nat_list_eq_equiv}
use Rattle.std.specs.List.{All, AllZip, cons_option, filter, filter_map, flat_map, zip}
use Rattle.std.specs.Str.{bytes_eq}
use Rattle.std.proofs.lemmas.Bool.Decides.{nat_tests}
use Rattle.std.proofs.lemmas.List.{append_assoc, append-nil}
use Rattle.std.proofs.lemmas.List.Elements.{All-cons, All-filter, All-head, All-nil, All-tail, All-weaker}
use Rattle.std.proofs.lemmas.Option.{none-some, same_Some}
use Rattle.cfd_semantics.specs.declared.violation.Violation.{Violation}
use Rattle.cfd_semantics.specs.Tuple.{values_at}
use Rattle.cfd_semantics.specs.Violation.{Sides, sides_of}
use Rattle.cfd_semantics.proofs.Members.{append-empty}
use Rattle.cfd_semantics.proofs.Renamed.{All-given}
use Rattle.key_groups.specs.Groups.{by_key, group_size as items_size, with_item}
use Rattle.key_groups.specs.Arranged.{IsArranged}
use Rattle.key_groups.proofs.GroupFacts.{by_key-push}
use Rattle.key_groups.proofs.Members.{IsGroupOf, IsItem, each-by_key}
use Rattle.rule_model.specs.Books.{Book, book_cinds, book_deps}
use Rattle.rule_model.specs.declared.cind.Cind.{Cind}
use Rattle.rule_model.specs.declared.dep.Dep.{Dep}
use Rattle.bench_core.specs.Answers.{cind_orphans, dep_violations, row_texts}
use Rattle.bench_core.specs.State.{State}
use Rattle.cli_output.specs.declared.status.Status.TheVariants.{Clean}
use Rattle.violation_report.specs.Explained.{explained}
use Rattle.violation_groups.specs.Groups.{AreFindings, AreGroups, AreMissing, HaveAllLines, IsGroup, group_size, missing_of, missing_size, value_rows, value_size}
use Rattle.violation_groups.specs.Listed.{Shared, Valued, cind_listed, dep_listed, listed_of, listed_orphan_of, same_shared}
use Rattle.violation_groups.specs.declared.groups.Findings.{Findings}
use Rattle.violation_groups.specs.declared.groups.Group.{Group}
use Rattle.violation_groups.specs.declared.groups.Missing.{Missing}
use Rattle.violation_groups.specs.declared.groups.ValueRows.{ValueRows}
use Rattle.violation_groups.proofs.Totals.{listed-total, missing-total}
use Rattle.schema_core.specs.Lookups.{attrs_at}
use Rattle.view_list.specs.Groups.{group_text, missing_at, missing_text}
use Rattle.view_list.specs.Listed.{only_if, read_of}
use Rattle.view_list.specs.Rows.{cind_groups, cind_of_row, dep_groups, dep_of_row, has_id, row_body, stands_in}
use Rattle.view_forms.specs.Statuses.{status_of}
use Rattle.view_forms.proofs.Everywhere.{all_mapped, all_same, next, none_passes}
use Rattle.view_forms.proofs.Lines.{BreaksNone, none_explained}
use Rattle.view_forms.proofs.Wanted.{both_zipped, clean_is_empty, parts_are_empty}

-- ---- of an arrangement

module _ {X : Type 0} (size : X → ℕ) (P : X → Type 0) where
  passed : (b : Bool) (x : X) (xs : List X) → All P (cond b (x ∷ xs) xs) → All P xs
  passed true x xs all = All-tail P x xs all
  passed false x xs all = all

  all_by_sizes : (xs : List X) → ((n : ℕ) → All P (filter (λ x. size x == n) xs)) → All P xs
  all_by_sizes [] each = All-nil P
  all_by_sizes (x ∷ xs) each =
      let own : (size x == size x) ≡ true = grind (arith, nat_tests) in
      let of_size : ℕ → List X = λ n. filter (λ x. size x == n) xs in
      let first = subst (λ test. All P (cond test (x ∷ of_size (size x)) (of_size (size x)))) own (each (size x)) in
      All-cons P x xs (All-head P x (of_size (size x)) first) (all_by_sizes xs (λ n. passed (size x == n) x (of_size n) (each n)))

  all_arranged : (InOrder : ℕ → ℕ → Type 0) (before after : List X) → IsArranged InOrder size before after → All P after ↔ All P before
  all_arranged InOrder before after is = (
    (λ all. all_by_sizes before (λ n. subst (All P) (is.each n) (All-filter (λ x. size x == n) P after all))),
    (λ all. all_by_sizes after (λ n. subst (All P) (sym (is.each n)) (All-filter (λ x. size x == n) P before all))),
  )

-- ---- of groups

module _ {K T : Type 0} (eq : K → K → Bool) (laws : IsEquivalence eq) (Q : T → Type 0) where
  abbrev Grouped : K × List T → Type 0
  Grouped group = All Q group.1

  abbrev Single : K × T → Type 0
  Single item = Q item.1

  all_pushed : (items : List T) (item : T) → All Q (items ++ item ∷ []) → All Q items × Q item
  all_pushed [] item all = (All-nil Q, All-head Q item [] all)
  all_pushed (first ∷ items) item all =
      let rest = all_pushed items item (All-tail Q first (items ++ item ∷ []) all) in
      (All-cons Q first items (All-head Q first (items ++ item ∷ []) all) rest.0, rest.1)

  all_with_item : (groups : List (K × List T)) (key : K) (item : T) → All Grouped (with_item eq groups key item) → All Grouped groups × Q item
  all_with_item [] key item all = (All-nil Grouped, All-head Q item [] (All-head Grouped (key, item ∷ []) [] all))
  all_with_item (group ∷ groups) key item all = by (eq key group.0) (all_with_item groups key item) all
    where
      by : (here : Bool) → (All Grouped (with_item eq groups key item) → All Grouped groups × Q item)
          → All Grouped (cond here ((group.0, group.1 ++ item ∷ []) ∷ groups) (group ∷ with_item eq groups key item)) → All Grouped (group ∷ groups) × Q item
      by true later all =
          let parts = all_pushed group.1 item (All-head Grouped (group.0, group.1 ++ item ∷ []) groups all) in
          (All-cons Grouped group groups parts.0 (All-tail Grouped (group.0, group.1 ++ item ∷ []) groups all), parts.1)
      by false later all =
          let rest = later (All-tail Grouped group (with_item eq groups key item) all) in
          (All-cons Grouped group groups (All-head Grouped group (with_item eq groups key item) all) rest.0, rest.1)

  all_from_groups : (more items : List (K × T)) → All Grouped (by_key eq (items ++ more)) → All Grouped (by_key eq items) × All Single more
  all_from_groups [] items all = (subst (λ all_items. All Grouped (by_key eq all_items)) (append-nil items) all, All-nil Single)
  all_from_groups (item ∷ more) items all =
      let rest = all_from_groups more (items ++ item ∷ []) (subst (λ all_items. All Grouped (by_key eq all_items)) (sym (append_assoc items (item ∷ []) more)) all) in
      let one = all_with_item (by_key eq items) item.0 item.1 (subst (All Grouped) (by_key-push eq laws item.0 item.1 items) rest.0) in
      (one.0, All-cons Single item more one.1 rest.1)

  abbrev Any : K → Type 0
  Any key = ⊤

  all_grouped : (items : List (K × T)) → All Grouped (by_key eq items) ↔ All Single items
  all_grouped items = (
    (λ all. (all_from_groups items [] all).1),
    (λ all. All-weaker (IsGroupOf eq Any Q) Grouped (λ group its. its.1) (by_key eq items) (each-by_key eq Any Q items (All-weaker Single (IsItem eq Any Q) (λ item its. (tt, its)) items all))),
  )

-- ---- of what is given of each

module _ {X Y : Type 0} (h : X → Option Y) where
  no_more : (xs : List X) → length (filter_map h xs) ≤ length xs
  no_more [] = omega arith
  no_more (x ∷ xs) = let rest = no_more xs in by (h x) rest
    where
      by : (o : Option Y) → length (filter_map h xs) ≤ length xs → length (cons_option o (filter_map h xs)) ≤ suc (length xs)
      by None rest = omega (arith, rest)
      by (Some y) rest = omega (arith, rest)

  module _ (P : X → Type 0) (R : Y → Type 0) (so : (x : X) (y : Y) → h x ≡ Some y → R y → P x) where
    all_from_given : (xs : List X) → length (filter_map h xs) ≡ length xs → All R (filter_map h xs) → All P xs
    all_from_given [] none_lost all = All-nil P
    all_from_given (x ∷ xs) none_lost all = by (h x) refl (all_from_given xs) none_lost all
      where
        by : (o : Option Y) → h x ≡ o → (length (filter_map h xs) ≡ length xs → All R (filter_map h xs) → All P xs)
            → length (cons_option o (filter_map h xs)) ≡ suc (length xs) → All R (cons_option o (filter_map h xs)) → All P (x ∷ xs)
        by None is later whole all = let few = no_more xs in absurd (omega (arith, whole, few))
        by (Some y) is later whole all = All-cons P x xs (so x y is (All-head R y (filter_map h xs) all)) (later (omega (arith, whole)) (All-tail R y (filter_map h xs) all))

shared_laws : IsEquivalence same_shared
shared_laws = and_equiv (on_equiv (λ (shared : Shared). shared.0) nat_eq_equiv) (on_equiv (λ (shared : Shared). shared.1) (lists_equiv nat_list_eq_equiv))

-- ---- of rows

module _ (row : ℕ) where
  abbrev IsOther : ℕ → Type 0
  IsOther id = (id == row) ≡ false

  abbrev Other_valued : Valued → Type 0
  Other_valued valued = IsOther valued.1

  abbrev Apart : Group → Type 0
  Apart group = stands_in row group ≡ false

  -- a group has no row of an id where none of the rows that share something has it
  group_apart : (found : Shared × List Valued) (group : Group) → IsGroup found group → Apart group ↔ All Other_valued found.1
  group_apart found group is =
      let NoRows : ValueRows → Type 0 = λ value. has_id row value.rows ≡ false in
      let NoIds : List ℕ × List ℕ → Type 0 = λ value. has_id row value.1 ≡ false in
      next (none_passes (λ (value : ValueRows). has_id row value.rows) group.values)
      (next (all_arranged value_size NoRows _ (map value_rows (by_key bytes_eq found.1)) group.values is.values)
      (next (all_mapped NoRows value_rows (by_key bytes_eq found.1))
      (next (all_same NoIds (λ value. All IsOther value.1) (λ value. none_passes (λ id. id == row) value.1) (by_key bytes_eq found.1))
      (all_grouped bytes_eq nat_list_eq_equiv IsOther found.1))))

  groups_apart : (found : List (Shared × List Valued)) (groups : List Group) → AllZip IsGroup found groups → All Apart groups ↔ All (λ one. All Other_valued one.1) found
  groups_apart [] [] each = ((λ _. All-nil (λ one. All Other_valued one.1)), (λ _. All-nil Apart))
  groups_apart [] (group ∷ groups) each = absurd each
  groups_apart (one ∷ found) [] each = absurd each
  groups_apart (one ∷ found) (group ∷ groups) each =
      let first = group_apart one group each.0 in
      let rest = groups_apart found groups each.1 in (
        (λ all. All-cons (λ one. All Other_valued one.1) one found (first.0 (All-head Apart group groups all)) (rest.0 (All-tail Apart group groups all))),
        (λ all. All-cons Apart group groups (first.1 (All-head (λ one. All Other_valued one.1) one found all)) (rest.1 (All-tail (λ one. All Other_valued one.1) one found all))),
      )

  listed_apart : (listed : List (Shared × Valued)) (groups : List Group) → AreGroups listed groups → All Apart groups ↔ All (λ item. Other_valued item.1) listed
  listed_apart listed groups are =
      next (groups_apart are.found groups are.each)
      (next (all_arranged items_size (λ one. All Other_valued one.1) _ (by_key same_shared listed) are.found are.order)
      (all_grouped same_shared shared_laws Other_valued listed))

  abbrev Apart_missing : Missing → Type 0
  Apart_missing missing = has_id row missing.rows ≡ false

  missing_apart : (listed : List (Shared × ℕ)) (missing : List Missing) → AreMissing listed missing → All Apart_missing missing ↔ All (λ item. IsOther item.1) listed
  missing_apart listed missing are =
      next (all_arranged missing_size Apart_missing _ (map missing_of (by_key same_shared listed)) missing are)
      (next (all_mapped Apart_missing missing_of (by_key same_shared listed))
      (next (all_same (λ one. has_id row one.1 ≡ false) (λ one. All IsOther one.1) (λ one. none_passes (λ id. id == row) one.1) (by_key same_shared listed))
      (all_grouped same_shared shared_laws IsOther listed)))

-- ---- a rule

module _ (state : State) (dep : Dep) (row : ℕ) where
  listed_row : (k : ℕ) (found : Violation) (item : Shared × Valued) → listed_of state dep (k, found) ≡ Some item → item.1.1 ≡ found.row
  listed_row k found item is = by (row_texts state dep.table found.row) is
    where
      sided : (sides : Option (Sides (List ℕ))) → option_map (λ (sides : Sides (List ℕ)). ((k, sides.x), (sides.a, found.row))) sides ≡ Some item → item.1.1 ≡ found.row
      sided None is = absurd (none-some item is)
      sided (Some sides) is = sym (ap (λ item. item.1.1) (same_Some _ _ is))

      by : (texts : Option (List (List ℕ))) → option_and_then (λ texts. option_map (λ (sides : Sides (List ℕ)). ((k, sides.x), (sides.a, found.row))) (sides_of dep.rule texts)) texts ≡ Some item
          → item.1.1 ≡ found.row
      by None is = absurd (none-some item is)
      by (Some texts) is = sided (sides_of dep.rule texts) is

  abbrev IsOfOther : ℕ × Violation → Type 0
  IsOfOther found = IsOther row found.1.row

  groups_of_others : (groups : List Group) → AreGroups (dep_listed state dep) groups → sum_by group_size groups ≡ length (dep_violations state dep) → All (Apart row) groups ↔ All IsOfOther (dep_violations state dep)
  groups_of_others groups are lines =
      let whole = sym (listed-total (dep_listed state dep) groups are) ∙ lines in
      next (listed_apart row (dep_listed state dep) groups are) (
        (λ all. all_from_given (listed_of state dep) IsOfOther (λ item. Other_valued row item.1) (λ found item is other. subst (IsOther row) (listed_row found.0 found.1 item is) other) (dep_violations state dep) whole all),
        (λ all. All-given IsOfOther (λ item. Other_valued row item.1) (listed_of state dep) (λ found item other is. subst (IsOther row) (sym (listed_row found.0 found.1 item is)) other) (dep_violations state dep) all),
      )

module _ (state : State) (cind : Cind) (row : ℕ) where
  listed_orphan : (k orphan : ℕ) (item : Shared × ℕ) → listed_orphan_of state cind (k, orphan) ≡ Some item → item.1 ≡ orphan
  listed_orphan k orphan item is = by (row_texts state cind.left orphan) is
    where
      keyed : (key : Option (List (List ℕ))) → option_map (λ key. ((k, key), orphan)) key ≡ Some item → item.1 ≡ orphan
      keyed None is = absurd (none-some item is)
      keyed (Some key) is = sym (ap (λ item. item.1) (same_Some _ _ is))

      by : (texts : Option (List (List ℕ))) → option_and_then (λ texts. option_map (λ key. ((k, key), orphan)) (values_at texts cind.rule.x)) texts ≡ Some item → item.1 ≡ orphan
      by None is = absurd (none-some item is)
      by (Some texts) is = keyed (values_at texts cind.rule.x) is

  abbrev IsOtherOrphan : ℕ × ℕ → Type 0
  IsOtherOrphan found = IsOther row found.1

  missing_of_others : (missing : List Missing) → AreMissing (cind_listed state cind) missing → sum_by missing_size missing ≡ length (cind_orphans state cind) → All (Apart_missing row) missing ↔ All IsOtherOrphan (cind_orphans state cind)
  missing_of_others missing are lines =
      let whole = sym (missing-total (cind_listed state cind) missing are) ∙ lines in
      next (missing_apart row (cind_listed state cind) missing are) (
        (λ all. all_from_given (listed_orphan_of state cind) IsOtherOrphan (λ item. IsOther row item.1) (λ found item is other. subst (IsOther row) (listed_orphan found.0 found.1 item is) other) (cind_orphans state cind) whole all),
        (λ all. All-given IsOtherOrphan (λ item. IsOther row item.1) (listed_orphan_of state cind) (λ found item other is. subst (IsOther row) (sym (listed_orphan found.0 found.1 item is)) other) (cind_orphans state cind) all),
      )

-- ---- texts

blanks_are_some : codes "    " ≡ [] → ⊥
blanks_are_some is = absurd (cc)

implied : {A B C : Type 0} → A ↔ B → (C → A) ↔ (C → B)
implied same = ((λ so c. same.0 (so c)), (λ so c. same.1 (so c)))

told_if : (test : Bool) (text : List ℕ) → only_if test text ≡ [] ↔ (test ≡ true → text ≡ [])
told_if true text = ((λ is _. is), (λ so. so refl))
told_if false text = ((λ _ is. absurd (true≢false (sym is))), (λ _. refl))

not_told : (test : Bool) (text : List ℕ) → (text ≡ [] → ⊥) → only_if test text ≡ [] → test ≡ false
not_told true text some is = absurd (some is)
not_told false text some is = refl

module _ {X : Type 0} (test : X → Bool) (text : X → List ℕ) (some : (x : X) → text x ≡ [] → ⊥) where
  none_told : (xs : List X) → flat_map (λ x. only_if (test x) (text x)) xs ≡ [] ↔ All (λ x. test x ≡ false) xs
  none_told [] = ((λ _. All-nil (λ x. test x ≡ false)), (λ _. refl))
  none_told (x ∷ xs) =
      let rest = none_told xs in
      let told = flat_map (λ x. only_if (test x) (text x)) xs in (
        (λ empty.
            let both = append-empty (only_if (test x) (text x)) told empty in
            All-cons (λ x. test x ≡ false) x xs (not_told (test x) (text x) (some x) both.0) (rest.0 both.1)),
        (λ all. ap (λ b. only_if b (text x) ++ told) (All-head (λ x. test x ≡ false) x xs all) ∙ rest.1 (All-tail (λ x. test x ≡ false) x xs all)),
      )

-- ---- all rules

module _ (rules : Book) (counts : List ℕ) (state : State) (table row : ℕ) where
  dep_is_told : (dep : Dep) (groups : List Group) → (AreGroups (dep_listed state dep) groups) × (sum_by group_size groups ≡ length (dep_violations state dep))
      → dep_of_row rules.schema counts table row (dep, groups) ≡ [] ↔ ((dep.table == table) ≡ true → All (λ (found : ℕ × Violation). (found.1.row == row) ≡ false) (dep_violations state dep))
  dep_is_told dep groups are =
      next (told_if (dep.table == table) (dep_groups rules.schema counts row (dep, groups)))
      (implied (next (none_told (stands_in row) (group_text None (read_of counts dep.table) (attrs_at rules.schema dep.table) dep) (λ group empty. absurd (cc)) groups) (groups_of_others state dep row groups are.0 are.1)))

  cind_is_told : (cind : Cind) (missing : List Missing) → (AreMissing (cind_listed state cind) missing) × (sum_by missing_size missing ≡ length (cind_orphans state cind))
      → cind_of_row rules.schema counts table row (cind, missing) ≡ [] ↔ ((cind.left == table) ≡ true → All (λ (found : ℕ × ℕ). (found.1 == row) ≡ false) (cind_orphans state cind))
  cind_is_told cind missing are =
      next (told_if (cind.left == table) (cind_groups rules.schema counts row (cind, missing)))
      (implied (next (none_told (λ (one : Missing). has_id row one.rows) (missing_text None (read_of counts cind.left) rules.schema cind) some missing) (missing_of_others state cind row missing are.0 are.1)))
    where
      some : (one : Missing) → missing_text None (read_of counts cind.left) rules.schema cind one ≡ [] → ⊥
      some one empty =
          let front = append-empty (missing_at rules.schema cind one ++ codes "    ") _ empty in
          let blanks = append-empty (missing_at rules.schema cind one) (codes "    ") front.0 in absurd (blanks_are_some blanks.1)

  body_is_empty : (findings : Findings) → AreFindings rules state findings → HaveAllLines rules state findings → row_body rules counts table row findings ≡ [] ↔ BreaksNone rules state table row
  body_is_empty findings are lines =
      let deps = parts_are_empty (dep_of_row rules.schema counts table row) _ _ dep_is_told (book_deps rules) findings.deps (both_zipped _ _ (book_deps rules) findings.deps are.deps lines.deps) in
      let cinds = parts_are_empty (cind_of_row rules.schema counts table row) _ _ cind_is_told (book_cinds rules) findings.cinds (both_zipped _ _ (book_cinds rules) findings.cinds are.cinds lines.cinds) in
      let of_deps = flat_map (dep_of_row rules.schema counts table row) (zip (book_deps rules) findings.deps) in
      let of_cinds = flat_map (cind_of_row rules.schema counts table row) (zip (book_cinds rules) findings.cinds) in (
        (λ empty. let both = append-empty of_deps of_cinds empty in record { deps = deps.0 both.0; cinds = cinds.0 both.1 }),
        (λ none. ap (λ text. text ++ of_cinds) (deps.1 none.deps) ∙ cinds.1 none.cinds),
      )

-- the status of what is told of a row
pub clean_where_none_explained : (rules : Book) (counts : List ℕ) (state : State) (table row : ℕ) (findings : Findings)
    → AreFindings rules state findings → HaveAllLines rules state findings → status_of (row_body rules counts table row findings) ≡ Clean ↔ explained rules state table row ≡ []
clean_where_none_explained rules counts state table row findings are lines =
    next (clean_is_empty (row_body rules counts table row findings))
    (next (body_is_empty rules counts state table row findings are lines) (none_explained rules state table row))
