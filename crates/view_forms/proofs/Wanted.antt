-- Nothing is told of the rules that are asked for exactly where they are satisfied.
use Rattle.std.proofs.Common.{◌≡◌, ◌↔◌, ℕ, zero, suc, ◌≤◌, ◌&&◌, ◌==◌, Bool, true, false, not, cond, List, [], ◌∷◌, ◌++◌, map, length, refl, ap, sym, ◌∙◌, arith}
use Rattle.std.specs.List.{All, AllZip, filter, filter_map, flat_map, sum_by, zip}
use Rattle.std.specs.Str.{bytes_eq}
use Rattle.std.proofs.lemmas.Cmp.{nat_list_eq_equiv}
use Rattle.std.proofs.lemmas.List.Elements.{All-cons, All-head, All-nil, All-tail}
use Rattle.cfd_semantics.specs.Tuple.{tuples_of}
use Rattle.cfd_semantics.proofs.Law.{listing_is_empty_where_satisfied}
use Rattle.cfd_semantics.proofs.InclusionLaw.{orphans_are_none_where_included}
use Rattle.cfd_semantics.proofs.Members.{append-empty}
use Rattle.key_groups.specs.Groups.{by_key, group_size as items_size}
use Rattle.key_groups.specs.Arranged.{IsArranged}
use Rattle.rule_model.specs.Books.{Book, book_cinds, book_deps}
use Rattle.rule_model.specs.Satisfied.{SatisfyCind, SatisfyDep}
use Rattle.rule_model.specs.declared.cind.Cind.{Cind}
use Rattle.rule_model.specs.declared.dep.Dep.{Dep}
use Rattle.rule_parser.specs.RuleText.{table_name}
use Rattle.bench_core.specs.Answers.{cind_orphans, dep_violations}
use Rattle.bench_core.specs.State.{State, rows_at}
use Rattle.cli_output.specs.declared.status.Status.TheVariants.{Clean}
use Rattle.violation_groups.specs.Groups.{AreFindings, AreGroups, AreMissing, HaveAllLines, IsGroup, group_size, missing_of, missing_size}
use Rattle.violation_groups.specs.Listed.{cind_listed, dep_listed, listed_of, listed_orphan_of, same_shared}
use Rattle.violation_groups.specs.declared.groups.Findings.{Findings}
use Rattle.violation_groups.specs.declared.groups.Group.{Group}
use Rattle.violation_groups.specs.declared.groups.Missing.{Missing}
use Rattle.view_options.specs.declared.options.ListOptions.{ListOptions}
use Rattle.view_list.specs.Listed.{cind_part, dep_part, is_asked, list_body, only_if}
use Rattle.view_forms.specs.ListForm.{AreWantedSatisfied, is_wanted}
use Rattle.view_forms.specs.Statuses.{status_of}

-- ---- lists

empty_from_length : {T : Type 0} (xs : List T) → length xs ≡ 0 → xs ≡ []
empty_from_length [] is = refl
empty_from_length (x ∷ xs) is = absurd (cc)

-- what is arranged of no items
none_arranged : {T : Type 0} (InOrder : ℕ → ℕ → Type 0) (size : T → ℕ) (items after : List T) → items ≡ [] → IsArranged InOrder size items after → after ≡ []
none_arranged InOrder size items [] none is = refl
none_arranged InOrder size items (x ∷ xs) none is =
    let same : (size x == size x) ≡ true = grind arith in
    let first : filter (λ item. size item == size x) (x ∷ xs) ≡ x ∷ filter (λ item. size item == size x) xs =
    ap (λ test. cond test (x ∷ filter (λ item. size item == size x) xs) (filter (λ item. size item == size x) xs)) same in
    let nothing : x ∷ filter (λ item. size item == size x) xs ≡ [] = sym first ∙ is.each (size x) ∙ ap (filter (λ item. size item == size x)) none in
    absurd (cc)

pub both_zipped : {X Y : Type 0} (R S : X → Y → Type 0) (xs : List X) (ys : List Y) → AllZip R xs ys → AllZip S xs ys → AllZip (λ x y. R x y × S x y) xs ys
both_zipped R S [] [] one other = tt
both_zipped R S [] (y ∷ ys) one other = absurd one
both_zipped R S (x ∷ xs) [] one other = absurd one
both_zipped R S (x ∷ xs) (y ∷ ys) one other = ((one.0, other.0), both_zipped R S xs ys one.1 other.1)

-- lists that go together with none
no_zipped : {X Y : Type 0} (R : X → Y → Type 0) (xs : List X) (ys : List Y) → xs ≡ [] → AllZip R xs ys → length ys ≡ 0
no_zipped R [] [] none zipped = refl
no_zipped R [] (y ∷ ys) none zipped = absurd zipped
no_zipped R (x ∷ xs) ys none zipped = absurd (cc)

-- a text of parts is empty exactly where each part is
module _ {X Y : Type 0} (part : X × Y → List ℕ) (P : X → Type 0) (R : X → Y → Type 0) (one : (x : X) (y : Y) → R x y → part (x, y) ≡ [] ↔ P x) where
  pub parts_are_empty : (xs : List X) (ys : List Y) → AllZip R xs ys → flat_map part (zip xs ys) ≡ [] ↔ All P xs
  parts_are_empty [] [] zipped = ((λ _. All-nil P), (λ _. refl))
  parts_are_empty [] (y ∷ ys) zipped = absurd zipped
  parts_are_empty (x ∷ xs) [] zipped = absurd zipped
  parts_are_empty (x ∷ xs) (y ∷ ys) zipped =
      let here = one x y zipped.0 in
      let later = parts_are_empty xs ys zipped.1 in (
        (λ empty. let both = append-empty (part (x, y)) (flat_map part (zip xs ys)) empty in All-cons P x xs (here.0 both.0) (later.0 both.1)),
        (λ all. ap (λ text. text ++ flat_map part (zip xs ys)) (here.1 (All-head P x xs all)) ∙ later.1 (All-tail P x xs all)),
      )

true-is-not_false : false ≡ true → ⊥
true-is-not_false is = absurd (cc)

-- what is told of a rule, where it is asked for and has groups
told_is_empty : (named over : Bool) (groups byte : ℕ) (bytes : List ℕ) → only_if (named && over && not (groups == 0)) (byte ∷ bytes) ≡ [] ↔ ((named && over) ≡ true → groups ≡ 0)
told_is_empty false over groups byte bytes = ((λ _ is. absurd (true-is-not_false is)), (λ _. refl))
told_is_empty true false groups byte bytes = ((λ _ is. absurd (true-is-not_false is)), (λ _. refl))
told_is_empty true true zero byte bytes = ((λ _ _. refl), (λ _. refl))
told_is_empty true true (suc groups) byte bytes =
    let some : (suc groups == 0) ≡ false = grind arith in (
      (λ empty. let nothing : byte ∷ bytes ≡ [] = ap (λ test. only_if (true && true && not test) (byte ∷ bytes)) (sym some) ∙ empty in absurd (cc)),
      (λ none. let nothing : suc groups ≡ 0 = none refl in absurd (cc)),
    )

-- ---- a rule

module _ (state : State) (dep : Dep) where
  no_groups : (groups : List Group) → AreGroups (dep_listed state dep) groups → sum_by group_size groups ≡ length (dep_violations state dep)
      → length groups ≡ 0 ↔ SatisfyDep dep (tuples_of (rows_at state dep.table))
  no_groups groups are lines =
      let law = listing_is_empty_where_satisfied nat_list_eq_equiv dep.rule (rows_at state dep.table) in (
        (λ none. law.0 (empty_from_length (dep_violations state dep) (sym lines ∙ ap (sum_by group_size) (empty_from_length groups none)))),
        (λ satisfied.
            let listed : dep_listed state dep ≡ [] = ap (filter_map (listed_of state dep)) (law.1 satisfied) in
            let found = none_arranged (λ size later. later ≤ size) items_size (by_key same_shared (dep_listed state dep)) are.found (ap (by_key same_shared) listed) are.order in
            no_zipped IsGroup are.found groups found are.each),
      )

module _ (state : State) (cind : Cind) where
  no_missing : (missing : List Missing) → AreMissing (cind_listed state cind) missing → sum_by missing_size missing ≡ length (cind_orphans state cind)
      → length missing ≡ 0 ↔ SatisfyCind cind (tuples_of (rows_at state cind.left)) (tuples_of (rows_at state cind.right))
  no_missing missing are lines =
      let law = orphans_are_none_where_included bytes_eq cind.rule (rows_at state cind.left) (rows_at state cind.right) in (
        (λ none. law.0 (empty_from_length (cind_orphans state cind) (sym lines ∙ ap (sum_by missing_size) (empty_from_length missing none)))),
        (λ satisfied.
            let listed : cind_listed state cind ≡ [] = ap (filter_map (listed_orphan_of state cind)) (law.1 satisfied) in
            ap length (none_arranged (λ size later. later ≤ size) missing_size (map missing_of (by_key same_shared (cind_listed state cind))) missing (ap (λ rows. map missing_of (by_key same_shared rows)) listed) are)),
      )

-- ---- all rules

module _ (rules : Book) (counts : List ℕ) (state : State) (options : ListOptions) where
  dep_is_told : (dep : Dep) (groups : List Group) → (AreGroups (dep_listed state dep) groups) × (sum_by group_size groups ≡ length (dep_violations state dep))
      → dep_part options rules.schema counts (dep, groups) ≡ [] ↔ (is_wanted options dep.name (table_name rules.schema dep.table) ≡ true → SatisfyDep dep (tuples_of (rows_at state dep.table)))
  dep_is_told dep groups are =
      let told = told_is_empty (is_asked options.rule dep.name) (is_asked options.table (table_name rules.schema dep.table)) (length groups) 100 _ in
      let none = no_groups state dep groups are.0 are.1 in (
        (λ empty wanted. none.0 (told.0 empty wanted)),
        (λ satisfied. told.1 (λ wanted. none.1 (satisfied wanted))),
      )

  cind_is_told : (cind : Cind) (missing : List Missing) → (AreMissing (cind_listed state cind) missing) × (sum_by missing_size missing ≡ length (cind_orphans state cind))
      → cind_part options rules.schema counts (cind, missing) ≡ [] ↔ (is_wanted options cind.name (table_name rules.schema cind.left) ≡ true → SatisfyCind cind (tuples_of (rows_at state cind.left)) (tuples_of (rows_at state cind.right)))
  cind_is_told cind missing are =
      let told = told_is_empty (is_asked options.rule cind.name) (is_asked options.table (table_name rules.schema cind.left)) (length missing) 99 _ in
      let none = no_missing state cind missing are.0 are.1 in (
        (λ empty wanted. none.0 (told.0 empty wanted)),
        (λ satisfied. told.1 (λ wanted. none.1 (satisfied wanted))),
      )

  body_is_empty : (findings : Findings) → AreFindings rules state findings → HaveAllLines rules state findings → list_body rules counts options findings ≡ [] ↔ AreWantedSatisfied rules state options
  body_is_empty findings are lines =
      let deps = parts_are_empty (dep_part options rules.schema counts) _ _ dep_is_told (book_deps rules) findings.deps (both_zipped _ _ (book_deps rules) findings.deps are.deps lines.deps) in
      let cinds = parts_are_empty (cind_part options rules.schema counts) _ _ cind_is_told (book_cinds rules) findings.cinds (both_zipped _ _ (book_cinds rules) findings.cinds are.cinds lines.cinds) in
      let of_deps = flat_map (dep_part options rules.schema counts) (zip (book_deps rules) findings.deps) in
      let of_cinds = flat_map (cind_part options rules.schema counts) (zip (book_cinds rules) findings.cinds) in (
        (λ empty. let both = append-empty of_deps of_cinds empty in record { deps = deps.0 both.0; cinds = cinds.0 both.1 }),
        (λ satisfied. ap (λ text. text ++ of_cinds) (deps.1 satisfied.deps) ∙ cinds.1 satisfied.cinds),
      )

pub clean_is_empty : (text : List ℕ) → status_of text ≡ Clean ↔ text ≡ []
clean_is_empty [] = ((λ _. refl), (λ _. refl))
clean_is_empty (byte ∷ bytes) = ((λ clean. absurd (cc)), (λ empty. absurd (cc)))

-- the status of what is told
pub clean_where_satisfied : (rules : Book) (counts : List ℕ) (state : State) (options : ListOptions) (findings : Findings)
    → AreFindings rules state findings → HaveAllLines rules state findings → status_of (list_body rules counts options findings) ≡ Clean ↔ AreWantedSatisfied rules state options
clean_where_satisfied rules counts state options findings are lines =
    let clean = clean_is_empty (list_body rules counts options findings) in
    let body = body_is_empty rules counts state options findings are lines in (
      (λ is. body.0 (clean.0 is)),
      (λ satisfied. clean.1 (body.1 satisfied)),
    )
