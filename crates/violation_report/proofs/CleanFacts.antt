-- The list of a rule is empty exactly where none of its groups or keys is dirty.
use Rattle.std.proofs.Common.{◌≡◌, ℕ, ◌+◌, ◌<◌, ◌↔◌, Bool, true, false, cond, ◌||◌, List, [], ◌∷◌, map, filter, length, Some, None, refl, sym, ap, subst, ◌∙◌, arith}
use Rattle.std.specs.Prelude.{Contains, slice_get}
use Rattle.std.specs.List.{list_any}
use Rattle.std.specs.Option.{option_map, option_map_or}
use Rattle.std.specs.Set.{distinct_count, unique_keys, is_member}
use Rattle.std.specs.Str.{bytes_eq}
use Rattle.std.proofs.lemmas.Option.{slice_get-get_or, get_or_from_slice_get}
use Rattle.cfd_semantics.specs.declared.dependency.TableauRow.{TableauRow}
use Rattle.cfd_semantics.specs.declared.dependency.Dependency.{Dependency}
use Rattle.cfd_semantics.specs.declared.inclusion.InclusionRow.{InclusionRow}
use Rattle.cfd_semantics.specs.declared.inclusion.Inclusion.{Inclusion}
use Rattle.cfd_semantics.specs.declared.violation.Violation.{Violation}
use Rattle.cfd_semantics.specs.Numbered.{numbered}
use Rattle.cfd_semantics.specs.Tuple.{same_values}
use Rattle.cfd_semantics.specs.Violation.{Entry, entries, is_single, is_pair, least, partners, violation_of, violating, violations}
use Rattle.cfd_semantics.specs.Orphan.{SideEntry, left_entries, right_entries, is_orphan, orphaned, orphans}
use Rattle.cfd_semantics.proofs.InclusionLaw.{found_by_any, any_from_found}
use Rattle.cfd_semantics.proofs.Members.{map-empty, nothing_from_empty, empty_from_nothing, none_pass_from_empty, empty_from_none_pass, append-empty}
use Rattle.cfd_semantics.proofs.Numbers.{numbered-empty}
use Rattle.rule_model.specs.declared.dep.Dep.{Dep}
use Rattle.rule_model.specs.declared.cind.Cind.{Cind}
use Rattle.rule_model.specs.Books.{Book, book_deps, book_cinds}
use Rattle.bench_core.specs.Answers.{cind_orphans, dep_violations}
use Rattle.bench_core.specs.DirtyCounts.{cind_dirty, dep_dirty, dirty_groups, dirty_keys, lacks_answer, violates}
use Rattle.bench_core.specs.State.{State, rows_at}
use Rattle.bench_core.proofs.Answering.{item-there}
use Rattle.violation_report.specs.Listing.{dep_line, dep_lines, cind_line, cind_lines, listing, IsSatisfied}
use Rattle.violation_report.specs.RuleNumbers.{IsRuleOf, number_at, rule_at, rule_count}
use Rattle.violation_report.specs.declared.line.Line.{Line}
use Rattle.violation_report.specs.declared.rules.Rule.{Rule}
use Rattle.violation_report.specs.declared.rules.Rule.TheVariants.{Dep as DepNumber, Cind as CindNumber}
use Rattle.violation_report.proofs.Lists.{listing_is_empty}
use Rattle.violation_report.proofs.RuleLoops.{at-cind, at-dep}

clash : (b : Bool) → b ≡ true → b ≡ false → ⊥
clash b one other = cc

-- a list without any two different members is empty where there is none
nothing_counted : {K : Type 0} (eq : K → K → Bool) (xs : List K) → distinct_count eq xs ≡ 0 → xs ≡ []
nothing_counted eq [] none = refl
nothing_counted {K} eq (x ∷ xs) none = by (is_member eq xs x) refl (nothing_counted eq xs) none
  where
    by : (b : Bool) → is_member eq xs x ≡ b → (distinct_count eq xs ≡ 0 → xs ≡ []) → length (cond b (unique_keys eq xs) (x ∷ unique_keys eq xs)) ≡ 0 → x ∷ xs ≡ []
    by true inside empty few = let gone : is_member eq [] x ≡ true = subst (λ (ks : List K). is_member eq ks x ≡ true) (empty few) inside in absurd (cc)
    by false fresh empty few = absurd (omega (arith, few))

none_from_any : {X : Type 0} (test : X → Bool) (xs : List X) → list_any test xs ≡ false → (x : X) → Contains xs x → test x ≡ false
none_from_any test xs none x inside = by (test x) refl
  where
    by : (b : Bool) → test x ≡ b → b ≡ false
    by true is = absurd (clash (list_any test xs) (any_from_found test xs x inside is) none)
    by false is = refl

any_from_none : {X : Type 0} (test : X → Bool) (xs : List X) → ((x : X) → Contains xs x → test x ≡ false) → list_any test xs ≡ false
any_from_none test xs none = by (list_any test xs) refl
  where
    by : (b : Bool) → list_any test xs ≡ b → b ≡ false
    by true is = let found = found_by_any test xs is in absurd (clash (test found.0) found.2 (none found.0 found.1))
    by false is = refl

neither : (a b : Bool) → (a || b) ≡ false → (a ≡ false) × (b ≡ false)
neither true b is = absurd (cc)
neither false b is = (refl, is)

-- ---- dependencies

-- what is listed of a row, alone and with a partner
abbrev alone : ℕ → Violation
alone row = record { row = row; partner = None }

abbrev paired : ℕ → ℕ → Violation
paired row partner = record { row = row; partner = Some partner }

module _ {V : Type 0} (eq : V → V → Bool) (d : Dependency V) (all : List (Entry V)) where
  abbrev x_of : Entry V → List V
  x_of e = e.x

  -- an entry is listed exactly where it violates the tableau row alone or with another
  listed_none : (t : TableauRow V) (e : Entry V) → (is_single eq t e || list_any (is_pair eq t e) all) ≡ false → violation_of eq t all e ≡ None
  listed_none t e neither_is =
      let both = neither (is_single eq t e) (list_any (is_pair eq t e) all) neither_is in
      let alone : filter (is_pair eq t e) all ≡ [] = empty_from_none_pass (is_pair eq t e) all (none_from_any (is_pair eq t e) all both.1) in
      rw (both.0, alone) refl

  violates_none : (t : TableauRow V) (e : Entry V) → violation_of eq t all e ≡ None → (is_single eq t e || list_any (is_pair eq t e) all) ≡ false
  violates_none t e none = by (is_single eq t e) refl none
    where
      unpaired : (found : List (Entry V)) → filter (is_pair eq t e) all ≡ found → option_map (paired e.row) (least (map (λ (other : Entry V). other.row) found)) ≡ None → list_any (is_pair eq t e) all ≡ false
      unpaired [] is nothing = any_from_none (is_pair eq t e) all (none_pass_from_empty (is_pair eq t e) all is)
      unpaired (f ∷ fs) is nothing = absurd (cc)

      by : (b : Bool) → is_single eq t e ≡ b → cond b (Some (alone e.row)) (option_map (paired e.row) (least (partners eq t all e))) ≡ None → (b || list_any (is_pair eq t e) all) ≡ false
      by true single nothing = absurd (cc)
      by false other nothing = unpaired (filter (is_pair eq t e) all) refl nothing

  pub groups_clean : (dirty_groups eq d all ≡ 0) ↔ (violations eq d all ≡ [])
  groups_clean = (
    (λ none.
        let passing : filter (violates eq d all) all ≡ [] = map-empty x_of (filter (violates eq d all) all) (nothing_counted (same_values eq) (map x_of (filter (violates eq d all) all)) none) in
        (numbered-empty (λ t. violating eq t all) d.rows).1 (λ t inside. empty_from_nothing (violation_of eq t all) all (λ e member.
        listed_none t e (none_from_any (λ (t : TableauRow V). is_single eq t e || list_any (is_pair eq t e) all) d.rows (none_pass_from_empty (violates eq d all) all passing e member) t inside)))),
    (λ empty.
        let each = (numbered-empty (λ t. violating eq t all) d.rows).0 empty in
        let passing : filter (violates eq d all) all ≡ [] = empty_from_none_pass (violates eq d all) all (λ e member.
        any_from_none (λ (t : TableauRow V). is_single eq t e || list_any (is_pair eq t e) all) d.rows (λ t inside. violates_none t e (nothing_from_empty (violation_of eq t all) all (each t inside) e member))) in
        ap (λ (es : List (Entry V)). distinct_count (same_values eq) (map x_of es)) passing),
  )

-- ---- inclusions

module _ {V : Type 0} (eq : V → V → Bool) (i : Inclusion V) (lefts rights : List (SideEntry V)) where
  abbrev key_of : SideEntry V → List V
  key_of e = e.key

  abbrev row_of : SideEntry V → ℕ
  row_of e = e.row

  pub keys_clean : (dirty_keys eq i lefts rights ≡ 0) ↔ (orphans eq i lefts rights ≡ [])
  keys_clean = (
    (λ none.
        let passing : filter (lacks_answer eq i rights) lefts ≡ [] = map-empty key_of (filter (lacks_answer eq i rights) lefts) (nothing_counted (same_values eq) (map key_of (filter (lacks_answer eq i rights) lefts)) none) in
        (numbered-empty (λ t. orphaned eq t lefts rights) i.rows).1 (λ t inside. ap (map row_of) (empty_from_none_pass (is_orphan eq t rights) lefts (λ left member.
        none_from_any (λ (t : InclusionRow V). is_orphan eq t rights left) i.rows (none_pass_from_empty (lacks_answer eq i rights) lefts passing left member) t inside)))),
    (λ empty.
        let each = (numbered-empty (λ t. orphaned eq t lefts rights) i.rows).0 empty in
        let passing : filter (lacks_answer eq i rights) lefts ≡ [] = empty_from_none_pass (lacks_answer eq i rights) lefts (λ left member.
        any_from_none (λ (t : InclusionRow V). is_orphan eq t rights left) i.rows (λ t inside. none_pass_from_empty (is_orphan eq t rights) lefts (map-empty row_of (filter (is_orphan eq t rights) lefts) (each t inside)) left member)) in
        ap (λ (es : List (SideEntry V)). distinct_count (same_values eq) (map key_of es)) passing),
  )

-- ---- rules of a kind, by their numbers

module _ {T X : Type 0} (gives : T → List X) (dirty : T → ℕ) (one : (item : T) → dirty item ≡ 0 ↔ gives item ≡ []) (items : List T) where
  abbrev dirty_at : ℕ → ℕ
  dirty_at number = option_map_or dirty (slice_get items number) 0

  all_clean : (line : ℕ × X → Line) → ((number : ℕ) → number < length items → dirty_at number ≡ 0) → map line (numbered gives items) ≡ []
  all_clean line each = ap (map line) ((numbered-empty gives items).1 (λ item (k, within, is).
      let at : slice_get items k ≡ Some item = slice_get-get_or items k item within ∙ ap (λ (t : T). Some t) is in
      (one item).0 (sym (ap (λ o. option_map_or dirty o 0) at) ∙ each k within)))

  some_dirty : (line : ℕ × X → Line) (number : ℕ) → number < length items → (dirty_at number ≡ 0 → ⊥) → map line (numbered gives items) ≡ [] → ⊥
  some_dirty line number within dirty_is empty =
      let (item, at) = item-there items number within in
      dirty_is (ap (λ o. option_map_or dirty o 0) at ∙ (one item).1 ((numbered-empty gives items).0 (map-empty line (numbered gives items) empty) item (number, within, get_or_from_slice_get items number item item at)))

module _ (rules : Book) (state : State) where
  deps_as : (dep : Dep) → dep_dirty state dep ≡ 0 ↔ dep_violations state dep ≡ []
  deps_as dep = groups_clean bytes_eq dep.rule (entries dep.rule (rows_at state dep.table))

  cinds_as : (cind : Cind) → cind_dirty state cind ≡ 0 ↔ cind_orphans state cind ≡ []
  cinds_as cind = keys_clean bytes_eq cind.rule (left_entries cind.rule (rows_at state cind.left)) (right_entries cind.rule (rows_at state cind.right))

  abbrev dirty : Rule → ℕ
  dirty = number_at (dep_dirty state) (cind_dirty state) rules

  -- the list is empty where no rule has anything dirty, and nowhere else
  pub rules_clean : ((place : ℕ) → place < rule_count rules → number_at (dep_dirty state) (cind_dirty state) rules (rule_at rules place) ≡ 0) → listing rules state ≡ []
  rules_clean each =
      let deps = all_clean (dep_violations state) (dep_dirty state) deps_as (book_deps rules) dep_line (λ n within. sym (ap dirty (at-dep rules n within)) ∙ each n (omega arith)) in
      let cinds = all_clean (cind_orphans state) (cind_dirty state) cinds_as (book_cinds rules) cind_line (λ n within. sym (ap dirty (at-cind rules n)) ∙ each (length (book_deps rules) + n) (omega arith)) in
      rw (deps, cinds) refl

  pub rule_dirty : (rule : Rule) → IsRuleOf rules rule → (number_at (dep_dirty state) (cind_dirty state) rules rule ≡ 0 → ⊥) → listing rules state ≡ [] → ⊥
  rule_dirty (DepNumber n) within some empty = some_dirty (dep_violations state) (dep_dirty state) deps_as (book_deps rules) dep_line n within some (append-empty (dep_lines rules state) (cind_lines rules state) empty).0
  rule_dirty (CindNumber n) within some empty = some_dirty (cind_orphans state) (cind_dirty state) cinds_as (book_cinds rules) cind_line n within some (append-empty (dep_lines rules state) (cind_lines rules state) empty).1

  pub clean_satisfied : (clean : Bool) → (clean ≡ true ↔ listing rules state ≡ []) → clean ≡ true ↔ IsSatisfied rules state
  clean_satisfied clean one =
      let law = listing_is_empty rules state in
      ((λ yes. law.0 (one.0 yes)), (λ satisfied. one.1 (law.1 satisfied)))
