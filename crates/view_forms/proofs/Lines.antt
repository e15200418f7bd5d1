-- The list has no line of a row exactly where no rule finds it.
use Rattle.std.proofs.Common.{◌≡◌, ◌↔◌, ℕ, ◌+◌, ◌==◌, ◌&&◌, Bool, true, false, List, [], ◌∷◌, map, drop, get_or, Some, refl, ap, sym, ◌∙◌, true≢false}
use Rattle.std.specs.List.{All, enumerate_from, flat_map, slice_get}
use Rattle.std.specs.Option.{option_map_or}
use Rattle.std.proofs.lemmas.List.Elements.{All-cons, All-head, All-nil, All-tail}
use Rattle.cfd_semantics.specs.Numbered.{numbered}
use Rattle.cfd_semantics.specs.declared.violation.Violation.{Violation}
use Rattle.rule_model.specs.Books.{Book, book_cinds, book_deps}
use Rattle.rule_model.specs.declared.cind.Cind.{Cind}
use Rattle.rule_model.specs.declared.dep.Dep.{Dep}
use Rattle.bench_core.specs.Answers.{cind_orphans, dep_violations}
use Rattle.bench_core.specs.State.{State}
use Rattle.violation_report.specs.Explained.{cind_is_of, dep_is_of, explained, is_about}
use Rattle.violation_report.specs.Listing.{cind_line, cind_lines, dep_line, dep_lines, listing}
use Rattle.violation_report.specs.declared.line.Line.{Line}
use Rattle.violation_report.proofs.Lists.{at_rest}
use Rattle.violation_report.proofs.RowLines.{and_false, and_true, dep-about}
use Rattle.view_forms.proofs.Everywhere.{all_appended, all_mapped, all_same, next, none_is_left}

-- The row breaks no rule: no violation of a dependency of its table is of it, and no orphan of an inclusion with the table on
-- the left is it.
pub record BreaksNone (rules : Book) (state : State) (table row : ℕ) : Type 0 where
  pub deps : All (λ (dep : Dep). (dep.table == table) ≡ true → All (λ (found : ℕ × Violation). (found.1.row == row) ≡ false) (dep_violations state dep)) (book_deps rules)
  pub cinds : All (λ (cind : Cind). (cind.left == table) ≡ true → All (λ (found : ℕ × ℕ). (found.1 == row) ≡ false) (cind_orphans state cind)) (book_cinds rules)

-- ---- what is given with numbers

module _ {T X : Type 0} (gives : T → List X) (Q : ℕ × X → Type 0) (R : T → Type 0) (all : List T)
    (each : (n : ℕ) (item : T) → slice_get all n ≡ Some item → All (λ given. Q (n, given)) (gives item) ↔ R item) where
  abbrev given_from : ℕ → List T → List (ℕ × X)
  given_from n rest = flat_map (λ (item : ℕ × T). map (λ given. (item.0, given)) (gives item.1)) (enumerate_from n rest)

  all_from : (n : ℕ) (rest : List T) → drop n all ≡ rest → All Q (given_from n rest) ↔ All R rest
  all_from n [] is = ((λ _. All-nil R), (λ _. All-nil Q))
  all_from n (item ∷ rest) is =
      let parts = at_rest all n item rest is in
      let here = next (all_mapped Q (λ given. (n, given)) (gives item)) (each n item parts.0) in
      let later = all_from (n + 1) rest parts.1 in
      let both = all_appended Q (map (λ given. (n, given)) (gives item)) (given_from (n + 1) rest) in (
        (λ every. All-cons R item rest (here.0 (both.0 every).0) (later.0 (both.0 every).1)),
        (λ every. both.1 (here.1 (All-head R item rest every), later.1 (All-tail R item rest every))),
      )

  all_numbered : All Q (numbered gives all) ↔ All R all
  all_numbered = all_from 0 all refl

-- ---- of a rule

same_test : (a b : Bool) → a ≡ b → a ≡ false ↔ b ≡ false
same_test a b is = ((λ fails. sym is ∙ fails), (λ fails. is ∙ fails))

module _ {X : Type 0} (hit : X → Bool) where
  where_own : (own : Bool) (xs : List X) → All (λ x. (hit x && own) ≡ false) xs ↔ (own ≡ true → All (λ x. hit x ≡ false) xs)
  where_own true xs =
      let same = all_same (λ x. (hit x && true) ≡ false) (λ x. hit x ≡ false) (λ x. same_test (hit x && true) (hit x) (and_true (hit x))) xs in
      ((λ all _. same.0 all), (λ so. same.1 (so refl)))
  where_own false xs = ((λ _ is. absurd (true≢false (sym is))), (λ _ k d within. and_false (hit (get_or xs k d))))

module _ (rules : Book) (state : State) (table row : ℕ) where
  abbrev IsNotAbout : Line → Type 0
  IsNotAbout line = is_about rules table row line ≡ false

  abbrev DepMisses : Dep → Type 0
  DepMisses dep = (dep.table == table) ≡ true → All (λ (found : ℕ × Violation). (found.1.row == row) ≡ false) (dep_violations state dep)

  abbrev CindMisses : Cind → Type 0
  CindMisses cind = (cind.left == table) ≡ true → All (λ (found : ℕ × ℕ). (found.1 == row) ≡ false) (cind_orphans state cind)

  dep_misses : (n : ℕ) (dep : Dep) → slice_get (book_deps rules) n ≡ Some dep → All (λ found. IsNotAbout (dep_line (n, found))) (dep_violations state dep) ↔ DepMisses dep
  dep_misses n dep at =
      let own : dep_is_of rules table n ≡ (dep.table == table) = ap (λ found. option_map_or (λ (d : Dep). d.table == table) found false) at in
      let about = λ (found : ℕ × Violation). dep-about rules table row n found ∙ ap (λ b. found.1.row == row && b) own in
      next (all_same (λ found. IsNotAbout (dep_line (n, found))) (λ found. (found.1.row == row && (dep.table == table)) ≡ false)
      (λ found. same_test (is_about rules table row (dep_line (n, found))) (found.1.row == row && (dep.table == table)) (about found)) (dep_violations state dep))
      (where_own (λ found. found.1.row == row) (dep.table == table) (dep_violations state dep))

  cind_misses : (n : ℕ) (cind : Cind) → slice_get (book_cinds rules) n ≡ Some cind → All (λ found. IsNotAbout (cind_line (n, found))) (cind_orphans state cind) ↔ CindMisses cind
  cind_misses n cind at =
      let own : cind_is_of rules table n ≡ (cind.left == table) = ap (λ found. option_map_or (λ (c : Cind). c.left == table) found false) at in
      next (all_same (λ found. IsNotAbout (cind_line (n, found))) (λ found. (found.1 == row && (cind.left == table)) ≡ false)
      (λ found. same_test (is_about rules table row (cind_line (n, found))) (found.1 == row && (cind.left == table)) (ap (λ b. found.1 == row && b) own)) (cind_orphans state cind))
      (where_own (λ found. found.1 == row) (cind.left == table) (cind_orphans state cind))

  no_dep_lines : All IsNotAbout (dep_lines rules state) ↔ All DepMisses (book_deps rules)
  no_dep_lines =
      next (all_mapped IsNotAbout dep_line (numbered (dep_violations state) (book_deps rules)))
      (all_numbered (dep_violations state) (λ one. IsNotAbout (dep_line one)) DepMisses (book_deps rules) dep_misses)

  no_cind_lines : All IsNotAbout (cind_lines rules state) ↔ All CindMisses (book_cinds rules)
  no_cind_lines =
      next (all_mapped IsNotAbout cind_line (numbered (cind_orphans state) (book_cinds rules)))
      (all_numbered (cind_orphans state) (λ one. IsNotAbout (cind_line one)) CindMisses (book_cinds rules) cind_misses)

-- ---- the list

pub none_explained : (rules : Book) (state : State) (table row : ℕ) → BreaksNone rules state table row ↔ explained rules state table row ≡ []
none_explained rules state table row =
    let none = none_is_left (is_about rules table row) (listing rules state) in
    let both = all_appended (IsNotAbout rules state table row) (dep_lines rules state) (cind_lines rules state) in
    let deps = no_dep_lines rules state table row in
    let cinds = no_cind_lines rules state table row in (
      (λ breaks. none.1 (both.1 (deps.1 breaks.deps, cinds.1 breaks.cinds))),
      (λ empty. let parts = both.0 (none.0 empty) in record { deps = deps.0 parts.0; cinds = cinds.0 parts.1 }),
    )
