-- Facts on the list of a state: when it is empty, and that its lines are in range of the rules.
use Rattle.std.proofs.Common.{◌≡◌, ℕ, ◌+◌, ◌<◌, ◌↔◌, List, [], ◌∷◌, map, length, drop, get_or, Option, None, Some, refl, sym, ap, subst, ◌∙◌, inl, inr, arith}
use Rattle.std.specs.List.{All, Contains, enumerate_from, flat_map, slice_get}
use Rattle.std.specs.Option.{IsSomeAnd}
use Rattle.std.proofs.lemmas.Bool.{cases_lt}
use Rattle.std.proofs.lemmas.Cmp.{nat_list_eq_equiv}
use Rattle.std.specs.Str.{bytes_eq}
use Rattle.std.proofs.lemmas.List.{drop_more, drop_all, get_or-map, length-map}
use Rattle.std.proofs.lemmas.Option.{slice_get-get_or}
use Rattle.std.proofs.lemmas.List.Elements.{All-nil, All-append, All-map, All-weaker, Contains-get_or}
use Rattle.cfd_semantics.specs.declared.violation.Violation.{Violation}
use Rattle.cfd_semantics.specs.Numbered.{numbered}
use Rattle.cfd_semantics.specs.Tuple.{tuples_of}
use Rattle.cfd_semantics.specs.Violation.{entries, violating}
use Rattle.cfd_semantics.specs.Orphan.{left_entries, right_entries, orphaned}
use Rattle.cfd_semantics.proofs.Law.{listing_is_empty_where_satisfied}
use Rattle.cfd_semantics.proofs.InclusionLaw.{orphans_are_none_where_included}
use Rattle.cfd_semantics.proofs.Members.{append-empty, map-empty}
use Rattle.cfd_semantics.proofs.Numbers.{numbered-empty, numbered-in_range}
use Rattle.rule_model.specs.declared.dep.Dep.{Dep}
use Rattle.rule_model.specs.declared.cind.Cind.{Cind}
use Rattle.rule_model.specs.Books.{Book, book_deps, book_cinds}
use Rattle.rule_model.specs.Satisfied.{SatisfyDep, SatisfyCind}
use Rattle.bench_core.specs.State.{State, rows_at}
use Rattle.violation_report.specs.declared.line.Line.{Line}
use Rattle.bench_core.specs.Answers.{cind_orphans, dep_violations, orphans_at, violations_at}
use Rattle.bench_core.proofs.Answering.{item-there}
use Rattle.violation_report.specs.Listing.{dep_line, dep_lines, dep_lines_at, cind_line, cind_lines, cind_lines_at, listing, IsSatisfied}
use Rattle.violation_report.specs.Text.{IsLineOf, HasDepRow}

-- ---- an empty list

all_from_members : {T : Type 0} (P : T → Type 0) (items : List T) → ((item : T) → Contains items item → P item) → All P items
all_from_members P items each = λ k d lt. each (get_or items k d) (Contains-get_or items k d lt)

members_from_all : {T : Type 0} (P : T → Type 0) (items : List T) → All P items → (item : T) → Contains items item → P item
members_from_all P items all item (k, lt, is) = subst P is (all k item lt)

-- the lines of rules of a kind are none exactly where each rule is satisfied
law_of_kind : {T X : Type 0} (gives : T → List X) (line : ℕ × X → Line) (P : T → Type 0) → ((item : T) → gives item ≡ [] ↔ P item) → (items : List T) → map line (numbered gives items) ≡ [] ↔ All P items
law_of_kind gives line P one items =
    let none = numbered-empty gives items in (
      (λ empty. all_from_members P items (λ item member. (one item).0 (none.0 (map-empty line (numbered gives items) empty) item member))),
      (λ all. ap (map line) (none.1 (λ item member. (one item).1 (members_from_all P items all item member)))),
    )

law_of_deps : (rules : Book) (state : State) → dep_lines rules state ≡ [] ↔ All (λ (dep : Dep). SatisfyDep dep (tuples_of (rows_at state dep.table))) (book_deps rules)
law_of_deps rules state =
    law_of_kind (dep_violations state) dep_line (λ (dep : Dep). SatisfyDep dep (tuples_of (rows_at state dep.table)))
    (λ dep. listing_is_empty_where_satisfied nat_list_eq_equiv dep.rule (rows_at state dep.table)) (book_deps rules)

law_of_cinds : (rules : Book) (state : State) → cind_lines rules state ≡ [] ↔ All (λ (cind : Cind). SatisfyCind cind (tuples_of (rows_at state cind.left)) (tuples_of (rows_at state cind.right))) (book_cinds rules)
law_of_cinds rules state =
    law_of_kind (cind_orphans state) cind_line (λ (cind : Cind). SatisfyCind cind (tuples_of (rows_at state cind.left)) (tuples_of (rows_at state cind.right)))
    (λ cind. orphans_are_none_where_included bytes_eq cind.rule (rows_at state cind.left) (rows_at state cind.right)) (book_cinds rules)

-- the list is empty exactly where all rules are satisfied
pub listing_is_empty : (rules : Book) (state : State) → listing rules state ≡ [] ↔ IsSatisfied rules state
listing_is_empty rules state =
    let deps = law_of_deps rules state in
    let cinds = law_of_cinds rules state in (
      (λ empty. let parts = append-empty (dep_lines rules state) (cind_lines rules state) empty in record { deps = deps.0 parts.0; cinds = cinds.0 parts.1 }),
      (λ satisfied. rw (deps.1 satisfied.deps, cinds.1 satisfied.cinds) refl),
    )

no_items : {X : Type 0} (xs : List X) → length xs ≡ 0 → xs ≡ []
no_items [] none = refl
no_items (x ∷ xs) none = absurd (omega (arith, none))

-- so its length is 0 exactly there
pub law_of_length : (rules : Book) (state : State) (lines : ℕ) → lines ≡ length (listing rules state) → lines ≡ 0 ↔ IsSatisfied rules state
law_of_length rules state lines long =
    let law = listing_is_empty rules state in (
      (λ none. law.0 (no_items (listing rules state) (sym long ∙ none))),
      (λ satisfied. long ∙ ap (λ (ls : List Line). length ls) (law.1 satisfied)),
    )

-- ---- numbers in range

-- what is left of a list from a place on begins with the element there
pub at_rest : {X : Type 0} (xs : List X) (i : ℕ) (y : X) (ys : List X) → drop i xs ≡ y ∷ ys → (slice_get xs i ≡ Some y) × (drop (i + 1) xs ≡ ys)
at_rest xs i y ys rest = elim (cases_lt i (length xs)) [
  | inl within ↦
      let step = drop_more xs i y within in
      let parts : (get_or xs i y ≡ y) × (drop (i + 1) xs ≡ ys) = (cc, cc) in
      (slice_get-get_or xs i y within ∙ ap (λ x. Some x) parts.0, parts.1)
  | inr past ↦ let none = drop_all i xs past in absurd (cc)
]

-- what holds of all that an item gives holds of each numbered one, for the item with its number
module _ {T X : Type 0} (gives : T → List X) (Q : T → X → Type 0) (each : (item : T) → All (Q item) (gives item)) (all : List T) where
  abbrev IsOfItem : ℕ × X → Type 0
  IsOfItem one = IsSomeAnd (slice_get all one.0) (λ item. Q item one.1)

  of_items_from : (n : ℕ) (rest : List T) → drop n all ≡ rest → All IsOfItem (flat_map (λ (item : ℕ × T). map (λ given. (item.0, given)) (gives item.1)) (enumerate_from n rest))
  of_items_from n [] is = All-nil IsOfItem
  of_items_from n (item ∷ rest) is =
      let parts = at_rest all n item rest is in
      All-append IsOfItem (map (λ given. (n, given)) (gives item)) (flat_map (λ (item : ℕ × T). map (λ given. (item.0, given)) (gives item.1)) (enumerate_from (n + 1) rest))
      (All-map IsOfItem (λ given. (n, given)) (gives item) (All-weaker (Q item) (λ given. IsOfItem (n, given)) (λ given holds. rw parts.0 holds) (gives item) (each item)))
      (of_items_from (n + 1) rest parts.1)

  of_items : All IsOfItem (numbered gives all)
  of_items = of_items_from 0 all refl

dep_line-in_range : (rules : Book) (one : ℕ × (ℕ × Violation)) → HasDepRow rules one.0 one.1.0 → IsLineOf rules (dep_line one)
dep_line-in_range rules (dep, (k, found)) has = partner_cases found.partner
  where
    partner_cases : (partner : Option ℕ) → IsLineOf rules (dep_line (dep, (k, record { row = found.row; partner = partner })))
    partner_cases None = has
    partner_cases (Some partner) = has

-- each line of the list names a rule of its kind, and a tableau row of it
pub listing_in_range : (rules : Book) (state : State) → All (IsLineOf rules) (listing rules state)
listing_in_range rules state =
    All-append (IsLineOf rules) (dep_lines rules state) (cind_lines rules state)
    (All-map (IsLineOf rules) dep_line (numbered (dep_violations state) (book_deps rules))
    (All-weaker (λ (one : ℕ × (ℕ × Violation)). HasDepRow rules one.0 one.1.0) (λ one. IsLineOf rules (dep_line one)) (dep_line-in_range rules) (numbered (dep_violations state) (book_deps rules))
    (of_items (dep_violations state) (λ (dep : Dep) (one : ℕ × Violation). one.0 < length dep.rule.rows)
    (λ dep. numbered-in_range (λ t. violating bytes_eq t (entries dep.rule (rows_at state dep.table))) dep.rule.rows) (book_deps rules))))
    (All-map (IsLineOf rules) cind_line (numbered (cind_orphans state) (book_cinds rules))
    (of_items (cind_orphans state) (λ (cind : Cind) (one : ℕ × ℕ). one.0 < length cind.rule.rows)
    (λ cind. numbered-in_range (λ t. orphaned bytes_eq t (left_entries cind.rule (rows_at state cind.left)) (right_entries cind.rule (rows_at state cind.right))) cind.rule.rows) (book_cinds rules)))

-- what holds of all mapped items holds of each
pub mapped-at : {X Y : Type 0} (P : Y → Type 0) (f : X → Y) (xs : List X) → All P (map f xs) → (i : ℕ) (d : X) → i < length xs → P (f (get_or xs i d))
mapped-at P f xs all i d within = subst P (get_or-map f xs i d (f d) within) (all i (f d) (rw (length-map xs f) within))

-- so do the lines of one rule
module _ (rules : Book) (state : State) (n : ℕ) where
  pub dep_lines-in_range : n < length (book_deps rules) → All (IsLineOf rules) (dep_lines_at n (violations_at rules state n))
  dep_lines-in_range within =
      let (dep, at) = item-there (book_deps rules) n within in
      let has : (one : ℕ × Violation) → one.0 < length dep.rule.rows → IsLineOf rules (dep_line (n, one)) = λ one few. dep_line-in_range rules (n, one) (rw at few) in
      let all = numbered-in_range (λ t. violating bytes_eq t (entries dep.rule (rows_at state dep.table))) dep.rule.rows in
      rw at (All-map (IsLineOf rules) (λ one. dep_line (n, one)) (dep_violations state dep) (All-weaker (λ (one : ℕ × Violation). one.0 < length dep.rule.rows) (λ one. IsLineOf rules (dep_line (n, one))) has (dep_violations state dep) all))

  pub cind_lines-in_range : n < length (book_cinds rules) → All (IsLineOf rules) (cind_lines_at n (orphans_at rules state n))
  cind_lines-in_range within =
      let (cind, at) = item-there (book_cinds rules) n within in
      let has : (one : ℕ × ℕ) → one.0 < length cind.rule.rows → IsLineOf rules (cind_line (n, one)) = λ one few. rw at few in
      let all = numbered-in_range (λ t. orphaned bytes_eq t (left_entries cind.rule (rows_at state cind.left)) (right_entries cind.rule (rows_at state cind.right))) cind.rule.rows in
      rw at (All-map (IsLineOf rules) (λ one. cind_line (n, one)) (cind_orphans state cind) (All-weaker (λ (one : ℕ × ℕ). one.0 < length cind.rule.rows) (λ one. IsLineOf rules (cind_line (n, one))) has (cind_orphans state cind) all))
