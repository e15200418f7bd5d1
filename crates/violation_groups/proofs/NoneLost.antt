-- Each line of the list is about a row that is there with all its values, so none is lost where they are looked up.
use Rattle.std.proofs.Common.{◌≡◌, ℕ, zero, suc, ◌+◌, ◌<◌, Bool, true, false, cond, List, [], ◌∷◌, length, map, filter, get_or, Option, Some, None, refl, sym, ap, subst, ◌∙◌, arith, true≢false, slice_get}
use Rattle.std.specs.Prelude.{◌==◌, All, is_some, option_map, option_and_then}
use Rattle.std.specs.List.{AllZip, cons_option, enumerate_from, filter_map, find, flat_map}
use Rattle.std.specs.Option.{option_map_or}
use Rattle.std.specs.Str.{bytes_eq}
use Rattle.std.proofs.lemmas.Bool.Decides.{nat_tests}
use Rattle.std.proofs.lemmas.List.Elements.{All-append, All-filter, All-head, All-map, All-nil, All-tail}
use Rattle.std.proofs.lemmas.Option.{none-some, same_Some}
use Rattle.cfd_semantics.specs.declared.dependency.Dependency.{Dependency}
use Rattle.cfd_semantics.specs.declared.inclusion.Inclusion.{Inclusion}
use Rattle.cfd_semantics.specs.declared.violation.Violation.{Violation}
use Rattle.cfd_semantics.specs.Numbered.{numbered}
use Rattle.cfd_semantics.specs.Orphan.{SideEntry, is_orphan, left_entries, left_entry_of, orphaned, orphans, right_entries}
use Rattle.cfd_semantics.specs.Tuple.{values_at, with_both}
use Rattle.cfd_semantics.specs.Violation.{Entry, Sides, entries, entry_of, is_single, least_partner, sides_of, violating, violation_of, violations}
use Rattle.cfd_semantics.proofs.EntryFacts.{entry_parts}
use Rattle.cfd_semantics.proofs.Renamed.{All-given}
use Rattle.cfd_semantics.proofs.SideLists.{row_of_left_entry}
use Rattle.schema_core.specs.Lookups.{attrs_at}
use Rattle.schema_core.specs.declared.schema.Table.{Table}
use Rattle.rule_model.specs.Books.{Book}
use Rattle.rule_model.specs.Rules.{IsValidCind, IsValidDep}
use Rattle.rule_model.specs.declared.cind.Cind.{Cind}
use Rattle.rule_model.specs.declared.dep.Dep.{Dep}
use Rattle.text_lists.specs.declared.limits.Limits.{Limits}
use Rattle.bench_core.specs.Answers.{cind_orphans, dep_violations, row_texts}
use Rattle.bench_core.specs.Bench.{IsBench}
use Rattle.bench_core.specs.State.{IsTableState, Row, State, TableState, has_id, rows_at, texts_of}
use Rattle.bench_core.proofs.RowsById.{length-texts_of}
use Rattle.violation_groups.specs.Listed.{Shared, Valued, cind_listed, dep_listed, listed_of, listed_orphan_of}

-- ---- lists

module _ {X Y : Type 0} (h : X → Option Y) where
  given-one : (o : Option Y) (rest : List Y) → is_some o ≡ true → length (cons_option o rest) ≡ suc (length rest)
  given-one None rest some = absurd (true≢false (sym some))
  given-one (Some y) rest some = refl

  all-given : (xs : List X) → All (λ x. is_some (h x) ≡ true) xs → length (filter_map h xs) ≡ length xs
  all-given [] some = refl
  all-given (x ∷ xs) some =
      given-one (h x) (filter_map h xs) (All-head (λ x. is_some (h x) ≡ true) x xs some) ∙ ap suc (all-given xs (All-tail (λ x. is_some (h x) ≡ true) x xs some))

all-weaker : {X : Type 0} (P Q : X → Type 0) → ((x : X) → P x → Q x) → (xs : List X) → All P xs → All Q xs
all-weaker P Q so xs all i d within = so _ (all i d within)

module _ {T X : Type 0} (Q : X → Type 0) (gives : T → List X) (each : (t : T) → All Q (gives t)) where
  numbered-from : (n : ℕ) (items : List T) → All (λ (given : ℕ × X). Q given.1) (flat_map (λ item. map (λ given. (item.0, given)) (gives item.1)) (enumerate_from n items))
  numbered-from n [] = All-nil (λ (given : ℕ × X). Q given.1)
  numbered-from n (t ∷ items) =
      All-append (λ (given : ℕ × X). Q given.1) (map (λ given. (n, given)) (gives t)) _
      (All-map (λ (given : ℕ × X). Q given.1) (λ given. (n, given)) (gives t) (each t))
      (numbered-from (n + 1) items)

  all-numbered : (items : List T) → All (λ (given : ℕ × X). Q given.1) (numbered gives items)
  all-numbered items = numbered-from 0 items

-- ---- what is listed is about rows of the table

module _ (Q : ℕ → Type 0) where
  listed-row : (single : Bool) (partner : Option ℕ) (row : ℕ) (found : Violation) → cond single (Some (record { row = row; partner = None })) (option_map (λ other. record { row = row; partner = Some other }) partner) ≡ Some found
      → Q row → Q found.row
  listed-row true partner row found is own = subst (λ (v : Violation). Q v.row) (same_Some _ _ is) own
  listed-row false None row found is own = absurd (none-some _ is)
  listed-row false (Some other) row found is own = subst (λ (v : Violation). Q v.row) (same_Some _ _ is) own

  entry-rows : (rule : Dependency (List ℕ)) (rows : List Row) → All (λ (row : Row). Q row.0) rows → All (λ (entry : Entry (List ℕ)). Q entry.row) (entries rule rows)
  entry-rows rule rows own = All-given (λ (row : Row). Q row.0) (λ (entry : Entry (List ℕ)). Q entry.row) (entry_of rule) (λ row entry here is. subst Q (sym (entry_parts rule row entry is).is_row) here) rows own

  violation-rows : (rule : Dependency (List ℕ)) (rows : List Row) → All (λ (row : Row). Q row.0) rows → All (λ (found : ℕ × Violation). Q found.1.row) (violations bytes_eq rule (entries rule rows))
  violation-rows rule rows own =
      let all = entries rule rows in
      all-numbered (λ (found : Violation). Q found.row) (λ t. violating bytes_eq t all)
      (λ t. All-given (λ (entry : Entry (List ℕ)). Q entry.row) (λ (found : Violation). Q found.row) (violation_of bytes_eq t all)
      (λ entry found here is. listed-row (is_single bytes_eq t entry) (least_partner bytes_eq t all entry) entry.row found is here) all (entry-rows rule rows own)) rule.rows

  orphan-rows : (rule : Inclusion (List ℕ)) (rows : List Row) (rights : List (SideEntry (List ℕ))) → All (λ (row : Row). Q row.0) rows → All (λ (found : ℕ × ℕ). Q found.1) (orphans bytes_eq rule (left_entries rule rows) rights)
  orphan-rows rule rows rights own =
      let lefts = left_entries rule rows in
      let sides = All-given (λ (row : Row). Q row.0) (λ (entry : SideEntry (List ℕ)). Q entry.row) (left_entry_of rule) (λ row entry here is. subst Q (sym (row_of_left_entry rule row entry is)) here) rows own in
      all-numbered Q (λ t. orphaned bytes_eq t lefts rights)
      (λ t. All-map Q (λ (left : SideEntry (List ℕ)). left.row) (filter (is_orphan bytes_eq t rights) lefts) (All-filter (is_orphan bytes_eq t rights) (λ (left : SideEntry (List ℕ)). Q left.row) lefts sides)) rule.rows

-- ---- rows of the table are there

some-found : {X : Type 0} (p : X → Bool) (xs : List X) (i : ℕ) (d : X) → i < length xs → p (get_or xs i d) ≡ true → is_some (find p xs) ≡ true
some-found p [] i d within passes = absurd (omega arith)
some-found p (x ∷ xs) zero d within passes = ap (λ b. is_some (cond b (Some x) (find p xs))) passes
some-found p (x ∷ xs) (suc i) d within passes =
    let rest = some-found p xs i d (omega arith) passes in
    elim (p x) as (λ b. is_some (cond b (Some x) (find p xs)) ≡ true) [ true ↦ refl | false ↦ rest ]

own-id : (n : ℕ) → (n == n) ≡ true
own-id n = grind (arith, nat_tests)

some-mapped : {X Y : Type 0} (f : X → Y) (o : Option X) → is_some o ≡ true → is_some (option_map f o) ≡ true
some-mapped f None some = some
some-mapped f (Some x) some = refl

rows-there : (state : State) (table : ℕ) (t : TableState) → slice_get state table ≡ Some t → All (λ (row : Row). is_some (row_texts state table row.0) ≡ true) (rows_at state table)
rows-there state table t at =
    subst (λ o. All (λ (row : Row). is_some (option_and_then (λ (t : TableState). texts_of t row.0) o) ≡ true) (option_map_or (λ (t : TableState). t.rows) o [])) (sym at)
    (λ i d within. some-mapped (λ (row : Row). row.1) (find (has_id (get_or t.rows i d).0) t.rows) (some-found (has_id (get_or t.rows i d).0) t.rows i d within (own-id (get_or t.rows i d).0)))

-- ---- with all their values

some-at : {V : Type 0} (tuple : List V) (a : ℕ) → a < length tuple → is_some (slice_get tuple a) ≡ true
some-at [] a within = absurd (omega arith)
some-at (v ∷ tuple) zero within = refl
some-at (v ∷ tuple) (suc a) within = some-at tuple a (omega arith)

some-both : {A B C : Type 0} (f : A → B → C) (one : Option A) (other : Option B) → is_some one ≡ true → is_some other ≡ true → is_some (with_both f one other) ≡ true
some-both f None other some more = some
some-both f (Some a) None some more = more
some-both f (Some a) (Some b) some more = refl

values-there : {V : Type 0} (tuple : List V) (x : List ℕ) → All (λ a. a < length tuple) x → is_some (values_at tuple x) ≡ true
values-there tuple [] wide = refl
values-there tuple (a ∷ x) wide =
    some-both (λ value values. value ∷ values) (slice_get tuple a) (values_at tuple x) (some-at tuple a (All-head (λ a. a < length tuple) a x wide)) (values-there tuple x (All-tail (λ a. a < length tuple) a x wide))

zipped-at : {A B : Type 0} (R : A → B → Type 0) (xs : List A) (ys : List B) (i : ℕ) (y : B) → AllZip R xs ys → slice_get ys i ≡ Some y → (x : A) × (slice_get xs i ≡ Some x) × R x y
zipped-at R [] [] i y all at = absurd (none-some y at)
zipped-at R [] (b ∷ ys) i y all at = absurd all
zipped-at R (a ∷ xs) [] i y all at = absurd all
zipped-at R (a ∷ xs) (b ∷ ys) zero y all at = (a, refl, subst (R a) (same_Some _ _ at) all.0)
zipped-at R (a ∷ xs) (b ∷ ys) (suc i) y all at = zipped-at R xs ys i y all.1 at

module _ (rules : Book) (limits : Limits) (state : State) (valid : IsBench rules limits state) (table : ℕ) where
  full-row : (row : ℕ) (texts : List (List ℕ)) → row_texts state table row ≡ Some texts → length texts ≡ length (attrs_at rules.schema table)
  full-row row texts there = by (slice_get state table) refl
    where
      by : (o : Option TableState) → slice_get state table ≡ o → length texts ≡ length (attrs_at rules.schema table)
      by None at = absurd (none-some texts (sym (ap (option_and_then (λ (t : TableState). texts_of t row)) at) ∙ there))
      by (Some t) at =
          let (own, own-at, is) = zipped-at (IsTableState limits.cell_bytes limits.last_id) rules.schema.tables state table t valid.tables at in
          length-texts_of limits.cell_bytes limits.last_id own t row texts is (sym (ap (option_and_then (λ (t : TableState). texts_of t row)) at) ∙ there)
          ∙ sym (ap (λ o. length (option_map_or (λ (t : Table). t.attrs) o [])) own-at)

  wide-at : (row : ℕ) (texts : List (List ℕ)) (x : List ℕ) → row_texts state table row ≡ Some texts → All (λ attr. attr < length (attrs_at rules.schema table)) x → All (λ a. a < length texts) x
  wide-at row texts x there attrs i d within = let full = full-row row texts there in let own = attrs i d within in omega (arith, full, own)

module _ (rules : Book) (limits : Limits) (state : State) (valid : IsBench rules limits state) where
  dep-line-there : (dep : Dep) → IsValidDep rules.schema dep → (k : ℕ) (found : Violation) → is_some (row_texts state dep.table found.row) ≡ true → is_some (listed_of state dep (k, found)) ≡ true
  dep-line-there dep dep-valid k found some = by (row_texts state dep.table found.row) refl
    where
      by : (o : Option (List (List ℕ))) → row_texts state dep.table found.row ≡ o → is_some (listed_of state dep (k, found)) ≡ true
      by None there = absurd (true≢false (sym some ∙ ap is_some there))
      by (Some texts) there =
          ap (λ (o : Option (List (List ℕ))). is_some {T = Shared × Valued} (option_and_then (λ texts. option_map (λ (sides : Sides (List ℕ)). ((k, sides.x), (sides.a, found.row))) (sides_of dep.rule texts)) o)) there
          ∙ some-mapped (λ (sides : Sides (List ℕ)). ((k, sides.x), (sides.a, found.row))) (sides_of dep.rule texts)
          (some-both (λ x a. record { x = x; a = a }) (values_at texts dep.rule.x) (slice_get texts dep.rule.a)
          (values-there texts dep.rule.x (wide-at rules limits state valid dep.table found.row texts dep.rule.x there dep-valid.x))
          (some-at texts dep.rule.a (let full = full-row rules limits state valid dep.table found.row texts there in let own = dep-valid.a in omega (arith, full, own))))

  -- no line of a dependency is lost
  pub dep-none-lost : (dep : Dep) (t : TableState) → IsValidDep rules.schema dep → slice_get state dep.table ≡ Some t → length (dep_listed state dep) ≡ length (dep_violations state dep)
  dep-none-lost dep t dep-valid at =
      all-given (listed_of state dep) (dep_violations state dep)
      (all-weaker (λ (found : ℕ × Violation). is_some (row_texts state dep.table found.1.row) ≡ true) (λ (found : ℕ × Violation). is_some (listed_of state dep found) ≡ true)
      (λ found some. dep-line-there dep dep-valid found.0 found.1 some) (dep_violations state dep)
      (violation-rows (λ row. is_some (row_texts state dep.table row) ≡ true) dep.rule (rows_at state dep.table) (rows-there state dep.table t at)))

  cind-line-there : (cind : Cind) → IsValidCind rules.schema cind → (k row : ℕ) → is_some (row_texts state cind.left row) ≡ true → is_some (listed_orphan_of state cind (k, row)) ≡ true
  cind-line-there cind cind-valid k row some = by (row_texts state cind.left row) refl
    where
      by : (o : Option (List (List ℕ))) → row_texts state cind.left row ≡ o → is_some (listed_orphan_of state cind (k, row)) ≡ true
      by None there = absurd (true≢false (sym some ∙ ap is_some there))
      by (Some texts) there =
          ap (λ (o : Option (List (List ℕ))). is_some {T = Shared × ℕ} (option_and_then (λ texts. option_map (λ key. ((k, key), row)) (values_at texts cind.rule.x)) o)) there
          ∙ some-mapped (λ key. ((k, key), row)) (values_at texts cind.rule.x)
          (values-there texts cind.rule.x (wide-at rules limits state valid cind.left row texts cind.rule.x there cind-valid.x))

  -- no line of an inclusion is lost
  pub cind-none-lost : (cind : Cind) (t : TableState) → IsValidCind rules.schema cind → slice_get state cind.left ≡ Some t → length (cind_listed state cind) ≡ length (cind_orphans state cind)
  cind-none-lost cind t cind-valid at =
      all-given (listed_orphan_of state cind) (cind_orphans state cind)
      (all-weaker (λ (found : ℕ × ℕ). is_some (row_texts state cind.left found.1) ≡ true) (λ (found : ℕ × ℕ). is_some (listed_orphan_of state cind found) ≡ true)
      (λ found some. cind-line-there cind cind-valid found.0 found.1 some) (cind_orphans state cind)
      (orphan-rows (λ row. is_some (row_texts state cind.left row) ≡ true) cind.rule (rows_at state cind.left) (right_entries cind.rule (rows_at state cind.right)) (rows-there state cind.left t at)))
