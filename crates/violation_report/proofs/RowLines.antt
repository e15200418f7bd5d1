-- Of the lines of the whole list, those that are about a row are the lines asked for that row.
use Rattle.std.proofs.Common.{◌≡◌, ℕ, ◌+◌, ◌<◌, ◌≤◌, ◌==◌, ◌&&◌, Bool, true, false, List, [], ◌∷◌, map, length, filter, Option, Some, None, All, refl, sym, ap, subst, ◌∙◌, arith}
use Rattle.std.specs.Prelude.{IsSome, is_some, slice_get, option_and_then, option_map}
use Rattle.std.specs.FinMap as finmap
use Rattle.std.specs.List.{find, list_any}
use Rattle.std.specs.Option.{option_map_or}
use Rattle.std.proofs.lemmas.List.Elements.{All-filter}
use Rattle.cfd_semantics.specs.declared.violation.Violation.{Violation}
use Rattle.rule_model.specs.declared.dep.Dep.{Dep}
use Rattle.rule_model.specs.declared.cind.Cind.{Cind}
use Rattle.rule_model.specs.Books.{Book, book_cinds, book_deps}
use Rattle.bench_core.specs.Answers.{IsRowOfCind, IsRowOfDep, orphans_at, orphans_of_row, row_texts, violations_at, violations_of_row}
use Rattle.bench_core.specs.State.{Row, State, TableState, has_id, texts_of}
use Rattle.bench_core.specs.Stored.{Stored, table_state}
use Rattle.bench_core.proofs.Planned.{texts-absent, texts-there}
use Rattle.violation_report.specs.Explained.{cind_is_of, dep_is_of, explained, has_row, is_about}
use Rattle.violation_report.specs.Listing.{cind_line, cind_lines_at, dep_line, dep_lines_at, listing}
use Rattle.violation_report.specs.Probes.{cind_rows_of, dep_rows_of}
use Rattle.violation_report.specs.RuleNumbers.{is_of, lines_at}
use Rattle.violation_report.specs.Text.{IsLineOf}
use Rattle.violation_report.specs.declared.rules.Rule.{Rule}
use Rattle.violation_report.specs.declared.rules.Rule.TheVariants.{Dep as DepNumber, Cind as CindNumber}
use Rattle.violation_report.proofs.Lists.{cind_lines-in_range, dep_lines-in_range, listing_in_range}

-- ---- lines that are kept

-- what is kept of mapped items, where the test is one of the items
module _ {X Y : Type 0} (p : Y → Bool) (f : X → Y) (q : X → Bool) (is : (x : X) → p (f x) ≡ q x) where
  kept_first : (b : Bool) (x : X) (xs : List X) → q x ≡ b → filter p (map f xs) ≡ map f (filter q xs) → filter p (map f (x ∷ xs)) ≡ map f (filter q (x ∷ xs))
  kept_first true x xs test ih = rw (is x, test) (ap (λ rest. f x ∷ rest) ih)
  kept_first false x xs test ih = rw (is x, test) ih

  kept_mapped : (xs : List X) → filter p (map f xs) ≡ map f (filter q xs)
  kept_mapped [] = refl
  kept_mapped (x ∷ xs) = kept_first (q x) x xs refl (kept_mapped xs)

-- and where no item passes
none_kept : {X Y : Type 0} (p : Y → Bool) (f : X → Y) (is : (x : X) → p (f x) ≡ false) (xs : List X) → filter p (map f xs) ≡ []
none_kept p f is [] = refl
none_kept p f is (x ∷ xs) = rw (is x) (none_kept p f is xs)

pub and_true : (b : Bool) → (b && true) ≡ b
and_true true = refl
and_true false = refl

pub and_false : (b : Bool) → (b && false) ≡ false
and_false true = refl
and_false false = refl

module _ (rules : Book) (table row n : ℕ) where
  pub dep-about : (found : ℕ × Violation) → is_about rules table row (dep_line (n, found)) ≡ (found.1.row == row && dep_is_of rules table n)
  dep-about (k, found) = by found.partner
    where
      by : (partner : Option ℕ) → is_about rules table row (dep_line (n, (k, record { row = found.row; partner = partner }))) ≡ (found.row == row && dep_is_of rules table n)
      by None = refl
      by (Some partner) = refl

  -- of the lines of a dependency, those about a row of its table, and of another
  pub own-dep-lines : dep_is_of rules table n ≡ true → (found : List (ℕ × Violation)) → filter (is_about rules table row) (dep_lines_at n found) ≡ dep_lines_at n (filter (λ violation. violation.1.row == row) found)
  own-dep-lines own = kept_mapped (is_about rules table row) (λ one. dep_line (n, one)) (λ violation. violation.1.row == row) (λ one. dep-about one ∙ ap (λ b. one.1.row == row && b) own ∙ and_true (one.1.row == row))

  other-dep-lines : dep_is_of rules table n ≡ false → (found : List (ℕ × Violation)) → filter (is_about rules table row) (dep_lines_at n found) ≡ []
  other-dep-lines other = none_kept (is_about rules table row) (λ one. dep_line (n, one)) (λ one. dep-about one ∙ ap (λ b. one.1.row == row && b) other ∙ and_false (one.1.row == row))

  -- the same for an inclusion
  pub own-cind-lines : cind_is_of rules table n ≡ true → (found : List (ℕ × ℕ)) → filter (is_about rules table row) (cind_lines_at n found) ≡ cind_lines_at n (filter (λ orphan. orphan.1 == row) found)
  own-cind-lines own = kept_mapped (is_about rules table row) (λ one. cind_line (n, one)) (λ orphan. orphan.1 == row) (λ one. ap (λ b. one.1 == row && b) own ∙ and_true (one.1 == row))

  other-cind-lines : cind_is_of rules table n ≡ false → (found : List (ℕ × ℕ)) → filter (is_about rules table row) (cind_lines_at n found) ≡ []
  other-cind-lines other = none_kept (is_about rules table row) (λ one. cind_line (n, one)) (λ one. ap (λ b. one.1 == row && b) other ∙ and_false (one.1 == row))

-- of the lines of a rule of another table, none is about a row of this one
pub other-lines : (rules : Book) (state : State) (table row : ℕ) (rule : Rule) → is_of rules table rule ≡ false → filter (is_about rules table row) (lines_at rules state rule) ≡ []
other-lines rules state table row (DepNumber n) other = other-dep-lines rules table row n other (violations_at rules state n)
other-lines rules state table row (CindNumber n) other = other-cind-lines rules table row n other (orphans_at rules state n)

-- ---- the whole list

pub explained-in_range : (rules : Book) (state : State) (table row : ℕ) → All (IsLineOf rules) (explained rules state table row)
explained-in_range rules state table row = All-filter (is_about rules table row) (IsLineOf rules) (listing rules state) (listing_in_range rules state)

module _ (rules : Book) (state : State) (table row n : ℕ) where
  pub own-dep-in_range : n < length (book_deps rules) → dep_is_of rules table n ≡ true → All (IsLineOf rules) (dep_lines_at n (violations_of_row rules state n row))
  own-dep-in_range within own =
      let found = violations_at rules state n in
      subst (All (IsLineOf rules)) (own-dep-lines rules table row n own found) (All-filter (is_about rules table row) (IsLineOf rules) (dep_lines_at n found) (dep_lines-in_range rules state n within))

  pub own-cind-in_range : n < length (book_cinds rules) → cind_is_of rules table n ≡ true → All (IsLineOf rules) (cind_lines_at n (orphans_of_row rules state n row))
  own-cind-in_range within own =
      let found = orphans_at rules state n in
      subst (All (IsLineOf rules)) (own-cind-lines rules table row n own found) (All-filter (is_about rules table row) (IsLineOf rules) (cind_lines_at n found) (cind_lines-in_range rules state n within))

-- a rule of the table has all its tableau rows
module _ (table next steps : ℕ) where
  pub dep-rows-own : (o : Option Dep) → option_map_or (λ (d : Dep). d.table == table) o false ≡ true → next ≤ steps + option_map_or (λ (d : Dep). length d.rule.rows) o 0 → next ≤ steps + option_map_or (dep_rows_of table) o 0
  dep-rows-own None own few = few
  dep-rows-own (Some d) own few = rw own few

  pub cind-rows-own : (o : Option Cind) → option_map_or (λ (c : Cind). c.left == table) o false ≡ true → next ≤ steps + option_map_or (λ (c : Cind). length c.rule.rows) o 0 → next ≤ steps + option_map_or (cind_rows_of table) o 0
  cind-rows-own None own few = few
  cind-rows-own (Some c) own few = rw own few

-- ---- a row that is there

any-found : {X : Type 0} (p : X → Bool) (xs : List X) → list_any p xs ≡ is_some (find p xs)
any-found p [] = refl
any-found p (x ∷ xs) = by (p x) refl (any-found p xs)
  where
    by : (b : Bool) → p x ≡ b → list_any p xs ≡ is_some (find p xs) → list_any p (x ∷ xs) ≡ is_some (find p (x ∷ xs))
    by true is ih = rw is refl
    by false is ih = rw is ih

pub mapped_some : {X Y : Type 0} (f : X → Y) (o : Option X) → is_some o ≡ is_some (option_map f o)
mapped_some f None = refl
mapped_some f (Some x) = refl

-- a row is there exactly where it has texts
pub row-has_texts : (state : State) (table row : ℕ) → has_row state table row ≡ is_some (row_texts state table row)
row-has_texts state table row = by (slice_get state table) refl
  where
    by : (there : Option TableState) → slice_get state table ≡ there → has_row state table row ≡ is_some (row_texts state table row)
    by None is = rw is refl
    by (Some t) is = rw is (any-found (has_id row) t.rows ∙ mapped_some (λ (r : Row). r.1) (find (has_id row) t.rows))

-- a row is there exactly where its table's store has it
pub row-stored : (texts : List (List ℕ)) (state : State) (table row : ℕ) (store : Stored) → slice_get state table ≡ Some (table_state texts store) → has_row state table row ≡ is_some (finmap.get store.rows row)
row-stored texts state table row store at = row-has_texts state table row ∙ ap (λ o. is_some (option_and_then (λ (t : TableState). texts_of t row) o)) at ∙ by (finmap.get store.rows row) refl
  where
    by : (ids : Option (List ℕ)) → finmap.get store.rows row ≡ ids → is_some (texts_of (table_state texts store) row) ≡ is_some (finmap.get store.rows row)
    by None is = ap is_some (texts-absent texts store row is) ∙ sym (ap is_some is)
    by (Some ids) is = ap is_some (texts-there texts store row ids is) ∙ sym (ap is_some is)

module _ (rules : Book) (state : State) (table row n : ℕ) (there : has_row state table row ≡ true) where
  row-is : (other : ℕ) → (other == table) ≡ true → IsSome (row_texts state other row)
  row-is other same = let is : other ≡ table = grind (arith, same) in subst (λ t. IsSome (row_texts state t row)) (sym is) (sym (row-has_texts state table row) ∙ there)

  pub row-of_dep : dep_is_of rules table n ≡ true → IsRowOfDep rules state n row
  row-of_dep own dep at = row-is dep.table (sym (ap (λ o. option_map_or (λ (d : Dep). d.table == table) o false) at) ∙ own)

  pub row-of_cind : cind_is_of rules table n ≡ true → IsRowOfCind rules state n row
  row-of_cind own cind at = row-is cind.left (sym (ap (λ o. option_map_or (λ (c : Cind). c.left == table) o false) at) ∙ own)
