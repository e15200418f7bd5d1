-- A tuple with an id for each attribute of its table is wide enough for all indexes of valid rules, and what they may probe.
use Rattle.std.proofs.Common.{◌≡◌, ℕ, ◌+◌, ◌*◌, ◌<◌, Bool, true, false, cond, ◌||◌, List, [], ◌∷◌, ◌++◌, length, map, refl, sym, ap, ◌∙◌, subst, arith}
use Rattle.std.specs.Prelude.{◌==◌, All, sum_by}
use Rattle.std.specs.List.{AllZip, count_by}
use Rattle.std.proofs.lemmas.Bool.Decides.{nat_tests}
use Rattle.std.proofs.lemmas.List.Elements.{All-nil, All-cons, All-head, All-tail, All-append, All-map, All-weaker}
use Rattle.std.proofs.lemmas.List.Sums.{sum_by-cons}
use Rattle.schema_core.specs.declared.schema.Schema.{Schema}
use Rattle.schema_core.specs.Lookups.{attrs_at}
use Rattle.rule_model.specs.declared.dep.Dep.{Dep}
use Rattle.rule_model.specs.declared.cind.Cind.{Cind}
use Rattle.rule_model.specs.declared.edit_rule.EditRule.{EditRule}
use Rattle.rule_model.specs.Rules.{IsValidDep, IsValidCind, IsValidEditRule}
use Rattle.rule_model.specs.Books.{Book, IsBook, book_deps, book_cinds, book_edits}
use Rattle.row_store.specs.Watch.{IsWide}
use Rattle.row_store.specs.Watches.{probes_of}
use Rattle.group_index.specs.GroupSet.{GroupSet}
use Rattle.cind_index.specs.declared.index.CindIndex.{CindIndex}
use Rattle.master_index.specs.declared.column_list.ColumnList.{ColumnList}
use Rattle.master_index.specs.Masters.{IsWideFor, lists_of}
use Rattle.bench_index.specs.InStep.{AreWide}
use Rattle.bench_index.specs.Watching.{group_watch, cind_watch}
use Rattle.bench_index.specs.Indexes.{AreIndexesOf, IsIndexOfDep, IsIndexOfCind}
use Rattle.bench_index.specs.MasterLists.{columns_of, master_lists}
use Rattle.bench_index.specs.AllIndexes.{IsAsWide, most_probes}
use Rattle.bench_index.specs.declared.index.BenchIndex.{BenchIndex}
use Rattle.bench_index.proofs.ListsOnce.{each_once-all}

module _ {A B : Type 0} (R : A → B → Type 0) where
  -- what holds of the items of one list holds of those of the other
  all_across : (P : A → Type 0) (Q : B → Type 0) → ((x : A) (y : B) → R x y → P x → Q y) → (xs : List A) (ys : List B) → AllZip R xs ys → All P xs → All Q ys
  all_across P Q each [] [] zip all = All-nil Q
  all_across P Q each [] (y ∷ ys) zip all = absurd zip
  all_across P Q each (x ∷ xs) [] zip all = absurd zip
  all_across P Q each (x ∷ xs) (y ∷ ys) zip all = All-cons Q y ys (each x y zip.0 (All-head P x xs all)) (all_across P Q each xs ys zip.1 (All-tail P x xs all))

  sum_across : (f : A → ℕ) (g : B → ℕ) → ((x : A) (y : B) → R x y → g y ≡ f x) → (xs : List A) (ys : List B) → AllZip R xs ys → sum_by g ys ≡ sum_by f xs
  sum_across f g each [] [] zip = refl
  sum_across f g each [] (y ∷ ys) zip = absurd zip
  sum_across f g each (x ∷ xs) [] zip = absurd zip
  sum_across f g each (x ∷ xs) (y ∷ ys) zip = sum_by-cons g y ys ∙ ap (λ n. n + sum_by g ys) (each x y zip.0) ∙ ap (λ n. f x + n) (sum_across f g each xs ys zip.1) ∙ sym (sum_by-cons f x xs)

-- ---- widths

module _ (schema : Schema) (texts : List (List ℕ)) (table : ℕ) (ids : List ℕ) (wide : length ids ≡ length (attrs_at schema table)) where
  within : (other : ℕ) → table ≡ other → (attributes : List ℕ) → All (λ attribute. attribute < length (attrs_at schema other)) attributes → All (λ attribute. attribute < length ids) attributes
  within other same attributes all = subst (λ n. All (λ attribute. attribute < n) attributes) (sym (wide ∙ ap (λ t. length (attrs_at schema t)) same)) all

  wide_dep : (dep : Dep) (s : GroupSet) → IsIndexOfDep texts dep s → IsValidDep schema dep → IsWide (group_watch.attributes (group_watch.made s) table) ids
  wide_dep dep s is valid = by (table == s.made.table) refl
    where
      by : (b : Bool) → (table == s.made.table) ≡ b → IsWide (cond b (s.made.dependency.a ∷ s.made.dependency.x) []) ids
      by false differ = All-nil (λ attribute. attribute < length ids)
      by true same =
          let at : table ≡ dep.table = grind (arith, nat_tests, same, is.table) in
          let a = sym is.rule.a in
          let x = sym is.rule.x in
          subst (λ attributes. IsWide attributes ids) (λ i. a i ∷ x i) (within dep.table at (dep.rule.a ∷ dep.rule.x) (All-cons (λ attribute. attribute < length (attrs_at schema dep.table)) dep.rule.a dep.rule.x valid.a valid.x))

  wide_side : (b : Bool) (other : ℕ) (key pattern : List ℕ) → (b ≡ true → table ≡ other) → All (λ attribute. attribute < length (attrs_at schema other)) key → All (λ attribute. attribute < length (attrs_at schema other)) pattern
      → IsWide (cond b (key ++ pattern) []) ids
  wide_side false other key pattern same keys patterns = All-nil (λ attribute. attribute < length ids)
  wide_side true other key pattern same keys patterns = All-append (λ attribute. attribute < length ids) key pattern (within other (same refl) key keys) (within other (same refl) pattern patterns)

  wide_cind : (cind : Cind) (s : CindIndex) → IsIndexOfCind texts cind s → IsValidCind schema cind → IsWide (cind_watch.attributes (cind_watch.made s) table) ids
  wide_cind cind s is valid =
      let IsIn : List ℕ → ℕ → Type 0 = λ attributes other. All (λ attribute. attribute < length (attrs_at schema other)) attributes in
      All-append (λ attribute. attribute < length ids) (cond (table == s.left) (s.rule.x ++ s.rule.xp) []) (cond (table == s.right) (s.rule.y ++ s.rule.yp) [])
      (wide_side (table == s.left) cind.left s.rule.x s.rule.xp (λ same. grind (arith, nat_tests, same, is.left)) (subst (λ xs. IsIn xs cind.left) (sym is.rule.x) valid.x) (subst (λ xs. IsIn xs cind.left) (sym is.rule.xp) valid.xp))
      (wide_side (table == s.right) cind.right s.rule.y s.rule.yp (λ same. grind (arith, nat_tests, same, is.right)) (subst (λ xs. IsIn xs cind.right) (sym is.rule.y) valid.y) (subst (λ xs. IsIn xs cind.right) (sym is.rule.yp) valid.yp))

  wide_columns : (rule : EditRule) → IsValidEditRule schema rule → (columns_of rule).master ≡ table → All (λ column. column < length ids) (columns_of rule).columns
  wide_columns rule valid same = within rule.master (sym same) rule.xm valid.xm

module _ (rules : Book) (book : IsBook rules) (table : ℕ) (ids : List ℕ) (wide : IsAsWide rules table ids) where
  -- a tuple of its table is wide enough for the indexes of all rules
  pub wide_for_groups : (texts : List (List ℕ)) (index : BenchIndex) → AreIndexesOf rules texts index → AreWide group_watch table ids index.groups.items
  wide_for_groups texts index are =
      all_across (IsIndexOfDep texts) (IsValidDep rules.schema) (λ (s : GroupSet). IsWide (group_watch.attributes (group_watch.made s) table) ids) (wide_dep rules.schema texts table ids wide) (book_deps rules) index.groups.items are.groups book.deps

  pub wide_for_cinds : (texts : List (List ℕ)) (index : BenchIndex) → AreIndexesOf rules texts index → AreWide cind_watch table ids index.cinds.items
  wide_for_cinds texts index are =
      all_across (IsIndexOfCind texts) (IsValidCind rules.schema) (λ (s : CindIndex). IsWide (cind_watch.attributes (cind_watch.made s) table) ids) (wide_cind rules.schema texts table ids wide) (book_cinds rules) index.cinds.items are.cinds book.cinds

  pub wide_for_masters : IsWideFor (master_lists rules) table ids
  wide_for_masters =
      let Reaches : ColumnList → Type 0 = λ list. list.master ≡ table → All (λ column. column < length ids) list.columns in
      each_once-all Reaches (map columns_of (book_edits rules))
      (All-map Reaches columns_of (book_edits rules) (All-weaker (IsValidEditRule rules.schema) (λ rule. Reaches (columns_of rule)) (wide_columns rules.schema [] table ids wide) (book_edits rules) book.edits))

-- ---- probes

twice : {A : Type 0} (p : A → Bool) (xs : List A) → sum_by (λ x. cond (p x) 2 0) xs ≡ 2 * count_by p xs
twice p [] = refl
twice {A} p (x ∷ xs) = sum_by-cons (λ x. cond (p x) 2 0) x xs ∙ by (p x) (twice p xs) ∙ ap (λ n. 2 * n) (sym (sum_by-cons (λ x. cond (p x) 1 0) x xs))
  where
    by : (b : Bool) → sum_by (λ x. cond (p x) 2 0) xs ≡ 2 * count_by p xs → cond b 2 0 + sum_by (λ x. cond (p x) 2 0) xs ≡ 2 * (cond b 1 0 + count_by p xs)
    by true rest = omega (arith, rest)
    by false rest = omega (arith, rest)

module _ (rules : Book) (texts : List (List ℕ)) (index : BenchIndex) (are : AreIndexesOf rules texts index) (table : ℕ) where
  group_probes : sum_by (probes_of group_watch table) index.groups.items ≡ count_by (λ (dep : Dep). table == dep.table) (book_deps rules)
  group_probes =
      sum_across (IsIndexOfDep texts) (λ (dep : Dep). cond (table == dep.table) 1 0) (probes_of group_watch table) (λ dep s is. ap (λ t. cond (table == t) 1 0) is.table) (book_deps rules) index.groups.items are.groups

  cind_probes : sum_by (probes_of cind_watch table) index.cinds.items ≡ 2 * count_by (λ (cind : Cind). (table == cind.left) || (table == cind.right)) (book_cinds rules)
  cind_probes =
      sum_across (IsIndexOfCind texts) (λ (cind : Cind). cond ((table == cind.left) || (table == cind.right)) 2 0) (probes_of cind_watch table)
      (λ cind s is. ap (λ t. cond ((table == t) || (table == s.right)) 2 0) is.left ∙ ap (λ t. cond ((table == cind.left) || (table == t)) 2 0) is.right) (book_cinds rules) index.cinds.items are.cinds
      ∙ twice (λ (cind : Cind). (table == cind.left) || (table == cind.right)) (book_cinds rules)

  -- the probes of all indexes, twice, are the most
  pub most : 2 * (sum_by (probes_of group_watch table) index.groups.items + sum_by (probes_of cind_watch table) index.cinds.items + lists_of (master_lists rules) table) ≡ most_probes rules table
  most = omega (arith, group_probes, cind_probes)
