-- The lines of one rule after those of the rules before it.
use Rattle.std.proofs.Common.{◌≡◌, ℕ, ◌+◌, ◌<◌, List, [], ◌∷◌, ◌++◌, map, length, take, get_or, All, subst, sym, ap, ◌∙◌, refl}
use Rattle.std.proofs.lemmas.List.{map-append}
use Rattle.std.proofs.lemmas.Slice.Zip.{AllZip-long}
use Rattle.cfd_semantics.specs.Numbered.{numbered}
use Rattle.cfd_semantics.proofs.Numbers.{numbered-more}
use Rattle.rule_model.specs.declared.dep.Dep.{Dep}
use Rattle.rule_model.specs.declared.cind.Cind.{Cind}
use Rattle.rule_model.specs.Books.{Book, IsBook, book_deps, book_cinds}
use Rattle.rule_model.specs.Rules.{IsValidDep, IsValidCind}
use Rattle.text_lists.specs.declared.limits.Limits.{Limits}
use Rattle.bench_core.specs.Answers.{cind_orphans, dep_violations, orphans_at, violations_at}
use Rattle.bench_core.specs.State.{State}
use Rattle.bench_core.proofs.Answering.{item-there}
use Rattle.violation_report.specs.Listing.{cind_line, dep_line}
use Rattle.std.specs.Option.{option_map_or}
use Rattle.std.proofs.lemmas.Option.{get_or_from_slice_get}
use Rattle.bench_core.specs.Bench.{IsBench}
use Rattle.violation_report.specs.declared.line.Line.{Line}

mapped : {X Y : Type 0} (line : ℕ × X → Y) (i : ℕ) (found : List X) → map line (map (λ given. (i, given)) found) ≡ map (λ given. line (i, given)) found
mapped line i [] = refl
mapped line i (x ∷ xs) = ap (λ rest. line (i, x) ∷ rest) (mapped line i xs)

pub lines-more : {T X : Type 0} (gives : T → List X) (line : ℕ × X → Line) (items : List T) (i : ℕ) (item : T) → i < length items → item ≡ get_or items i item
    → map line (numbered gives (take (i + 1) items)) ≡ map line (numbered gives (take i items)) ++ map (λ found. line (i, found)) (gives item)
lines-more gives line items i item within is =
    ap (map line) (numbered-more gives items i item within is)
    ∙ map-append line (numbered gives (take i items)) (map (λ given. (i, given)) (gives item))
    ∙ ap (λ more. map line (numbered gives (take i items)) ++ more) (mapped line i (gives item))

-- the lines of one rule more, which is told by its number
module _ (rules : Book) (state : State) (n : ℕ) where
  pub dep-lines-more : n < length (book_deps rules)
      → map dep_line (numbered (dep_violations state) (take (n + 1) (book_deps rules))) ≡ map dep_line (numbered (dep_violations state) (take n (book_deps rules))) ++ map (λ found. dep_line (n, found)) (violations_at rules state n)
  dep-lines-more within =
      let (dep, at) = item-there (book_deps rules) n within in
      let more = lines-more (dep_violations state) dep_line (book_deps rules) n dep within (sym (get_or_from_slice_get (book_deps rules) n dep dep at)) in
      more ∙ ap (λ o. map dep_line (numbered (dep_violations state) (take n (book_deps rules))) ++ map (λ found. dep_line (n, found)) (option_map_or (dep_violations state) o [])) (sym at)

  pub cind-lines-more : n < length (book_cinds rules)
      → map cind_line (numbered (cind_orphans state) (take (n + 1) (book_cinds rules))) ≡ map cind_line (numbered (cind_orphans state) (take n (book_cinds rules))) ++ map (λ found. cind_line (n, found)) (orphans_at rules state n)
  cind-lines-more within =
      let (cind, at) = item-there (book_cinds rules) n within in
      let more = lines-more (cind_orphans state) cind_line (book_cinds rules) n cind within (sym (get_or_from_slice_get (book_cinds rules) n cind cind at)) in
      more ∙ ap (λ o. map cind_line (numbered (cind_orphans state) (take n (book_cinds rules))) ++ map (λ found. cind_line (n, found)) (option_map_or (cind_orphans state) o [])) (sym at)

-- a bench has a state for each table of its schema
pub has_table : {rules : Book} {limits : Limits} {state : State} → IsBench rules limits state → (table : ℕ) → table < length rules.schema.tables → table < length state
has_table bench table within = rw (AllZip-long _ _ _ bench.tables) within

-- the tables of a rule of the rules are those of the schema
module _ {rules : Book} {limits : Limits} {state : State} (bench : IsBench rules limits state) (book : IsBook rules) where
  pub dep_has_table : (deps : List Dep) → deps ≡ book_deps rules → (i : ℕ) (dep : Dep) → i < length deps → dep ≡ get_or deps i dep → dep.table < length state
  dep_has_table deps all i dep within is =
      let valid : All (IsValidDep rules.schema) deps = subst (All (IsValidDep rules.schema)) (sym all) book.deps in
      let fit : IsValidDep rules.schema dep = subst (IsValidDep rules.schema) (sym is) (valid i dep within) in
      has_table bench dep.table fit.table

  cind_fits : (cinds : List Cind) → cinds ≡ book_cinds rules → (i : ℕ) (cind : Cind) → i < length cinds → cind ≡ get_or cinds i cind → IsValidCind rules.schema cind
  cind_fits cinds all i cind within is =
      let valid : All (IsValidCind rules.schema) cinds = subst (All (IsValidCind rules.schema)) (sym all) book.cinds in
      subst (IsValidCind rules.schema) (sym is) (valid i cind within)

  pub cind_has_left : (cinds : List Cind) → cinds ≡ book_cinds rules → (i : ℕ) (cind : Cind) → i < length cinds → cind ≡ get_or cinds i cind → cind.left < length state
  cind_has_left cinds all i cind within is = has_table bench cind.left (cind_fits cinds all i cind within is).left

  pub cind_has_right : (cinds : List Cind) → cinds ≡ book_cinds rules → (i : ℕ) (cind : Cind) → i < length cinds → cind ≡ get_or cinds i cind → cind.right < length state
  cind_has_right cinds all i cind within is = has_table bench cind.right (cind_fits cinds all i cind within is).right
