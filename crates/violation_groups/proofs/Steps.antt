-- Steps of the walks over what is found.
use Rattle.std.proofs.Common.{◌≡◌, ℕ, ◌+◌, ◌<◌, List, [], ◌∷◌, ◌++◌, length, map, take, get_or, Option, Some, None, Result, Ok, Err, IfOk, refl, sym, ap, subst, ◌∙◌, arith, slice_get}
use Rattle.std.specs.Prelude.{All, sum_by}
use Rattle.std.specs.List.{AllZip}
use Rattle.std.specs.Option.{ForSome, option_map_or}
use Rattle.std.proofs.lemmas.List.{map-append, take_more}
use Rattle.std.proofs.lemmas.List.Sums.{sum_by_more}
use Rattle.std.proofs.lemmas.Option.{get_or_from_slice_get, none-some, slice_get-get_or}
use Rattle.std.proofs.lemmas.Slice.Zip.{AllZip-long}
use Rattle.rule_model.specs.Books.{Book, IsBook, book_cinds, book_deps}
use Rattle.rule_model.specs.Rules.{IsValidCind, IsValidDep}
use Rattle.rule_model.specs.declared.cind.Cind.{Cind}
use Rattle.rule_model.specs.declared.dep.Dep.{Dep}
use Rattle.text_lists.specs.declared.limits.Limits.{Limits}
use Rattle.bench_core.specs.Bench.{IsHistory}
use Rattle.bench_core.specs.History.{History}
use Rattle.bench_core.specs.State.{IsTableState}
use Rattle.violation_groups.specs.ByIds.{IsKnownKey, IsKnownRow, Key}

pub if_ok : {A E : Type 0} {P Q : A → Type 0} (r : Result A E) → IfOk r P → ((v : A) → P v → Q v) → IfOk r Q
if_ok (Ok v) p so = so v p
if_ok (Err e) p so = tt

-- what holds of each item holds of the one that comes
pub item-holds : {X : Type 0} (P : X → Type 0) (xs : List X) (i : ℕ) (x : X) → All P xs → i < length xs → x ≡ get_or xs i x → P x
item-holds P xs i x all within is = subst P (sym is) (all i x within)

pub map-more : {X Z : Type 0} (name : X → Z) (done : List X) (x : X) (before after : List Z) (z : Z) → before ≡ map name done → z ≡ name x → after ≡ before ++ z ∷ [] → after ≡ map name (done ++ x ∷ [])
map-more name done x before after z so one is =
    is ∙ ap (λ l. l ++ z ∷ []) so ∙ ap (λ y. map name done ++ y ∷ []) one ∙ sym (map-append name done (x ∷ []))

zip-push : {Y Z : Type 0} (R : Y → Z → Type 0) (ys : List Y) (zs : List Z) (y : Y) (z : Z) → AllZip R ys zs → R y z → AllZip R (ys ++ y ∷ []) (zs ++ z ∷ [])
zip-push R [] [] y z all one = (one, tt)
zip-push R [] (b ∷ zs) y z all one = absurd all
zip-push R (a ∷ ys) [] y z all one = absurd all
zip-push R (a ∷ ys) (b ∷ zs) y z all one = (all.0, zip-push R ys zs y z all.1 one)

pub zip-more : {X Y Z : Type 0} (R : Y → Z → Type 0) (name : X → Y) (done : List X) (x : X) (before after : List Z) (z : Z)
    → AllZip R (map name done) before → R (name x) z → after ≡ before ++ z ∷ [] → AllZip R (map name (done ++ x ∷ [])) after
zip-more R name done x before after z all one is =
    subst (λ l. AllZip R l after) (sym (map-append name done (x ∷ [])))
    (subst (AllZip R (map name done ++ name x ∷ [])) (sym is) (zip-push R (map name done) before (name x) z all one))

pub zip-taken : {Y Z : Type 0} (R : Y → Z → Type 0) (ys : List Y) (i : ℕ) (before after : List Z) (z : Z) → i < length ys
    → AllZip R (take i ys) before → ForSome (slice_get ys i) (λ y. R y z) → after ≡ before ++ z ∷ [] → AllZip R (take (i + 1) ys) after
zip-taken {Y} R ys i before after z within all one is = by (slice_get ys i) refl
  where
    by : (o : Option Y) → slice_get ys i ≡ o → AllZip R (take (i + 1) ys) after
    by (Some y) at =
        let more = take_more ys i y within ∙ ap (λ x. take i ys ++ x ∷ []) (get_or_from_slice_get ys i y y at) in
        subst (λ l. AllZip R l after) (sym more) (subst (AllZip R (take i ys ++ y ∷ [])) (sym is) (zip-push R (take i ys) before y z all (one y at)))
    by None at = absurd (absent ys i within at)
      where
        absent : (xs : List Y) (j : ℕ) → j < length xs → slice_get xs j ≡ None → ⊥
        absent [] j lt none = omega arith
        absent (x ∷ xs) j lt none = none-some (get_or (x ∷ xs) j x) (sym none ∙ slice_get-get_or (x ∷ xs) j x lt)

-- a sum over the items of which one more was gone over
pub sum-taken : {X : Type 0} (size : X → ℕ) (xs : List X) (i : ℕ) → i < length xs → sum_by size (take (i + 1) xs) ≡ sum_by size (take i xs) + option_map_or size (slice_get xs i) 0
sum-taken size [] i within = absurd (omega arith)
sum-taken size (x ∷ xs) i within =
    sum_by_more size (x ∷ xs) i x within ∙ ap (λ o. sum_by size (take i (x ∷ xs)) + option_map_or size o 0) (sym (slice_get-get_or (x ∷ xs) i x within))

-- ---- the tables of the rules are there

module _ (rules : Book) (limits : Limits) (history : History) (valid : IsHistory rules limits history) where
  as_many : length history.present ≡ length rules.schema.tables
  as_many = AllZip-long (IsTableState limits.cell_bytes limits.last_id) rules.schema.tables history.present valid.present.tables

  pub dep-there : IsBook rules → (number : ℕ) (dep : Dep) → number < length (book_deps rules) → dep ≡ get_or (book_deps rules) number dep → dep.table < length history.present
  dep-there book number dep within is =
      let dep_valid = item-holds (IsValidDep rules.schema) (book_deps rules) number dep book.deps within is in
      omega (arith, as_many, dep_valid.table)

  pub cind-there : IsBook rules → (number : ℕ) (cind : Cind) → number < length (book_cinds rules) → cind ≡ get_or (book_cinds rules) number cind → cind.left < length history.present
  cind-there book number cind within is =
      let cind_valid = item-holds (IsValidCind rules.schema) (book_cinds rules) number cind book.cinds within is in
      omega (arith, as_many, cind_valid.left)

-- ---- keys that are known

pub row-keys-known : (texts : List (List ℕ)) (rows : List (Key × (ℕ × ℕ))) → All (IsKnownRow texts) rows → All (λ (row : Key × (ℕ × ℕ)). IsKnownKey texts row.0) rows
row-keys-known texts rows known i row within = (known i row within).0
