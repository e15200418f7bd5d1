-- The indexes that take a table which is loaded.
use Rattle.std.proofs.Common.{◌≡◌, ℕ, zero, suc, List, [], ◌∷◌, ◌++◌, length, Option, refl, sym, ap, ◌∙◌, arith, inl, inr}
use Rattle.std.specs.List.{slice_get}
use Rattle.std.specs.Option.{option_and_then}
use Rattle.std.proofs.lemmas.Bool.Decides.{nat_tests}
use Rattle.std.proofs.lemmas.Bool.{cases_eq}
use Rattle.std.specs.FinMap as finmap
use Rattle.rule_model.specs.Books.{Book}
use Rattle.bench_index.specs.Loading.{AllLoad, HaveNoRows, IsWithoutRows, with_table}
use Rattle.bench_index.specs.declared.all_indexes.AllIndexes.{AllIndexes}
use Rattle.bench_core.specs.Stored.{Stored}
use Rattle.bench_core.specs.Indexed.{IsIndexed, tuples_of}
use Rattle.bench_core.proofs.InStepWith.{indexed-alike}
use Rattle.bench_core.proofs.TuplesAt.{last-there, tuple-there}

-- the table after the last one has no rows
without-next : (tables : List Stored) → IsWithoutRows (length tables) (tuples_of tables)
without-next [] row = refl
without-next (x ∷ tables) row = without-next tables row

-- a table joins
apart-kept : (tables : List Stored) (table : Stored) (t : ℕ) → (t ≡ length tables → ⊥) → slice_get tables t ≡ slice_get (tables ++ table ∷ []) t
apart-kept [] table zero apart = absurd (apart refl)
apart-kept [] table (suc t) apart = refl
apart-kept (x ∷ tables) table zero apart = refl
apart-kept (x ∷ tables) table (suc t) apart = apart-kept tables table t (λ same. apart (ap suc same))

with-at : (tuples : ℕ → ℕ → Option (List ℕ)) (n : ℕ) (own : ℕ → Option (List ℕ)) (t r : ℕ) → t ≡ n → with_table tuples n own t r ≡ own r
with-at tuples n own t r same = grind (arith, nat_tests, same)

with-apart : (tuples : ℕ → ℕ → Option (List ℕ)) (n : ℕ) (own : ℕ → Option (List ℕ)) (t r : ℕ) → (t ≡ n → ⊥) → with_table tuples n own t r ≡ tuples t r
with-apart tuples n own t r apart = grind (arith, nat_tests, apart)

with-next : (tables : List Stored) (table : Stored) (t r : ℕ) → with_table (tuples_of tables) (length tables) (finmap.get table.rows) t r ≡ tuples_of (tables ++ table ∷ []) t r
with-next tables table t r = elim (cases_eq t (length tables)) [
  | inl same ↦
      with-at (tuples_of tables) (length tables) (finmap.get table.rows) t r same
      ∙ sym (ap (λ t. tuples_of (tables ++ table ∷ []) t r) same ∙ tuple-there (tables ++ table ∷ []) (length tables) r table (last-there tables table))
  | inr apart ↦
      with-apart (tuples_of tables) (length tables) (finmap.get table.rows) t r apart
      ∙ ap (option_and_then (λ (t : Stored). finmap.get t.rows r)) (apart-kept tables table t apart)
]

module _ {rules : Book} {texts : List (List ℕ)} (tables : List Stored) {index : AllIndexes} (held : IsIndexed rules texts (tuples_of tables) index) where
  -- they take no row of the table after the last one
  pub table-can : HaveNoRows rules (length tables) index
  table-can = record { texts = texts; tuples = tuples_of tables; in_step = held.in_step; none = without-next tables }

  pub table-joined : (table : Stored) (after : AllIndexes) → AllLoad rules (length tables) (finmap.get table.rows) index after → IsIndexed rules texts (tuples_of (tables ++ table ∷ [])) after
  table-joined table after loaded =
      let took : IsIndexed rules texts (with_table (tuples_of tables) (length tables) (finmap.get table.rows)) after = record { valid = held.valid; in_step = loaded texts (tuples_of tables) (without-next tables) held.in_step } in
      indexed-alike took (tuples_of (tables ++ table ∷ [])) (with-next tables table)
