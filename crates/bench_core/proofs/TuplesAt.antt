-- The tuples of stored tables, as one of the tables changes or joins.
use Rattle.std.proofs.Common.{◌≡◌, ℕ, zero, suc, List, [], ◌∷◌, ◌++◌, length, Option, Some, IsSomeAnd, refl, sym, ap, subst, ◌∙◌, arith, inl, inr}
use Rattle.std.specs.List.{slice_get}
use Rattle.std.specs.Option.{option_and_then}
use Rattle.std.proofs.lemmas.Bool.{cases_eq}
use Rattle.std.proofs.lemmas.Bool.Decides.{nat_tests}
use Rattle.std.proofs.lemmas.Option.{none-some, same_Some, option_and_then_some, get_or_from_slice_get, slice_get_within}
use Rattle.std.specs.FinMap as finmap
use Rattle.schema_core.specs.Lookups.{attrs_at}
use Rattle.text_lists.specs.declared.limits.Limits.{Limits}
use Rattle.rule_model.specs.Books.{Book}
use Rattle.row_store.specs.Watches.{with_row}
use Rattle.bench_core.specs.State.{IsTableState}
use Rattle.bench_core.specs.Stored.{Stored, table_state, state_of}
use Rattle.bench_core.specs.Changes.{with_tuple, at_table}
use Rattle.bench_core.specs.Bench.{IsBench}
use Rattle.bench_core.specs.Indexed.{tuples_of}
use Rattle.bench_core.proofs.States.{side_by_side}
use Rattle.bench_core.proofs.Planned.{wide}
use Rattle.bench_core.proofs.Holding.{state-there}
use Rattle.bench_core.proofs.Walks.{get-with_tuple, get-with_tuple_apart}

-- ---- one row has another tuple

module _ (rows : ℕ → ℕ → Option (List ℕ)) (n row : ℕ) (ids : Option (List ℕ)) (t r : ℕ) where
  at-row : t ≡ n → r ≡ row → with_row rows n row ids t r ≡ ids
  at-row same there = grind (arith, nat_tests, same, there)

  at-other_row : (r ≡ row → ⊥) → with_row rows n row ids t r ≡ rows t r
  at-other_row other = grind (arith, nat_tests, other)

  at-other_table : (t ≡ n → ⊥) → with_row rows n row ids t r ≡ rows t r
  at-other_table apart = grind (arith, nat_tests, apart)

other-table : (n t : ℕ) (becomes : Stored → Stored) (tables : List Stored) → (t ≡ n → ⊥) → slice_get (at_table n becomes tables) t ≡ slice_get tables t
other-table n t becomes [] apart = refl
other-table zero zero becomes (x ∷ tables) apart = absurd (apart refl)
other-table zero (suc t) becomes (x ∷ tables) apart = refl
other-table (suc n) zero becomes (x ∷ tables) apart = refl
other-table (suc n) (suc t) becomes (x ∷ tables) apart = other-table n t becomes tables (λ same. apart (ap suc same))

same-table : (n : ℕ) (becomes : Stored → Stored) (tables : List Stored) (table : Stored) → slice_get tables n ≡ Some table → slice_get (at_table n becomes tables) n ≡ Some (becomes table)
same-table n becomes [] table at = absurd (none-some table at)
same-table zero becomes (x ∷ tables) table at = ap (λ t. Some (becomes t)) (same_Some x table at)
same-table (suc n) becomes (x ∷ tables) table at = same-table n becomes tables table at

-- the tuple of a row of a table that is there
pub tuple-there : (tables : List Stored) (n row : ℕ) (table : Stored) → slice_get tables n ≡ Some table → tuples_of tables n row ≡ finmap.get table.rows row
tuple-there tables n row table at = ap (option_and_then (λ (t : Stored). finmap.get t.rows row)) at

-- the same where it is known only what holds of the table
pub tuple-where : (tables : List Stored) (n row : ℕ) (ids : Option (List ℕ)) (P : Stored → Type 0) → ((table : Stored) → P table → finmap.get table.rows row ≡ ids) → IsSomeAnd (slice_get tables n) P → tuples_of tables n row ≡ ids
tuple-where [] n row ids P leads holds = absurd holds
tuple-where (x ∷ tables) zero row ids P leads holds = leads x holds
tuple-where (x ∷ tables) (suc n) row ids P leads holds = tuple-where tables n row ids P leads holds

pub table-where : (tables : List Stored) (n : ℕ) (P : Stored → Type 0) → IsSomeAnd (slice_get tables n) P → (table : Stored) × (slice_get tables n ≡ Some table)
table-where [] n P holds = absurd holds
table-where (x ∷ tables) zero P holds = (x, refl)
table-where (x ∷ tables) (suc n) P holds = table-where tables n P holds

module _ (n row : ℕ) (ids : Option (List ℕ)) (becomes : Stored → Stored) (tables : List Stored) (table : Stored) (at : slice_get tables n ≡ Some table) (rows : (becomes table).rows ≡ with_tuple table.rows row ids) where
  here : (t r : ℕ) → t ≡ n → tuples_of (at_table n becomes tables) t r ≡ finmap.get (with_tuple table.rows row ids) r
  here t r same =
      ap (λ t. tuples_of (at_table n becomes tables) t r) same
      ∙ tuple-there (at_table n becomes tables) n r (becomes table) (same-table n becomes tables table at)
      ∙ ap (λ rs. finmap.get rs r) rows

  -- a table in which one row has another tuple
  pub tuple-changed : (t r : ℕ) → with_row (tuples_of tables) n row ids t r ≡ tuples_of (at_table n becomes tables) t r
  tuple-changed t r = elim (cases_eq t n) [
    | inl same ↦
        elim (cases_eq r row) [
          | inl there ↦
              at-row (tuples_of tables) n row ids t r same there
              ∙ sym (here t r same ∙ ap (finmap.get (with_tuple table.rows row ids)) there ∙ get-with_tuple table.rows row ids)
          | inr other ↦
              at-other_row (tuples_of tables) n row ids t r other
              ∙ ap (λ t. tuples_of tables t r) same
              ∙ tuple-there tables n r table at
              ∙ sym (here t r same ∙ get-with_tuple_apart table.rows row ids r other)
        ]
    | inr apart ↦
        at-other_table (tuples_of tables) n row ids t r apart
        ∙ ap (option_and_then (λ (t : Stored). finmap.get t.rows r)) (sym (other-table n t becomes tables apart))
  ]

-- ---- a table joins

pub last-there : (tables : List Stored) (table : Stored) → slice_get (tables ++ table ∷ []) (length tables) ≡ Some table
last-there [] table = refl
last-there (x ∷ tables) table = last-there tables table

-- ---- each tuple has the attributes of its table

abbrev pub IsFull : Book → ℕ → List ℕ → Type 0
IsFull rules n ids = length ids ≡ length (attrs_at rules.schema n)

pub row-full : (rules : Book) (limits : Limits) (texts : List (List ℕ)) (tables : List Stored) → IsBench rules limits (state_of texts tables) → (n row : ℕ) (ids : List ℕ) → tuples_of tables n row ≡ Some ids → IsFull rules n ids
row-full rules limits texts tables bench n row ids is =
    option_and_then_some (λ (t : Stored). finmap.get t.rows row) (slice_get tables n) ids is (λ table at found.
    let there = state-there texts n tables table at in
    let inside = slice_get_within (state_of texts tables) n (table_state texts table) there in
    let (declared, named, holds) = side_by_side (IsTableState limits.cell_bytes limits.last_id) rules.schema.tables (state_of texts tables) n (table_state texts table) bench.tables inside in
    let state = subst (IsTableState limits.cell_bytes limits.last_id declared) (get_or_from_slice_get (state_of texts tables) n (table_state texts table) (table_state texts table) there) holds in
    rw named (wide texts table row limits.cell_bytes limits.last_id declared ids state found))
