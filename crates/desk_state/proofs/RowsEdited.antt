-- The texts of a row by its id, as a row is added to its table, changed or removed.
use Rattle.std.proofs.Common.{◌≡◌, ℕ, zero, suc, ◌<◌, ◌≤◌, Bool, true, false, not, List, [], ◌∷◌, ◌++◌, map, filter, All, Option, Some, None, option_map, if◌then◌else◌, refl, sym, ◌∙◌, ap, arith, inl, inr}
use Rattle.std.specs.List.{find, slice_get, slice_set}
use Rattle.std.specs.Option.{option_and_then, option_map_or}
use Rattle.std.proofs.lemmas.Bool.{cases_eq, eq-eqb, eqb-true, ne_eqb}
use Rattle.std.proofs.lemmas.Option.{none-some}
use Rattle.std.proofs.lemmas.List.Elements.{All-head, All-tail}
use Rattle.bench_core.specs.Answers.{row_texts}
use Rattle.bench_core.specs.State.{Row, State, TableState, has_id, texts_of, with_row, with_texts, without_row}
use Rattle.bench_core.proofs.RowsAt.{texts-at}

-- ---- one table

abbrev found : List Row → ℕ → Option (List (List ℕ))
found rows id = option_map (λ (row : Row). row.1) (find (has_id id) rows)

-- the first row has the id, or the row is looked up among the others
hit : (row : Row) (rows : List Row) (id : ℕ) → has_id id row ≡ true → found (row ∷ rows) id ≡ Some row.1
hit row rows id h = rw h refl

miss : (row : Row) (rows : List Row) (id : ℕ) → has_id id row ≡ false → found (row ∷ rows) id ≡ found rows id
miss row rows id h = rw h refl

-- a row is put behind the others
added-own : (rows : List Row) (id : ℕ) (texts : List (List ℕ)) → found rows id ≡ None → found (rows ++ (id, texts) ∷ []) id ≡ Some texts
added-own [] id texts none = hit (id, texts) [] id (eq-eqb id id refl)
added-own (row ∷ rows) id texts none = by (added-own rows id texts) (has_id id row) refl
  where
    by : (found rows id ≡ None → found (rows ++ (id, texts) ∷ []) id ≡ Some texts) → (b : Bool) → has_id id row ≡ b → found (row ∷ (rows ++ (id, texts) ∷ [])) id ≡ Some texts
    by later true h = absurd (none-some row.1 (sym none ∙ hit row rows id h))
    by later false h = miss row (rows ++ (id, texts) ∷ []) id h ∙ later (sym (miss row rows id h) ∙ none)

added-other : (rows : List Row) (id r : ℕ) (texts : List (List ℕ)) → (r ≡ id → ⊥) → found (rows ++ (id, texts) ∷ []) r ≡ found rows r
added-other [] id r texts apart = miss (id, texts) [] r (ne_eqb id r (λ same. apart (sym same)))
added-other (row ∷ rows) id r texts apart = by (added-other rows id r texts apart) (has_id r row) refl
  where
    by : found (rows ++ (id, texts) ∷ []) r ≡ found rows r → (b : Bool) → has_id r row ≡ b → found (row ∷ (rows ++ (id, texts) ∷ [])) r ≡ found (row ∷ rows) r
    by later true h = hit row (rows ++ (id, texts) ∷ []) r h ∙ sym (hit row rows r h)
    by later false h = miss row (rows ++ (id, texts) ∷ []) r h ∙ later ∙ sym (miss row rows r h)

-- a row has other texts
abbrev put : ℕ → List (List ℕ) → Row → Row
put id texts row = if has_id id row then (id, texts) else row

put-hit : (id : ℕ) (texts : List (List ℕ)) (row : Row) → has_id id row ≡ true → put id texts row ≡ (id, texts)
put-hit id texts row h = rw h refl

put-miss : (id : ℕ) (texts : List (List ℕ)) (row : Row) → has_id id row ≡ false → put id texts row ≡ row
put-miss id texts row h = rw h refl

changed-own : (rows : List Row) (id : ℕ) (old texts : List (List ℕ)) → found rows id ≡ Some old → found (map (put id texts) rows) id ≡ Some texts
changed-own [] id old texts there = absurd (none-some old there)
changed-own (row ∷ rows) id old texts there = by (changed-own rows id old texts) (has_id id row) refl
  where
    by : (found rows id ≡ Some old → found (map (put id texts) rows) id ≡ Some texts) → (b : Bool) → has_id id row ≡ b → found (put id texts row ∷ map (put id texts) rows) id ≡ Some texts
    by later true h = ap (λ (x : Row). found (x ∷ map (put id texts) rows) id) (put-hit id texts row h) ∙ hit (id, texts) (map (put id texts) rows) id (eq-eqb id id refl)
    by later false h =
        ap (λ (x : Row). found (x ∷ map (put id texts) rows) id) (put-miss id texts row h) ∙ miss row (map (put id texts) rows) id h ∙ later (sym (miss row rows id h) ∙ there)

changed-other : (rows : List Row) (id r : ℕ) (texts : List (List ℕ)) → (r ≡ id → ⊥) → found (map (put id texts) rows) r ≡ found rows r
changed-other [] id r texts apart = refl
changed-other (row ∷ rows) id r texts apart = by (changed-other rows id r texts apart) (has_id id row) (has_id r row) refl refl
  where
    by : found (map (put id texts) rows) r ≡ found rows r → (a b : Bool) → has_id id row ≡ a → has_id r row ≡ b → found (put id texts row ∷ map (put id texts) rows) r ≡ found (row ∷ rows) r
    by later true b h i =
        let off : has_id r row ≡ false = ne_eqb row.0 r (λ same. apart (sym same ∙ eqb-true row.0 id h)) in
        ap (λ (x : Row). found (x ∷ map (put id texts) rows) r) (put-hit id texts row h)
        ∙ miss (id, texts) (map (put id texts) rows) r (ne_eqb id r (λ same. apart (sym same))) ∙ later ∙ sym (miss row rows r off)
    by later false true h i = ap (λ (x : Row). found (x ∷ map (put id texts) rows) r) (put-miss id texts row h) ∙ hit row (map (put id texts) rows) r i ∙ sym (hit row rows r i)
    by later false false h i = ap (λ (x : Row). found (x ∷ map (put id texts) rows) r) (put-miss id texts row h) ∙ miss row (map (put id texts) rows) r i ∙ later ∙ sym (miss row rows r i)

-- a row is gone
abbrev stays : ℕ → Row → Bool
stays id row = not (has_id id row)

gone-hit : (id : ℕ) (row : Row) (rows : List Row) → has_id id row ≡ true → filter (stays id) (row ∷ rows) ≡ filter (stays id) rows
gone-hit id row rows h = rw h refl

gone-miss : (id : ℕ) (row : Row) (rows : List Row) → has_id id row ≡ false → filter (stays id) (row ∷ rows) ≡ row ∷ filter (stays id) rows
gone-miss id row rows h = rw h refl

removed-own : (rows : List Row) (id : ℕ) → found (filter (stays id) rows) id ≡ None
removed-own [] id = refl
removed-own (row ∷ rows) id = by (removed-own rows id) (has_id id row) refl
  where
    by : found (filter (stays id) rows) id ≡ None → (b : Bool) → has_id id row ≡ b → found (filter (stays id) (row ∷ rows)) id ≡ None
    by later true h = ap (λ (all : List Row). found all id) (gone-hit id row rows h) ∙ later
    by later false h = ap (λ (all : List Row). found all id) (gone-miss id row rows h) ∙ miss row (filter (stays id) rows) id h ∙ later

removed-other : (rows : List Row) (id r : ℕ) → (r ≡ id → ⊥) → found (filter (stays id) rows) r ≡ found rows r
removed-other [] id r apart = refl
removed-other (row ∷ rows) id r apart = by (removed-other rows id r apart) (has_id id row) (has_id r row) refl refl
  where
    by : found (filter (stays id) rows) r ≡ found rows r → (a b : Bool) → has_id id row ≡ a → has_id r row ≡ b → found (filter (stays id) (row ∷ rows)) r ≡ found (row ∷ rows) r
    by later true b h i =
        let off : has_id r row ≡ false = ne_eqb row.0 r (λ same. apart (sym same ∙ eqb-true row.0 id h)) in
        ap (λ (all : List Row). found all r) (gone-hit id row rows h) ∙ later ∙ sym (miss row rows r off)
    by later false true h i = ap (λ (all : List Row). found all r) (gone-miss id row rows h) ∙ hit row (filter (stays id) rows) r i ∙ sym (hit row rows r i)
    by later false false h i = ap (λ (all : List Row). found all r) (gone-miss id row rows h) ∙ miss row (filter (stays id) rows) r i ∙ later ∙ sym (miss row rows r i)

-- a row that is there is below what all are below
found-below : (rows : List Row) (bound id : ℕ) (texts : List (List ℕ)) → All (λ (row : Row). row.0 < bound) rows → found rows id ≡ Some texts → id < bound
found-below [] bound id texts all there = absurd (none-some texts there)
found-below (row ∷ rows) bound id texts all there = by (found-below rows bound id texts (All-tail P row rows all)) (has_id id row) refl
  where
    P : Row → Type 0
    P row = row.0 < bound

    by : (found rows id ≡ Some texts → id < bound) → (b : Bool) → has_id id row ≡ b → id < bound
    by later true h = let first : row.0 < bound = All-head P row rows all in let same = eqb-true row.0 id h in omega arith
    by later false h = later (sym (miss row rows id h) ∙ there)

-- ---- the same of states of a table

module _ (table : TableState) where
  pub with_row-own : (texts : List (List ℕ)) → texts_of table table.next_id ≡ None → texts_of (with_row table texts) table.next_id ≡ Some texts
  with_row-own texts none = added-own table.rows table.next_id texts none

  pub with_row-other : (texts : List (List ℕ)) (r : ℕ) → (r ≡ table.next_id → ⊥) → texts_of (with_row table texts) r ≡ texts_of table r
  with_row-other texts r apart = added-other table.rows table.next_id r texts apart

  pub with_texts-own : (id : ℕ) (old texts : List (List ℕ)) → texts_of table id ≡ Some old → texts_of (with_texts table id texts) id ≡ Some texts
  with_texts-own id old texts there = changed-own table.rows id old texts there

  pub with_texts-other : (id : ℕ) (texts : List (List ℕ)) (r : ℕ) → (r ≡ id → ⊥) → texts_of (with_texts table id texts) r ≡ texts_of table r
  with_texts-other id texts r apart = changed-other table.rows id r texts apart

  pub without_row-own : (id : ℕ) → texts_of (without_row table id) id ≡ None
  without_row-own id = removed-own table.rows id

  pub without_row-other : (id r : ℕ) → (r ≡ id → ⊥) → texts_of (without_row table id) r ≡ texts_of table r
  without_row-other id r apart = removed-other table.rows id r apart

  pub below-next : All (λ (row : Row). row.0 < table.next_id) table.rows → (id : ℕ) (texts : List (List ℕ)) → texts_of table id ≡ Some texts → id < table.next_id
  below-next all id texts there = found-below table.rows table.next_id id texts all there

-- ---- one table of a state

set-same : (state : State) (n : ℕ) (table new : TableState) → slice_get state n ≡ Some table → slice_get (slice_set state n new) n ≡ Some new
set-same [] n table new at = absurd (none-some table at)
set-same (x ∷ state) zero table new at = refl
set-same (x ∷ state) (suc n) table new at = set-same state n table new at

set-other : (state : State) (n t : ℕ) (new : TableState) → (t ≡ n → ⊥) → slice_get (slice_set state n new) t ≡ slice_get state t
set-other [] n t new apart = refl
set-other (x ∷ state) zero zero new apart = absurd (apart refl)
set-other (x ∷ state) zero (suc t) new apart = refl
set-other (x ∷ state) (suc n) zero new apart = refl
set-other (x ∷ state) (suc n) (suc t) new apart = set-other state n t new (λ same. apart (ap suc same))

-- the id that the next row of a table gets, 0 where there is no table
abbrev pub next_at : State → ℕ → ℕ
next_at state table = option_map_or (λ (t : TableState). t.next_id) (slice_get state table) 0

module _ (state : State) (n : ℕ) (table : TableState) (at : slice_get state n ≡ Some table) where
  pub next-at : next_at state n ≡ table.next_id
  next-at = ap (λ (o : Option TableState). option_map_or (λ (t : TableState). t.next_id) o 0) at

  module _ (new : TableState) where
    pub texts-set : (r : ℕ) → row_texts (slice_set state n new) n r ≡ texts_of new r
    texts-set r = ap (option_and_then (λ (t : TableState). texts_of t r)) (set-same state n table new at)

    pub next-set : next_at (slice_set state n new) n ≡ new.next_id
    next-set = ap (λ (o : Option TableState). option_map_or (λ (t : TableState). t.next_id) o 0) (set-same state n table new at)

    -- only the one row of the one table changes
    pub texts-others : (row : ℕ) → ((r : ℕ) → (r ≡ row → ⊥) → texts_of new r ≡ texts_of table r) → (t r : ℕ) → (t ≡ n → r ≡ row → ⊥) → row_texts (slice_set state n new) t r ≡ row_texts state t r
    texts-others row same t r apart = elim (cases_eq t n) [
      | inl here ↦ ap (λ t. row_texts (slice_set state n new) t r) here ∙ texts-set r ∙ same r (apart here) ∙ sym (texts-at state n r table at) ∙ ap (λ t. row_texts state t r) (sym here)
      | inr other ↦ ap (option_and_then (λ (t : TableState). texts_of t r)) (set-other state n t new other)
    ]

    pub next-grows : table.next_id ≤ new.next_id → (t : ℕ) → next_at state t ≤ next_at (slice_set state n new) t
    next-grows more t = elim (cases_eq t n) [
      | inl here ↦
          let was : next_at state t ≡ table.next_id = ap (next_at state) here ∙ next-at in
          let is : next_at (slice_set state n new) t ≡ new.next_id = ap (next_at (slice_set state n new)) here ∙ next-set in
          omega arith
      | inr other ↦
          let same : next_at (slice_set state n new) t ≡ next_at state t = ap (λ (o : Option TableState). option_map_or (λ (t : TableState). t.next_id) o 0) (set-other state n t new other) in
          omega arith
    ]
