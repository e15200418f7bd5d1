-- Each edit leads from a state of a table to a state of it.
use Rattle.std.proofs.Common.{◌≡◌, ℕ, ◌+◌, ◌<◌, ◌≤◌, Bool, true, false, cond, not, List, length, map, filter, get_or, All, Option, None, Some, Result, Ok, ok_or, option_map, slice_set, ap, refl, sym, subst, arith, inl, inr, ◌⊎◌}
use Rattle.std.specs.List.{AllPairs, slice_get}
use Rattle.std.proofs.lemmas.Bool.{eqb-true, leb-true}
use Rattle.std.proofs.lemmas.List.{length-map, length_push, get_or-map}
use Rattle.std.proofs.lemmas.List.Filters.{length-filter_both}
use Rattle.std.proofs.lemmas.Option.{none-some, option_and_then_some, some_pair_parts}
use Rattle.std.specs.Result.{result_ok}
use Rattle.std.proofs.lemmas.List.Elements.{All-push, All-map, All-filter}
use Rattle.std.proofs.lemmas.List.Kept.{AllPairs-filter}
use Rattle.std.proofs.lemmas.List.Quantifiers.{all_pairs_push}
use Rattle.schema_core.specs.Rows.{IsRowOf}
use Rattle.text_lists.specs.declared.limits.Limits.{Limits}
use Rattle.schema_core.specs.declared.schema.Table.{Table}
use Rattle.edit_log.specs.declared.edit.Edit.{Edit}
use Rattle.edit_log.specs.declared.edit.Edit.TheVariants.{Insert, Set, Delete, Fix}
use Rattle.schema_core.specs.Schemas.{attr_place}
use Rattle.schema_core.specs.declared.schema.Attr.{Attr}
use Rattle.bench_core.specs.Edited.{◌>>◌, require_row, attr_of_name, after_insert, after_set, after_delete, after_fix, after_edit}
use Rattle.bench_core.specs.declared.edit.Applied.{Applied}
use Rattle.bench_core.specs.declared.edit.Applied.TheVariants.{Changed}
use Rattle.bench_core.specs.declared.edit.EditFault.TheVariants.{UnknownRow}
use Rattle.bench_core.specs.State.{Row, TableState, IsTableState, has_id, texts_of, with_row, with_texts, without_row}
use Rattle.bench_core.proofs.RowsById.{texts_of-fit}
use Rattle.bench_core.proofs.Fits.{bound_parts, then_parts, required, fits_if_required, fits-set}

pub some_if_ok : {X E : Type 0} (found : Option X) (fault : E) (x : X) → ok_or found fault ≡ Ok x → found ≡ Some x
some_if_ok None fault x is = absurd (cc)
some_if_ok (Some y) fault x is = let same : y ≡ x = cc in ap Some same

placed : (attrs : List Attr) (place : ℕ) (at : ℕ × Attr) (found : Option Attr) → slice_get attrs place ≡ found → option_map (λ attr. (place, attr)) found ≡ Some at → slice_get attrs at.0 ≡ Some at.1
placed attrs place at None there is = absurd (none-some at is)
placed attrs place at (Some attr) there is = let parts = some_pair_parts place at.0 attr at.1 is in rw (← parts.0, ← parts.1) there

-- the attribute that is found by its name stands at its place
attr_of_name-at : (table : Table) (name : List ℕ) (at : ℕ × Attr) → attr_of_name table name ≡ Some at → slice_get table.attrs at.0 ≡ Some at.1
attr_of_name-at table name at is = option_and_then_some _ (attr_place table name) at is (λ place there found. placed table.attrs place at (slice_get table.attrs place) refl found)

-- a table with one more row, of its attributes and at its next id
pub state-with_row : (cell_bytes last_id : ℕ) (table : Table) (state : TableState) (texts : List (List ℕ)) → IsTableState cell_bytes last_id table state → IsRowOf table.attrs cell_bytes texts → state.next_id ≤ last_id
    → IsTableState cell_bytes last_id table (with_row state texts)
state-with_row cell_bytes last_id table state texts is fits id = record {
  fit = All-push (λ (row : Row). IsRowOf table.attrs cell_bytes row.1) state.rows (state.next_id, texts) is.fit fits;
  from_one = All-push (λ (row : Row). 1 ≤ row.0) state.rows (state.next_id, texts) is.from_one is.next.0;
  rising = all_pairs_push (λ (row later : Row). row.0 < later.0) state.rows (state.next_id, texts) is.rising is.below_next;
  below_next = All-push (λ (row : Row). row.0 < state.next_id + 1) state.rows (state.next_id, texts) (λ k d lt. let below = is.below_next k d lt in omega arith) (omega arith);
  next = (omega arith, omega arith);
}

-- a row, or other texts in its place
abbrev pub changed_row : ℕ → List (List ℕ) → Row → Row
changed_row id texts row = cond (has_id id row) (id, texts) row

id_stays : (id : ℕ) (texts : List (List ℕ)) (row : Row) (test : Bool) → has_id id row ≡ test → (cond test (id, texts) row).0 ≡ row.0
id_stays id texts row true is = sym (eqb-true _ _ is)
id_stays id texts row false is = refl

id-changed_row : (id : ℕ) (texts : List (List ℕ)) (row : Row) → (changed_row id texts row).0 ≡ row.0
id-changed_row id texts row = id_stays id texts row (has_id id row) refl

fits_either : (P : List (List ℕ) → Type 0) (id : ℕ) (texts : List (List ℕ)) (row : Row) (test : Bool) → P texts → P row.1 → P (cond test (id, texts) row).1
fits_either P id texts row true new old = new
fits_either P id texts row false new old = old

-- what holds of the ids of all rows still does
ids_stay : (P : ℕ → Type 0) (id : ℕ) (texts : List (List ℕ)) (rows : List Row) → All (λ (row : Row). P row.0) rows → All (λ (row : Row). P row.0) (map (changed_row id texts) rows)
ids_stay P id texts rows all = All-map (λ (row : Row). P row.0) (changed_row id texts) rows (λ k d lt. subst P (sym (id-changed_row id texts (get_or rows k d))) (all k d lt))

rising_stays : (id : ℕ) (texts : List (List ℕ)) (rows : List Row) → AllPairs (λ (row later : Row). row.0 < later.0) rows → AllPairs (λ (row later : Row). row.0 < later.0) (map (changed_row id texts) rows)
rising_stays id texts rows rising i j d before lt =
    let within : j < length rows = rw length-map at lt in
    let first = id-changed_row id texts (get_or rows i d) in
    let second = id-changed_row id texts (get_or rows j d) in
    rw (get_or-map (changed_row id texts) rows i d d (omega arith), get_or-map (changed_row id texts) rows j d d within, first, second) (rising i j d before within)

-- a table with other texts in a row
pub state-with_texts : (cell_bytes last_id : ℕ) (table : Table) (state : TableState) (id : ℕ) (texts : List (List ℕ)) → IsTableState cell_bytes last_id table state → IsRowOf table.attrs cell_bytes texts
    → IsTableState cell_bytes last_id table (with_texts state id texts)
state-with_texts cell_bytes last_id table state id texts is fits = record {
  fit = All-map (λ (row : Row). IsRowOf table.attrs cell_bytes row.1) (changed_row id texts) state.rows (λ k d lt. fits_either (IsRowOf table.attrs cell_bytes) id texts (get_or state.rows k d) (has_id id (get_or state.rows k d)) fits (is.fit k d lt));
  from_one = ids_stay (λ id. 1 ≤ id) id texts state.rows is.from_one;
  rising = rising_stays id texts state.rows is.rising;
  below_next = ids_stay (λ id. id < state.next_id) id texts state.rows is.below_next;
  next = is.next;
}

-- a table without a row
pub state-without_row : (cell_bytes last_id : ℕ) (table : Table) (state : TableState) (id : ℕ) → IsTableState cell_bytes last_id table state → IsTableState cell_bytes last_id table (without_row state id)
state-without_row cell_bytes last_id table state id is =
    let stays : Row → Bool = λ row. not (has_id id row) in
    record {
      fit = All-filter stays (λ (row : Row). IsRowOf table.attrs cell_bytes row.1) state.rows is.fit;
      from_one = All-filter stays (λ (row : Row). 1 ≤ row.0) state.rows is.from_one;
      rising = AllPairs-filter (λ (row later : Row). row.0 < later.0) stays state.rows is.rising;
      below_next = All-filter stays (λ (row : Row). row.0 < state.next_id) state.rows is.below_next;
      next = is.next;
    }

-- ---- each edit

-- what an accepted edit leaves of a table: a state of it, with no more rows but where there was room for one
pub record KeepsTable (limits : Limits) (room : Bool) (table : Table) (before after : TableState) : Type 0 where
  pub state : IsTableState limits.cell_bytes limits.last_id table after
  pub rows : (length after.rows ≤ length before.rows) ⊎ ((room ≡ true) × (length after.rows ≡ length before.rows + 1))

fewer : (p : Row → Bool) (rows : List Row) → length (filter p rows) ≤ length rows
fewer p rows = let both = length-filter_both p (λ row. not (p row)) (λ row. refl) rows in omega arith

same_first : {A B E : Type 0} (a x : A) (b y : B) → ◌≡◌ {A = Result (A × B) E} (Ok (a, b)) (Ok (x, y)) → a ≡ x
same_first {A} {B} {E} a x b y is = (some_pair_parts a x b y (ap (result_ok {E = E}) is)).0

module _ (limits : Limits) (room : Bool) (table : Table) (before after : TableState) (told : Applied) (is : IsTableState limits.cell_bytes limits.last_id table before) where
  after_insert-kept : (values : List (List ℕ)) → after_insert limits room table before values ≡ Ok (after, told) → KeepsTable limits room table before after
  after_insert-kept values made =
      let (passed, others) = then_parts _ _ (after, told) made in
      let (has, later) = then_parts _ _ (after, told) others in
      let (id, done) = then_parts _ _ (after, told) later in
      subst (KeepsTable limits room table before) (same_first _ _ _ _ done) (record {
        state = state-with_row limits.cell_bytes limits.last_id table before values is (fits_if_required limits table values passed) (leb-true _ _ (required _ _ id));
        rows = inr (required _ _ has, length_push before.rows (before.next_id, values));
      })

  after_set-kept : (row : ℕ) (attr value : List ℕ) → after_set limits table before row attr value ≡ Ok (after, told) → KeepsTable limits room table before after
  after_set-kept row attr value made =
      let (texts, found, others) = bound_parts _ _ (after, told) made in
      let (at, named, later) = bound_parts _ _ (after, told) others in
      let (passed, done) = then_parts _ _ (after, told) later in
      let fits = texts_of-fit limits.cell_bytes limits.last_id table before row texts is (some_if_ok _ _ texts found) in
      subst (KeepsTable limits room table before) (same_first _ _ _ _ done) (record {
        state = state-with_texts limits.cell_bytes limits.last_id table before row (slice_set texts at.0 value) is (fits-set limits table texts at.0 at.1 value fits (attr_of_name-at table attr at (some_if_ok _ _ at named)) passed);
        rows = inl (rw length-map (omega arith));
      })

  after_delete-kept : (row : ℕ) → after_delete before row ≡ Ok (after, told) → KeepsTable limits room table before after
  after_delete-kept row made =
      let (texts, found, done) = bound_parts (ok_or (texts_of before row) UnknownRow) (λ (texts : List (List ℕ)). Ok (without_row before row, Changed)) (after, told) made in
      subst (KeepsTable limits room table before) (same_first _ _ _ _ done) (record {
        state = state-without_row limits.cell_bytes limits.last_id table before row is;
        rows = inl (fewer (λ (r : Row). not (has_id row r)) before.rows);
      })

  after_fix-kept : (row : ℕ) (values : List (List ℕ)) → after_fix limits table before row values ≡ Ok (after, told) → KeepsTable limits room table before after
  after_fix-kept row values made =
      let (texts, found, others) = bound_parts (ok_or (texts_of before row) UnknownRow) (λ (texts : List (List ℕ)). require_row limits table values >> Ok (with_texts before row values, Changed)) (after, told) made in
      let (passed, done) = then_parts _ _ (after, told) others in
      subst (KeepsTable limits room table before) (same_first _ _ _ _ done) (record {
        state = state-with_texts limits.cell_bytes limits.last_id table before row values is (fits_if_required limits table values passed);
        rows = inl (rw length-map (omega arith));
      })

  pub table-kept : (edit : Edit) → after_edit limits room table before edit ≡ Ok (after, told) → KeepsTable limits room table before after
  table-kept (Insert name values) made = after_insert-kept values made
  table-kept (Set name row attr value) made = after_set-kept row attr value made
  table-kept (Delete name row) made = after_delete-kept row made
  table-kept (Fix name row values) made = after_fix-kept row values made
