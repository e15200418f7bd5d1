-- What an accepted edit does to the rows, as its entry says it.
use Rattle.std.proofs.Common.{◌≡◌, ℕ, ◌<◌, ◌≤◌, Bool, true, false, List, [], get_or, Option, Some, None, Result, Ok, ok_or, option_map, option_and_then, slice_get, slice_set, refl, sym, ◌∙◌, ap, subst, arith, true≢false}
use Rattle.std.specs.Prelude.{⊤, nat_le}
use Rattle.std.specs.Option.{option_map_or}
use Rattle.std.specs.Result.{result_ok}
use Rattle.std.specs.Str.{bytes_eq}
use Rattle.std.proofs.lemmas.Bool.{eq-eqb}
use Rattle.std.proofs.lemmas.Option.{none-some, same_Some, some_pair_parts, slice_get-get_or}
use Rattle.std.proofs.lemmas.List.Quantifiers.{position-Some}
use Rattle.std.proofs.lemmas.Slice.Eq.{bytes_eq-Decides}
use Rattle.text_lists.specs.declared.limits.Limits.{Limits}
use Rattle.schema_core.specs.Schemas.{table_place}
use Rattle.schema_core.specs.declared.schema.Attr.{Attr}
use Rattle.schema_core.specs.declared.schema.Schema.{Schema}
use Rattle.schema_core.specs.declared.schema.Table.{Table}
use Rattle.rule_model.specs.Books.{Book}
use Rattle.edit_log.specs.declared.edit.Edit.{Edit}
use Rattle.edit_log.specs.declared.edit.Edit.TheVariants.{Insert, Set, Delete, Fix}
use Rattle.desk_entries.specs.Entries.{Entry, is_on}
use Rattle.bench_core.specs.Answers.{row_texts}
use Rattle.desk_state.specs.Desk.{entry_in, row_of_edit, table_name, table_of_edit}
use Rattle.bench_core.specs.Edited.{Step, TableAt, ◌>>=◌, ◌>>◌, after_delete, after_edit, after_fix, after_insert, after_set, attr_of_name, edited, name_of_table, require, require_row, require_text, table_at, table_of_name}
use Rattle.bench_core.specs.Sizes.{has_room}
use Rattle.bench_core.specs.State.{State, TableState, texts_of, with_row, with_texts, without_row}
use Rattle.bench_core.specs.declared.edit.Applied.{Applied}
use Rattle.bench_core.specs.declared.edit.Applied.TheVariants.{Changed, Inserted}
use Rattle.bench_core.specs.declared.edit.EditFault.TheVariants.{IdsSpent, RowsFull, UnknownAttr, UnknownRow, UnknownTable}
use Rattle.bench_core.proofs.Fits.{bound_parts, then_parts}
use Rattle.bench_core.proofs.Kept.{some_if_ok}
use Rattle.bench_core.proofs.RowsAt.{texts-at}
use Rattle.desk_state.proofs.RowsEdited.{next-at, next-grows, next-set, next_at, texts-others, texts-set, with_row-other, with_row-own, with_texts-other, with_texts-own, without_row-other, without_row-own}
use Rattle.desk_state.proofs.Standing.{OwnRow}
use Rattle.desk_state.proofs.Standing.OwnRow.{changed, deleted, inserted}

-- ---- one table changes

-- the entry's row alone changes, and as the entry says
pub record RowMade (state after : State) (e : Entry) : Type 0 where
  pub others : (t r : ℕ) → is_on t r e ≡ false → row_texts after t r ≡ row_texts state t r
  pub own : OwnRow e (row_texts state e.table e.row) (row_texts after e.table e.row) (next_at state e.table)
  pub grows : (t : ℕ) → next_at state t ≤ next_at after t
  pub known : e.row < next_at after e.table

off-apart : (e : Entry) (t r n row : ℕ) → is_on t r e ≡ false → e.table ≡ n → e.row ≡ row → t ≡ n → r ≡ row → ⊥
off-apart e t r n row off table at here same = true≢false (sym (let on : is_on t r e ≡ true = rw (eq-eqb e.table t (table ∙ sym here), eq-eqb e.row r (at ∙ sym same)) refl in on) ∙ off)

module _ (state : State) (n : ℕ) (table new : TableState) (at : slice_get state n ≡ Some table) (e : Entry) (of_table : e.table ≡ n) where
  was-own : row_texts state e.table e.row ≡ texts_of table e.row
  was-own = ap (λ t. row_texts state t e.row) of_table ∙ texts-at state n e.row table at

  is-own : row_texts (slice_set state n new) e.table e.row ≡ texts_of new e.row
  is-own = ap (λ t. row_texts (slice_set state n new) t e.row) of_table ∙ texts-set state n table at new e.row

  next-own : next_at state e.table ≡ table.next_id
  next-own = ap (next_at state) of_table ∙ next-at state n table at

  next-now : next_at (slice_set state n new) e.table ≡ new.next_id
  next-now = ap (next_at (slice_set state n new)) of_table ∙ next-set state n table at new

  row-made : ((r : ℕ) → (r ≡ e.row → ⊥) → texts_of new r ≡ texts_of table r) → OwnRow e (texts_of table e.row) (texts_of new e.row) table.next_id → table.next_id ≤ new.next_id → e.row < new.next_id
      → RowMade state (slice_set state n new) e
  row-made others own grows known = record {
    others = λ t r off. texts-others state n table at new e.row others t r (off-apart e t r n e.row off of_table refl);
    own = subst (λ o. OwnRow e o (row_texts (slice_set state n new) e.table e.row) (next_at state e.table)) (sym was-own)
        (subst (λ o. OwnRow e (texts_of table e.row) o (next_at state e.table)) (sym is-own) (subst (OwnRow e (texts_of table e.row) (texts_of new e.row)) (sym next-own) own));
    grows = next-grows state n table at new grows;
    known = rw next-now known;
  }

-- ---- the table that an edit names

record TableParts (schema : Schema) (state : State) (name : List ℕ) (at : TableAt) : Type 0 where
  place : table_place schema name ≡ Some at.number
  rows : slice_get state at.number ≡ Some at.state

table-parts : (schema : Schema) (state : State) (name : List ℕ) (at : TableAt) → table_of_name schema state name ≡ Some at → TableParts schema state name at
table-parts schema state name at is = by-place (table_place schema name) refl is
  where
    by-rows : (n : ℕ) (table : Table) (rows : Option TableState) → table_place schema name ≡ Some n → slice_get state n ≡ rows → option_map (λ (rows : TableState). record { number = n; table = table; state = rows }) rows ≡ Some at
        → TableParts schema state name at
    by-rows n table None place there is = absurd (none-some at is)
    by-rows n table (Some rows) place there is =
        let same = same_Some _ at is in
        let number : n ≡ at.number = ap (λ (a : TableAt). a.number) same in
        record {
          place = place ∙ ap Some number;
          rows = ap (slice_get state) (sym number) ∙ there ∙ ap (λ (a : TableAt). Some a.state) same;
        }

    by-table : (n : ℕ) (table : Option Table) → table_place schema name ≡ Some n → option_and_then (λ (table : Table). option_map (λ (rows : TableState). record { number = n; table = table; state = rows }) (slice_get state n)) table ≡ Some at
        → TableParts schema state name at
    by-table n None place is = absurd (none-some at is)
    by-table n (Some table) place is = by-rows n table (slice_get state n) place refl is

    by-place : (place : Option ℕ) → table_place schema name ≡ place → option_and_then (table_at schema state) place ≡ Some at → TableParts schema state name at
    by-place None place is = absurd (none-some at is)
    by-place (Some n) place is = by-table n (slice_get schema.tables n) place is

-- the table of that place has that name
pub place-named : (schema : Schema) (name : List ℕ) (n : ℕ) → table_place schema name ≡ Some n → table_name schema n ≡ name
place-named schema name n place =
    let nowhere : Table = record { name = []; file = []; master = false; attrs = [] } in
    let (within, same, before) = position-Some (λ (t : Table). bytes_eq t.name name) schema.tables n nowhere place in
    ap (λ o. option_map_or (λ (t : Table). t.name) o []) (slice_get-get_or schema.tables n nowhere within) ∙ (bytes_eq-Decides (get_or schema.tables n nowhere).name name).0 same

-- ---- what each edit makes of its table

pub ok-parts : {A B E : Type 0} (a x : A) (b y : B) → ◌≡◌ {A = Result (A × B) E} (Ok (a, b)) (Ok (x, y)) → (a ≡ x) × (b ≡ y)
ok-parts {A} {B} {E} a x b y is = some_pair_parts a x b y (ap (result_ok {E = E}) is)

-- other texts stand in a row that was there
record IsPut (table new : TableState) (told : Applied) (row : ℕ) (old texts : List (List ℕ)) : Type 0 where
  there : texts_of table row ≡ Some old
  is : with_texts table row texts ≡ new
  tells : Changed ≡ told

module _ (limits : Limits) (room : Bool) (declared : Table) (table new : TableState) (told : Applied) where
  insert-is : (values : List (List ℕ)) → after_insert limits room declared table values ≡ Ok (new, told) → (with_row table values ≡ new) × (Inserted table.next_id ≡ told)
  insert-is values made =
      let (passed, others) = then_parts (require_row limits declared values) _ (new, told) made in
      let (has, later) = then_parts (require room RowsFull) _ (new, told) others in
      let (id, done) = then_parts (require (nat_le table.next_id limits.last_id) IdsSpent) _ (new, told) later in
      ok-parts _ _ _ _ done

  set-is : (row : ℕ) (attr value : List ℕ) → after_set limits declared table row attr value ≡ Ok (new, told) → (old : List (List ℕ)) × (texts : List (List ℕ)) × IsPut table new told row old texts
  set-is row attr value made =
      let is : List (List ℕ) → ℕ × Attr → Step (TableState × Applied) = λ texts at. Ok (with_texts table row (slice_set texts at.0 value), Changed) in
      let put : List (List ℕ) → ℕ × Attr → Step (TableState × Applied) = λ texts at. require_text limits at.1 value >> is texts at in
      let (old, found, others) = bound_parts (ok_or (texts_of table row) UnknownRow) (λ (texts : List (List ℕ)). ok_or (attr_of_name declared attr) UnknownAttr >>= put texts) (new, told) made in
      let (at, named, later) = bound_parts (ok_or (attr_of_name declared attr) UnknownAttr) (put old) (new, told) others in
      let (passed, done) = then_parts (require_text limits at.1 value) (is old at) (new, told) later in
      let parts = ok-parts _ _ _ _ done in
      (old, slice_set old at.0 value, record { there = some_if_ok _ _ old found; is = parts.0; tells = parts.1 })

  delete-is : (row : ℕ) → after_delete table row ≡ Ok (new, told) → (old : List (List ℕ)) × (texts_of table row ≡ Some old) × (without_row table row ≡ new) × (Changed ≡ told)
  delete-is row made =
      let (old, found, done) = bound_parts (ok_or (texts_of table row) UnknownRow) (λ (texts : List (List ℕ)). Ok (without_row table row, Changed)) (new, told) made in
      let parts = ok-parts _ _ _ _ done in
      (old, some_if_ok _ _ old found, parts.0, parts.1)

  fix-is : (row : ℕ) (values : List (List ℕ)) → after_fix limits declared table row values ≡ Ok (new, told) → (old : List (List ℕ)) × IsPut table new told row old values
  fix-is row values made =
      let is : Step (TableState × Applied) = Ok (with_texts table row values, Changed) in
      let (old, found, others) = bound_parts (ok_or (texts_of table row) UnknownRow) (λ (texts : List (List ℕ)). require_row limits declared values >> is) (new, told) made in
      let (passed, done) = then_parts (require_row limits declared values) is (new, told) others in
      let parts = ok-parts _ _ _ _ done in
      (old, record { there = some_if_ok _ _ old found; is = parts.0; tells = parts.1 })

-- ---- an accepted edit

-- what is known of the row behind an edit that takes one back
abbrev pub Leaves : Edit → Entry → Option (List (List ℕ)) → Type 0
Leaves (Insert name values) e is = e.before ≡ None
Leaves (Set name row attr value) e is = ⊤
Leaves (Delete name row) e is = (e.row ≡ row) × (is ≡ None)
Leaves (Fix name row values) e is = (e.row ≡ row) × (is ≡ Some values)

pub record EntryMade (schema : Schema) (state after : State) (edit : Edit) (e : Entry) : Type 0 where
  pub row : RowMade state after e
  pub leaves : Leaves edit e (row_texts after e.table e.row)
  pub place : table_place schema (name_of_table edit) ≡ Some e.table

-- no row has the next id of its table, or a greater one
abbrev pub AreBelow : State → Type 0
AreBelow state = (t r : ℕ) (texts : List (List ℕ)) → row_texts state t r ≡ Some texts → r < next_at state t

module _ (rules : Book) (limits : Limits) (state : State) (below : AreBelow state) (editor : List ℕ) (takes : Option ℕ) where
  module _ (n : ℕ) (declared : Table) (table : TableState) (at : slice_get state n ≡ Some table) (room : Bool) (new : TableState) (told : Applied) where
    next-free : texts_of table table.next_id ≡ None
    next-free = by (texts_of table table.next_id) refl
      where
        by : (o : Option (List (List ℕ))) → texts_of table table.next_id ≡ o → texts_of table table.next_id ≡ None
        by None is = is
        by (Some texts) is =
            let low = below n table.next_id texts (texts-at state n table.next_id table at ∙ is) in
            let same = next-at state n table at in
            absurd (omega arith)

    there-below : (row : ℕ) (old : List (List ℕ)) → texts_of table row ≡ Some old → row < table.next_id
    there-below row old there =
        let low = below n row old (texts-at state n row table at ∙ there) in
        let same = next-at state n table at in
        omega arith

    insert-made : (e : Entry) (values : List (List ℕ)) → e.table ≡ n → e.row ≡ table.next_id → e.before ≡ None → e.deletes ≡ false → RowMade state (slice_set state n (with_row table values)) e
    insert-made e values of_table row before stays =
        row-made state n table (with_row table values) at e of_table
        (λ r apart. with_row-other table values r (λ same. apart (same ∙ sym row)))
        (inserted values before stays row (ap (texts_of (with_row table values)) row ∙ with_row-own table values next-free))
        (omega arith) (omega arith)

    put-made : (e : Entry) (row : ℕ) (old texts : List (List ℕ)) → e.table ≡ n → e.row ≡ row → e.before ≡ Some old → e.deletes ≡ false → texts_of table row ≡ Some old → RowMade state (slice_set state n (with_texts table row texts)) e
    put-made e row old texts of_table of_row before stays there =
        let low = there-below row old there in
        row-made state n table (with_texts table row texts) at e of_table
        (λ r apart. with_texts-other table row texts r (λ same. apart (same ∙ sym of_row)))
        (changed old texts before stays (ap (texts_of table) of_row ∙ there) (ap (texts_of (with_texts table row texts)) of_row ∙ with_texts-own table row old texts there))
        (omega arith) (omega arith)

    delete-made : (e : Entry) (row : ℕ) (old : List (List ℕ)) → e.table ≡ n → e.row ≡ row → e.before ≡ Some old → e.deletes ≡ true → texts_of table row ≡ Some old → RowMade state (slice_set state n (without_row table row)) e
    delete-made e row old of_table of_row before goes there =
        let low = there-below row old there in
        row-made state n table (without_row table row) at e of_table
        (λ r apart. without_row-other table row r (λ same. apart (same ∙ sym of_row)))
        (deleted old before goes (ap (texts_of table) of_row ∙ there) (ap (texts_of (without_row table row)) of_row ∙ without_row-own table row))
        (omega arith) (omega arith)

    -- the entry of an edit of this table
    abbrev e : Edit → Entry
    e edit = entry_in rules state editor takes edit (row_of_edit edit told)

    of-place : (edit : Edit) → table_place rules.schema (name_of_table edit) ≡ Some n → (e edit).table ≡ n
    of-place edit place = ap (λ o. option_map_or (λ number. number) o 0) place

    -- the texts of a row that the edit names
    named-before : (edit : Edit) (row : ℕ) (old : List (List ℕ)) → table_place rules.schema (name_of_table edit) ≡ Some n → texts_of table row ≡ Some old → row_texts state (table_of_edit rules edit) row ≡ Some old
    named-before edit row old place there = ap (λ t. row_texts state t row) (of-place edit place) ∙ texts-at state n row table at ∙ there

    abbrev Made : Edit → Type 0
    Made edit = RowMade state (slice_set state n new) (e edit) × Leaves edit (e edit) (row_texts (slice_set state n new) (e edit).table (e edit).row)

    -- the texts of the entry's row after the edit
    own-after : (edit : Edit) → table_place rules.schema (name_of_table edit) ≡ Some n → row_texts (slice_set state n new) (e edit).table (e edit).row ≡ texts_of new (e edit).row
    own-after edit place = ap (λ t. row_texts (slice_set state n new) t (e edit).row) (of-place edit place) ∙ texts-set state n table at new (e edit).row

    table-made : (edit : Edit) → table_place rules.schema (name_of_table edit) ≡ Some n → after_edit limits room declared table edit ≡ Ok (new, told) → Made edit
    table-made (Insert name values) place made =
        let (is, tells) = insert-is limits room declared table new told values made in (
          subst (λ t. RowMade state (slice_set state n t) (e (Insert name values))) is
              (insert-made (e (Insert name values)) values (of-place (Insert name values) place) (ap (row_of_edit (Insert name values)) (sym tells)) refl refl),
          refl,
        )
    table-made (Set name row attr value) place made =
        let (old, texts, put) = set-is limits room declared table new told row attr value made in
        let of_row : (e (Set name row attr value)).row ≡ row = ap (row_of_edit (Set name row attr value)) (sym put.tells) in (
          subst (λ t. RowMade state (slice_set state n t) (e (Set name row attr value))) put.is
              (put-made (e (Set name row attr value)) row old texts (of-place (Set name row attr value) place) of_row (named-before (Set name row attr value) row old place put.there) refl put.there),
          tt,
        )
    table-made (Delete name row) place made =
        let (old, there, is, tells) = delete-is limits room declared table new told row made in
        let of_row : (e (Delete name row)).row ≡ row = ap (row_of_edit (Delete name row)) (sym tells) in (
          subst (λ t. RowMade state (slice_set state n t) (e (Delete name row))) is
              (delete-made (e (Delete name row)) row old (of-place (Delete name row) place) of_row (named-before (Delete name row) row old place there) refl there),
          (of_row, own-after (Delete name row) place ∙ ap (texts_of new) of_row ∙ ap (λ t. texts_of t row) (sym is) ∙ without_row-own table row),
        )
    table-made (Fix name row values) place made =
        let (old, put) = fix-is limits room declared table new told row values made in
        let of_row : (e (Fix name row values)).row ≡ row = ap (row_of_edit (Fix name row values)) (sym put.tells) in (
          subst (λ t. RowMade state (slice_set state n t) (e (Fix name row values))) put.is
              (put-made (e (Fix name row values)) row old values (of-place (Fix name row values) place) of_row (named-before (Fix name row values) row old place put.there) refl put.there),
          (of_row, own-after (Fix name row values) place ∙ ap (texts_of new) of_row ∙ ap (λ t. texts_of t row) (sym put.is) ∙ with_texts-own table row old values put.there),
        )

  pub entry-made : (edit : Edit) (after : State) (told : Applied) → edited rules limits state edit ≡ Ok (after, told) → EntryMade rules.schema state after edit (entry_in rules state editor takes edit (row_of_edit edit told))
  entry-made edit after told is =
      let step_at : TableAt → Step (TableState × Applied) = λ at. after_edit limits (has_room rules limits state at.number) at.table at.state edit in
      let put : TableAt → TableState × Applied → Step (State × Applied) = λ at step. Ok (slice_set state at.number step.0, step.1) in
      let (at, named, others) = bound_parts (ok_or (table_of_name rules.schema state (name_of_table edit)) UnknownTable) (λ (at : TableAt). step_at at >>= put at) (after, told) is in
      let (step, made, done) = bound_parts (step_at at) (put at) (after, told) others in
      let ends = ok-parts _ _ _ _ done in
      let parts = table-parts rules.schema state (name_of_table edit) at (some_if_ok _ _ at named) in
      let room = has_room rules limits state at.number in
      let both = table-made at.number at.table at.state parts.rows room step.0 step.1 edit parts.place made in
      subst (λ (s : State). EntryMade rules.schema state s edit (entry_in rules state editor takes edit (row_of_edit edit told))) ends.0
      (subst (λ (t : Applied). EntryMade rules.schema state (slice_set state at.number step.0) edit (entry_in rules state editor takes edit (row_of_edit edit t))) ends.1
      (record {
        row = both.0;
        leaves = both.1;
        place = parts.place ∙ ap Some (sym (of-place at.number at.table at.state parts.rows room step.0 step.1 edit parts.place));
      }))
