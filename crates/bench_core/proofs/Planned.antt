-- The change that each edit makes to a table, and that it makes the same as the edit makes to the table's state.
use Rattle.std.proofs.Common.{◌≡◌, ℕ, ◌+◌, ◌<◌, true, cond, List, [], ◌∷◌, ◌++◌, map, length, Option, Some, None, Ok, Err, All, IsSome, option_map, nat_le, refl, sym, ap, subst, ◌∙◌, arith, inl, inr, nat_cmp}
use Rattle.std.specs.Option.{ForSome}
use Rattle.std.specs.List.{slice_get, slice_set}
use Rattle.std.specs.Cmp.{nat_cmp_total}
use Rattle.std.proofs.lemmas.Bool.{cases_eq}
use Rattle.std.proofs.lemmas.Bool.Decides.{nat_tests}
use Rattle.std.proofs.lemmas.Option.{none-some, same_Some}
use Rattle.std.proofs.lemmas.List.{length-map}
use Rattle.std.proofs.lemmas.List.Elements.{All-head, All-tail}
use Rattle.std.specs.FinMap as finmap
use Rattle.std.specs.FinMap.Entries as entry
use Rattle.schema_core.specs.Schemas.{attr_place}
use Rattle.text_lists.specs.declared.limits.Limits.{Limits}
use Rattle.schema_core.specs.declared.schema.Attr.{Attr}
use Rattle.schema_core.specs.declared.schema.Table.{Table}
use Rattle.value_pool.specs.Pool.{KeepsIds}
use Rattle.bench_core.specs.State.{Row, TableState, IsTableState, has_id, texts_of, with_row, with_texts, without_row}
use Rattle.bench_core.specs.Edited.{after_insert, after_set, after_delete, after_fix, require_row, require_text}
use Rattle.bench_core.specs.declared.edit.Applied.TheVariants.{Inserted, Changed}
use Rattle.bench_core.specs.declared.edit.EditFault.TheVariants.{UnknownRow, UnknownAttr}
use Rattle.bench_core.specs.declared.edit.EditFault.{EditFault}
use Rattle.bench_core.specs.Stored.{Stored, StoredRow, text_of, row_of, table_state, HaveTexts, RowsHaveTexts}
use Rattle.bench_core.proofs.Entries.{below-stored, found, put-last, put-there, taken}
use Rattle.row_takers.proofs.Kept.{AreIds}
use Rattle.bench_core.proofs.Named.{stored-rows-kept, entries-remove}
use Rattle.bench_core.proofs.RowsById.{length-texts_of}
use Rattle.bench_core.proofs.Steps.{after_set-done}

pub for_some : {X : Type 0} (P : X → Type 0) (x : X) → P x → ForSome (Some x) P
for_some P x holds y is = subst P (same_Some x y is) holds

pub for_none : {X : Type 0} (P : X → Type 0) → ForSome None P
for_none P y is = absurd (none-some y is)

-- ---- a row that is there

-- what holds of all rows holds of one that is found
pub found-has : (P : ℕ → List ℕ → Type 0) (id : ℕ) (values : List ℕ) (rows : List StoredRow) → All (λ (row : StoredRow). P row.0 row.1) rows → entry.find nat_cmp id rows ≡ Some values → P id values
found-has P id values [] all is = absurd (none-some values is)
found-has P id values (row ∷ rows) all is =
    let first = All-head (λ (row : StoredRow). P row.0 row.1) row rows all in
    let rest = All-tail (λ (row : StoredRow). P row.0 row.1) row rows all in
    elim (cases_eq row.0 id) [
      | inl same ↦
          let here : row.1 ≡ values = same_Some row.1 values (grind (arith, nat_tests, same, is)) in
          subst (λ v. P id v) here (subst (λ k. P k row.1) same first)
      | inr other ↦
          let later : entry.find nat_cmp id rows ≡ Some values = grind (arith, nat_tests, other, is) in
          found-has P id values rows rest later
    ]

module _ (texts : List (List ℕ)) (table : Stored) (id : ℕ) where
  at-entries : (ids : Option (List ℕ)) → finmap.get table.rows id ≡ ids → entry.find nat_cmp id (finmap.entries table.rows) ≡ ids
  at-entries ids at = sym (finmap.get-entries table.rows id) ∙ at

  pub texts-there : (ids : List ℕ) → finmap.get table.rows id ≡ Some ids → texts_of (table_state texts table) id ≡ Some (map (text_of texts) ids)
  texts-there ids at = found texts id (finmap.entries table.rows) ∙ ap (option_map (map (text_of texts))) (at-entries (Some ids) at)

  pub texts-absent : finmap.get table.rows id ≡ None → texts_of (table_state texts table) id ≡ None
  texts-absent at = found texts id (finmap.entries table.rows) ∙ ap (option_map (map (text_of texts))) (at-entries None at)

  pub have-texts : (ids : List ℕ) → RowsHaveTexts texts table.rows → finmap.get table.rows id ≡ Some ids → HaveTexts texts ids
  have-texts ids have at = found-has (λ id ids. HaveTexts texts ids) id ids (finmap.entries table.rows) have (at-entries (Some ids) at)

-- where all rows lie below the next id, a row that is there does
pub below-row : (texts : List (List ℕ)) (table : Stored) (id : ℕ) (ids : List ℕ) → All (λ (row : Row). row.0 < table.next) (map (row_of texts) (finmap.entries table.rows)) → finmap.get table.rows id ≡ Some ids → id < table.next
below-row texts table id ids below at =
    let rows = finmap.entries table.rows in
    found-has (λ id ids. id < table.next) id ids rows (below-stored texts table.next rows below) (at-entries texts table id (Some ids) at)

-- its tuple is as wide as its table
pub wide : (texts : List (List ℕ)) (stored : Stored) (id cell_bytes last_id : ℕ) (table : Table) (ids : List ℕ) → IsTableState cell_bytes last_id table (table_state texts stored) → finmap.get stored.rows id ≡ Some ids
    → length ids ≡ length table.attrs
wide texts stored id cell_bytes last_id table ids is at =
    let long = length-texts_of cell_bytes last_id table (table_state texts stored) id (map (text_of texts) ids) is (texts-there texts stored id ids at) in
    sym (length-map ids (text_of texts)) ∙ long

-- ---- each edit of a table, as a change of it

same_state : (rows others : List Row) (next : ℕ) → rows ≡ others → ◌≡◌ {A = TableState} (record { rows = rows; next_id = next }) (record { rows = others; next_id = next })
same_state rows others next is = λ i. record { rows = is i; next_id = next }

module _ (old new : List (List ℕ)) (kept : KeepsIds old new) (table : Stored) (have : RowsHaveTexts old table.rows) where
  rows-same : map (row_of new) (finmap.entries table.rows) ≡ map (row_of old) (finmap.entries table.rows)
  rows-same = stored-rows-kept old new kept (finmap.entries table.rows) have

  module _ (ids : List ℕ) (values : List (List ℕ)) (are : AreIds new ids values) where
    pub inserted : All (λ (row : Row). row.0 < table.next) (map (row_of old) (finmap.entries table.rows))
        → table_state new (record { rows = finmap.insert table.rows table.next ids; next = table.next + 1 }) ≡ with_row (table_state old table) values
    inserted below =
        let below_new : All (λ (row : Row). row.0 < table.next) (map (row_of new) (finmap.entries table.rows)) = subst (λ rows. All (λ (row : Row). row.0 < table.next) rows) (sym rows-same) below in
        same_state _ _ (table.next + 1)
        (ap (map (row_of new)) (finmap.entries-insert nat_cmp_total table.rows table.next ids)
        ∙ put-last new table.next ids (finmap.entries table.rows) below_new
        ∙ (λ i. rows-same i ++ (table.next, are.same i) ∷ []))

    pub changed : (id : ℕ) (others : List ℕ) → finmap.get table.rows id ≡ Some others → table_state new (record { rows = finmap.insert table.rows id ids; next = table.next }) ≡ with_texts (table_state old table) id values
    changed id others at =
        let there : IsSome (entry.find nat_cmp id (finmap.entries table.rows)) = rw (← finmap.get-entries table.rows id, at) refl in
        same_state _ _ table.next
        (ap (map (row_of new)) (finmap.entries-insert nat_cmp_total table.rows id ids)
        ∙ put-there new id ids (finmap.entries table.rows) (finmap.entries_sorted table.rows) there
        ∙ (λ i. map (λ (row : Row). cond (has_id id row) (id, are.same i) row) (rows-same i)))

  pub deleted : (id : ℕ) → table_state old (record { rows = finmap.remove table.rows id; next = table.next }) ≡ without_row (table_state old table) id
  deleted id = same_state _ _ table.next (ap (map (row_of old)) (entries-remove table.rows id) ∙ taken old id (finmap.entries table.rows))

-- ---- the edits, once all tests are passed

pub delete-absent : (texts : List (List ℕ)) (table : Stored) (id : ℕ) → finmap.get table.rows id ≡ None → after_delete (table_state texts table) id ≡ Err UnknownRow
delete-absent texts table id at = rw (texts-absent texts table id at) refl

pub set-absent : (limits : Limits) (declared : Table) (texts : List (List ℕ)) (table : Stored) (id : ℕ) (name value : List ℕ) → finmap.get table.rows id ≡ None → after_set limits declared (table_state texts table) id name value ≡ Err UnknownRow
set-absent limits declared texts table id name value at = rw (texts-absent texts table id at) refl

pub fix-absent : (limits : Limits) (declared : Table) (texts : List (List ℕ)) (table : Stored) (id : ℕ) (values : List (List ℕ)) → finmap.get table.rows id ≡ None → after_fix limits declared (table_state texts table) id values ≡ Err UnknownRow
fix-absent limits declared texts table id values at = rw (texts-absent texts table id at) refl

pub set-no-attr : (limits : Limits) (declared : Table) (texts : List (List ℕ)) (table : Stored) (id : ℕ) (ids name value : List ℕ) → finmap.get table.rows id ≡ Some ids → attr_place declared name ≡ None → after_set limits declared (table_state texts table) id name value ≡ Err UnknownAttr
set-no-attr limits declared texts table id ids name value at none = rw (texts-there texts table id ids at, none) refl

pub set-refused : (limits : Limits) (declared : Table) (texts : List (List ℕ)) (table : Stored) (id : ℕ) (ids name value : List ℕ) (place : ℕ) (attr : Attr) (refusal : EditFault) → finmap.get table.rows id ≡ Some ids → attr_place declared name ≡ Some place
    → slice_get declared.attrs place ≡ Some attr → require_text limits attr value ≡ Err refusal → after_set limits declared (table_state texts table) id name value ≡ Err refusal
set-refused limits declared texts table id ids name value place attr refusal at named there refused = rw (texts-there texts table id ids at, named, there, refused) refl

pub fix-refused : (limits : Limits) (declared : Table) (texts : List (List ℕ)) (table : Stored) (id : ℕ) (ids : List ℕ) (values : List (List ℕ)) (refusal : EditFault) → finmap.get table.rows id ≡ Some ids
    → require_row limits declared values ≡ Err refusal → after_fix limits declared (table_state texts table) id values ≡ Err refusal
fix-refused limits declared texts table id ids values refusal at refused = rw (texts-there texts table id ids at, refused) refl

pub delete-done : (texts : List (List ℕ)) (table : Stored) (id : ℕ) (ids : List ℕ) → RowsHaveTexts texts table.rows → finmap.get table.rows id ≡ Some ids
    → after_delete (table_state texts table) id ≡ Ok (table_state texts (record { rows = finmap.remove table.rows id; next = table.next }), Changed)
delete-done texts table id ids have at =
    let same = deleted texts texts (λ text id has. has) table have id in
    rw (texts-there texts table id ids at) (ap (λ (state : TableState). Ok (state, Changed)) (sym same))

module _ (old new : List (List ℕ)) (kept : KeepsIds old new) (table : Stored) (have : RowsHaveTexts old table.rows) (limits : Limits) (declared : Table) where
  pub insert-done : (ids : List ℕ) (values : List (List ℕ)) → AreIds new ids values → IsTableState limits.cell_bytes limits.last_id declared (table_state old table) → require_row limits declared values ≡ Ok tt → nat_le table.next limits.last_id ≡ true
      → after_insert limits true declared (table_state old table) values ≡ Ok (table_state new (record { rows = finmap.insert table.rows table.next ids; next = table.next + 1 }), Inserted table.next)
  insert-done ids values are is passed left =
      let same = inserted old new kept table have ids values are is.below_next in
      rw (passed, left) (ap (λ (state : TableState). Ok (state, Inserted table.next)) (sym same))

  pub fix-done : (id : ℕ) (others ids : List ℕ) (values : List (List ℕ)) → finmap.get table.rows id ≡ Some others → AreIds new ids values → require_row limits declared values ≡ Ok tt
      → after_fix limits declared (table_state old table) id values ≡ Ok (table_state new (record { rows = finmap.insert table.rows id ids; next = table.next }), Changed)
  fix-done id others ids values at are passed =
      let same = changed old new kept table have ids values are id others at in
      rw (texts-there old table id others at, passed) (ap (λ (state : TableState). Ok (state, Changed)) (sym same))

  pub set-done : (id : ℕ) (others ids : List ℕ) (name value : List ℕ) (place : ℕ) (attr : Attr) → finmap.get table.rows id ≡ Some others → AreIds new ids (slice_set (map (text_of old) others) place value)
      → attr_place declared name ≡ Some place → slice_get declared.attrs place ≡ Some attr → require_text limits attr value ≡ Ok tt
      → after_set limits declared (table_state old table) id name value ≡ Ok (table_state new (record { rows = finmap.insert table.rows id ids; next = table.next }), Changed)
  set-done id others ids name value place attr at are named there passed =
      let same = changed old new kept table have ids (slice_set (map (text_of old) others) place value) are id others at in
      after_set-done limits declared (table_state old table) id name value (map (text_of old) others) place attr (texts-there old table id others at) named there passed
      ∙ ap (λ (state : TableState). Ok (state, Changed)) (sym same)
