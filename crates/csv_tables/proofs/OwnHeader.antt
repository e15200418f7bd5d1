-- The header that has a table's attributes, each once and in their order, is without faults, and a row under it
-- stays as it is.
use Rattle.std.specs.Prelude.{All, find, is_none, is_some, map, nat_lt, not, position}
use Rattle.std.specs.List.{AllZip, list_all, prefix_len}
use Rattle.std.specs.Str.{bytes_eq, is_utf8}
use Rattle.std.proofs.Common.{◌≡◌, ◌≢◌, ◌<◌, ◌≤◌, ◌+◌, ◌∷◌, ◌∙◌, [], ℕ, zero, suc, List, Bool, Some, None, length, get_or, take, drop, cond, refl, sym, ap, true, false, inl, inr, arith}
use Rattle.std.proofs.Math.ListN.{drop_of_length-le}
use Rattle.std.proofs.lemmas.Bool.{cases_Bool, eq-eqb, le-ltb}
use Rattle.std.proofs.lemmas.List.{get_or-map, get_or_default, length-map, same_lists}
use Rattle.std.proofs.lemmas.List.Folds.{list_any_at, list_any_none}
use Rattle.std.proofs.lemmas.Option.{unwrap_or-slice_get}
use Rattle.std.proofs.lemmas.Slice.Eq.{bytes_eq-Decides}
use Rattle.schema_core.specs.Schemas.{Admits, admits, attr_place, names_of_attrs}
use Rattle.text_lists.specs.Repeats.{AreDistinct}
use Rattle.text_lists.specs.declared.limits.Limits.{Limits}
use Rattle.schema_core.specs.declared.schema.Attr.{Attr}
use Rattle.schema_core.specs.declared.schema.Domain.{Domain}
use Rattle.schema_core.specs.declared.schema.Domain.TheVariants.{AnyText, Finite}
use Rattle.schema_core.specs.declared.schema.Table.{Table}
use Rattle.schema_core.specs.Rows.{IsRowOf}
use Rattle.std.proofs.lemmas.Slice.Zip.{AllZip-long}
use Rattle.csv_tables.specs.TableFiles.{column_fault, column_place, domain_fault, field_of, header_fault, lacking_fault, record_fault, records_fault, row_of, text_fault}
use Rattle.csv_tables.proofs.FieldFacts.{position-at, position-none-take}
use Rattle.csv_tables.proofs.HeaderFacts.{column_fault-passes}

-- a row has a text for each attribute
pub row-width : {attrs : List Attr} {most : ℕ} {row : List (List ℕ)} → IsRowOf attrs most row → length row ≡ length attrs
row-width {attrs} {most} {row} is = AllZip-long (λ (a : Attr) (text : List ℕ). Admits a.domain text) attrs row is.domains

bytes_eq-own : (xs : List ℕ) → bytes_eq xs xs ≡ true
bytes_eq-own xs = (bytes_eq-Decides xs xs).1 refl

bytes_eq-other : (xs ys : List ℕ) → xs ≢ ys → bytes_eq xs ys ≡ false
bytes_eq-other xs ys differ = elim (cases_Bool (bytes_eq xs ys)) [
  | inl same ↦ absurd (differ ((bytes_eq-Decides xs ys).0 same))
  | inr other ↦ other
]

prefix_len-map : {X Y : Type 0} (p : Y → Bool) (f : X → Y) (xs : List X) → prefix_len p (map f xs) ≡ prefix_len (λ x. p (f x)) xs
prefix_len-map p f [] = refl
prefix_len-map p f (x ∷ xs) = ap (λ (n : ℕ). cond (p (f x)) (1 + n) 0) (prefix_len-map p f xs)

-- a place in a list of names is that in the list of what has the names
position-map : {X Y : Type 0} (p : Y → Bool) (f : X → Y) (xs : List X) → position p (map f xs) ≡ position (λ x. p (f x)) xs
position-map p f xs = rw (prefix_len-map (λ y. not (p y)) f xs, length-map xs f) refl

find-none : {X : Type 0} (p : X → Bool) (xs : List X) → ((k : ℕ) (d : X) → k < length xs → p (get_or xs k d) ≡ false) → find p xs ≡ None
find-none p [] h = refl
find-none p (x ∷ xs) h = rw (h 0 x (omega arith)) (find-none p xs (λ k d lt. h (suc k) d (omega arith)))

all-zip-at : {A B : Type 0} (R : A → B → Type 0) (xs : List A) (ys : List B) (k : ℕ) (d : A) (e : B) → AllZip R xs ys → k < length xs
    → R (get_or xs k d) (get_or ys k e)
all-zip-at R [] ys k d e h lt = absurd (omega arith)
all-zip-at R (x ∷ xs) [] k d e h lt = absurd h
all-zip-at R (x ∷ xs) (y ∷ ys) zero d e h lt = h.0
all-zip-at R (x ∷ xs) (y ∷ ys) (suc k) d e h lt = all-zip-at R xs ys k d e h.1 (omega arith)

admits-from : (domain : Domain) (text : List ℕ) → Admits domain text → admits domain text ≡ true
admits-from AnyText text h = refl
admits-from (Finite values) text h = list_any_at (λ (v : List ℕ). bytes_eq v text) values h.0 text h.1 (rw h.2 (bytes_eq-own text))

module _ (table : Table) (distinct : AreDistinct (names_of_attrs table.attrs)) where
  names-at : (k : ℕ) (d : Attr) → k < length table.attrs → (get_or table.attrs k d).name ≡ get_or (names_of_attrs table.attrs) k []
  names-at k d lt = sym (get_or-map (λ (a : Attr). a.name) table.attrs k d [] lt)

  -- each name has the place of its attribute
  own-place : (i : ℕ) → i < length (names_of_attrs table.attrs)
      → column_place (names_of_attrs table.attrs) (get_or (names_of_attrs table.attrs) i []) ≡ Some i
  own-place i inside =
      let names = names_of_attrs table.attrs in
      position-at (λ (c : List ℕ). bytes_eq c (get_or names i [])) names i [] inside (λ k lt. bytes_eq-other _ _ (distinct k i [] lt inside)) (bytes_eq-own (get_or names i []))

  -- and stands not before it
  none-before : (i : ℕ) → i < length (names_of_attrs table.attrs)
      → column_place (take i (names_of_attrs table.attrs)) (get_or (names_of_attrs table.attrs) i []) ≡ None
  none-before i inside =
      let names = names_of_attrs table.attrs in
      position-none-take (λ (c : List ℕ). bytes_eq c (get_or names i [])) names i [] (omega arith) (λ k lt. bytes_eq-other _ _ (distinct k i [] lt inside))

  known-name : (i : ℕ) → i < length (names_of_attrs table.attrs) → is_some (attr_place table (get_or (names_of_attrs table.attrs) i [])) ≡ true
  known-name i inside =
      let names = names_of_attrs table.attrs in
      let e = sym (position-map (λ (c : List ℕ). bytes_eq c (get_or names i [])) (λ (a : Attr). a.name) table.attrs) ∙ own-place i inside in
      rw e refl

  columns-pass : (n i : ℕ) → i + n ≡ length (names_of_attrs table.attrs)
      → column_fault table (take i (names_of_attrs table.attrs)) (drop i (names_of_attrs table.attrs)) ≡ None
  columns-pass zero i e = rw (drop_of_length-le (names_of_attrs table.attrs) {i = i} (omega arith)) refl
  columns-pass (suc n) i e =
      let names = names_of_attrs table.attrs in
      let inside : i < length names = omega arith in
      column_fault-passes table names i inside (known-name i inside) (rw (none-before i inside) refl) ∙ columns-pass n (i + 1) (omega arith)

  none-lacks : lacking_fault table.attrs (names_of_attrs table.attrs) ≡ None
  none-lacks =
      let names = names_of_attrs table.attrs in
      let many : length names ≡ length table.attrs = length-map table.attrs (λ (a : Attr). a.name) in
      rw (find-none (λ (a : Attr). is_none (column_place names a.name)) table.attrs (λ k d lt. rw (names-at k d lt, own-place k (omega arith)) refl)) refl

  pub header-passes : list_all is_utf8 (names_of_attrs table.attrs) ≡ true → header_fault table (names_of_attrs table.attrs) ≡ None
  header-passes utf8 = rw (utf8, columns-pass (length (names_of_attrs table.attrs)) 0 (omega arith), none-lacks) refl

  -- the field of an attribute is the one at its place
  own-field : (fields : List (List ℕ)) (k : ℕ) → k < length (names_of_attrs table.attrs)
      → field_of (names_of_attrs table.attrs) fields (get_or (names_of_attrs table.attrs) k []) ≡ get_or fields k []
  own-field fields k inside = rw (own-place k inside) (unwrap_or-slice_get fields k [])

  pub own-row : (fields : List (List ℕ)) → length fields ≡ length table.attrs → row_of table.attrs (names_of_attrs table.attrs) fields ≡ fields
  own-row fields wide =
      let names = names_of_attrs table.attrs in
      let many : length names ≡ length table.attrs = length-map table.attrs (λ (a : Attr). a.name) in
      let f = λ (a : Attr). field_of names fields a.name in
      let long : length (map f table.attrs) ≡ length table.attrs = length-map table.attrs f in
      let none : Attr = record { name = []; domain = AnyText } in
      same_lists (map f table.attrs) fields (long ∙ sym wide) (λ k d lt.
      let inside : k < length table.attrs = omega (arith, long) in
      get_or-map f table.attrs k none d inside ∙ ap (field_of names fields) (names-at k none inside) ∙ own-field fields k (omega arith)
      ∙ get_or_default fields k [] d (omega arith))

  -- a row of the table has no fault under this header
  module _ (limits : Limits) (at : ℕ) (fields : List (List ℕ)) (row : IsRowOf table.attrs limits.cell_bytes fields) (utf8 : list_all is_utf8 fields ≡ true) (few : at ≤ limits.rows) where
    wide : length fields ≡ length (names_of_attrs table.attrs)
    wide = row-width row ∙ sym (length-map table.attrs (λ (a : Attr). a.name))

    own-text : text_fault limits (length (names_of_attrs table.attrs)) at fields ≡ None
    own-text =
        let within : nat_lt limits.rows at ≡ false = le-ltb limits.rows at few in
        let short = list_any_none (λ (f : List ℕ). nat_lt limits.cell_bytes (length f)) fields (λ k d lt. le-ltb limits.cell_bytes (length (get_or fields k d)) (row.short k d lt)) in
        rw (within, eq-eqb (length fields) (length (names_of_attrs table.attrs)) wide, utf8, short) refl

    own-domains : domain_fault table.attrs (names_of_attrs table.attrs) at fields ≡ None
    own-domains =
        let names = names_of_attrs table.attrs in
        let many : length names ≡ length table.attrs = length-map table.attrs (λ (a : Attr). a.name) in
        rw (find-none (λ (a : Attr). not (admits a.domain (field_of names fields a.name))) table.attrs (λ k d lt.
        let in-domain = all-zip-at (λ (a : Attr) (text : List ℕ). Admits a.domain text) table.attrs fields k d [] row.domains lt in
        rw (names-at k d lt, own-field fields k (omega arith), admits-from _ _ in-domain) refl)) refl

    record-passes : record_fault table limits (names_of_attrs table.attrs) at fields ≡ None
    record-passes = rw (own-text, own-domains) refl

  pub records-pass : (limits : Limits) (at : ℕ) (rows : List (List (List ℕ))) → All (IsRowOf table.attrs limits.cell_bytes) rows
      → All (λ (r : List (List ℕ)). list_all is_utf8 r ≡ true) rows → at + length rows ≤ limits.rows + 1
      → records_fault table limits (names_of_attrs table.attrs) at rows ≡ None
  records-pass limits at [] valid utf8 few = refl
  records-pass limits at (row ∷ rest) valid utf8 few =
      let this = record-passes limits at row (valid 0 row (omega arith)) (utf8 0 row (omega arith)) (omega arith) in
      let later = records-pass limits (at + 1) rest (λ k d lt. valid (suc k) d (omega arith)) (λ k d lt. utf8 (suc k) d (omega arith)) (omega arith) in
      rw (this, later) refl
