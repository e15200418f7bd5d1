-- A written file reads back as the rows that were written.
use Rattle.std.specs.Prelude.{All, map}
use Rattle.std.specs.List.{list_all, list_any}
use Rattle.std.specs.Char.{is_ascii_alphabetic}
use Rattle.std.specs.Str.{is_utf8}
use Rattle.std.proofs.Common.{◌≡◌, ◌==◌, ◌&&◌, ◌≤◌, ◌++◌, ◌∷◌, ◌∙◌, [], ℕ, suc, List, Bool, None, Ok, length, refl, ap, true, false, inl, inr, arith}
use Rattle.std.proofs.lemmas.Bool.{cases_Bool, eqb-true}
use Rattle.csv.specs.Machine.{next_record}
use Rattle.csv.specs.Reading.{strip_bom}
use Rattle.csv.specs.Writing.{default_writer, needs_byte, read_back, row_text}
use Rattle.csv.specs.declared.parser.State.TheVariants as st
use Rattle.csv.proofs.RoundTrip.{read-write}
use Rattle.text_lists.specs.Names.{IsName}
use Rattle.text_lists.specs.Repeats.{AreDistinct}
use Rattle.schema_core.specs.Schemas.{IsValidAttr, IsValidTable, names_of_attrs}
use Rattle.text_lists.specs.declared.limits.Limits.{Limits}
use Rattle.schema_core.specs.declared.schema.Attr.{Attr}
use Rattle.schema_core.specs.declared.schema.Table.{Table}
use Rattle.csv_tables.specs.Records.{file_records, records_after}
use Rattle.csv_tables.specs.TableFiles.{header_fault, records_fault, row_of, table_of}
use Rattle.csv_tables.specs.WrittenFiles.{AreRowsOf, records_text, table_text}
use Rattle.csv_tables.proofs.RecordFacts.{records_after-none, records_after-some}
use Rattle.csv_tables.proofs.OwnHeader.{header-passes, own-row, records-pass, row-width}

-- what the default writer wrote, the reader's records are
written-records : (rows : List (List (List ℕ))) → records_after st.StartRecord (records_text rows) ≡ map read_back rows
unfolding next_record
written-records [] = records_after-none st.StartRecord [] refl
written-records (row ∷ rows) =
    records_after-some st.StartRecord (records_text (row ∷ rows)) (read_back row, st.StartRecord, records_text rows) (read-write row (records_text rows))
    ∙ ap (λ (rest : List (List (List ℕ))). read_back row ∷ rest) (written-records rows)

-- ---- a written file begins with no byte order mark

strip_bom-plain : (b : ℕ) (rest : List ℕ) → (b == 0xEF) ≡ false → strip_bom (b ∷ rest) ≡ b ∷ rest
unfolding strip_bom
strip_bom-plain b [] e = refl
strip_bom-plain b (x ∷ []) e = refl
strip_bom-plain b (x ∷ y ∷ rest) e = rw e refl

-- a letter is not the first byte of the mark
letter-plain : (b : ℕ) → is_ascii_alphabetic b ≡ true → (b == 0xEF) ≡ false
letter-plain b letter = elim (cases_Bool (b == 0xEF)) [
  | inl mark ↦ cc (rw (eqb-true b 0xEF mark) at letter)
  | inr plain ↦ plain
]

first-true : (a b : Bool) → (a && b) ≡ true → a ≡ true
first-true true b e = refl
first-true false b e = e

name-plain : (b : ℕ) (bs : List ℕ) → IsName (b ∷ bs) → (b == 0xEF) ≡ false
name-plain b bs name = letter-plain b (first-true _ _ (first-true _ _ name))

-- the text of a record whose first field is a name
strip_bom-row : (name : List ℕ) (rest : List (List ℕ)) (tail : List ℕ) → IsName name
    → strip_bom (row_text default_writer (name ∷ rest) ++ tail) ≡ row_text default_writer (name ∷ rest) ++ tail
strip_bom-row [] rest tail name = cc name
strip_bom-row (b ∷ bs) rest tail name = elim (cases_Bool (list_any (needs_byte default_writer) (b ∷ bs))) [
  | inl quotes ↦ rw quotes (strip_bom-plain 34 _ refl)
  | inr plain ↦ rw plain (strip_bom-plain b _ (name-plain b bs name))
]

-- ---- records of at least one field read back as they were

read_back-some : (row : List (List ℕ)) → 1 ≤ length row → read_back row ≡ row
read_back-some [] h = absurd (omega arith)
read_back-some (x ∷ row) h = refl

map-read_back : (rows : List (List (List ℕ))) → All (λ (r : List (List ℕ)). 1 ≤ length r) rows → map read_back rows ≡ rows
map-read_back [] h = refl
map-read_back (row ∷ rows) h =
    let row-is = read_back-some row (h 0 row (omega arith)) in
    let rows-are = map-read_back rows (λ k d lt. h (suc k) d (omega arith)) in
    cc (row-is, rows-are)

-- ---- the whole file

module _ (rows : List (List (List ℕ))) (some : All (λ (r : List (List ℕ)). 1 ≤ length r) rows) where
  pub file_records-written : (attrs : List Attr) → 1 ≤ length attrs → All IsValidAttr attrs
      → file_records (table_text attrs rows) ≡ names_of_attrs attrs ∷ rows
  file_records-written [] many valid = absurd (omega arith)
  file_records-written (a ∷ attrs) many valid =
      let first = valid 0 a (omega arith) in
      rw (strip_bom-row a.name (names_of_attrs attrs) (records_text rows) first.name) (
      written-records (names_of_attrs (a ∷ attrs) ∷ rows)
      ∙ ap (λ (rest : List (List (List ℕ))). names_of_attrs (a ∷ attrs) ∷ rest) (map-read_back rows some)
      )

-- a file without faults gives its rows
table_of-faultless : (table : Table) (limits : Limits) (bytes : List ℕ) (header : List (List ℕ)) (rows : List (List (List ℕ)))
    → file_records bytes ≡ header ∷ rows → header_fault table header ≡ None → records_fault table limits header 1 rows ≡ None
    → map (row_of table.attrs header) rows ≡ rows → table_of table limits bytes ≡ Ok rows
table_of-faultless table limits bytes header rows e top below same = rw (e, top, below, same) refl

own-rows : (table : Table) (distinct : AreDistinct (names_of_attrs table.attrs)) (rows : List (List (List ℕ)))
    → All (λ (r : List (List ℕ)). length r ≡ length table.attrs) rows → map (row_of table.attrs (names_of_attrs table.attrs)) rows ≡ rows
own-rows table distinct [] wide = refl
own-rows table distinct (row ∷ rows) wide =
    let this = own-row table distinct row (wide 0 row (omega arith)) in
    let later = own-rows table distinct rows (λ k d lt. wide (suc k) d (omega arith)) in
    cc (this, later)

-- the file of a table's rows spells these rows
pub table_of-written : (table : Table) (limits : Limits) (rows : List (List (List ℕ))) → IsValidTable table
    → AreRowsOf table limits rows → list_all is_utf8 (names_of_attrs table.attrs) ≡ true → All (λ (r : List (List ℕ)). list_all is_utf8 r ≡ true) rows
    → table_of table limits (table_text table.attrs rows) ≡ Ok rows
table_of-written table limits rows valid these names utf8 =
    let wide : All (λ (r : List (List ℕ)). length r ≡ length table.attrs) rows = λ k d lt. row-width (these.each k d lt) in
    let some : All (λ (r : List (List ℕ)). 1 ≤ length r) rows = λ k d lt. rw (wide k d lt) valid.some in
    table_of-faultless table limits _ (names_of_attrs table.attrs) rows (file_records-written rows some table.attrs valid.some valid.attrs) (header-passes table valid.distinct names) (records-pass table valid.distinct limits 1 rows these.each utf8 (let few = these.few in omega arith)) (own-rows table valid.distinct rows wide)
