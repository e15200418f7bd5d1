-- Rows without a fault are rows of the table.
use Rattle.std.specs.Prelude.{◌||◌, ◌⊎◌, All, Contains, map, nat_lt, not, option_and_then, slice_get, unwrap_or, if◌then◌else◌}
use Rattle.std.specs.List.{AllZip, list_any}
use Rattle.std.specs.Option.{option_or}
use Rattle.std.specs.Str.{bytes_eq}
use Rattle.std.proofs.Common.{◌≡◌, ◌≤◌, ◌+◌, ◌∷◌, [], ℕ, zero, suc, List, Bool, Option, Some, None, length, refl, true, false, inl, inr, arith}
use Rattle.std.proofs.lemmas.Bool.{cases_Bool, cases_lt, eqb-true, false≢true, ltb-false}
use Rattle.std.proofs.lemmas.List.{get_or_past}
use Rattle.std.proofs.lemmas.Option.{unwrap_or-slice_get}
use Rattle.std.proofs.lemmas.Slice.Eq.{bytes_eq-Decides}
use Rattle.schema_core.specs.Schemas.{Admits, admits}
use Rattle.text_lists.specs.declared.limits.Limits.{Limits}
use Rattle.schema_core.specs.declared.schema.Attr.{Attr}
use Rattle.schema_core.specs.declared.schema.Domain.{Domain}
use Rattle.schema_core.specs.declared.schema.Domain.TheVariants.{AnyText, Finite}
use Rattle.schema_core.specs.declared.schema.Table.{Table}
use Rattle.schema_core.specs.Rows.{IsRowOf}
use Rattle.csv_tables.specs.TableFiles.{domain_fault, field_of, record_fault, records_fault, row_of, text_fault}

-- where neither of two faults is there, each is not
pub neither : {X : Type 0} (a b : Option X) → option_or a b ≡ None → (a ≡ None) × (b ≡ None)
neither None b e = (refl, e)
neither (Some x) b e = cc e

either : (a b : Bool) → (a || b) ≡ true → (a ≡ true) ⊎ (b ≡ true)
either true b e = inl refl
either false b e = inr e

or-left : (a b : Bool) → (a || b) ≡ false → a ≡ false
or-left true b e = e
or-left false b e = refl

or-right : (a b : Bool) → (a || b) ≡ false → b ≡ false
or-right true b e = cc e
or-right false b e = e

-- bytes that compare equal are the same
pub bytes_eq-same : (xs ys : List ℕ) → bytes_eq xs ys ≡ true → xs ≡ ys
bytes_eq-same xs ys e = (bytes_eq-Decides xs ys).0 e

-- a domain that passes the test for a text has it
among : (values : List (List ℕ)) (text : List ℕ) → list_any (λ (v : List ℕ). bytes_eq v text) values ≡ true → Contains values text
among [] text e = absurd (false≢true e)
among (v ∷ values) text e = elim (either (bytes_eq v text) _ e) [
  | inl here ↦ (0, omega arith, bytes_eq-same v text here)
  | inr later ↦ let (k, inside, is) = among values text later in (suc k, omega arith, is)
]

admitted : (domain : Domain) (text : List ℕ) → admits domain text ≡ true → Admits domain text
admitted AnyText text e = tt
admitted (Finite values) text e = among values text e

-- no attribute's domain lacks its field
in-domains : (attrs : List Attr) (header : List (List ℕ)) (at : ℕ) (fields : List (List ℕ)) → domain_fault attrs header at fields ≡ None
    → AllZip (λ (a : Attr) (text : List ℕ). Admits a.domain text) attrs (row_of attrs header fields)
in-domains [] header at fields e = tt
in-domains (a ∷ attrs) header at fields e = elim (cases_Bool (admits a.domain (field_of header fields a.name))) [
  | inl has ↦ (admitted a.domain _ has, in-domains attrs header at fields (rw has at e))
  | inr lacks ↦ cc (rw lacks at e)
]

-- a field of a record is empty or one of its fields
short-field : (most : ℕ) (fields : List (List ℕ)) (place : Option ℕ) → All (λ (f : List ℕ). length f ≤ most) fields
    → length (unwrap_or (option_and_then (slice_get fields) place) []) ≤ most
short-field most fields None short = omega arith
short-field most fields (Some p) short = rw (unwrap_or-slice_get fields p []) (elim (cases_lt p (length fields)) [
  | inl inside ↦ short p [] inside
  | inr past ↦ rw (get_or_past fields p [] past) (omega arith)
])

short-row : (most : ℕ) (attrs : List Attr) (header fields : List (List ℕ)) → All (λ (f : List ℕ). length f ≤ most) fields
    → All (λ (text : List ℕ). length text ≤ most) (row_of attrs header fields)
short-row most [] header fields short k d inside = absurd (omega arith)
short-row most (a ∷ attrs) header fields short zero d inside = short-field most fields _ short
short-row most (a ∷ attrs) header fields short (suc k) d inside = short-row most attrs header fields short k d (omega arith)

none-longer : (most : ℕ) (fields : List (List ℕ)) → list_any (λ (f : List ℕ). nat_lt most (length f)) fields ≡ false → All (λ (f : List ℕ). length f ≤ most) fields
none-longer most [] e k d inside = absurd (omega arith)
none-longer most (f ∷ fields) e zero d inside = ltb-false most (length f) (or-left _ _ e)
none-longer most (f ∷ fields) e (suc k) d inside = none-longer most fields (or-right _ _ e) k d (omega arith)

-- what a record without a fault of its own keeps
pub record PassesTests (limits : Limits) (width at : ℕ) (fields : List (List ℕ)) : Type 0 where
  pub few : at ≤ limits.rows
  pub wide : length fields ≡ width
  pub short : All (λ (f : List ℕ). length f ≤ limits.cell_bytes) fields

-- a choice that was not a fault
passed : {X : Type 0} (b : Bool) (x : X) (rest : Option X) → (if b then Some x else rest) ≡ None → (b ≡ false) × (rest ≡ None)
passed true x rest e = cc e
passed false x rest e = (refl, e)

not-false : (b : Bool) → not b ≡ false → b ≡ true
not-false true e = refl
not-false false e = cc e

pub passes-tests : (limits : Limits) (width at : ℕ) (fields : List (List ℕ)) → text_fault limits width at fields ≡ None → PassesTests limits width at fields
passes-tests limits width at fields e =
    let (few, e1) = passed _ _ _ e in
    let (wide, e2) = passed _ _ _ e1 in
    let (text, e3) = passed _ _ _ e2 in
    let (short, e4) = passed _ _ _ e3 in record {
      few = ltb-false limits.rows at few;
      wide = eqb-true (length fields) width (not-false _ wide);
      short = none-longer limits.cell_bytes fields short;
    }

row-is-row : (table : Table) (limits : Limits) (header fields : List (List ℕ)) (at : ℕ) → record_fault table limits header at fields ≡ None
    → IsRowOf table.attrs limits.cell_bytes (row_of table.attrs header fields)
row-is-row table limits header fields at e =
    let (plain, domains) = neither _ _ e in
    let tests = passes-tests limits (length header) at fields plain in record {
      domains = in-domains table.attrs header at fields domains;
      short = short-row limits.cell_bytes table.attrs header fields tests.short;
    }

-- the rows of records without a fault, and how many there are
pub all-rows : (table : Table) (limits : Limits) (header : List (List ℕ)) (at : ℕ) (records : List (List (List ℕ)))
    → records_fault table limits header at records ≡ None → All (IsRowOf table.attrs limits.cell_bytes) (map (row_of table.attrs header) records)
all-rows table limits header at [] e k d inside = absurd (omega arith)
all-rows table limits header at (fields ∷ rest) e zero d inside = row-is-row table limits header fields at (neither _ _ e).0
all-rows table limits header at (fields ∷ rest) e (suc k) d inside = all-rows table limits header (at + 1) rest (neither _ _ e).1 k d (omega arith)

pub few-records : (table : Table) (limits : Limits) (header : List (List ℕ)) (at : ℕ) (records : List (List (List ℕ)))
    → records_fault table limits header at records ≡ None → at ≤ limits.rows + 1 → at + length records ≤ limits.rows + 1
few-records table limits header at [] e h = omega arith
few-records table limits header at (fields ∷ rest) e h =
    let (this, later) = neither _ _ e in
    let tests = passes-tests limits (length header) at fields (neither _ _ this).0 in
    let n : (at + 1) + length rest ≤ limits.rows + 1 = few-records table limits header (at + 1) rest later (omega (arith, tests.few)) in
    omega arith
