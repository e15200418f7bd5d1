-- The text of records, one record at a time, and the names of a header, one at a time.
use Rattle.std.specs.List.{list_all}
use Rattle.std.specs.Str.{IsUtf8, is_utf8}
use Rattle.std.proofs.Common.{◌≡◌, ◌<◌, ◌+◌, ◌++◌, ◌∷◌, ◌∙◌, [], ℕ, List, length, get_or, take, true, ap, refl, sym}
use Rattle.std.proofs.lemmas.Grind.{flat_map-append}
use Rattle.std.proofs.lemmas.List.{append-nil, map-append, take_more}
use Rattle.std.proofs.lemmas.List.Folds.{list_all-append}
use Rattle.std.proofs.lemmas.Str.{is_utf8-from_IsUtf8}
use Rattle.csv.specs.Writing.{default_writer, row_text}
use Rattle.schema_core.specs.Schemas.{names_of_attrs}
use Rattle.schema_core.specs.declared.schema.Attr.{Attr}
use Rattle.csv_tables.specs.WrittenFiles.{records_text}

pub records_text-more : (rows : List (List (List ℕ))) (i : ℕ) (row : List (List ℕ)) → i < length rows → row ≡ get_or rows i row
    → records_text (take (i + 1) rows) ≡ records_text (take i rows) ++ row_text default_writer row
records_text-more rows i row inside this =
    ap records_text (take_more rows i row inside)
    ∙ flat_map-append (row_text default_writer) (take i rows) (get_or rows i row ∷ [])
    ∙ ap (λ (t : List ℕ). records_text (take i rows) ++ t) (append-nil (row_text default_writer (get_or rows i row)))
    ∙ ap (λ (r : List (List ℕ)). records_text (take i rows) ++ row_text default_writer r) (sym this)

-- one more name
pub names-more : (attrs : List Attr) (i : ℕ) (a : Attr) → i < length attrs → a ≡ get_or attrs i a
    → names_of_attrs (take (i + 1) attrs) ≡ names_of_attrs (take i attrs) ++ a.name ∷ []
names-more attrs i a inside this =
    ap names_of_attrs (take_more attrs i a inside)
    ∙ map-append (λ (b : Attr). b.name) (take i attrs) (get_or attrs i a ∷ [])
    ∙ ap (λ (b : Attr). names_of_attrs (take i attrs) ++ b.name ∷ []) (sym this)

pub names-utf8-more : (names : List (List ℕ)) (name : List ℕ) → list_all is_utf8 names ≡ true → IsUtf8 name
    → list_all is_utf8 (names ++ name ∷ []) ≡ true
names-utf8-more names name utf8 text = list_all-append is_utf8 names (name ∷ []) ∙ rw (utf8, is_utf8-from_IsUtf8 name text) refl
