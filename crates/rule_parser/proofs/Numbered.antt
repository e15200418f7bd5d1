-- Tables and attributes of a valid schema have their numbers back from their names.
use Rattle.std.proofs.Common.{◌≡◌, ℕ, ◌<◌, true, false, cond, ltb, Bool, List, [], length, get_or, map, Some, None, All, refl, ap, sym, ◌∙◌, subst, arith}
use Rattle.std.specs.Prelude.{unwrap_or}
use Rattle.std.specs.List.{position}
use Rattle.std.specs.Option.{option_map_or}
use Rattle.std.specs.Str.{bytes_eq}
use Rattle.std.proofs.lemmas.Bool.{cond-true, false_from_ne_true, lt-ltb}
use Rattle.std.proofs.Math.ListN.{get_or-map}
use Rattle.std.proofs.lemmas.List.{length-map}
use Rattle.std.proofs.lemmas.List.Sums.{position_or_len_is}
use Rattle.std.proofs.lemmas.Option.{slice_get-get_or}
use Rattle.std.proofs.lemmas.Slice.Eq.{bytes_eq-Decides}
use Rattle.text_lists.specs.Names.{IsName}
use Rattle.text_lists.specs.Repeats.{AreDistinct}
use Rattle.schema_core.specs.Schemas.{table_place, IsValidAttr, IsValidSchema, names_of_attrs}
use Rattle.schema_core.specs.declared.schema.Domain.TheVariants.{AnyText}
use Rattle.schema_core.specs.declared.schema.Attr.{Attr}
use Rattle.schema_core.specs.declared.schema.Table.{Table}
use Rattle.schema_core.specs.declared.schema.Schema.{Schema}
use Rattle.schema_core.specs.Lookups.{attrs_at, place_of, attr_number, table_number}
use Rattle.rule_parser.specs.RuleText.{table_name, attr_name}

-- in distinct names, the first place of the name at a place is that place
place_there : {X : Type 0} (f : X → List ℕ) (xs : List X) (n : ℕ) (d : X) → n < length xs → AreDistinct (map f xs) → position (λ x. bytes_eq (f x) (f (get_or xs n d))) xs ≡ Some n
place_there {X} f xs n d inside distinct =
    let same : X → Bool = λ x. bytes_eq (f x) (f (get_or xs n d)) in
    let before : (k : ℕ) → k < n → same (get_or xs k d) ≡ false =
    λ k lt. false_from_ne_true _ (λ t. distinct k n (f d) lt (omega (arith, length-map xs f)) (get_or-map f xs k d ∙ (bytes_eq-Decides (f (get_or xs k d)) (f (get_or xs n d))).0 t ∙ sym (get_or-map f xs n d))) in
    let there : n < length xs → same (get_or xs n d) ≡ true = λ _. (bytes_eq-Decides (f (get_or xs n d)) (f (get_or xs n d))).1 refl in
    ap (λ k. cond (ltb k (length xs)) (Some k) None) (position_or_len_is same xs n d (omega arith) before there) ∙ cond-true (ltb n (length xs)) (Some n) None (lt-ltb n (length xs) inside)

abbrev nowhere : Attr
nowhere = record { name = []; domain = AnyText }

abbrev no_table : Table
no_table = record { name = []; file = []; master = false; attrs = [] }

-- ---- attributes

attr_name-there : (attrs : List Attr) (n : ℕ) → n < length attrs → attr_name attrs n ≡ (get_or attrs n nowhere).name
attr_name-there attrs n inside = ap (λ found. option_map_or (λ (a : Attr). a.name) found []) (slice_get-get_or attrs n nowhere inside)

pub place_of-name : (attrs : List Attr) (n : ℕ) → AreDistinct (names_of_attrs attrs) → n < length attrs → place_of attrs (attr_name attrs n) ≡ Some n
place_of-name attrs n distinct inside = ap (place_of attrs) (attr_name-there attrs n inside) ∙ place_there (λ (a : Attr). a.name) attrs n nowhere inside distinct

pub attr_number-name : (attrs : List Attr) (n : ℕ) → AreDistinct (names_of_attrs attrs) → n < length attrs → attr_number attrs (attr_name attrs n) ≡ n
attr_number-name attrs n distinct inside = ap (λ found. unwrap_or found 0) (place_of-name attrs n distinct inside)

pub attr_name-IsName : (attrs : List Attr) (n : ℕ) → All IsValidAttr attrs → n < length attrs → IsName (attr_name attrs n)
attr_name-IsName attrs n valid inside = subst IsName (sym (attr_name-there attrs n inside)) (valid n nowhere inside).name

-- ---- tables

pub table_name-there : (schema : Schema) (n : ℕ) → n < length schema.tables → table_name schema n ≡ (get_or schema.tables n no_table).name
table_name-there schema n inside = ap (λ found. option_map_or (λ (t : Table). t.name) found []) (slice_get-get_or schema.tables n no_table inside)

attrs_at-there : (schema : Schema) (n : ℕ) → n < length schema.tables → attrs_at schema n ≡ (get_or schema.tables n no_table).attrs
attrs_at-there schema n inside = ap (λ found. option_map_or (λ (t : Table). t.attrs) found []) (slice_get-get_or schema.tables n no_table inside)

pub table_place-name : (schema : Schema) (n : ℕ) → IsValidSchema schema → n < length schema.tables → table_place schema (table_name schema n) ≡ Some n
table_place-name schema n valid inside = ap (table_place schema) (table_name-there schema n inside) ∙ place_there (λ (t : Table). t.name) schema.tables n no_table inside valid.distinct

pub table_number-name : (schema : Schema) (n : ℕ) → IsValidSchema schema → n < length schema.tables → table_number schema (table_name schema n) ≡ n
table_number-name schema n valid inside = ap (λ found. unwrap_or found 0) (table_place-name schema n valid inside)

pub table_name-IsName : (schema : Schema) (n : ℕ) → IsValidSchema schema → n < length schema.tables → IsName (table_name schema n)
table_name-IsName schema n valid inside = subst IsName (sym (table_name-there schema n inside)) (valid.tables n no_table inside).name

pub attrs_at-distinct : (schema : Schema) (n : ℕ) → IsValidSchema schema → n < length schema.tables → AreDistinct (names_of_attrs (attrs_at schema n))
attrs_at-distinct schema n valid inside = subst (λ attrs. AreDistinct (names_of_attrs attrs)) (sym (attrs_at-there schema n inside)) (valid.tables n no_table inside).distinct
