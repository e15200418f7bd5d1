-- The cells of a row, one attribute at a time.
use Rattle.std.proofs.Common.{◌≡◌, ◌<◌, ◌+◌, ◌∷◌, ◌++◌, ◌∙◌, [], ℕ, Bool, List, Option, Some, None, length, get_or, drop, refl, sym, ap, true, false, arith, append_assoc}
use Rattle.std.specs.Prelude.{IfSome}
use Rattle.std.proofs.lemmas.List.{at_drop_more, get_or-map, length-map}
use Rattle.std.proofs.lemmas.Option.{slice_get-get_or}
use Rattle.schema_core.specs.Schemas.{admits}
use Rattle.schema_core.specs.declared.schema.Attr.{Attr}
use Rattle.csv_tables.specs.Columns.{ArePlacesOf}
use Rattle.csv_tables.specs.TableFiles.{column_place, domain_fault, field_of, row_of}
use Rattle.csv_tables.specs.declared.fault.TableFault.{TableFault}
use Rattle.csv_tables.specs.declared.fault.TableFault.TheVariants as fault

module _ (attrs : List Attr) (header : List (List ℕ)) (places : List ℕ) (placed : ArePlacesOf places attrs header) (i : ℕ) (a : Attr) (p : ℕ)
    (inside : i < length attrs) (this : a ≡ get_or attrs i a) (here : p ≡ get_or places i p) where
  -- there are as many places as attributes
  pub length-places : length places ≡ length attrs
  length-places = sym (length-map places _) ∙ ap length placed.columns ∙ length-map attrs _

  pub place-inside : p < length header
  place-inside = let many = length-places in rw here (placed.within i p (omega arith))

  -- the place that stands for an attribute is that of its column
  column_place-is : column_place header a.name ≡ Some p
  column_place-is =
      let f = λ (b : Attr). column_place header b.name in
      let many = length-places in
      ap f this ∙ sym (get_or-map f attrs i a (Some p) inside) ∙ ap (λ (l : List (Option ℕ)). get_or l i (Some p)) (sym placed.columns)
      ∙ get_or-map (λ (q : ℕ). Some q) places i p (Some p) (omega arith) ∙ ap (λ (q : ℕ). Some q) (sym here)

  -- the field there is the attribute's
  pub field_of-is : (fields : List (List ℕ)) → length fields ≡ length header → field_of header fields a.name ≡ get_or fields p []
  field_of-is fields wide =
      let short : p < length fields = omega (arith, place-inside) in
      rw (column_place-is, slice_get-get_or fields p [] short) refl

module _ (attrs : List Attr) (header fields : List (List ℕ)) (at i : ℕ) (a : Attr) (inside : i < length attrs) (this : a ≡ get_or attrs i a) where
  -- an attribute whose domain has its field
  pub domain_fault-passes : admits a.domain (field_of header fields a.name) ≡ true
      → domain_fault (drop i attrs) header at fields ≡ domain_fault (drop (i + 1) attrs) header at fields
  domain_fault-passes has =
      at_drop_more (λ (rest : List Attr). domain_fault rest header at fields) attrs i a inside ∙ rw (← this, has) refl

  -- and one whose domain lacks it
  pub domain_fault-refuses : admits a.domain (field_of header fields a.name) ≡ false
      → domain_fault (drop i attrs) header at fields ≡ Some (fault.NotInDomain at a.name)
  domain_fault-refuses lacks =
      at_drop_more (λ (rest : List Attr). domain_fault rest header at fields) attrs i a inside ∙ rw (← this, lacks) refl

  -- one more cell of a row
  pub row_of-more : (row : List (List ℕ)) → row ++ row_of (drop i attrs) header fields
      ≡ (row ++ field_of header fields a.name ∷ []) ++ row_of (drop (i + 1) attrs) header fields
  row_of-more row =
      at_drop_more (λ (rest : List Attr). row ++ row_of rest header fields) attrs i a inside
      ∙ rw (← this) (sym (append_assoc row (field_of header fields a.name ∷ []) _))

-- what a refused cell tells is the fault that was looked for
pub refusal-tells : (told : Option TableFault) (admitted : Bool) (why : TableFault) (found : Option TableFault) → (admitted ≡ false → found ≡ Some why) → IfSome told (λ f. (admitted ≡ false) × (f ≡ why)) → IfSome told (λ f. found ≡ Some f)
refusal-tells None admitted why found further both = tt
refusal-tells (Some f) admitted why found further both = further both.0 ∙ ap (λ (t : TableFault). Some t) (sym both.1)
