-- Texts that pass the tests are a row of their table.
use Rattle.std.proofs.Common.{◌≡◌, ℕ, ◌≤◌, Bool, true, false, List, [], ◌∷◌, length, Option, None, Some, Ok, Err, refl, sym, arith, subst, zero, suc}
use Rattle.std.specs.List.{AllZip, slice_get, slice_set}
use Rattle.std.proofs.lemmas.Bool.{eqb-true, leb-true}
use Rattle.std.proofs.lemmas.List.Elements.{All-set}
use Rattle.std.proofs.lemmas.Option.{none-some, same_Some}
use Rattle.std.proofs.lemmas.List.Sums.{AllPass-from_list_all}
use Rattle.schema_core.specs.Rows.{IsRowOf}
use Rattle.schema_core.specs.Schemas.{admits, Admits}
use Rattle.text_lists.specs.declared.limits.Limits.{Limits}
use Rattle.schema_core.specs.declared.schema.Attr.{Attr}
use Rattle.schema_core.specs.declared.schema.Table.{Table}
use Rattle.rule_model.proofs.ValidCells.{admitted_if_true}
use Rattle.bench_core.specs.Found.{unless_found}
use Rattle.bench_core.specs.Edited.{Step, ◌>>=◌, ◌>>◌, require, outside_domain, require_row, require_text, is_short}
use Rattle.bench_core.specs.declared.edit.EditFault.{EditFault}
use Rattle.bench_core.specs.declared.edit.EditFault.TheVariants.{NotInDomain}

-- ---- what a chain of steps that is done tells of its steps

pub bound_parts : {X Y : Type 0} (step : Step X) (next : X → Step Y) (y : Y) → step >>= next ≡ Ok y → (x : X) × (step ≡ Ok x) × (next x ≡ Ok y)
bound_parts (Ok x) next y is = (x, refl, is)
bound_parts (Err refusal) next y is = absurd (cc)

pub then_parts : {Y : Type 0} (step : Step (Unit {0})) (next : Step Y) (y : Y) → step >> next ≡ Ok y → (step ≡ Ok tt) × (next ≡ Ok y)
then_parts (Ok x) next y is = (refl, is)
then_parts (Err refusal) next y is = absurd (cc)

pub required : (test : Bool) (refusal : EditFault) → require test refusal ≡ Ok tt → test ≡ true
required true refusal is = refl
required false refusal is = absurd (cc)

pub not_found : {X E : Type 0} (found : Option E) (x y : X) → unless_found found x ≡ Ok y → found ≡ None
not_found None x y is = refl
not_found (Some fault) x y is = absurd (cc)

-- ---- texts

inside_step : (attr : Attr) (text : List ℕ) (attrs : List Attr) (texts : List (List ℕ)) (test : Bool) → admits attr.domain text ≡ test → outside_domain (attr ∷ attrs) (text ∷ texts) ≡ None
    → (outside_domain attrs texts ≡ None → AllZip (λ (attr : Attr) (text : List ℕ). Admits attr.domain text) attrs texts) → AllZip (λ (attr : Attr) (text : List ℕ). Admits attr.domain text) (attr ∷ attrs) (text ∷ texts)
inside_step attr text attrs texts true is none later = (admitted_if_true attr.domain text is, later (rw is at none))
inside_step attr text attrs texts false is none later = absurd (none-some (NotInDomain attr.name) (sym (rw is at none)))

-- where no text is outside, each is inside
pub inside_if_none : (attrs : List Attr) (texts : List (List ℕ)) → length texts ≡ length attrs → outside_domain attrs texts ≡ None → AllZip (λ (attr : Attr) (text : List ℕ). Admits attr.domain text) attrs texts
inside_if_none [] [] long none = tt
inside_if_none [] (text ∷ texts) long none = absurd (omega arith)
inside_if_none (attr ∷ attrs) [] long none = absurd (omega arith)
inside_if_none (attr ∷ attrs) (text ∷ texts) long none = inside_step attr text attrs texts (admits attr.domain text) refl none (inside_if_none attrs texts (omega arith))

pub fits_if_required : (limits : Limits) (table : Table) (texts : List (List ℕ)) → require_row limits table texts ≡ Ok tt → IsRowOf table.attrs limits.cell_bytes texts
fits_if_required limits table texts is =
    let (wide, others) = then_parts _ _ tt is in
    let (short, last) = then_parts _ _ tt others in
    let long = eqb-true (length texts) (length table.attrs) (required _ _ wide) in
    record {
      domains = inside_if_none table.attrs texts long (not_found _ tt tt last);
      short = λ k d lt. leb-true _ _ (AllPass-from_list_all (is_short limits) texts (required _ _ short) k d lt);
    }

-- another text at an attribute that may have it
pub domains-set : (attrs : List Attr) (texts : List (List ℕ)) (place : ℕ) (attr : Attr) (text : List ℕ) → AllZip (λ (attr : Attr) (text : List ℕ). Admits attr.domain text) attrs texts
    → slice_get attrs place ≡ Some attr → Admits attr.domain text → AllZip (λ (attr : Attr) (text : List ℕ). Admits attr.domain text) attrs (slice_set texts place text)
domains-set [] [] place attr text all at admitted = absurd (none-some attr at)
domains-set [] (t ∷ texts) place attr text all at admitted = absurd all
domains-set (a ∷ attrs) [] place attr text all at admitted = absurd all
domains-set (a ∷ attrs) (t ∷ texts) zero attr text all at admitted = (subst (λ (a : Attr). Admits a.domain text) (sym (same_Some a attr at)) admitted, all.1)
domains-set (a ∷ attrs) (t ∷ texts) (suc place) attr text all at admitted = (all.0, domains-set attrs texts place attr text all.1 at admitted)

pub fits-set : (limits : Limits) (table : Table) (texts : List (List ℕ)) (place : ℕ) (attr : Attr) (text : List ℕ) → IsRowOf table.attrs limits.cell_bytes texts → slice_get table.attrs place ≡ Some attr
    → require_text limits attr text ≡ Ok tt → IsRowOf table.attrs limits.cell_bytes (slice_set texts place text)
fits-set limits table texts place attr text fits at is =
    let (short, admitted) = then_parts _ _ tt is in
    record {
      domains = domains-set table.attrs texts place attr text fits.domains at (admitted_if_true attr.domain text (required _ _ admitted));
      short = All-set (λ text. length text ≤ limits.cell_bytes) texts place text (leb-true _ _ (required _ _ short)) fits.short;
    }
