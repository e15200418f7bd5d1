-- The header, one column or one attribute at a time.
use Rattle.std.specs.Prelude.{is_some}
use Rattle.std.proofs.Common.{◌≡◌, ◌<◌, ◌+◌, ◌∙◌, [], ℕ, List, Some, length, get_or, take, drop, refl, sym, ap, true, false}
use Rattle.std.proofs.lemmas.List.{at_drop_more, take_more}
use Rattle.schema_core.specs.Schemas.{attr_place}
use Rattle.schema_core.specs.declared.schema.Table.{Table}
use Rattle.csv_tables.specs.TableFiles.{column_fault, column_place}
use Rattle.csv_tables.specs.declared.fault.TableFault.TheVariants as fault

module _ (table : Table) (header : List (List ℕ)) (i : ℕ) (inside : i < length header) (known : is_some (attr_place table (get_or header i [])) ≡ true) where
  -- a known column that stood before
  pub column_fault-repeats : is_some (column_place (take i header) (get_or header i [])) ≡ true
      → column_fault table (take i header) (drop i header) ≡ Some (fault.HeaderRepeats (get_or header i []))
  column_fault-repeats before =
      at_drop_more (λ (rest : List (List ℕ)). column_fault table (take i header) rest) header i [] inside ∙ rw (known, before) refl

  -- a known column that did not
  pub column_fault-passes : is_some (column_place (take i header) (get_or header i [])) ≡ false
      → column_fault table (take i header) (drop i header) ≡ column_fault table (take (i + 1) header) (drop (i + 1) header)
  column_fault-passes before =
      at_drop_more (λ (rest : List (List ℕ)). column_fault table (take i header) rest) header i [] inside
      ∙ rw (known, before) (ap (λ (front : List (List ℕ)). column_fault table front (drop (i + 1) header)) (sym (take_more header i [] inside)))

-- a column that is no attribute
pub column_fault-unknown : (table : Table) (header : List (List ℕ)) (i : ℕ) → i < length header
    → is_some (attr_place table (get_or header i [])) ≡ false
    → column_fault table (take i header) (drop i header) ≡ Some (fault.HeaderColumn (get_or header i []))
column_fault-unknown table header i inside unknown =
    at_drop_more (λ (rest : List (List ℕ)). column_fault table (take i header) rest) header i [] inside ∙ rw unknown refl
