-- A row that is looked up by its id.
use Rattle.std.proofs.Common.{◌≡◌, ℕ, Bool, List, length, Option, Some, None, All, option_map, subst, refl, sym, ◌∙◌}
use Rattle.std.specs.List.{find, position_or_len, slice_get}
use Rattle.std.proofs.lemmas.List.Folds.{find_at}
use Rattle.std.proofs.lemmas.List.Elements.{All-get_or}
use Rattle.std.proofs.lemmas.Option.{none-some, same_Some, slice_get_within, get_or_from_slice_get}
use Rattle.std.proofs.lemmas.Slice.Zip.{AllZip-long}
use Rattle.schema_core.specs.Rows.{IsRowOf}
use Rattle.schema_core.specs.declared.schema.Table.{Table}
use Rattle.bench_core.specs.State.{Row, TableState, IsTableState, has_id, texts_of}

-- what holds of all items holds of one that is found
found-all : {X : Type 0} (P : X → Type 0) (p : X → Bool) (xs : List X) (x : X) → All P xs → find p xs ≡ Some x → P x
found-all P p xs x all is =
    let at : slice_get xs (position_or_len p xs) ≡ Some x = sym (find_at p xs) ∙ is in
    let within = slice_get_within xs (position_or_len p xs) x at in
    subst P (get_or_from_slice_get xs (position_or_len p xs) x x at) (All-get_or P xs (position_or_len p xs) x within all)

found-texts : (P : Row → Type 0) (found : Option Row) (texts : List (List ℕ)) → ((row : Row) → found ≡ Some row → P row) → option_map (λ (row : Row). row.1) found ≡ Some texts → (row : Row) × P row × (row.1 ≡ texts)
found-texts P None texts holds is = absurd (none-some texts is)
found-texts P (Some row) texts holds is = (row, holds row refl, same_Some row.1 texts is)

-- the texts of a row that is looked up fit its table
pub texts_of-fit : (cell_bytes last_id : ℕ) (table : Table) (state : TableState) (id : ℕ) (texts : List (List ℕ)) → IsTableState cell_bytes last_id table state → texts_of state id ≡ Some texts → IsRowOf table.attrs cell_bytes texts
texts_of-fit cell_bytes last_id table state id texts is there =
    let fits : Row → Type 0 = λ row. IsRowOf table.attrs cell_bytes row.1 in
    let (row, fit, same) = found-texts fits (find (has_id id) state.rows) texts (λ row found. found-all fits (has_id id) state.rows row is.fit found) there in
    subst (λ texts. IsRowOf table.attrs cell_bytes texts) same fit

pub length-texts_of : (cell_bytes last_id : ℕ) (table : Table) (state : TableState) (id : ℕ) (texts : List (List ℕ)) → IsTableState cell_bytes last_id table state → texts_of state id ≡ Some texts → length texts ≡ length table.attrs
length-texts_of cell_bytes last_id table state id texts is there = AllZip-long _ _ _ (texts_of-fit cell_bytes last_id table state id texts is there).domains
