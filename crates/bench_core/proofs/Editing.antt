-- An edit of one table of a bench: what is known when it is refused, and what when it is made.
use Rattle.std.proofs.Common.{◌≡◌, ℕ, ◌+◌, ◌*◌, ◌^◌, ◌-◌, ◌<◌, ◌≤◌, ◌&&◌, Bool, nat_le, List, [], ◌∷◌, length, get_or, Some, Ok, Err, IfSome, slice_index, arith, refl, sym, subst, ◌∙◌, inl, inr}
use Rattle.std.specs.List.{position, slice_set}
use Rattle.std.proofs.lemmas.Bool.{and_parts, leb-true}
use Rattle.std.proofs.lemmas.Option.{IfSome_then, none-some, slice_get_read, get_or_from_slice_get}
use Rattle.std.proofs.lemmas.List.Quantifiers.{position-Some}
use Rattle.std.specs.Str.{bytes_eq}
use Rattle.std.proofs.lemmas.Slice.Zip.{AllZip-long}
use Rattle.schema_core.specs.Schemas.{table_place}
use Rattle.text_lists.specs.declared.limits.Limits.{Limits}
use Rattle.schema_core.specs.declared.schema.Table.{Table}
use Rattle.rule_model.specs.Books.{Book}
use Rattle.edit_log.specs.declared.edit.Edit.{Edit}
use Rattle.bench_core.specs.State.{TableState, State, IsTableState}
use Rattle.bench_core.specs.Sizes.{has_room, total_rows, total_cells, weight}
use Rattle.bench_core.specs.Bench.{IsBench, AreCounts}
use Rattle.bench_core.specs.Edited.{edited, after_edit, table_of_name, name_of_table, refusal_of}
use Rattle.bench_core.specs.declared.edit.Applied.{Applied}
use Rattle.bench_core.specs.declared.edit.EditFault.{EditFault}
use Rattle.bench_core.proofs.Kept.{KeepsTable, table-kept}
use Rattle.std.proofs.Math.Nat.{mul-le-mul_right, one-mul}
use Rattle.bench_core.proofs.States.{side_by_side, side_by_side-set}
use Rattle.bench_core.proofs.Totals.{total_rows-set, total_cells-set, nat_le-stopped}
use Rattle.bench_core.proofs.Recounts as recounts

place_there : (tables : List Table) (name : List ℕ) (number : ℕ) → position (λ (t : Table). bytes_eq t.name name) tables ≡ Some number → number < length tables
place_there [] name number is = absurd (none-some number is)
place_there (t ∷ tables) name number is = (position-Some (λ (t : Table). bytes_eq t.name name) (t ∷ tables) number t is).0

-- the number of a table that is named is in range of the tables and of what is kept beside them
module _ {rules : Book} {limits : Limits} {state : State} {weights : List ℕ} {rows cells : ℕ} (bench : IsBench rules limits state) (counts : AreCounts rules state weights rows cells)
    (number : ℕ) (edit : Edit) (is : table_place rules.schema (name_of_table edit) ≡ Some number) where
  there : number < length rules.schema.tables
  there = place_there rules.schema.tables (name_of_table edit) number is

  pub in_state : number < length state
  in_state = rw (AllZip-long _ _ _ bench.tables) there

  pub in_weights : number < length weights
  in_weights = recounts.in_weights bench counts number in_state

-- the edit at that table
module _ {rules : Book} {limits : Limits} {state : State} {weights : List ℕ} {rows cells : ℕ} (bench : IsBench rules limits state) (counts : AreCounts rules state weights rows cells)
    (number : ℕ) (edit : Edit) (is : table_place rules.schema (name_of_table edit) ≡ Some number)
    (table : Table) (before : TableState) (at_table : table ≡ get_or rules.schema.tables number table) (at_state : before ≡ get_or state number before) where
  pub fits : IsTableState limits.cell_bytes limits.last_id table before
  fits =
      let (declared, found, holds) = side_by_side _ rules.schema.tables state number before bench.tables (in_state bench counts number edit is) in
      let same : table ≡ declared = at_table ∙ get_or_from_slice_get rules.schema.tables number declared table found in
      subst (λ (t : Table). IsTableState limits.cell_bytes limits.last_id t before) (sym same) (subst (λ (s : TableState). IsTableState limits.cell_bytes limits.last_id declared s) (sym at_state) holds)

  pub room-is : (nat_le (rows + 1) limits.rows && nat_le (cells + 1 * slice_index weights number) limits.index_cells) ≡ has_room rules limits state number
  room-is =
      let few = bench.allowed.index_cells in
      rw (recounts.weight-is bench counts number (in_state bench counts number edit is), nat_le-stopped cells 1 (weight rules number) (2 ^ 64 - 1) limits.index_cells (omega arith), counts.rows-is, counts.cells-is, one-mul) refl

  named : table_of_name rules.schema state (name_of_table edit) ≡ Some (record { number = number; table = table; state = before })
  named =
      let in_tables = slice_get_read rules.schema.tables (length rules.schema.tables) number table refl (there bench counts number edit is) at_table in
      let in_states = slice_get_read state (length state) number before refl (in_state bench counts number edit is) at_state in
      rw (is, in_tables, in_states) refl

  -- where the edit is refused
  pub edit-refused : (room : Bool) (fault : EditFault) → room ≡ (nat_le (rows + 1) limits.rows && nat_le (cells + 1 * slice_index weights number) limits.index_cells)
      → IfSome (refusal_of fault) (λ refusal. after_edit limits room table before edit ≡ Err refusal) → IfSome (refusal_of fault) (λ refusal. edited rules limits state edit ≡ Err refusal)
  edit-refused room fault tested refused =
      let has = tested ∙ room-is in
      IfSome_then (refusal_of fault) refused (λ refusal told. rw (named, ← has, told) refl)

  -- where it is made
  module _ (after : TableState) (told : Applied) (room : Bool) (tested : room ≡ (nat_le (rows + 1) limits.rows && nat_le (cells + 1 * slice_index weights number) limits.index_cells))
      (made_so : after_edit limits room table before edit ≡ Ok (after, told)) where
    made : after_edit limits (has_room rules limits state number) table before edit ≡ Ok (after, told)
    made = subst (λ (r : Bool). after_edit limits r table before edit ≡ Ok (after, told)) (tested ∙ room-is) made_so

    pub edit-made : edited rules limits state edit ≡ Ok (slice_set state number after, told)
    edit-made = rw (named, made) refl

    left : KeepsTable limits (has_room rules limits state number) table before after
    left = table-kept limits (has_room rules limits state number) table before after told fits edit made

    rows-set : total_rows (slice_set state number after) + length before.rows ≡ total_rows state + length after.rows
    rows-set = total_rows-set state number before after (in_state bench counts number edit is) (sym at_state)

    cells-set : total_cells rules (slice_set state number after) + length before.rows * weight rules number ≡ total_cells rules state + length after.rows * weight rules number
    cells-set = total_cells-set rules state number before after (in_state bench counts number edit is) (sym at_state)

    few_rows : total_rows (slice_set state number after) ≤ limits.rows
    few_rows =
        let few = bench.few_rows in
        let total = rows-set in
        elim left.rows [
          | inl no_more ↦ omega arith
          | inr (room, one) ↦ let has : total_rows state + 1 ≤ limits.rows = leb-true _ _ (and_parts (nat_le (total_rows state + 1) limits.rows) _ room).0 in omega arith
        ]

    few_cells : total_cells rules (slice_set state number after) ≤ limits.index_cells
    few_cells =
        let few = bench.few_cells in
        let total = cells-set in
        elim left.rows [
          | inl no_more ↦ let product = mul-le-mul_right (weight rules number) no_more in omega arith
          | inr (room, one) ↦
              let has : total_cells rules state + weight rules number ≤ limits.index_cells = leb-true _ _ (and_parts (nat_le (total_rows state + 1) limits.rows) _ room).1 in
              let product : length after.rows * weight rules number ≡ length before.rows * weight rules number + weight rules number = rw one (grind arith) in
              omega arith
        ]

    pub bench-after : IsBench rules limits (slice_set state number after)
    bench-after = record {
      allowed = bench.allowed;
      tables = side_by_side-set _ rules.schema.tables state number before after bench.tables (λ declared there holds.
          let same : table ≡ declared = at_table ∙ get_or_from_slice_get rules.schema.tables number declared table there in
          rw (← same) left.state);
      few_rows = few_rows;
      few_cells = few_cells;
    }
