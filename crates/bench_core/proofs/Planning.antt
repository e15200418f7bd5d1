-- The change that is planned for an edit of one of the tables: it makes the same of all tables as the edit makes of their
-- state.
use Rattle.std.proofs.Common.{◌≡◌, ℕ, ◌+◌, ◌*◌, ◌&&◌, Bool, nat_le, List, get_or, Some, Result, Ok, Err, IfOk, IsSomeAnd, slice_index, sym, ap, subst, ◌∙◌}
use Rattle.std.specs.List.{slice_get, slice_set}
use Rattle.std.proofs.lemmas.Option.{get_or_from_slice_get}
use Rattle.line_grammar.specs.Faults.{GivesUnlessMemory}
use Rattle.schema_core.specs.Schemas.{table_place}
use Rattle.text_lists.specs.declared.limits.Limits.{Limits}
use Rattle.schema_core.specs.declared.schema.Table.{Table}
use Rattle.rule_model.specs.Books.{Book}
use Rattle.value_pool.specs.Pool.{KeepsIds}
use Rattle.edit_log.specs.declared.edit.Edit.{Edit}
use Rattle.edit_log.specs.declared.change.Change.{Change}
use Rattle.bench_core.specs.State.{State, IsTableState}
use Rattle.bench_core.specs.Edited.{edited, after_edit, name_of_table, refusal_of}
use Rattle.bench_core.specs.declared.edit.EditFault.{EditFault}
use Rattle.bench_core.specs.Stored.{Stored, table_state, state_of}
use Rattle.bench_core.specs.Changes.{after_change, at_table, made_again, told_of, CanMake}
use Rattle.bench_core.specs.Bench.{IsBench, AreCounts, IsPlanned}
use Rattle.bench_core.proofs.Named.{AreNamed, state-kept}
use Rattle.bench_core.proofs.Holding.{state-at, state-there}
use Rattle.bench_core.proofs.Editing.{fits, edit-made, edit-refused, bench-after}

module _ (rules : Book) (limits : Limits) (old new : List (List ℕ)) (kept : KeepsIds old new) (tables : List Stored) (named : AreNamed old tables) (weights : List ℕ) (rows cells : ℕ)
    (bench : IsBench rules limits (state_of old tables)) (counts : AreCounts rules (state_of old tables) weights rows cells)
    (number : ℕ) (edit : Edit) (is : table_place rules.schema (name_of_table edit) ≡ Some number)
    (declared : Table) (table : Stored) (at_table-is : declared ≡ get_or rules.schema.tables number declared) (at : slice_get tables number ≡ Some table) where
  at-state : table_state old table ≡ get_or (state_of old tables) number (table_state old table)
  at-state = sym (get_or_from_slice_get (state_of old tables) number (table_state old table) (table_state old table) (state-there old number tables table at))

  set-is : (change : Change) → change.table ≡ number → state_of new (made_again change tables) ≡ slice_set (state_of old tables) number (table_state new (after_change change table))
  set-is change of =
      (λ i. state_of new (at_table (of i) (after_change change) tables))
      ∙ state-at new number (after_change change) tables table at
      ∙ ap (λ (state : State). slice_set state number (table_state new (after_change change table))) (state-kept old new kept tables named)

  module _ (room : Bool) (tested : room ≡ (nat_le (rows + 1) limits.rows && nat_le (cells + 1 * slice_index weights number) limits.index_cells)) where
    pub planned-edited : (result : Result Change EditFault) → GivesUnlessMemory refusal_of (after_edit limits room declared (table_state old table) edit) (λ change. (table_state new (after_change change table), told_of change)) result
        → IfOk result (IsPlanned new number table) → GivesUnlessMemory refusal_of (edited rules limits (state_of old tables) edit) (λ change. (state_of new (made_again change tables), told_of change)) result
    planned-edited (Ok change) made planned =
        edit-made bench counts number edit is declared (table_state old table) at_table-is at-state (table_state new (after_change change table)) (told_of change) room tested made
        ∙ ap (λ (state : State). Ok (state, told_of change)) (sym (set-is change planned.of_table))
    planned-edited (Err fault) refused planned = edit-refused bench counts number edit is declared (table_state old table) at_table-is at-state room fault tested refused

    pub planned-within : (result : Result Change EditFault) → GivesUnlessMemory refusal_of (after_edit limits room declared (table_state old table) edit) (λ change. (table_state new (after_change change table), told_of change)) result
        → IfOk result (IsPlanned new number table) → IfOk result (λ change. IsBench rules limits (state_of new (made_again change tables)))
    planned-within (Ok change) made planned =
        subst (IsBench rules limits) (sym (set-is change planned.of_table))
        (bench-after bench counts number edit is declared (table_state old table) at_table-is at-state (table_state new (after_change change table)) (told_of change) room tested made)
    planned-within (Err fault) refused planned = planned

  pub planned-fits : IsTableState limits.cell_bytes limits.last_id declared (table_state old table)
  planned-fits = fits bench counts number edit is declared (table_state old table) at_table-is at-state

pub planned-can : (texts : List (List ℕ)) (tables : List Stored) (number : ℕ) (table : Stored) → slice_get tables number ≡ Some table → (result : Result Change EditFault) → IfOk result (IsPlanned texts number table)
    → IfOk result (λ change. IsSomeAnd (slice_get tables change.table) (CanMake change))
planned-can texts tables number table at (Ok change) planned = subst (λ n. IsSomeAnd (slice_get tables n) (CanMake change)) (sym planned.of_table) (subst (λ found. IsSomeAnd found (CanMake change)) (sym at) planned.can)
planned-can texts tables number table at (Err fault) planned = planned
