use Rattle.std.proofs.Common.{◌≡◌, suc, ◌+◌, ◌∷◌, [], ◌++◌, length, sym, refl, ◌∙◌, ap, subst, arith}
use Rattle.std.specs.Prelude.{if◌then◌else◌}
use Rattle.desk_entries.specs.Kept.{IsTied, MayTake, RowKey, TakeWithin, entries_kept, kept_new, live_top, row_tops, same_row, tops_noted}
use Rattle.desk_entries.specs.Entries.{is_live}
use Rattle.desk_entries.proofs.Pushed.{after-none, after-some}
use Rattle.desk_entries.proofs.entries.Entries.push.Goals as goal
use Rattle.desk_entries.proofs.entries.Entries.push.Goals.{in-Some, in-None}

pub invariant_of-self : goal.invariant_of-self
invariant_of-self c = elim c.match-entry.branch [
  | in-Some w ↦
      let e = c.args.entry in
      let is = subst (λ s. (other : RowKey) → row_tops c.note.new.rows other ≡ (if same_row (e.table, e.row) other then tops_noted e (suc (length s.list.items)) (row_tops s.rows other) else row_tops s.rows other)) w.self-inside-is c.note.ensures.rows in
      let after = subst (λ s. c.note.new.list.items ≡ s.list.items ++ kept_new e c.live_at-live_below.result (row_tops s.rows (e.table, e.row)).firm ∷ []) w.self-inside-is c.note.ensures.list in
      subst (λ s. IsTied (is_live (entries_kept c.note.new.list.items)) c.note.new.list.items (live_top s.live) (row_tops c.note.new.rows) × TakeWithin (entries_kept c.note.new.list.items)) (sym w.self-inside-is)
      (after-some c.self.inside.list.items c.note.new.list.items e c.args.editor (live_top c.self.inside.live) (live_top w.put_live.new.live) (row_tops c.self.inside.rows) (row_tops w.retire_row.new.rows) (row_tops c.note.new.rows) c.live_at-live_below.result
      c.self.invariant.0 c.self.invariant.1 c.requires.editor c.live_at-live_below.ensures is after
      w.in-Some.taken w.index-as_slice-taken.result w.in-Some.is (subst (MayTake (entries_kept c.self.inside.list.items) e.editor) w.in-Some.is (rw (← c.self.view_is) at c.requires.may))
      (rw w.as_slice-in-Some.ensures.value at w.index-as_slice-taken.is) w.put_live.ensures w.retire_row.ensures.tops)
  | in-None w ↦
      let e = c.args.entry in
      let is = subst (λ s. (other : RowKey) → row_tops c.note.new.rows other ≡ (if same_row (e.table, e.row) other then tops_noted e (suc (length s.list.items)) (row_tops s.rows other) else row_tops s.rows other)) w.self-inside-is c.note.ensures.rows in
      let after = subst (λ s. c.note.new.list.items ≡ s.list.items ++ kept_new e c.live_at-live_below.result (row_tops s.rows (e.table, e.row)).firm ∷ []) w.self-inside-is c.note.ensures.list in
      subst (λ s. IsTied (is_live (entries_kept c.note.new.list.items)) c.note.new.list.items (live_top s.live) (row_tops c.note.new.rows) × TakeWithin (entries_kept c.note.new.list.items)) (sym w.self-inside-is)
      (after-none c.self.inside.list.items c.note.new.list.items e c.args.editor (live_top c.self.inside.live) (live_top w.put_live-in-None.new.live) (row_tops c.self.inside.rows) (row_tops c.self.inside.rows) (row_tops c.note.new.rows) c.live_at-live_below.result
      c.self.invariant.0 c.self.invariant.1 c.requires.editor c.live_at-live_below.ensures is after
      (length c.as_slice.result.now + 1) w.in-None.is (ap (λ l. length l + 1) c.as_slice.ensures.value ∙ omega arith) w.put_live-in-None.ensures refl)
]
