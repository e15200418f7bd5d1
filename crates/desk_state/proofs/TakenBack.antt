-- Taking back, where the editor's last live entry is there and nobody built on it.
use Rattle.std.proofs.Common.{◌≡◌, ℕ, List, Some, false, refl}
use Rattle.edit_log.specs.declared.edit.Edit.{Edit}
use Rattle.bench_core.specs.Indexed.{edit_probes}
use Rattle.desk_entries.specs.Entries.{Entry, entry_at, is_overtaken, last_live}
use Rattle.desk_state.specs.Desk.{DeskModel, edit_answer, opposite, take_last_back}
use Rattle.desk_state.specs.Probes.{back_probes}

module _ (desk : DeskModel) (editor : List ℕ) (number : ℕ) (entry : Entry) (edit : Edit) (last : number ≡ last_live desk.entries editor) (there : entry_at desk.entries number ≡ Some entry) (is : edit ≡ opposite desk.rules.schema entry) where
  pub taken-back : is_overtaken desk.entries number entry ≡ false → take_last_back desk editor ≡ edit_answer desk editor (Some number) edit
  taken-back free = rw (← last, there, free, is) refl

  pub back-probes : back_probes desk.rules (entry_at desk.entries (last_live desk.entries editor)) ≡ edit_probes desk.rules edit
  back-probes = rw (← last, there, is) refl
