use Rattle.std.proofs.Common.{◌∙◌, ap, sym}
use Rattle.row_store.specs.Slots.{entries_from}
use Rattle.row_store.proofs.SlotRows.{entries-rows_in}
use Rattle.std.specs.FinMap as map
use Rattle.row_store.proofs.store.RowStore.rows.Goals as goal

pub returns : goal.returns
returns c = c.over.ensures ∙ ap (entries_from 0) c.deref.ensures.value ∙ sym (entries-rows_in c.self.inside.slots.items) ∙ ap (λ store. map.entries store.rows) c.self.view_is
