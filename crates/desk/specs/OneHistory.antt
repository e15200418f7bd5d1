-- Whoever makes them, the accepted edits are one history: handed one after the other to a bench of its own, they lead where
-- the desk is. Each is told by its entry.
use Rattle.std.specs.Prelude.{◌≡◌, ◌++◌, List, [], ◌∷◌, map, Ok}
use Rattle.text_lists.specs.declared.limits.Limits.{Limits}
use Rattle.rule_model.specs.Books.{Book}
use Rattle.edit_log.specs.declared.edit.Edit.{Edit}
use Rattle.bench_core.specs.History.{History, history_edited}
use Rattle.bench_core.specs.declared.edit.Applied.{Applied}
use Rattle.desk_entries.specs.Entries.{Entry}
use Rattle.desk_state.specs.Desk.{DeskModel, entry_in, row_of_edit}

-- an edit, and the entry that tells it
abbrev pub Made : Type 0
Made = Edit × Entry

abbrev pub entries_of : List Made → List Entry
entries_of made = map (λ (m : Made). m.1) made

-- each edit is accepted in the history that those before it lead to, where its entry is made, and the last leads to this one
abbrev pub Lead : Book → Limits → History → List Made → History → Type 0
Lead rules limits start [] end = end ≡ start
Lead rules limits start ((edit, entry) ∷ made) end = (next : History) × (applied : Applied) × (history_edited rules limits start edit ≡ Ok (next, applied))
    × (entry ≡ entry_in rules start.present entry.editor entry.takes edit (row_of_edit edit applied)) × Lead rules limits next made end

-- between the two desks some edits were accepted, and just their entries came
pub record AreOneHistory (before after : DeskModel) : Type 0 where
  pub made : List Made
  pub lead : Lead before.rules before.limits before.history made after.history
  pub entries : after.entries ≡ before.entries ++ entries_of made
