-- How many probes an event may take.
use Rattle.std.specs.Prelude.{ℕ, ◌+◌, ◌≤◌, List, Option, None, Some}
use Rattle.rule_model.specs.Books.{Book}
use Rattle.bench_core.specs.Indexed.{edit_probes, table_probes}
use Rattle.bench_core.specs.DirtyCounts.{list_probes}
use Rattle.desk_events.specs.declared.event.Act.{Act}
use Rattle.desk_events.specs.declared.event.Act.TheVariants as act
use Rattle.desk_entries.specs.Entries.{Entry, entry_at, last_live}
use Rattle.desk_state.specs.Desk.{DeskModel, opposite}

-- the most probes of taking an entry back
abbrev pub back_probes : Book → Option Entry → ℕ
back_probes rules None = 0
back_probes rules (Some entry) = edit_probes rules (opposite rules.schema entry)

-- From the one count to the other there were no more probes than the event may take. What changes a row takes as many as
-- the rules of its table say, however many rows and entries there are. The list takes one for each dirty group or key and
-- tableau row.
abbrev pub IsWithin : DeskModel → List ℕ → Act → ℕ → ℕ → Type 0
IsWithin desk editor (act.Insert table values) before after = after ≤ before + table_probes desk.rules table
IsWithin desk editor (act.Set table row seen attr value) before after = after ≤ before + table_probes desk.rules table
IsWithin desk editor (act.Delete table row seen) before after = after ≤ before + table_probes desk.rules table
IsWithin desk editor act.TakeBack before after = after ≤ before + back_probes desk.rules (entry_at desk.entries (last_live desk.entries editor))
IsWithin desk editor (act.Look table row) before after = after ≤ before
IsWithin desk editor act.List before after = after ≤ before + list_probes desk.rules desk.history.present
