-- An event is refused, or one edit leads on.
use Rattle.std.proofs.Common.{◌≡◌, ℕ, List, [], ◌∷◌, ◌++◌, length, Bool, true, false, if◌then◌else◌, Option, None, Some, Ok, Err, refl, sym, ap, ◌∙◌, subst, nat_le, append_assoc}
use Rattle.std.proofs.lemmas.List.{append-nil, map-append}
use Rattle.std.specs.Prelude.{◌==◌}
use Rattle.text_lists.specs.declared.limits.Limits.{Limits}
use Rattle.rule_model.specs.Books.{Book}
use Rattle.edit_log.specs.declared.edit.Edit.{Edit}
use Rattle.edit_log.specs.declared.edit.Edit.TheVariants as edit
use Rattle.bench_core.specs.Edited.{Step, row_named}
use Rattle.bench_core.specs.History.{History, history_edited}
use Rattle.bench_core.specs.declared.edit.Applied.{Applied}
use Rattle.desk_entries.specs.Entries.{Entry, entry_at, is_overtaken, last_live, version_of}
use Rattle.desk_events.specs.declared.event.Act.{Act}
use Rattle.desk_events.specs.declared.event.Act.TheVariants as act
use Rattle.desk_events.specs.declared.event.Event.{Event}
use Rattle.desk_state.specs.Desk.{Answer, DeskModel, IsDeskAnswer, act_answer, edit_answer, edit_seen, entry_in, look_answer, made, opposite, row_of_edit, take_back}
use Rattle.desk_state.specs.declared.reply.Reply.{Reply}
use Rattle.desk_state.specs.declared.reply.Reply.TheVariants as reply
use Rattle.desk.specs.OneHistory.{AreOneHistory, Lead, Made, entries_of}

-- nothing happened
pub none_made : (desk : DeskModel) → AreOneHistory desk desk
none_made desk = record { made = []; lead = refl; entries = sym (append-nil desk.entries) }

lead-append : (rules : Book) (limits : Limits) (start mid end : History) (made others : List Made) → Lead rules limits start made mid → Lead rules limits mid others end → Lead rules limits start (made ++ others) end
lead-append rules limits start mid end [] others first second = subst (λ h. Lead rules limits h others end) first second
lead-append rules limits start mid end ((edit, entry) ∷ made) others first second = (first.0, first.1, first.2, first.3, lead-append rules limits first.0 mid end made others first.4 second)

-- one after the other
pub made_on : (start mid end : DeskModel) → mid.rules ≡ start.rules → mid.limits ≡ start.limits → AreOneHistory start mid → AreOneHistory mid end → AreOneHistory start end
made_on start mid end rules limits first second = record {
  made = first.made ++ second.made;
  lead = lead-append start.rules start.limits start.history mid.history end.history first.made second.made first.lead (subst (λ l. Lead start.rules l mid.history second.made end.history) limits (subst (λ r. Lead r mid.limits mid.history second.made end.history) rules second.lead));
  entries = second.entries ∙ ap (λ (entries : List Entry). entries ++ entries_of second.made) first.entries ∙ append_assoc start.entries (entries_of first.made) (entries_of second.made) ∙ sym (ap (λ (entries : List Entry). start.entries ++ entries) (map-append (λ (m : Made). m.1) first.made second.made));
}

-- an edit is refused, or leads on
made_one : (desk : DeskModel) (editor : List ℕ) (takes : Option ℕ) (edit : Edit) (done : Step (History × Applied)) → history_edited desk.rules desk.limits desk.history edit ≡ done → AreOneHistory desk (made desk editor takes edit done).1
made_one desk editor takes edit (Err fault) is = none_made desk
made_one desk editor takes edit (Ok (after, applied)) is = record {
  made = (edit, entry_in desk.rules desk.history.present editor takes edit (row_of_edit edit applied)) ∷ [];
  lead = (after, applied, is, refl, refl);
  entries = refl;
}

unless_spent : (desk : DeskModel) (editor : List ℕ) (takes : Option ℕ) (edit : Edit) (spent : Bool) → AreOneHistory desk (if spent then (reply.EditsSpent, desk) else made desk editor takes edit (history_edited desk.rules desk.limits desk.history edit)).1
unless_spent desk editor takes edit true = none_made desk
unless_spent desk editor takes edit false = made_one desk editor takes edit (history_edited desk.rules desk.limits desk.history edit) refl

edit_made : (desk : DeskModel) (editor : List ℕ) (takes : Option ℕ) (edit : Edit) → AreOneHistory desk (edit_answer desk editor takes edit).1
edit_made desk editor takes edit = unless_spent desk editor takes edit (nat_le desk.last (length desk.entries))

unless_stale : (desk : DeskModel) (editor : List ℕ) (edit : Edit) (version : ℕ) (same : Bool) → AreOneHistory desk (if same then edit_answer desk editor None edit else (reply.Stale version, desk)).1
unless_stale desk editor edit version true = edit_made desk editor None edit
unless_stale desk editor edit version false = none_made desk

seen_made : (desk : DeskModel) (editor : List ℕ) (row seen : ℕ) (edit : Edit) (at : Step (ℕ × List (List ℕ))) → AreOneHistory desk (edit_seen desk editor row seen edit at).1
seen_made desk editor row seen edit (Err fault) = none_made desk
seen_made desk editor row seen edit (Ok (table, texts)) = let version = version_of desk.entries table row in unless_stale desk editor edit version (seen == version)

looked : (desk : DeskModel) (row : ℕ) (at : Step (ℕ × List (List ℕ))) → AreOneHistory desk (look_answer desk row at).1
looked desk row (Err fault) = none_made desk
looked desk row (Ok (table, texts)) = none_made desk

unless_overtaken : (desk : DeskModel) (editor : List ℕ) (number : ℕ) (entry : Entry) (overtaken : Bool)
    → AreOneHistory desk (if overtaken then (reply.Overtaken (version_of desk.entries entry.table entry.row), desk) else edit_answer desk editor (Some number) (opposite desk.rules.schema entry)).1
unless_overtaken desk editor number entry true = none_made desk
unless_overtaken desk editor number entry false = edit_made desk editor (Some number) (opposite desk.rules.schema entry)

taken_back : (desk : DeskModel) (editor : List ℕ) (number : ℕ) (entry : Option Entry) → AreOneHistory desk (take_back desk editor number entry).1
taken_back desk editor number None = none_made desk
taken_back desk editor number (Some entry) = unless_overtaken desk editor number entry (is_overtaken desk.entries number entry)

acted : (desk : DeskModel) (editor : List ℕ) (a : Act) → AreOneHistory desk (act_answer desk editor a).1
acted desk editor (act.Insert table values) = edit_made desk editor None (edit.Insert table values)
acted desk editor (act.Set table row seen attr value) = seen_made desk editor row seen (edit.Set table row attr value) (row_named desk.rules desk.history.present table row)
acted desk editor (act.Delete table row seen) = seen_made desk editor row seen (edit.Delete table row) (row_named desk.rules desk.history.present table row)
acted desk editor act.TakeBack = let number = last_live desk.entries editor in taken_back desk editor number (entry_at desk.entries number)
acted desk editor (act.Look table row) = looked desk row (row_named desk.rules desk.history.present table row)
acted desk editor act.List = none_made desk

pub answer_made : (desk : DeskModel) (event : Event) (told : Reply) (after : DeskModel) → IsDeskAnswer desk event told after → AreOneHistory desk after
answer_made desk event told after is = subst (λ (answer : Answer). AreOneHistory desk answer.1) is (acted desk event.editor event.act)
