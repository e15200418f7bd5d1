-- Rows are as the entries left them at every desk that answers lead to.
use Rattle.std.proofs.Common.{◌≡◌, ℕ, zero, suc, ◌+◌, ◌-◌, ◌<◌, ◌≤◌, ◌⊎◌, inl, inr, ◌==◌, ◌&&◌, nat_le, Bool, true, false, if◌then◌else◌, List, [], ◌∷◌, ◌++◌, length, Option, Some, None, Result, Ok, Err, IfOk, OnErr, option_and_then, slice_get, refl, sym, ◌∙◌, ap, subst, arith, true≢false}
use Rattle.std.specs.List.{AllZip}
use Rattle.std.proofs.lemmas.Bool.{ltb-false}
use Rattle.std.proofs.lemmas.Option.{none-some, same_Some}
use Rattle.schema_core.specs.Schemas.{table_place}
use Rattle.schema_core.specs.declared.schema.Schema.{Schema}
use Rattle.edit_log.specs.declared.edit.Edit.{Edit}
use Rattle.edit_log.specs.declared.edit.Edit.TheVariants as edit
use Rattle.desk_events.specs.declared.event.Act.{Act}
use Rattle.desk_events.specs.declared.event.Act.TheVariants as act
use Rattle.desk_events.specs.declared.event.Event.{Event}
use Rattle.desk_entries.specs.Entries.{Entry, entry_at, entry_is, is_by, is_firm_on, is_live, is_live_of, is_on, is_overtaken, last_live, last_number, version_of}
use Rattle.desk_entries.proofs.Numbers.{last-passes}
use Rattle.desk_entries.proofs.Tied.{length-snoc, same-pair, slice_get-new, slice_get-old}
use Rattle.bench_core.specs.Answers.{row_texts}
use Rattle.bench_core.specs.Bench.{IsBench}
use Rattle.desk_state.specs.Desk.{DeskModel, act_answer, answered, edit_answer, edit_seen, entry_in, look_answer, made, opposite, opposite_edit, row_of_edit, table_name, take_back}
use Rattle.bench_core.specs.Edited.{Step, edited, name_of_table, row_named}
use Rattle.bench_core.specs.History.{History, accepted, history_edited}
use Rattle.desk_state.specs.LeftTexts.{AreAsLeft, IsReached, LeftTexts, left_by, left_texts}
use Rattle.bench_core.specs.State.{State, TableState, IsTableState, texts_of}
use Rattle.bench_core.specs.declared.edit.Applied.{Applied}
use Rattle.desk_state.specs.declared.reply.Reply.{Reply}
use Rattle.desk_state.specs.declared.reply.Reply.TheVariants as reply
use Rattle.bench_core.proofs.Fits.{bound_parts}
use Rattle.bench_core.proofs.RowsAt.{texts-at}
use Rattle.desk_state.proofs.RowsEdited.{below-next, next-at, next_at}
use Rattle.desk_state.proofs.EntryMade.{AreBelow, EntryMade, Leaves, entry-made, ok-parts, place-named}
use Rattle.desk_state.proofs.Standing.{AreStanding, IsFree, IsMade, IsOpposite, OwnRow, each-entry, plain-standing, taking-standing}
use Rattle.desk_state.proofs.Standing.IsOpposite.{undoes_change, undoes_delete, undoes_insert}

-- ---- what each entry left, by the states of the history

abbrev left-at : List State → State → ℕ → LeftTexts
left-at past present count n t r = option_and_then (λ (state : State). row_texts state t r) (slice_get (past ++ present ∷ []) (length past - count + n))

module _ (past : List State) (present : State) (count : ℕ) (short : count ≤ length past) where
  -- the last entry left the present state
  left-last : (t r : ℕ) → left-at past present count count t r ≡ row_texts present t r
  left-last t r =
      let index : length past - count + count ≡ length past = omega arith in
      ap (λ i. option_and_then (λ (state : State). row_texts state t r) (slice_get (past ++ present ∷ []) i)) index ∙ ap (option_and_then (λ (state : State). row_texts state t r)) (slice_get-new past present)

  -- where the history goes on, what the entries before left stays
  left-kept : (after : State) (n t r : ℕ) → n ≤ count → left-at (past ++ present ∷ []) after (suc count) n t r ≡ left-at past present count n t r
  left-kept after n t r w =
      let long = length-snoc past present in
      let index : length (past ++ present ∷ []) - suc count + n ≡ length past - count + n = omega arith in
      ap (λ i. option_and_then (λ (state : State). row_texts state t r) (slice_get ((past ++ present ∷ []) ++ after ∷ []) i)) index
      ∙ ap (option_and_then (λ (state : State). row_texts state t r)) (slice_get-old (past ++ present ∷ []) (after ∷ []) (length past - count + n) (omega arith))

-- ---- what every desk keeps

record IsStanding (desk : DeskModel) : Type 0 where
  short : length desk.entries ≤ length desk.history.past
  below : AreBelow desk.history.present
  rows : AreStanding desk.entries (left_texts desk) (next_at desk.history.present)
  named : (n : ℕ) (e : Entry) → slice_get desk.entries n ≡ Some e → table_place desk.rules.schema (table_name desk.rules.schema e.table) ≡ Some e.table

as-left : (desk : DeskModel) → IsStanding desk → AreAsLeft desk
as-left desk standing t r texts there =
    standing.rows.now t r texts (left-last desk.history.past desk.history.present (length desk.entries) standing.short t r ∙ there)

-- ---- an edit is accepted

-- an entry takes none back, or the edit is the opposite of the one at this place, on which nobody built
record TakesBack (schema : Schema) (es : List Entry) (takes : Option ℕ) (edit : Edit) : Type 0 where
  place : ℕ
  taken : Entry
  taking : takes ≡ Some (suc place)
  free : IsFree es place taken
  is : edit ≡ opposite schema taken

abbrev MayStand : Schema → List Entry → Option ℕ → Edit → Type 0
MayStand schema es takes edit = (takes ≡ None) ⊎ TakesBack schema es takes edit

name-of_opposite : (name : List ℕ) (row : ℕ) (before : Option (List (List ℕ))) (deletes : Bool) → name_of_table (opposite_edit name row before deletes) ≡ name
name-of_opposite name row None deletes = refl
name-of_opposite name row (Some texts) false = refl
name-of_opposite name row (Some texts) true = refl

is-opposite : (taken e : Entry) (is : Option (List (List ℕ))) (name : List ℕ) → e.table ≡ taken.table → (before : Option (List (List ℕ))) (deletes : Bool) → taken.before ≡ before → taken.deletes ≡ deletes
    → Leaves (opposite_edit name taken.row before deletes) e is → IsOpposite taken e is
is-opposite taken e is name table None deletes was goes leaves = undoes_insert table leaves.0 leaves.1
is-opposite taken e is name table (Some texts) false was goes leaves = undoes_change texts table leaves.0 goes was leaves.1
is-opposite taken e is name table (Some texts) true was goes leaves = undoes_delete goes leaves

module _ (desk : DeskModel) (standing : IsStanding desk) (e : Entry) (takes : Option ℕ) (takes-is : e.takes ≡ takes) (edit : Edit) (after : State) (made-is : EntryMade desk.rules.schema desk.history.present after edit e) where
  abbrev es : List Entry
  es = desk.entries

  abbrev past : List State
  past = desk.history.past

  abbrev present : State
  present = desk.history.present

  abbrev left-before : LeftTexts
  left-before = left-at desk.history.past desk.history.present (length desk.entries)

  abbrev left-after : LeftTexts
  left-after = left-at (desk.history.past ++ desk.history.present ∷ []) after (suc (length desk.entries))

  longer : suc (length es) ≤ length (past ++ present ∷ [])
  longer = let long = length-snoc past present in let short = standing.short in omega arith

  present-left : (t r : ℕ) → left-before (length es) t r ≡ row_texts present t r
  present-left t r = left-last past present (length es) standing.short t r

  after-left : (t r : ℕ) → left-after (suc (length es)) t r ≡ row_texts after t r
  after-left t r = left-last (past ++ present ∷ []) after (suc (length es)) longer t r

  is-made : IsMade es e left-before left-after (next_at present) (next_at after)
  is-made = record {
    kept = λ n t r w. left-kept past present (length es) standing.short after n t r w;
    others = λ t r off. after-left t r ∙ made-is.row.others t r off ∙ sym (present-left t r);
    own = subst (λ o. OwnRow e o (left-after (suc (length es)) e.table e.row) (next_at present e.table)) (sym (present-left e.table e.row))
        (subst (λ o. OwnRow e (row_texts present e.table e.row) o (next_at present e.table)) (sym (after-left e.table e.row)) made-is.row.own);
    grows = made-is.row.grows;
    known = made-is.row.known;
  }

  below-after : AreBelow after
  below-after t r texts there = by (is_on t r e) refl
    where
      by : (b : Bool) → is_on t r e ≡ b → r < next_at after t
      by true on =
          let pair = same-pair (e.table, e.row) (t, r) on in
          let same : next_at after e.table ≡ next_at after t = ap (next_at after) pair.0 in
          let row = pair.1 in
          let known = made-is.row.known in
          omega arith
      by false off =
          let low = standing.below t r texts (sym (made-is.row.others t r off) ∙ there) in
          let grows = made-is.row.grows t in
          omega arith

  named-own : table_place desk.rules.schema (table_name desk.rules.schema e.table) ≡ Some e.table
  named-own = ap (table_place desk.rules.schema) (place-named desk.rules.schema (name_of_table edit) e.table made-is.place) ∙ made-is.place

  -- the entry is of the table of the one that it takes back
  same-table : (taken : Entry) (n : ℕ) → slice_get es n ≡ Some taken → edit ≡ opposite desk.rules.schema taken → e.table ≡ taken.table
  same-table taken n at opp =
      let name : name_of_table edit ≡ table_name desk.rules.schema taken.table = ap name_of_table opp ∙ name-of_opposite (table_name desk.rules.schema taken.table) taken.row taken.before taken.deletes in
      same_Some e.table taken.table (sym made-is.place ∙ ap (table_place desk.rules.schema) name ∙ standing.named n taken at)

  abbrev AreNow : Type 0
  AreNow = AreStanding (desk.entries ++ e ∷ []) (left-at (desk.history.past ++ desk.history.present ∷ []) after (suc (length desk.entries))) (next_at after)

  rows-now : MayStand desk.rules.schema es takes edit → AreNow
  rows-now (inl none) = plain-standing es e left-before left-after (next_at present) (next_at after) is-made standing.rows (takes-is ∙ none)
  rows-now (inr back) =
      let leaves = subst (λ (d : Edit). Leaves d e (row_texts after e.table e.row)) back.is made-is.leaves in
      let opp = is-opposite back.taken e (row_texts after e.table e.row) (table_name desk.rules.schema back.taken.table) (same-table back.taken back.place back.free.at back.is) back.taken.before back.taken.deletes refl refl leaves in
      taking-standing es e left-before left-after (next_at present) (next_at after) is-made standing.rows back.place back.taken (takes-is ∙ back.taking) back.free
      (subst (IsOpposite back.taken e) (sym (after-left e.table e.row)) opp)

  still-standing : MayStand desk.rules.schema es takes edit → IsStanding (record desk { history = accepted desk.history after; entries = desk.entries ++ e ∷ [] })
  still-standing may = record {
    short = let long = length-snoc es e in let more = longer in omega arith;
    below = below-after;
    rows = subst (λ count. AreStanding (es ++ e ∷ []) (left-at (past ++ present ∷ []) after count) (next_at after)) (sym (length-snoc es e)) (rows-now may);
    named = each-entry es e (λ n x. table_place desk.rules.schema (table_name desk.rules.schema x.table) ≡ Some x.table) standing.named named-own;
  }

-- ---- an event

stands-made : (desk : DeskModel) → IsStanding desk → (editor : List ℕ) (takes : Option ℕ) (edit : Edit) → MayStand desk.rules.schema desk.entries takes edit → (done : Step (History × Applied)) → history_edited desk.rules desk.limits desk.history edit ≡ done
    → IsStanding (made desk editor takes edit done).1
stands-made desk standing editor takes edit may (Err fault) done = standing
stands-made desk standing editor takes edit may (Ok (after, applied)) made_so =
    let (step, made-is, done) = bound_parts (edited desk.rules desk.limits desk.history.present edit) (λ (step : State × Applied). Ok (accepted desk.history step.0, step.1)) (after, applied) made_so in
    let ends = ok-parts (accepted desk.history step.0) after step.1 applied done in
    let e = entry_in desk.rules desk.history.present editor takes edit (row_of_edit edit step.1) in
    subst (λ (h : History). IsStanding (record desk { history = h; entries = desk.entries ++ entry_in desk.rules desk.history.present editor takes edit (row_of_edit edit applied) ∷ [] })) ends.0
    (subst (λ (t : Applied). IsStanding (record desk { history = accepted desk.history step.0; entries = desk.entries ++ entry_in desk.rules desk.history.present editor takes edit (row_of_edit edit t) ∷ [] })) ends.1
    (still-standing desk standing e takes refl edit step.0 (entry-made desk.rules desk.limits desk.history.present standing.below editor takes edit step.0 step.1 made-is) may))

stands-unless_spent : (desk : DeskModel) → IsStanding desk → (editor : List ℕ) (takes : Option ℕ) (edit : Edit) → MayStand desk.rules.schema desk.entries takes edit → (spent : Bool)
    → IsStanding (if spent then (reply.EditsSpent, desk) else made desk editor takes edit (history_edited desk.rules desk.limits desk.history edit)).1
stands-unless_spent desk standing editor takes edit may true = standing
stands-unless_spent desk standing editor takes edit may false = stands-made desk standing editor takes edit may (history_edited desk.rules desk.limits desk.history edit) refl

stands-edit : (desk : DeskModel) → IsStanding desk → (editor : List ℕ) (takes : Option ℕ) (edit : Edit) → MayStand desk.rules.schema desk.entries takes edit → IsStanding (edit_answer desk editor takes edit).1
stands-edit desk standing editor takes edit may = stands-unless_spent desk standing editor takes edit may (nat_le desk.last (length desk.entries))

stands-unless_stale : (desk : DeskModel) → IsStanding desk → (editor : List ℕ) (edit : Edit) (version : ℕ) (same : Bool) → IsStanding (if same then edit_answer desk editor None edit else (reply.Stale version, desk)).1
stands-unless_stale desk standing editor edit version true = stands-edit desk standing editor None edit (inl refl)
stands-unless_stale desk standing editor edit version false = standing

stands-seen : (desk : DeskModel) → IsStanding desk → (editor : List ℕ) (row seen : ℕ) (edit : Edit) (at : Step (ℕ × List (List ℕ))) → IsStanding (edit_seen desk editor row seen edit at).1
stands-seen desk standing editor row seen edit (Err fault) = standing
stands-seen desk standing editor row seen edit (Ok (table, texts)) = let version = version_of desk.entries table row in stands-unless_stale desk standing editor edit version (seen == version)

stands-look : (desk : DeskModel) → IsStanding desk → (row : ℕ) (at : Step (ℕ × List (List ℕ))) → IsStanding (look_answer desk row at).1
stands-look desk standing row (Err fault) = standing
stands-look desk standing row (Ok (table, texts)) = standing

-- the editor's last live entry, on which nobody built
last-free : (es : List Entry) (editor : List ℕ) (k : ℕ) (taken : Entry) → last_live es editor ≡ suc k → slice_get es k ≡ Some taken → is_overtaken es (suc k) taken ≡ false → IsFree es k taken
last-free es editor k taken last at free = record {
  at = at;
  live = second (entry_is (is_by editor) es (suc k)) (is_live es (suc k)) (last-passes (is_live_of es editor) (length es) k last);
  last = ltb-false (suc k) (last_number es (is_firm_on es taken.table taken.row)) free;
}
  where
    second : (a b : Bool) → (a && b) ≡ true → b ≡ true
    second true b h = h
    second false b h = absurd (true≢false (sym h))

stands-unless_overtaken : (desk : DeskModel) → IsStanding desk → (editor : List ℕ) (number : ℕ) (taken : Entry) → last_live desk.entries editor ≡ number → entry_at desk.entries number ≡ Some taken → (overtaken : Bool) → is_overtaken desk.entries number taken ≡ overtaken
    → IsStanding (if overtaken then (reply.Overtaken (version_of desk.entries taken.table taken.row), desk) else edit_answer desk editor (Some number) (opposite desk.rules.schema taken)).1
stands-unless_overtaken desk standing editor number taken last at true is = standing
stands-unless_overtaken desk standing editor zero taken last at false is = absurd (none-some taken at)
stands-unless_overtaken desk standing editor (suc k) taken last at false is =
    stands-edit desk standing editor (Some (suc k)) (opposite desk.rules.schema taken) (inr (record { place = k; taken = taken; taking = refl; free = last-free desk.entries editor k taken last at is; is = refl }))

stands-taken_back : (desk : DeskModel) → IsStanding desk → (editor : List ℕ) (number : ℕ) (entry : Option Entry) → last_live desk.entries editor ≡ number → entry_at desk.entries number ≡ entry → IsStanding (take_back desk editor number entry).1
stands-taken_back desk standing editor number None last at = standing
stands-taken_back desk standing editor number (Some taken) last at = stands-unless_overtaken desk standing editor number taken last at (is_overtaken desk.entries number taken) refl

stands-act : (desk : DeskModel) → IsStanding desk → (editor : List ℕ) (a : Act) → IsStanding (act_answer desk editor a).1
stands-act desk standing editor (act.Insert table values) = stands-edit desk standing editor None (edit.Insert table values) (inl refl)
stands-act desk standing editor (act.Set table row seen attr value) = stands-seen desk standing editor row seen (edit.Set table row attr value) (row_named desk.rules desk.history.present table row)
stands-act desk standing editor (act.Delete table row seen) = stands-seen desk standing editor row seen (edit.Delete table row) (row_named desk.rules desk.history.present table row)
stands-act desk standing editor act.TakeBack = let number = last_live desk.entries editor in stands-taken_back desk standing editor number (entry_at desk.entries number) refl refl
stands-act desk standing editor (act.Look table row) = stands-look desk standing row (row_named desk.rules desk.history.present table row)
stands-act desk standing editor act.List = standing

-- ---- a desk with no entry, and those that answers lead to

-- what a later list has at a place
zip-right : {X Y : Type 0} (R : X → Y → Type 0) (xs : List X) (ys : List Y) (n : ℕ) (y : Y) → AllZip R xs ys → slice_get ys n ≡ Some y → (x : X) × R x y
zip-right R xs [] n y all at = absurd (none-some y at)
zip-right R [] (b ∷ ys) n y all at = absurd all
zip-right R (a ∷ xs) (b ∷ ys) zero y all at = (a, subst (R a) (same_Some b y at) all.0)
zip-right R (a ∷ xs) (b ∷ ys) (suc n) y all at = zip-right R xs ys n y all.1 at

bench-below : (desk : DeskModel) → IsBench desk.rules desk.limits desk.history.present → AreBelow desk.history.present
bench-below desk valid t r texts there = by (slice_get desk.history.present t) refl
  where
    by : (table : Option TableState) → slice_get desk.history.present t ≡ table → r < next_at desk.history.present t
    by None at = absurd (none-some texts (sym (ap (option_and_then (λ (t : TableState). texts_of t r)) at) ∙ there))
    by (Some table) at =
        let (declared, is) = zip-right (IsTableState desk.limits.cell_bytes desk.limits.last_id) desk.rules.schema.tables desk.history.present t table valid.tables at in
        let low = below-next table is.below_next r texts (sym (texts-at desk.history.present t r table at) ∙ there) in
        let same = next-at desk.history.present t table at in
        omega arith

none-standing : (left : LeftTexts) (next : ℕ → ℕ) → AreStanding [] left next
none-standing left next = record {
  now = λ t r texts there. inl there;
  before = λ n e texts at. absurd (none-some e at);
  gone = λ n e at. absurd (none-some e at);
  known = λ n e at. absurd (none-some e at);
  takes = λ k d within. absurd (omega arith);
}

stands-first : (desk : DeskModel) → desk.entries ≡ [] → IsBench desk.rules desk.limits desk.history.present → IsStanding desk
stands-first desk none valid = record {
  short = let zero-long : length desk.entries ≡ 0 = ap length none in omega arith;
  below = bench-below desk valid;
  rows = subst (λ es. AreStanding es (left_texts desk) (next_at desk.history.present)) (sym none) (none-standing (left_texts desk) (next_at desk.history.present));
  named = λ n e at. absurd (none-some e (sym (ap (λ es. slice_get es n) none) ∙ at));
}

stands-left_by : (desk : DeskModel) (events : List Event) → IsStanding desk → IsStanding (left_by desk events)
stands-left_by desk [] standing = standing
stands-left_by desk (event ∷ events) standing = stands-left_by (answered desk event).1 events (stands-act desk standing event.editor event.act)

pub reached-as_left : (desk : DeskModel) → IsReached desk → AreAsLeft desk
reached-as_left desk reached = as-left desk (subst IsStanding (sym reached.leads) (stands-left_by reached.start reached.events (stands-first reached.start reached.none reached.valid)))

-- the desk itself, where it has no entry
pub reached-first : (desk : DeskModel) → desk.entries ≡ [] → IsBench desk.rules desk.limits desk.history.present → IsReached desk
reached-first desk none valid = record { start = desk; events = []; none = none; valid = valid; leads = refl }

-- one event more
left_by-more : (desk : DeskModel) (events : List Event) (event : Event) → left_by desk (events ++ event ∷ []) ≡ (answered (left_by desk events) event).1
left_by-more desk [] event = refl
left_by-more desk (first ∷ events) event = left_by-more (answered desk first).1 events event

pub reached-more : (desk : DeskModel) (event : Event) (told : Reply) (after : DeskModel) → answered desk event ≡ (told, after) → IsReached desk → IsReached after
reached-more desk event told after is reached = record {
  start = reached.start;
  events = reached.events ++ event ∷ [];
  none = reached.none;
  valid = reached.valid;
  leads = sym (left_by-more reached.start reached.events event ∙ ap (λ (d : DeskModel). (answered d event).1) (sym reached.leads) ∙ ap (λ (a : Reply × DeskModel). a.1) is);
}

-- it was answered, or there was no memory for the answer and the desk is as before
pub reached-on : {E : Type 0} (old new : DeskModel) (event : Event) (told : Result Reply E) → IfOk told (λ reply. answered old event ≡ (reply, new)) → OnErr told (new ≡ old) → IsReached old → IsReached new
reached-on old new event (Ok reply) is same reached = reached-more old event reply new is reached
reached-on old new event (Err fault) is same reached = subst IsReached (sym same) reached
