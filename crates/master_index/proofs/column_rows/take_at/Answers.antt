use Rattle.std.proofs.Common.{◌≡◌, ◌≢◌, ℕ, Bool, false, List, [], ◌∷◌, sym, ◌∙◌, ap, true≢false}
use Rattle.std.specs.Str.{bytes_eq}
use Rattle.std.proofs.lemmas.Slice.Eq.{bytes_eq-Decides}
use Rattle.master_index.specs.declared.rising.RowIds.{RowIds}
use Rattle.master_index.specs.ColumnRows.{listed}
use Rattle.master_index.proofs.KeyedRowFacts.{lent_rises, lent_has_rows, kept_written, kept_removed, left_written, left_removed, notes_left, notes_without, some_left, value_twice}
use Rattle.master_index.proofs.column_rows.take_at.Goals as goal

-- the rows that are lent are not the row alone
isnt_alone : (lent read : RowIds) (slice own : List ℕ) (row : ℕ) (b : Bool) → read ≡ lent → slice ≡ listed read → own ≡ row ∷ [] → b ≡ bytes_eq slice own → b ≡ false → listed lent ≢ row ∷ []
isnt_alone lent read slice own row b same is alone test isnt one =
    true≢false (sym ((bytes_eq-Decides slice own).1 (is ∙ ap listed same ∙ one ∙ sym alone)) ∙ sym test ∙ isnt)

pub take-requires-clause-rising : goal.take-requires-clause-rising
take-requires-clause-rising c = lent_rises c.args.map.now.entries c.args.place c.index_mut.result.now c.requires.kept c.index_mut.ensures.value

pub take-requires-clause-others : goal.take-requires-clause-others
take-requires-clause-others c =
    isnt_alone c.index_mut.result.now c.index.result.now c.as_slice.result.now c.as_slice-2.result.now c.args.row c.eq.result
    (value_twice c.args.map.now.entries c.args.place c.index.result.now c.index_mut.result.now c.index.ensures c.index_mut.ensures.value) c.as_slice.ensures c.as_slice-2.ensures c.eq.ensures c.if-eq.false

pub returns-then-eq-clause-kept : goal.returns-then-eq-clause-kept
returns-then-eq-clause-kept c =
    kept_removed c.args.map.now.entries c.swap_remove_index.new.self.entries c.args.place c.swap_remove_index.result c.requires.within c.requires.kept c.swap_remove_index.ensures.entries c.swap_remove_index.ensures.unchanged

pub returns-then-eq-clause-left : goal.returns-then-eq-clause-left
returns-then-eq-clause-left c =
    let one = sym c.as_slice.ensures ∙ (bytes_eq-Decides c.as_slice.result.now c.as_slice-2.result.now).0 (sym c.eq.ensures ∙ c.if-eq.true) ∙ c.as_slice-2.ensures in
    left_removed c.args.map.now c.requires.unique c.args.row c.args.place c.index.result.now c.swap_remove_index.new.self c.swap_remove_index.result c.index.ensures
    one c.swap_remove_index.ensures.entry c.swap_remove_index.ensures.updates

pub returns-else-eq-clause-left : goal.returns-else-eq-clause-left
returns-else-eq-clause-left c = left_written c.args.map.now c.requires.unique c.args.row c.args.place c.index_mut.result.now c.take.new.self c.index_mut.ensures.value c.take.ensures.left

pub returns-else-eq-clause-kept : goal.returns-else-eq-clause-kept
returns-else-eq-clause-kept c =
    let es = c.args.map.now.entries in
    let same = value_twice es c.args.place c.index.result.now c.index_mut.result.now c.index.ensures c.index_mut.ensures.value in
    let isnt = isnt_alone c.index_mut.result.now c.index.result.now c.as_slice.result.now c.as_slice-2.result.now c.args.row c.eq.result same c.as_slice.ensures c.as_slice-2.ensures c.eq.ensures c.if-eq.false in
    kept_written es c.args.place c.take.new.self c.requires.kept c.take.ensures.rising
    (some_left c.args.row (listed c.index_mut.result.now) (listed c.take.new.self) (lent_has_rows es c.args.place c.index_mut.result.now c.requires.kept c.index_mut.ensures.value) isnt c.take.ensures.at_most_one c.take.ensures.none)

pub returns-then-eq-clause-noted : goal.returns-then-eq-clause-noted
returns-then-eq-clause-noted c = notes_without c.args.map.now c.requires.unique c.args.row c.args.place c.swap_remove_index.new.self c.swap_remove_index.result c.swap_remove_index.ensures.updates c.swap_remove_index.ensures.unchanged

pub returns-else-eq-clause-noted : goal.returns-else-eq-clause-noted
returns-else-eq-clause-noted c = notes_left c.args.map.now c.requires.unique c.args.row c.args.place c.index_mut.result.now c.take.new.self c.index_mut.ensures.value c.take.ensures.noted
