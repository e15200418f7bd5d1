use Rattle.std.proofs.Common.{◌+◌, ◌≤◌, Ok, IsSomeAnd, sym, subst, ◌∙◌}
use Rattle.std.specs.List.{slice_get}
use Rattle.bench_core.specs.History.{accepted}
use Rattle.bench_core.specs.Stored.{state_of}
use Rattle.bench_core.specs.Changes.{CanMake, history_of, made_again, told_of}
use Rattle.std.proofs.lemmas.List.{length-map}
use Rattle.bench_core.specs.Bench.{Holds, IsBench, tables_of, history}
use Rattle.bench_core.proofs.Holding.{on-err, held-log, history-edited-is, there-within}
use Rattle.bench_core.specs.Indexed.{IsIndexed, tuples_of}
use Rattle.bench_index.specs.AllIndexes.{most_probes}
use Rattle.bench_core.proofs.FollowedChange.{forward-can, forward-followed}
use Rattle.row_store.specs.Watches.{with_row}
use Rattle.row_store.specs.Tuple.{ids_if}
use Rattle.bench_core.proofs.project.Project.edit_table.Goals as goal

pub get_ready-requires-clause-table : goal.get_ready-requires-clause-table
get_ready-requires-clause-table g c = rw length-map at (there-within (CanMake c.in_ok-change.change) (tables_of c.planned.new.self) c.in_ok-change.change.table c.in_ok-change.ensures.can)

pub done-requires-clause-held : goal.done-requires-clause-held
done-requires-clause-held g c =
    subst (λ tables. Holds c.planned.new.self.rules c.planned.new.self.limits c.planned.new.self.pool c.get_ready.new.log tables c.planned.new.self.counts.weights.items c.planned.new.self.counts.rows c.planned.new.self.counts.cells) (sym c.get_ready.ensures.same) (held-log c.get_ready.new.log c.get_ready.ensures.past c.get_ready.ensures.undone c.in_ok-change.ensures.held)

pub done-requires-clause-can : goal.done-requires-clause-can
done-requires-clause-can g c =
    subst (λ tables. IsSomeAnd (slice_get tables c.in_ok-change.change.table) (CanMake c.in_ok-change.change)) (sym c.get_ready.ensures.same) c.in_ok-change.ensures.can

pub done-requires-clause-within : goal.done-requires-clause-within
done-requires-clause-within g c =
    subst (λ tables. IsBench c.planned.new.self.rules c.planned.new.self.limits (state_of c.planned.new.self.pool (made_again c.in_ok-change.change tables))) (sym c.get_ready.ensures.same) c.in_ok-change.ensures.within

pub returns-clause-edited : goal.returns-clause-edited
returns-clause-edited g c =
    let before = (λ i. history_of c.planned.new.self.pool (c.get_ready.ensures.past i) (c.get_ready.ensures.undone i) (c.get_ready.ensures.same i)) ∙ c.in_ok-change.ensures.history in
    let after = c.done.ensures.history ∙ (λ i. accepted (before i) (state_of c.planned.new.self.pool (made_again c.in_ok-change.change (c.get_ready.ensures.same i)))) in
    let told = c.done.ensures.told in
    history-edited-is c.args.self.now.rules c.args.self.now.limits (history c.args.self.now) c.args.edit.now (state_of c.planned.new.self.pool (made_again c.in_ok-change.change (tables_of c.planned.new.self))) (told_of c.in_ok-change.change) c.in_ok-change.ensures.edited
    ∙ (λ i. Ok (sym after i, sym told i))

pub returns-in_err-change-clause-indexed : goal.returns-in_err-change-clause-indexed
returns-in_err-change-clause-indexed g c = c.in_err-change.ensures.indexed c.args.index.now c.requires.indexed

pub returns-in_err-new-clause-indexed : goal.returns-in_err-new-clause-indexed
returns-in_err-new-clause-indexed g c = c.in_ok-change.ensures.indexed c.args.index.now c.requires.indexed

pub get_ready-requires-clause-follow : goal.get_ready-requires-clause-follow
get_ready-requires-clause-follow g c = forward-can (tables_of c.planned.new.self) c.in_ok-change.ensures.held.history.present (c.in_ok-change.ensures.indexed c.args.index.now c.requires.indexed) c.in_ok-change.change c.in_ok-change.ensures.can c.in_ok-change.ensures.within

pub returns-in_err-get_ready-clause-held : goal.returns-in_err-get_ready-clause-held
returns-in_err-get_ready-clause-held g c =
    subst (λ tables. Holds c.planned.new.self.rules c.planned.new.self.limits c.planned.new.self.pool c.get_ready.new.log tables c.planned.new.self.counts.weights.items c.planned.new.self.counts.rows c.planned.new.self.counts.cells) (sym c.get_ready.ensures.same) (held-log c.get_ready.new.log c.get_ready.ensures.past c.get_ready.ensures.undone c.in_ok-change.ensures.held)

pub returns-in_err-get_ready-clause-indexed : goal.returns-in_err-get_ready-clause-indexed
returns-in_err-get_ready-clause-indexed g c =
    subst (λ tables. IsIndexed c.planned.new.self.rules c.planned.new.self.pool (tuples_of tables) c.get_ready.new.index) (sym c.get_ready.ensures.same) (c.in_err-get_ready.ensures.refused c.planned.new.self.pool (tuples_of (tables_of c.planned.new.self)) (c.in_ok-change.ensures.indexed c.args.index.now c.requires.indexed))

pub returns-in_err-get_ready-clause-unchanged : goal.returns-in_err-get_ready-clause-unchanged
returns-in_err-get_ready-clause-unchanged g c =
    on-err c.from_residual-in_err-get_ready.result _ ((λ i. history_of c.planned.new.self.pool (c.get_ready.ensures.past i) (c.get_ready.ensures.undone i) (c.get_ready.ensures.same i)) ∙ c.in_ok-change.ensures.history)

pub returns-in_err-get_ready-clause-probes : goal.returns-in_err-get_ready-clause-probes
returns-in_err-get_ready-clause-probes g c =
    subst (λ n. c.get_ready.new.steps ≤ c.args.steps.now + n) (λ i. most_probes (c.in_ok-change.ensures.made_with.0 i) (c.in_ok-change.ensures.number i)) c.get_ready.ensures.probes

pub returns-clause-indexed : goal.returns-clause-indexed
returns-clause-indexed g c =
    let followed = forward-followed (tables_of c.planned.new.self) c.in_ok-change.ensures.held.history.present (c.in_ok-change.ensures.indexed c.args.index.now c.requires.indexed) c.in_ok-change.change c.in_ok-change.ensures.can c.in_ok-change.ensures.within c.get_ready.new.index c.in_ok-get_ready.ensures.followed in
    c.done.ensures.indexed c.get_ready.new.index
    (subst (λ tables. IsIndexed c.planned.new.self.rules c.planned.new.self.pool (with_row (tuples_of tables) c.in_ok-change.change.table c.in_ok-change.change.row (ids_if c.in_ok-change.change.new)) c.get_ready.new.index) (sym c.get_ready.ensures.same) followed)

pub returns-clause-probes : goal.returns-clause-probes
returns-clause-probes g c =
    subst (λ n. c.get_ready.new.steps ≤ c.args.steps.now + n) (λ i. most_probes (c.in_ok-change.ensures.made_with.0 i) (c.in_ok-change.ensures.number i)) c.get_ready.ensures.probes
