use Rattle.std.proofs.Common.{◌≡◌, ap, sym, subst, ◌∙◌, Some, refl, option_copied, arith}
use Rattle.std.proofs.lemmas.List.{length-map}
use Rattle.bench_core.specs.Stored.{state_of}
use Rattle.bench_core.specs.Changes.{history_of}
use Rattle.bench_core.specs.Bench.{AreCounts, Holds, tables_of, history}
use Rattle.bench_core.specs.Indexed.{IsIndexed, tuples_of}
use Rattle.bench_core.specs.Turns.{CanTurn, IsStep, IsTurn, Moves, next_change, turned_all}
use Rattle.bench_core.proofs.Holding.{on-err, there-within}
use Rattle.bench_core.proofs.InStepWith.{indexed-refused}
use Rattle.bench_core.proofs.Turning.{has-no-next, held-turned, history-stepped, next-or-none, no-turn-probes, turn-bench, turn-can, turn-followed, turn-indexed, turn-is, turn-probes}
use Rattle.bench_core.proofs.project.Project.step.Goals as goal

pub returns-in_default-clause-stepped : goal.returns-in_default-clause-stepped
returns-in_default-clause-stepped g c =
    let self = c.args.self.now in
    (has-no-next self.pool self.log (tables_of self) c.args.direction (sym c.next_change.ensures ∙ ap option_copied c.in_default.is), refl)

pub returns-in_default-clause-probes : goal.returns-in_default-clause-probes
returns-in_default-clause-probes g c =
    let self = c.args.self.now in
    no-turn-probes self.pool self.log (tables_of self) self.rules c.args.direction (sym c.next_change.ensures ∙ ap option_copied c.in_default.is) c.args.steps.now

pub returns-in_err-tuple-clause-nothing : goal.returns-in_err-tuple-clause-nothing
returns-in_err-tuple-clause-nothing g c none = absurd (next-or-none c.args.self.now.pool c.args.self.now.log (tables_of c.args.self.now) c.args.direction c.in-Some.change.now (sym c.next_change.ensures ∙ ap option_copied c.in-Some.is) none)

pub returns-in_err-make_room-clause-nothing : goal.returns-in_err-make_room-clause-nothing
returns-in_err-make_room-clause-nothing g c none = absurd (next-or-none c.args.self.now.pool c.args.self.now.log (tables_of c.args.self.now) c.args.direction c.in-Some.change.now (sym c.next_change.ensures ∙ ap option_copied c.in-Some.is) none)

pub returns-in_err-follow_change-clause-nothing : goal.returns-in_err-follow_change-clause-nothing
returns-in_err-follow_change-clause-nothing g c none = absurd (next-or-none c.args.self.now.pool c.args.self.now.log (tables_of c.args.self.now) c.args.direction c.in-Some.change.now (sym c.next_change.ensures ∙ ap option_copied c.in-Some.is) none)

pub returns-clause-nothing : goal.returns-clause-nothing
returns-clause-nothing g c none = absurd (next-or-none c.args.self.now.pool c.args.self.now.log (tables_of c.args.self.now) c.args.direction c.in-Some.change.now (sym c.next_change.ensures ∙ ap option_copied c.in-Some.is) none)

pub make_room-requires : goal.make_room-requires
make_room-requires g c =
    let self = c.args.self.now in
    let change = c.in-Some.change.now in
    let next : next_change c.args.direction self.log ≡ Some change = sym c.next_change.ensures ∙ ap option_copied c.in-Some.is in
    rw length-map at (there-within (CanTurn c.args.direction change) (tables_of self) change.table (turn-can c.requires.held change c.args.direction next))

pub returns-in_err-tuple-clause-probes : goal.returns-in_err-tuple-clause-probes
returns-in_err-tuple-clause-probes g c =
    let self = c.args.self.now in
    turn-probes self.pool self.log (tables_of self) self.rules c.in-Some.change.now c.args.steps.now c.args.steps.now (omega arith) c.args.direction (sym c.next_change.ensures ∙ ap option_copied c.in-Some.is)

pub returns-in_err-make_room-clause-held : goal.returns-in_err-make_room-clause-held
returns-in_err-make_room-clause-held g c =
    let self = c.args.self.now in
    subst (λ tables. Holds self.rules self.limits self.pool self.log tables self.counts.weights.items self.counts.rows self.counts.cells) (sym c.make_room.ensures.same) c.requires.held

pub returns-in_err-make_room-clause-indexed : goal.returns-in_err-make_room-clause-indexed
returns-in_err-make_room-clause-indexed g c =
    let self = c.args.self.now in
    subst (λ tables. IsIndexed self.rules self.pool (tuples_of tables) c.args.index.now) (sym c.make_room.ensures.same) c.requires.indexed

pub returns-in_err-make_room-clause-unchanged : goal.returns-in_err-make_room-clause-unchanged
returns-in_err-make_room-clause-unchanged g c =
    let self = c.args.self.now in
    on-err c.from_residual-in_err-make_room.result _ (ap (history_of self.pool self.log.past self.log.undone) c.make_room.ensures.same)

pub returns-in_err-make_room-clause-probes : goal.returns-in_err-make_room-clause-probes
returns-in_err-make_room-clause-probes g c =
    let self = c.args.self.now in
    turn-probes self.pool self.log (tables_of self) self.rules c.in-Some.change.now c.args.steps.now c.args.steps.now (omega arith) c.args.direction (sym c.next_change.ensures ∙ ap option_copied c.in-Some.is)

pub follow_change-requires : goal.follow_change-requires
follow_change-requires g c =
    let self = c.args.self.now in
    let change = c.in-Some.change.now in
    let next : next_change c.args.direction self.log ≡ Some change = sym c.next_change.ensures ∙ ap option_copied c.in-Some.is in
    turn-followed (tables_of self) c.requires.held.history.present c.requires.indexed change c.args.direction (turn-can c.requires.held change c.args.direction next) (turn-bench c.requires.held change c.args.direction next)

pub returns-in_err-follow_change-clause-held : goal.returns-in_err-follow_change-clause-held
returns-in_err-follow_change-clause-held g c =
    let self = c.args.self.now in
    subst (λ tables. Holds self.rules self.limits self.pool self.log tables self.counts.weights.items self.counts.rows self.counts.cells) (sym c.make_room.ensures.same) c.requires.held

pub returns-in_err-follow_change-clause-indexed : goal.returns-in_err-follow_change-clause-indexed
returns-in_err-follow_change-clause-indexed g c =
    let self = c.args.self.now in
    subst (λ tables. IsIndexed self.rules self.pool (tuples_of tables) c.follow_change.new.index) (sym c.make_room.ensures.same) (indexed-refused c.requires.indexed c.follow_change.new.index c.in_err-follow_change.ensures.refused)

pub returns-in_err-follow_change-clause-unchanged : goal.returns-in_err-follow_change-clause-unchanged
returns-in_err-follow_change-clause-unchanged g c =
    let self = c.args.self.now in
    on-err c.from_residual-in_err-follow_change.result _ (ap (history_of self.pool self.log.past self.log.undone) c.make_room.ensures.same)

pub returns-in_err-follow_change-clause-probes : goal.returns-in_err-follow_change-clause-probes
returns-in_err-follow_change-clause-probes g c =
    let self = c.args.self.now in
    turn-probes self.pool self.log (tables_of self) self.rules c.in-Some.change.now c.args.steps.now c.follow_change.new.steps c.follow_change.ensures.probes c.args.direction (sym c.next_change.ensures ∙ ap option_copied c.in-Some.is)

pub turn_counted-requires-clause-turn : goal.turn_counted-requires-clause-turn
turn_counted-requires-clause-turn g c =
    let self = c.args.self.now in
    let change = c.in-Some.change.now in
    let direction = c.args.direction in
    let held = c.requires.held in
    let next : next_change direction self.log ≡ Some change = sym c.next_change.ensures ∙ ap option_copied c.in-Some.is in
    let turn : IsTurn self.rules self.limits self.pool direction change (tables_of self) self.counts =
    record { is = turn-is held change direction next; can = turn-can held change direction next; present = held.history.present; counts = held.counts; then_present = turn-bench held change direction next } in
    (self.rules, self.limits, self.pool, subst (λ tables. IsTurn self.rules self.limits self.pool direction change tables self.counts) (sym c.make_room.ensures.same) turn)

pub returns-clause-held : goal.returns-clause-held
returns-clause-held g c =
    let self = c.args.self.now in
    let change = c.in-Some.change.now in
    let direction = c.args.direction in
    let held = c.requires.held in
    let next : next_change direction self.log ≡ Some change = sym c.next_change.ensures ∙ ap option_copied c.in-Some.is in
    let turn : IsTurn self.rules self.limits self.pool direction change (tables_of self) self.counts =
    record { is = turn-is held change direction next; can = turn-can held change direction next; present = held.history.present; counts = held.counts; then_present = turn-bench held change direction next } in
    let tables = c.turn_counted.ensures.tables ∙ ap (turned_all direction change) c.make_room.ensures.same in
    let counts = c.turn_counted.new.counts in
    let counted = c.turn_counted.ensures.counts self.rules self.limits self.pool (subst (λ tables. IsTurn self.rules self.limits self.pool direction change tables self.counts) (sym c.make_room.ensures.same) turn) in
    let moved = subst (λ next. Moves direction next self.log c.move_log.new.log) next c.move_log.ensures in
    subst (λ tables. Holds self.rules self.limits self.pool c.move_log.new.log tables counts.weights.items counts.rows counts.cells) (sym tables)
    (held-turned held change c.move_log.new.log direction moved counts.weights.items counts.rows counts.cells
    (subst (λ tables. AreCounts self.rules (state_of self.pool (turned_all direction change tables)) counts.weights.items counts.rows counts.cells) c.make_room.ensures.same counted))

pub returns-clause-stepped : goal.returns-clause-stepped
returns-clause-stepped g c =
    let self = c.args.self.now in
    let change = c.in-Some.change.now in
    let direction = c.args.direction in
    let next : next_change direction self.log ≡ Some change = sym c.next_change.ensures ∙ ap option_copied c.in-Some.is in
    let tables = c.turn_counted.ensures.tables ∙ ap (turned_all direction change) c.make_room.ensures.same in
    let moved = subst (λ next. Moves direction next self.log c.move_log.new.log) next c.move_log.ensures in
    subst (λ tables. IsStep direction (history self) (history_of self.pool c.move_log.new.log.past c.move_log.new.log.undone tables)) (sym tables) (history-stepped c.requires.held change c.move_log.new.log direction moved)

pub returns-clause-indexed : goal.returns-clause-indexed
returns-clause-indexed g c =
    let self = c.args.self.now in
    let change = c.in-Some.change.now in
    let direction = c.args.direction in
    let next : next_change direction self.log ≡ Some change = sym c.next_change.ensures ∙ ap option_copied c.in-Some.is in
    let tables = c.turn_counted.ensures.tables ∙ ap (turned_all direction change) c.make_room.ensures.same in
    subst (λ tables. IsIndexed self.rules self.pool (tuples_of tables) c.follow_change.new.index) (sym tables)
    (turn-indexed (tables_of self) c.requires.held.history.present c.requires.indexed change direction (turn-can c.requires.held change direction next) (turn-bench c.requires.held change direction next) c.follow_change.new.index c.in_ok-follow_change.ensures.followed)

pub returns-clause-probes : goal.returns-clause-probes
returns-clause-probes g c =
    let self = c.args.self.now in
    turn-probes self.pool self.log (tables_of self) self.rules c.in-Some.change.now c.args.steps.now c.follow_change.new.steps c.follow_change.ensures.probes c.args.direction (sym c.next_change.ensures ∙ ap option_copied c.in-Some.is)
