use Rattle.std.proofs.Common.{ℕ, List, ◌<◌, ◌≤◌, length, take, sym, ap, ◌∙◌, subst}
use Rattle.std.specs.List.{All}
use Rattle.master_index.specs.Masters.{IsRowWith}
use Rattle.rule_runs.specs.Moves.{values_in}
use Rattle.rule_runs.proofs.StartFacts.{reads_within, rows_alike_are}
use Rattle.rule_runs.proofs.lookup.rows_telling.Goals as goal

pub gather-requires-clause-few : goal.gather-requires-clause-few
gather-requires-clause-few c =
    let within = reads_within c.args.start.now c.args.rule.now c.args.tuple.now c.requires.rule c.requires.table c.requires.tuple in
    subst (λ (x : List ℕ). length x ≤ 64) (sym c.as_slice-columns.ensures) within.short

pub gather-requires-clause-within : goal.gather-requires-clause-within
gather-requires-clause-within c =
    let within = reads_within c.args.start.now c.args.rule.now c.args.tuple.now c.requires.rule c.requires.table c.requires.tuple in
    subst (All (λ attr. attr < length c.args.tuple.now)) (sym c.as_slice-columns.ensures) within.x

pub returns-clause-only : goal.returns-clause-only
returns-clause-only c row there =
    let start = c.args.start.now in
    let rule = c.args.rule.now in
    let ids = take (length c.as_slice-columns.result.now) c.gather.new.room in
    let gathered = c.gather.ensures.ids ∙ ap (values_in c.args.tuple.now) c.as_slice-columns.ensures in
    (rows_alike_are start c.args.tuple.now rule ids row gathered).0
    (subst (λ (xm : List ℕ). IsRowWith start.masters.now.rows rule.master xm ids row) c.as_slice-matched.ensures (c.telling_matches.ensures.only row there))

pub returns-clause-each : goal.returns-clause-each
returns-clause-each c row alike =
    let start = c.args.start.now in
    let rule = c.args.rule.now in
    let ids = take (length c.as_slice-columns.result.now) c.gather.new.room in
    let gathered = c.gather.ensures.ids ∙ ap (values_in c.args.tuple.now) c.as_slice-columns.ensures in
    c.telling_matches.ensures.each row (subst (λ (xm : List ℕ). IsRowWith start.masters.now.rows rule.master xm ids row) (sym c.as_slice-matched.ensures) ((rows_alike_are start c.args.tuple.now rule ids row gathered).1 alike))
