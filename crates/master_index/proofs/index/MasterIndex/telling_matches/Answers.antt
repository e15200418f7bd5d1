use Rattle.std.proofs.Common.{arith}
use Rattle.master_index.specs.Masters.{id_at}
use Rattle.master_index.proofs.MatchFacts.{told_rise, told_among, told_each}
use Rattle.master_index.proofs.index.MasterIndex.telling_matches.Goals as goal

pub returns-in-Some-clause-rising : goal.returns-in-Some-clause-rising
returns-in-Some-clause-rising c = told_rise c.in-Some.rows.now c.args.told c.telling.result.now c.telling.ensures c.in-Some.ensures.rising

pub returns-in-Some-clause-only : goal.returns-in-Some-clause-only
returns-in-Some-clause-only c row has = (c.in-Some.ensures.exactly row).0 (told_among c.in-Some.rows.now c.args.told c.telling.result.now c.telling.ensures row has)

pub returns-in-Some-clause-each : goal.returns-in-Some-clause-each
returns-in-Some-clause-each c row with_ids =
    let held = c.in-Some.ensures in
    told_each c.in-Some.rows.now c.args.told c.telling.result.now (λ r. id_at c.args.self.now.rows c.args.master r c.args.told) c.telling.ensures
    (λ one other has also. held.alike one other c.args.told ((held.exactly one).0 has) ((held.exactly other).0 also)) row ((held.exactly row).1 with_ids)

pub returns-in-None-clause-only : goal.returns-in-None-clause-only
returns-in-None-clause-only c row has = absurd (omega (arith, has.1))

pub returns-in-None-clause-each : goal.returns-in-None-clause-each
returns-in-None-clause-each c row with_ids = absurd (c.in-None.ensures row with_ids)
