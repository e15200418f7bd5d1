use Rattle.std.proofs.Common.{subst, arith}
use Rattle.cind_index.specs.KeysHeld.{lefts, rights}
use Rattle.cind_index.specs.Orphans.{IsOrphanCount}
use Rattle.cind_index.proofs.TotalFacts.{total_of_orphans}
use Rattle.cind_index.proofs.index.CindIndex.orphan_count.Goals as goal

pub of_row-requires : goal.of_row-requires
of_row-requires g c counts is = let long = (c.args.self.now.counted counts is).long in omega (arith, long, c.requires)

pub returns-in-Some-clause-count : goal.returns-in-Some-clause-count
returns-in-Some-clause-count g c t at =
    let index = c.args.self.now in
    let it = c.in-Some.ensures in
    subst (λ n. IsOrphanCount (lefts index.keys) (rights index.keys) n t) it.2 (total_of_orphans (lefts index.keys) (rights index.keys) t _ ((index.counted it.0 it.1).each c.args.k t at))
