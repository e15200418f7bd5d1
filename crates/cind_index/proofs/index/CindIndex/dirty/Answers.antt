use Rattle.std.proofs.Common.{refl, sym, subst}
use Rattle.cind_index.specs.KeysHeld.{lefts, rights}
use Rattle.cind_index.specs.Orphans.{IsDirtyCount}
use Rattle.cind_index.proofs.OrphanFacts.{dirty_keys}
use Rattle.cind_index.proofs.index.CindIndex.dirty.Goals as goal

pub returns-clause-dirty : goal.returns-clause-dirty
returns-clause-dirty c =
    let index = c.args.self.now in
    subst (IsDirtyCount index.rule (lefts index.keys) (rights index.keys)) (sym c.marked.ensures.marked)
    (dirty_keys index.keys c.len-len.ensures.distinct index.rule.rows index.marks index.rule refl c.marked.ensures.within)
