use Rattle.std.proofs.Common.{subst}
use Rattle.marked_map.specs.MarkedMap.{HaveDistinctKeys}
use Rattle.marked_map.proofs.MarkedMapLemmas.{one_place}
use Rattle.marked_map.proofs.MarkedMap.len.Goals as goal

pub returns-clause-distinct : goal.returns-clause-distinct
returns-clause-distinct g c =
    let same = g.K.PartialEq.eq in
    subst (HaveDistinctKeys same) c.self.view_is (one_place same g.met.K.Eq.laws _ c.len.ensures.unique)
