use Rattle.std.proofs.Common.{subst, IfNone, IfSome}
use Rattle.marked_map.specs.MarkedMap.{HaveDistinctKeys, HasKey, IsAbsent}
use Rattle.marked_map.proofs.MarkedMapLemmas.{one_place, position-NonePasses, position-Passes}
use Rattle.marked_map.proofs.MarkedMap.find.Goals as goal

pub returns-clause-found : goal.returns-clause-found
returns-clause-found g c =
    let same = g.K.PartialEq.eq in
    let key = c.args.key.now in
    subst (λ m. IfSome c.get_index_of.result (HasKey same m key)) c.self.view_is (position-Passes (same key) _ _ c.get_index_of.ensures.index)

pub returns-clause-absent : goal.returns-clause-absent
returns-clause-absent g c =
    let same = g.K.PartialEq.eq in
    let key = c.args.key.now in
    subst (λ m. IfNone c.get_index_of.result (IsAbsent same m key)) c.self.view_is (position-NonePasses (same key) _ _ c.get_index_of.ensures.index)

pub returns-clause-distinct : goal.returns-clause-distinct
returns-clause-distinct g c =
    let same = g.K.PartialEq.eq in
    subst (HaveDistinctKeys same) c.self.view_is (one_place same g.met.K.Eq.laws _ c.get_index_of.ensures.unique)
