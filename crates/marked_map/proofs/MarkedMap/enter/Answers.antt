use Rattle.marked_map.proofs.MarkedMapLemmas.{Enters-answer, IsAbsent-answer, one_place, within-answer}
use Rattle.marked_map.proofs.MarkedMap.enter.Goals as goal

pub returns-clause-entered : goal.returns-clause-entered
returns-clause-entered g c =
    let e = c.find_or_push.ensures in
    Enters-answer g.K.PartialEq.eq _ c.args.key c.args.fresh _ _ _ c.self.view_is _ e.index e.found e.pushed

pub returns-clause-within : goal.returns-clause-within
returns-clause-within g c =
    let e = c.find_or_push.ensures in
    let same = g.K.PartialEq.eq in
    within-answer same _ c.args.key c.args.fresh _ _ _ c.self.view_is _
    (Enters-answer same _ c.args.key c.args.fresh _ _ _ c.self.view_is _ e.index e.found e.pushed)

pub returns-clause-absent : goal.returns-clause-absent
returns-clause-absent g c =
    IsAbsent-answer g.K.PartialEq.eq _ c.args.key c.args.fresh _ _ c.find_or_push.new.map.entries c.self.view_is _ c.find_or_push.ensures.absent

pub returns-clause-distinct : goal.returns-clause-distinct
returns-clause-distinct g c = one_place g.K.PartialEq.eq g.met.K.Eq.laws _ c.find_or_push.ensures.unique
