use Rattle.std.proofs.Common.{arith}
use Rattle.group_index.proofs.TableauFacts.{kept_twice, one_more_member}
use Rattle.group_index.proofs.tableau.Finder.put_members.Goals as goal

pub loop-place-preserved : goal.loop-place-preserved
loop-place-preserved c =
    let kept = c.in_ok-put_member.ensures.kept in (
      one_more_member c.loop-place.self c.put_member.new.self c.args.k c.loop-place.place c.args.members.now (omega arith) c.loop-place.invariant.0 c.in_ok-put_member.ensures.row kept,
      kept_twice c.args.self.now c.loop-place.self c.put_member.new.self c.loop-place.invariant.1 kept,
    )
