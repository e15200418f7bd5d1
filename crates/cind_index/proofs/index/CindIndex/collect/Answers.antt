use Rattle.std.proofs.Common.{◌≡◌, ap, ◌∙◌, arith, get_or}
use Rattle.cind_index.proofs.KeyFacts.{value_there}
use Rattle.cind_index.proofs.OrphanFacts.{found_more, orphans_collected}
use Rattle.cind_index.proofs.index.CindIndex.collect.Goals as goal

pub loop-place-preserved : goal.loop-place-preserved
loop-place-preserved g c =
    let keys = c.args.self.now.keys in
    let value = value_there keys.pairs c.loop-place.place (c.marked_at.result.0.now, c.marked_at.result.1.now) c.marked_at.ensures.pair in
    record {
      found = λ row. found_more keys c.index-as_slice-k.result c.loop-place.place row c.marked_at.result.1.now c.loop-place.found.items c.push_orphans.new.found.items value
          (c.loop-place.invariant.found row) (c.in_ok-push_orphans.ensures row);
      probes = omega (arith, c.marked_at.ensures.probes, c.loop-place.invariant.probes);
    }

pub returns-clause-orphans : goal.returns-clause-orphans
returns-clause-orphans g c x at =
    let index = c.args.self.now in
    let end : c.loop-place.place ≡ index.keys.marked = omega (arith, c.loop-place-test.false, c.loop-place.auto, c.marked-place-end.ensures.marked) in
    orphans_collected index.keys c.len-len.ensures.distinct index.rule.rows index.marks c.args.k c.loop-place.place c.index-as_slice-k.result x c.loop-place.found.items
    c.requires (c.index-as_slice-k.is ∙ ap (λ rows. get_or rows c.args.k c.index-as_slice-k.result) c.as_slice.ensures) at end c.loop-place.invariant.found
