use Rattle.std.proofs.Common.{◌≡◌, ◌+◌, ap, ◌∙◌, sym, subst, arith, get_or, refl}
use Rattle.cind_index.specs.KeysHeld.{lefts, rights}
use Rattle.cind_index.specs.Orphans.{IsOrphanCount}
use Rattle.cind_index.proofs.OrphanFacts.{row_at}
use Rattle.cind_index.proofs.CountFacts.{CountsBelow, none_counted, counted_more, count_of_orphans}
use Rattle.cind_index.proofs.index.CindIndex.walk_count.Goals as goal

pub loop-place-init : goal.loop-place-init
loop-place-init g c = record { counted = none_counted c.args.self.now.keys c.index-as_slice-k.result; probes = omega arith }

pub loop-place-preserved : goal.loop-place-preserved
loop-place-preserved g c =
    let keys = c.args.self.now.keys in
    let t = c.index-as_slice-k.result in record {
      counted = subst (CountsBelow keys t (c.loop-place.place + 1)) (sym c.in_ok-count.ensures)
          (counted_more keys c.len-len.ensures.distinct t c.loop-place.place (c.marked_at.result.0.now, c.marked_at.result.1.now) c.loop-place.count c.count_orphans.result c.marked_at.ensures.pair c.loop-place.invariant.counted c.count_orphans.ensures);
      probes = omega (arith, c.marked_at.ensures.probes, c.loop-place.invariant.probes);
    }

pub returns-clause-count : goal.returns-clause-count
returns-clause-count g c x at =
    let index = c.args.self.now in
    let t = c.index-as_slice-k.result in
    let end : c.loop-place.place ≡ index.keys.marked = omega (arith, c.loop-place-test.false, c.loop-place.auto, c.marked-place-end.ensures.marked) in
    let own : t ≡ get_or index.rule.rows c.args.k t = c.index-as_slice-k.is ∙ ap (λ rows. get_or rows c.args.k t) c.as_slice.ensures in
    let one : t ≡ x = row_at index.rule.rows c.args.k t x c.requires own at in
    subst (IsOrphanCount (lefts index.keys) (rights index.keys) c.loop-place.count) one
    (count_of_orphans index.keys c.len-len.ensures.distinct t index.rule.rows index.marks c.loop-place.count (c.args.k, c.requires, sym own ∙ refl) (subst (λ n. CountsBelow index.keys t n c.loop-place.count) end c.loop-place.invariant.counted))
