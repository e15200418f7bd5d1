use Rattle.std.proofs.Common.{◌≡◌, ◌+◌, get_or, sym, ◌∙◌, subst, arith}
use Rattle.std.proofs.lemmas.Option.{slice_get-get_or, same_Some}
use Rattle.cfd_semantics.specs.declared.dependency.TableauRow.{TableauRow}
use Rattle.group_index.specs.Pairs.{pairs_of}
use Rattle.group_index.specs.Leads.{CountsMatching}
use Rattle.group_index.proofs.CountFacts.{CountedSoFar, none_counted, counted_more, counted}
use Rattle.group_index.proofs.CollectFacts.{marked_stand_below}
use Rattle.group_index.proofs.counting.count.Goals as goal

pub loop-place-init : goal.loop-place-init
loop-place-init g c = record {
  counted = none_counted c.args.groups.now c.index-rows-k.result;
  probes = omega arith;
}

pub loop-place-preserved : goal.loop-place-preserved
loop-place-preserved g c =
    let adds = subst (λ x. CountsMatching c.index-rows-k.result x (pairs_of c.marked_at.result.1.now) c.count_matching.result) c.as_slice.ensures c.count_matching.ensures in
    record {
      counted = subst (CountedSoFar c.args.groups.now c.index-rows-k.result (c.loop-place.place + 1)) (sym c.in_ok-count.ensures)
          (counted_more c.args.groups.now c.len-len.ensures.distinct c.index-rows-k.result c.requires.settled c.loop-place.place c.marked_at.result.0.now c.marked_at.result.1.now c.marked_at.ensures.pair c.loop-place.count c.count_matching.result c.loop-place.invariant.counted adds);
      probes = omega (arith, c.marked_at.ensures.probes, c.loop-place.invariant.probes);
    }

pub returns-clause-count : goal.returns-clause-count
returns-clause-count g c t is =
    let row = c.index-rows-k.result in
    let same : row ≡ t = c.index-rows-k.is ∙ same_Some (get_or c.args.rows.now c.args.k row) t (sym (slice_get-get_or c.args.rows.now c.args.k row c.requires.row) ∙ is) in
    let own : get_or c.args.rows.now c.args.k t ≡ t = same_Some (get_or c.args.rows.now c.args.k t) t (sym (slice_get-get_or c.args.rows.now c.args.k t c.requires.row) ∙ is) in
    let last : c.loop-place.place ≡ c.args.groups.now.marked = omega (arith, c.loop-place-test.false, c.loop-place.auto.place-end, c.marked-place-end.ensures.marked) in
    let all : CountedSoFar c.args.groups.now t c.args.groups.now.marked c.loop-place.count =
    subst (λ (r : TableauRow _). CountedSoFar c.args.groups.now r c.args.groups.now.marked c.loop-place.count) same (subst (λ n. CountedSoFar c.args.groups.now row n c.loop-place.count) last c.loop-place.invariant.counted) in
    counted c.args.groups.now c.len-len.ensures.distinct t c.requires.settled c.args.rows.now c.args.groups.now.marked c.loop-place.count (c.args.k, c.requires.row, own) (marked_stand_below c.args.rows.now c.args.groups.now c.requires.settled c.requires.marks) all
