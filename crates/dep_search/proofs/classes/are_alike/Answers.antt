use Rattle.std.proofs.Common.{arith, eqb, sym, length}
use Rattle.std.specs.Prelude.{slice_index}
use Rattle.std.proofs.lemmas.Bool.{ne_eqb}
use Rattle.dep_search.proofs.Counted.{every-none}
use Rattle.dep_search.proofs.classes.are_alike.Goals as goal

pub returns-then-ids-r : goal.returns-then-ids-r
returns-then-ids-r c =
    let ids = c.args.ids.now in
    let leaders = c.args.leaders.now in
    sym (every-none (λ r. eqb (slice_index ids r) (slice_index ids (slice_index leaders r))) (length leaders) c.loop-r.r (omega (arith, c.loop-r-test.true, c.requires.long))
    (ne_eqb _ _ c.if-ids-r.true))
