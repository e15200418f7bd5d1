use Rattle.std.proofs.Common.{sym, subst}
use Rattle.std.specs.Prelude.{IsTrue}
use Rattle.rule_runs.proofs.Searching.{search_finds}
use Rattle.rule_runs.proofs.next.applies.Goals as goal

pub returns : goal.returns
returns c =
    let found = search_finds c.rows_that_apply.result.now c.args.a_move.master c.binary_search.result c.rows_that_apply.ensures.rising c.binary_search.ensures.position in
    let rows = c.rows_that_apply.ensures.rows c.args.a_move.master in (
      λ yes. rows.0 (found.0 (subst IsTrue c.is_ok.ensures.value yes)),
      λ applies. subst IsTrue (sym c.is_ok.ensures.value) (found.1 (rows.1 applies)),
    )
