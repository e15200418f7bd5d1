use Rattle.std.proofs.Common.{sym, subst, ◌⊎◌, ◌↔◌}
use Rattle.std.specs.Prelude.{IsTrue}
use Rattle.std.specs.List.{Contains}
use Rattle.cind_index.proofs.MapFacts.{on_ok}
use Rattle.cind_index.proofs.pattern_rows.PatternRows.push_rows.Goals as goal

pub returns-in-Some : goal.returns-in-Some
returns-in-Some c =
    on_ok c.push_rows.result (λ step row.
    subst (λ b. Contains c.push_rows.new.found.items row ↔ (Contains c.args.found.now.items row ⊎ IsTrue b)) (sym (c.in-Some.ensures.has row)) (step row)) c.push_rows.ensures
