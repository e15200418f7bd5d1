use Rattle.std.proofs.Common.{refl, sym}
use Rattle.cind_index.specs.RowsHeld.{is_in, has_by}
use Rattle.cind_index.proofs.CountFacts.{holds_as, holds_none}
use Rattle.cind_index.proofs.pattern_rows.PatternRows.count_rows.Goals as goal

pub returns-in-Some : goal.returns-in-Some
returns-in-Some c = holds_as (is_in c.in-Some.rows.now) (has_by c.args.self.now c.args.pattern.now) c.len.result (λ row. sym (c.in-Some.ensures.has row)) c.len.ensures

pub returns-in-None : goal.returns-in-None
returns-in-None c = holds_none (has_by c.args.self.now c.args.pattern.now) 0 (λ row. c.in-None.ensures.has row) refl
