use Rattle.std.proofs.Common.{◌+◌, ℕ, ap}
use Rattle.drawn_project.specs.Edits.{old_row}
use Rattle.drawn_project.proofs.edits.draw_old_row.Goals as goal

pub returns : goal.returns
unfolding old_row
returns c = ap (λ (p : ℕ × ℕ). (10001 + p.0, p.1)) c.draw.ensures.drawn
