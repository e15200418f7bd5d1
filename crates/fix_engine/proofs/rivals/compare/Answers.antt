use Rattle.std.proofs.Common.{sym, ap, ◌∙◌, length, List, ℕ}
use Rattle.fix_engine.proofs.FullRuns.{full_tuple}
use Rattle.fix_engine.proofs.rivals.compare.Goals as goal

pub difference-requires : goal.difference-requires
difference-requires c =
    let start = c.args.start.now in
    let first = full_tuple start c.args.first.now c.requires.start c.requires.first in
    let run = full_tuple start c.args.run c.requires.start c.requires.run in
    let widths = first.width ∙ sym run.width in
    ap (λ (t : List ℕ). length t) c.as_slice.ensures ∙ widths ∙ sym (ap (λ (t : List ℕ). length t) c.as_slice-2.ensures)
