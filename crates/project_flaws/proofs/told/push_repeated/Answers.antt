use Rattle.std.proofs.Common.{◌++◌, List, ℕ, ap, ◌∙◌, append_assoc}
use Rattle.std.specs.Prelude.{codes}
use Rattle.project_flaws.specs.Told.{row_words}
use Rattle.view_refusal.proofs.Ends.{ends_ok}
use Rattle.project_flaws.proofs.told.push_repeated.Goals as goal

pub returns : goal.returns
returns c =
    ends_ok c.extend_from_slice.result c.extend_from_slice.new.self.items c.push_row.new.out.items (codes "stands above, too\n") _ c.extend_from_slice.ensures.items
    (ap (λ (x : List ℕ). x ++ codes "stands above, too\n") c.in_ok-push_row.ensures ∙ append_assoc c.args.out.now.items (row_words c.args.table.now c.args.row) (codes "stands above, too\n"))
