use Rattle.std.proofs.Common.{ℕ, List, []}
use Rattle.std.proofs.lemmas.List.Elements.{All-nil, All-push}
use Rattle.rule_model.specs.declared.edit_rule.EditCell.{EditCell}
use Rattle.rule_model.specs.Declarations.{IsWrittenEditCell}
use Rattle.library_tests.proofs.rule_refusals.pattern.Goals as goal

-- its one cell could be written
pub returns : goal.returns
returns c =
    let P : List ℕ × EditCell → Type 0 = λ p. IsWrittenEditCell p.1 in
    rw (c.in_ok-push.ensures.ok, c.new-pattern.ensures) (All-push P [] (c.in_ok-attr.attr, c.in_ok-cell.cell) (All-nil P) c.in_ok-cell.ensures)
