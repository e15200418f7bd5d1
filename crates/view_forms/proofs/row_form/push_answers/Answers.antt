use Rattle.std.proofs.Common.{ℕ, List, [], length, sym, ap, ◌∙◌}
use Rattle.std.specs.Prelude.{◌==◌}
use Rattle.std.proofs.lemmas.List.{append-nil}
use Rattle.view_forms.proofs.Unasked.{nothing_asked}
use Rattle.view_forms.proofs.row_form.push_answers.Goals as goal

pub returns-then-is_empty : goal.returns-then-is_empty
returns-then-is_empty g c =
    let bench = c.args.bench.now in
    let none = ap (λ (names : List (List ℕ)). length names == 0) (sym c.as_slice.ensures) ∙ sym c.is_empty.ensures ∙ c.if-is_empty.true in
    ([], nothing_asked bench.rules bench.limits bench.history c.args.options.now none, sym (append-nil c.args.out.now.items))
