use Rattle.std.proofs.Common.{◌≡◌, ◌∙◌, ℕ, List, [], ap, false}
use Rattle.cell_values.specs.declared.values.Gathered.{Gathered}
use Rattle.cell_values.specs.Values.{once_after}
use Rattle.cell_values.proofs.Gathering.{once_distinct}
use Rattle.cell_values.proofs.values.gather_values.Goals as goal

abbrev made : List (List ℕ) → Gathered
made values = record { values = values; other = false }

pub returns : goal.returns
returns c =
    let found : c.add_all.new.values ≡ c.args.values.now =
    c.in_ok-add_all.ensures
    ∙ ap (λ (before : List (List ℕ)). once_after before c.args.values.now) c.new-found.ensures
    ∙ once_distinct [] c.args.values.now c.requires
    in
    ap (λ (values : List (List ℕ)). made values) found
