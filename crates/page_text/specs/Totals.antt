-- How many violations there are.
use Rattle.std.specs.Prelude.{ℕ, ◌+◌, List, fold, map, max, sum, sum_by}
use Rattle.violation_groups.specs.Groups.{group_size, missing_size}
use Rattle.violation_groups.specs.declared.Findings.{Findings}
use Rattle.violation_groups.specs.declared.Group.{Group}
use Rattle.violation_groups.specs.declared.Missing.{Missing}
use Rattle.page_text.specs.declared.totals.Counts.{Counts}

-- for each dependency, and for each inclusion
abbrev pub dep_totals : List (List Group) → List ℕ
dep_totals all = map (sum_by group_size) all

abbrev pub cind_totals : List (List Missing) → List ℕ
cind_totals all = map (sum_by missing_size) all

abbrev pub largest : List ℕ → ℕ
largest counts = fold max 0 counts

abbrev pub counts_of : Findings → Counts
counts_of findings =
    let deps = dep_totals findings.deps in
    let cinds = cind_totals findings.cinds in record {
      deps = deps;
      cinds = cinds;
      largest = max (largest deps) (largest cinds);
      all = sum deps + sum cinds;
    }
