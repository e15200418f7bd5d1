-- The listed rows of a rule with the values that they are about.
use Rattle.std.specs.Prelude.{ℕ, ◌==◌, ◌&&◌, Bool, List, filter_map, Option, option_map, option_and_then}
use Rattle.std.specs.Str.{bytes_eq}
use Rattle.cfd_semantics.specs.declared.violation.Violation.{Violation}
use Rattle.cfd_semantics.specs.Tuple.{same_values, values_at}
use Rattle.cfd_semantics.specs.Violation.{Sides, sides_of}
use Rattle.rule_model.specs.declared.dep.Dep.{Dep}
use Rattle.rule_model.specs.declared.cind.Cind.{Cind}
use Rattle.bench_core.specs.Answers.{cind_orphans, dep_violations, row_texts}
use Rattle.bench_core.specs.State.{State}

-- what rows of a group share: the tableau row that they are listed for, and their values on the left side of the rule
abbrev pub Shared : Type 0
Shared = ℕ × List (List ℕ)

abbrev pub same_shared : Shared → Shared → Bool
same_shared one other = one.0 == other.0 && same_values bytes_eq one.1 other.1

-- ---- dependencies

-- a row with its value on the right side
abbrev pub Valued : Type 0
Valued = List ℕ × ℕ

-- a listed row with what it shares
abbrev pub listed_of : State → Dep → ℕ × Violation → Option (Shared × Valued)
listed_of state dep (k, found) =
    option_and_then
    (λ texts. option_map (λ (sides : Sides (List ℕ)). ((k, sides.x), (sides.a, found.row))) (sides_of dep.rule texts))
    (row_texts state dep.table found.row)

-- the violations of a dependency in the order of the list
abbrev pub dep_listed : State → Dep → List (Shared × Valued)
dep_listed state dep = filter_map (listed_of state dep) (dep_violations state dep)

-- ---- inclusions

-- an orphan with what it shares
abbrev pub listed_orphan_of : State → Cind → ℕ × ℕ → Option (Shared × ℕ)
listed_orphan_of state cind (k, row) =
    option_and_then (λ texts. option_map (λ key. ((k, key), row)) (values_at texts cind.rule.x)) (row_texts state cind.left row)

-- the orphans of an inclusion in the order of the list
abbrev pub cind_listed : State → Cind → List (Shared × ℕ)
cind_listed state cind = filter_map (listed_orphan_of state cind) (cind_orphans state cind)
