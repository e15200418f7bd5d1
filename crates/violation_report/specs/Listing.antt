-- The list of violations of a state.
use Rattle.std.specs.Prelude.{ℕ, List, ◌++◌, map, All}
use Rattle.std.specs.Option.{option_map_or}
use Rattle.cfd_semantics.specs.declared.violation.Violation.{Violation}
use Rattle.cfd_semantics.specs.Numbered.{numbered}
use Rattle.cfd_semantics.specs.Tuple.{tuples_of}
use Rattle.rule_model.specs.declared.dep.Dep.{Dep}
use Rattle.rule_model.specs.declared.cind.Cind.{Cind}
use Rattle.rule_model.specs.Books.{Book, book_deps, book_cinds}
use Rattle.rule_model.specs.Satisfied.{SatisfyDep, SatisfyCind}
use Rattle.bench_core.specs.Answers.{cind_orphans, dep_violations}
use Rattle.bench_core.specs.State.{State, rows_at}
use Rattle.violation_report.specs.declared.line.Line.{Line}
use Rattle.violation_report.specs.declared.line.Line.TheVariants.{Single, Pair, Orphan}

-- ---- dependencies

-- A violation of a numbered dependency as a line: a pair where there is a partner, and else a single.
abbrev pub dep_line : ℕ × (ℕ × Violation) → Line
dep_line (dep, (k, found)) = option_map_or (λ partner. Pair dep k found.row partner) found.partner (Single dep k found.row)

-- the lines of one dependency, by its number
abbrev pub dep_lines_at : ℕ → List (ℕ × Violation) → List Line
dep_lines_at dep violations = map (λ found. dep_line (dep, found)) violations

abbrev pub dep_lines : Book → State → List Line
dep_lines rules state = map dep_line (numbered (dep_violations state) (book_deps rules))

-- ---- inclusion dependencies

abbrev pub cind_line : ℕ × (ℕ × ℕ) → Line
cind_line (cind, (k, row)) = Orphan cind k row

-- the lines of one inclusion dependency, by its number
abbrev pub cind_lines_at : ℕ → List (ℕ × ℕ) → List Line
cind_lines_at cind orphans = map (λ found. cind_line (cind, found)) orphans

abbrev pub cind_lines : Book → State → List Line
cind_lines rules state = map cind_line (numbered (cind_orphans state) (book_cinds rules))

-- ---- the list

-- The lines of the dependencies in the order of the rules, and then those of the inclusion dependencies.
abbrev pub listing : Book → State → List Line
listing rules state = dep_lines rules state ++ cind_lines rules state

-- The rows of each table satisfy all its dependencies, and those of each two tables the inclusion dependencies between
-- them.
pub record IsSatisfied (rules : Book) (state : State) : Type 0 where
  pub deps : All (λ (dep : Dep). SatisfyDep dep (tuples_of (rows_at state dep.table))) (book_deps rules)
  pub cinds : All (λ (cind : Cind). SatisfyCind cind (tuples_of (rows_at state cind.left)) (tuples_of (rows_at state cind.right))) (book_cinds rules)
