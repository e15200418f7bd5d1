-- The rules of a book, one after another: its dependencies, and then its inclusion dependencies.
use Rattle.std.specs.Prelude.{ℕ, ◌+◌, ◌-◌, ◌<◌, Bool, if◌then◌else◌, List, length, nat_lt, slice_get}
use Rattle.std.specs.Option.{option_map_or}
use Rattle.rule_model.specs.declared.dep.Dep.{Dep}
use Rattle.rule_model.specs.declared.cind.Cind.{Cind}
use Rattle.rule_model.specs.Books.{Book, book_cinds, book_deps}
use Rattle.bench_core.specs.Answers.{orphans_at, violations_at}
use Rattle.bench_core.specs.State.{State}
use Rattle.violation_report.specs.Explained.{cind_is_of, dep_is_of}
use Rattle.violation_report.specs.Listing.{cind_lines_at, dep_lines_at}
use Rattle.violation_report.specs.declared.line.Line.{Line}
use Rattle.violation_report.specs.declared.rules.Rule.{Rule}
use Rattle.violation_report.specs.declared.rules.Rule.TheVariants.{Dep as DepNumber, Cind as CindNumber}

abbrev pub rule_count : Book → ℕ
rule_count rules = length (book_deps rules) + length (book_cinds rules)

-- the rule at a place among all of them
abbrev pub rule_at : Book → ℕ → Rule
rule_at rules place = if nat_lt place (length (book_deps rules)) then DepNumber place else CindNumber (place - length (book_deps rules))

-- the rules have it
abbrev pub IsRuleOf : Book → Rule → Type 0
IsRuleOf rules (DepNumber number) = number < length (book_deps rules)
IsRuleOf rules (CindNumber number) = number < length (book_cinds rules)

-- it is one of the table, an inclusion of its left one
abbrev pub is_of : Book → ℕ → Rule → Bool
is_of rules table (DepNumber number) = dep_is_of rules table number
is_of rules table (CindNumber number) = cind_is_of rules table number

-- the lines of the list that it has
abbrev pub lines_at : Book → State → Rule → List Line
lines_at rules state (DepNumber number) = dep_lines_at number (violations_at rules state number)
lines_at rules state (CindNumber number) = cind_lines_at number (orphans_at rules state number)

-- a number that each dependency has, and each inclusion dependency
abbrev pub number_at : (Dep → ℕ) → (Cind → ℕ) → Book → Rule → ℕ
number_at of_dep of_cind rules (DepNumber number) = option_map_or of_dep (slice_get (book_deps rules) number) 0
number_at of_dep of_cind rules (CindNumber number) = option_map_or of_cind (slice_get (book_cinds rules) number) 0
