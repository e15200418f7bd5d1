-- Which rows satisfy a rule. A row is a list of texts, one for each attribute of its table.
use Rattle.std.specs.Prelude.{ℕ, List}
use Rattle.std.specs.Str.{bytes_eq}
use Rattle.cfd_semantics.specs.Satisfaction.{Satisfies, IsIncluded}
use Rattle.rule_model.specs.declared.dep.Dep.{Dep}
use Rattle.rule_model.specs.declared.cind.Cind.{Cind}

-- the rows of its table satisfy a dependency
abbrev pub SatisfyDep : Dep → List (List (List ℕ)) → Type 0
SatisfyDep dep rows = Satisfies bytes_eq dep.rule rows

-- the rows of its two tables satisfy an inclusion dependency
abbrev pub SatisfyCind : Cind → List (List (List ℕ)) → List (List (List ℕ)) → Type 0
SatisfyCind cind lefts rights = IsIncluded bytes_eq cind.rule lefts rights
