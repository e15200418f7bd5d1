-- What is found in a table, as rules.
use Rattle.std.specs.Prelude.{◌≡◌, ℕ, suc, ◌+◌, ◌<◌, List, [], ◌∷◌, ◌++◌, length, map, codes, decimal, slice_index_or, Option, None, Some}
use Rattle.schema_core.specs.declared.schema.Table.{Table}
use Rattle.cfd_semantics.specs.declared.pattern.Pattern.{Pattern}
use Rattle.cfd_semantics.specs.declared.pattern.Pattern.TheVariants.{Any, Is}
use Rattle.cfd_semantics.specs.declared.dependency.Dependency.{Dependency}
use Rattle.schema_core.specs.declared.schema.Attr.{Attr}
use Rattle.rule_model.specs.Rules.{AreAttrsOf}
use Rattle.rule_model.specs.declared.dep.Dep.{Dep}
use Rattle.dep_search.specs.declared.candidate.Candidate.{Candidate}
use Rattle.dep_search.specs.Found.{IsFound, all_found, left_sides, side_at}
use Rattle.dep_search.specs.Rows.{Row, row_at}

-- a cell that asks nothing, or for the text of a row
abbrev pub cell_of : List Row → Option ℕ → ℕ → Pattern (List ℕ)
cell_of rows None attr = Any
cell_of rows (Some r) attr = Is (slice_index_or (row_at rows r) attr [])

abbrev pub cells_of : List Row → Option ℕ → List ℕ → List (Pattern (List ℕ))
cells_of rows row attrs = map (cell_of rows row) attrs

-- the dependency of a candidate with the left side X
abbrev pub rule_of : List Row → List ℕ → Candidate → Dependency (List ℕ)
rule_of rows x c = record {
  x = x;
  a = c.a;
  rows = record { x = cells_of rows c.row x; a = cell_of rows c.row c.a } ∷ [];
}

-- `d` and a number from 1
abbrev pub found_name : ℕ → List ℕ
found_name place = codes "d" ++ decimal (place + 1)

abbrev pub dep_of : ℕ → List Row → List (List ℕ) → ℕ → Candidate → Dep
dep_of number rows sides place c = record { name = found_name place; table = number; rule = rule_of rows (side_at sides c.side) c }

-- candidates as rules, named from a place on
abbrev pub deps_from : ℕ → List Row → List (List ℕ) → ℕ → List Candidate → List Dep
deps_from number rows sides place [] = []
deps_from number rows sides place (c ∷ found) = dep_of number rows sides place c ∷ deps_from number rows sides (suc place) found

-- the rules of what is found in a table, in order
abbrev pub AreFound : Table → ℕ → List Row → ℕ → ℕ → List Dep → Type 0
AreFound table number rows width support deps =
    (found : List Candidate) × IsFound rows (length table.attrs) width support found × (deps ≡ deps_from number rows (left_sides (length table.attrs) width) 0 found)

-- there are more than that many
abbrev pub AreMore : Table → List Row → ℕ → ℕ → ℕ → Type 0
AreMore table rows width support most =
    most < length (all_found rows support (length table.attrs) (left_sides (length table.attrs) width))

-- the attributes of a dependency are among these
pub record IsOver (attrs : List Attr) (dep : Dep) : Type 0 where
  pub x : AreAttrsOf attrs dep.rule.x
  pub a : dep.rule.a < length attrs
