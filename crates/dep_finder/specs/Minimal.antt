-- What makes a list of found dependencies trustworthy, said with the meaning of rules alone: each of them is satisfied, none
-- of its parts is, and from each satisfied candidate one of them is left by taking attributes away.
use Rattle.std.specs.Prelude.{◌≡◌, ℕ, ◌<◌, ◌≤◌, Bool, false, List, [], ◌∷◌, length, map, All, AllPairs, Contains, if◌then◌else◌}
use Rattle.std.specs.List.{count_by, filter, list_all}
use Rattle.std.specs.Cmp.Lexicographic.{pointwise}
use Rattle.std.specs.Str.{bytes_eq}
use Rattle.cfd_semantics.specs.declared.pattern.Pattern.{Pattern}
use Rattle.cfd_semantics.specs.declared.pattern.Pattern.TheVariants.{Any, Is}
use Rattle.cfd_semantics.specs.declared.dependency.Dependency.{Dependency}
use Rattle.cfd_semantics.specs.declared.dependency.TableauRow.{TableauRow}
use Rattle.cfd_semantics.specs.Satisfaction.{Satisfies}
use Rattle.dep_search.specs.Rows.{Row, texts}

-- the rows satisfy a dependency on their texts
abbrev pub Hold : List Row → Dependency (List ℕ) → Type 0
Hold rows rule = Satisfies bytes_eq rule rows

-- ---- parts of a dependency

-- the cells of the attributes that are kept
abbrev pub kept_cells : (ℕ → Bool) → List ℕ → List (Pattern (List ℕ)) → List (Pattern (List ℕ))
kept_cells kept [] cells = []
kept_cells kept (attr ∷ x) [] = []
kept_cells kept (attr ∷ x) (cell ∷ cells) = if kept attr then cell ∷ kept_cells kept x cells else kept_cells kept x cells

abbrev pub part_of_row : (ℕ → Bool) → List ℕ → TableauRow (List ℕ) → TableauRow (List ℕ)
part_of_row kept x row = record { x = kept_cells kept x row.x; a = row.a }

-- a dependency where some attributes are kept on the left, and the others are taken away with their cells
abbrev pub part : (ℕ → Bool) → Dependency (List ℕ) → Dependency (List ℕ)
part kept rule = record { x = filter kept rule.x; a = rule.a; rows = map (part_of_row kept rule.x) rule.rows }

-- the rows satisfy it, and they satisfy no part where an attribute or more are taken away
pub record IsMinimal (rows : List Row) (rule : Dependency (List ℕ)) : Type 0 where
  pub holds : Hold rows rule
  pub least : (kept : ℕ → Bool) → list_all kept rule.x ≡ false → Hold rows (part kept rule) → ⊥

-- ---- candidates

-- at most so many attributes, in the order of the table, and one outside them
pub record AreSides (attrs width : ℕ) (x : List ℕ) (a : ℕ) : Type 0 where
  pub rising : AllPairs ◌<◌ x
  pub narrow : length x ≤ width
  pub x_within : All (λ attr. attr < attrs) x
  pub a_within : a < attrs
  pub outside : Contains x a → ⊥

-- rows with the same texts at X have the same text at A
abbrev pub plain : List ℕ → ℕ → Dependency (List ℕ)
plain x a = record { x = x; a = a; rows = record { x = map (λ attr. Any) x; a = Any } ∷ [] }

-- rows with these texts at X have this text at A
abbrev pub constant : List ℕ → ℕ → List (List ℕ) → List ℕ → Dependency (List ℕ)
constant x a values value = record { x = x; a = a; rows = record { x = map Is values; a = Is value } ∷ [] }

-- constants may be no longer than that, and so many rows have them at X
pub record AreConstants (rows : List Row) (support : ℕ) (x : List ℕ) (values : List (List ℕ)) (value : List ℕ) : Type 0 where
  pub short : All (λ (text : List ℕ). length text ≤ 1024) values
  pub short_a : length value ≤ 1024
  pub many : support ≤ count_by (λ (row : Row). pointwise bytes_eq values (texts row x)) rows

-- a candidate is of one of the two kinds
pub data IsCandidate (rows : List Row) (attrs width support : ℕ) (rule : Dependency (List ℕ)) : Type 0 where
  as_plain : (x : List ℕ) (a : ℕ) → AreSides attrs width x a → plain x a ≡ rule → IsCandidate rows attrs width support rule
  as_constant : (x : List ℕ) (a : ℕ) (values : List (List ℕ)) (value : List ℕ) → AreSides attrs width x a → AreConstants rows support x values value
      → constant x a values value ≡ rule → IsCandidate rows attrs width support rule

-- ---- what is found

-- one of them is left of a dependency when some attributes are kept
abbrev pub LeavesOne : List (Dependency (List ℕ)) → Dependency (List ℕ) → Type 0
LeavesOne found rule = (kept : ℕ → Bool) × Contains found (part kept rule)

-- They are candidates and minimal, and one of them is left of each candidate that the rows satisfy. So they are exactly the
-- candidates that are minimal: of such a one nothing but itself can be left.
pub record AreLeast (rows : List Row) (attrs width support : ℕ) (found : List (Dependency (List ℕ))) : Type 0 where
  pub candidates : All (IsCandidate rows attrs width support) found
  pub minimal : All (IsMinimal rows) found
  pub enough : (rule : Dependency (List ℕ)) → IsCandidate rows attrs width support rule → Hold rows rule → LeavesOne found rule
