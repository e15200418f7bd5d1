-- What is grouped, by the ids of values, and under the texts that the ids name.
use Rattle.std.specs.Prelude.{ℕ, ◌<◌, List, All, Option, length, map, slice_get}
use Rattle.std.specs.declared.alloc.Global.{Global}
use Rattle.std.specs.declared.vec.Vec.{Vec}
use Rattle.cfd_semantics.specs.declared.dependency.Dependency.{Dependency}
use Rattle.cfd_semantics.specs.Tuple.{values_at, with_both}
use Rattle.bench_core.specs.Stored.{HaveTexts, text_of}
use Rattle.violation_groups.specs.Listed.{Shared, Valued}
use Rattle.violation_groups.specs.declared.groups.ValueRows.{ValueRows}
use Rattle.violation_groups.specs.declared.groups.Missing.{Missing}

-- a tableau row and the ids on the left, as the code has them
abbrev pub Key : Type 0
Key = ℕ × Vec ℕ Global

-- the ids of a tuple on both sides of a dependency, where it has the attributes
abbrev pub sides_by_ids : List ℕ → Dependency (List ℕ) → Option (List ℕ × ℕ)
sides_by_ids ids rule = with_both (λ x a. (x, a)) (values_at ids rule.x) (slice_get ids rule.a)

-- ---- ids that have texts

abbrev pub HasText : List (List ℕ) → ℕ → Type 0
HasText texts id = id < length texts

abbrev pub IsKnownKey : List (List ℕ) → Key → Type 0
IsKnownKey texts key = HaveTexts texts key.1.items

abbrev pub IsKnownRow : List (List ℕ) → Key × (ℕ × ℕ) → Type 0
IsKnownRow texts row = IsKnownKey texts row.0 × HasText texts row.1.0

abbrev pub IsKnownGroup : List (List ℕ) → Key × List (ℕ × ℕ) → Type 0
IsKnownGroup texts group = IsKnownKey texts group.0 × All (λ (row : ℕ × ℕ). HasText texts row.0) group.1

abbrev pub IsKnownKeyed : List (List ℕ) → Key × ℕ → Type 0
IsKnownKeyed texts row = IsKnownKey texts row.0

abbrev pub HasKnownKey : List (List ℕ) → Key × List ℕ → Type 0
HasKnownKey texts group = IsKnownKey texts group.0

-- ---- under their texts

abbrev pub key_named : List (List ℕ) → Key → Shared
key_named texts key = (key.0, map (text_of texts) key.1.items)

abbrev pub value_named : List (List ℕ) → ℕ × ℕ → Valued
value_named texts row = (text_of texts row.0, row.1)

abbrev pub row_named : List (List ℕ) → Key × (ℕ × ℕ) → Shared × Valued
row_named texts row = (key_named texts row.0, value_named texts row.1)

abbrev pub group_named : List (List ℕ) → Key × List (ℕ × ℕ) → Shared × List Valued
group_named texts group = (key_named texts group.0, map (value_named texts) group.1)

abbrev pub value_rows_named : List (List ℕ) → ℕ × List ℕ → ValueRows
value_rows_named texts value = record { value = text_of texts value.0; rows = value.1 }

abbrev pub keyed_named : List (List ℕ) → Key × ℕ → Shared × ℕ
keyed_named texts row = (key_named texts row.0, row.1)

abbrev pub missing_named : List (List ℕ) → Key × List ℕ → Missing
missing_named texts group = record { k = group.0.0; key = map (text_of texts) group.0.1.items; rows = group.1 }
