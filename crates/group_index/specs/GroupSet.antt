-- What a group index is: a set of entries of one dependency, kept in step with the rows of one table.
use Rattle.std.specs.Prelude.{ℕ, Bool, ◌==◌, ◌&&◌, nat_eq, List, [], ◌∷◌, if◌then◌else◌}
use Rattle.std.specs.List.{list_any}
use Rattle.cfd_semantics.specs.declared.dependency.Dependency.{Dependency}
use Rattle.cfd_semantics.specs.Tuple.{same_values}
use Rattle.cfd_semantics.specs.Violation.{Entry}
use Rattle.cfd_semantics.specs.EntrySets.{gives}

-- what an index is made with: a table, and a dependency of it
pub record GroupsMade : Type 0 where
  pub table : ℕ
  pub dependency : Dependency ℕ

-- its entries, in an order of its own, and how many of its groups are dirty, which is right while no row has two entries
pub record GroupSet : Type 0 where
  pub made : GroupsMade
  pub entries : List (Entry ℕ)
  pub dirty : ℕ

-- the two are one entry
abbrev pub is_entry : Entry ℕ → Entry ℕ → Bool
is_entry own e = same_values nat_eq own.x e.x && nat_eq own.a e.a && (own.row == e.row)

-- the entry is in the set
abbrev pub holds_entry : GroupSet → Entry ℕ → Bool
holds_entry s e = list_any (λ own. is_entry own e) s.entries

-- a row of the table gives one entry, where its tuple has the attributes
abbrev pub gives_entry : GroupsMade → ℕ → ℕ → List ℕ → Entry ℕ → Bool
gives_entry made table row ids e = (table == made.table) && gives nat_eq made.dependency row ids e

-- the attributes that are read
abbrev pub attributes_of : GroupsMade → ℕ → List ℕ
attributes_of made table = if table == made.table then made.dependency.a ∷ made.dependency.x else []
