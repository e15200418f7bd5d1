-- Which rows are orphans of an inclusion R1[X; Xp] in R2[Y; Yp], one tableau row at a time.
use Rattle.std.specs.Prelude.{ℕ, Bool, ◌&&◌, not, List, map, filter, filter_map, Option}
use Rattle.std.specs.List.{list_any}
use Rattle.cfd_semantics.specs.declared.inclusion.InclusionRow.{InclusionRow}
use Rattle.cfd_semantics.specs.declared.inclusion.Inclusion.{Inclusion}
use Rattle.cfd_semantics.specs.Tuple.{with_both, values_at, same_values}
use Rattle.cfd_semantics.specs.Numbered.{numbered}

-- What a row gives for one side of an inclusion: its values on X or Y, its values on Xp or Yp, and its id.
pub record SideEntry (V : Type 0) : Type 0 where
  pub key : List V
  pub pattern : List V
  pub row : ℕ

-- The entry of a row, which is its id and its tuple, where the tuple has the attributes.
abbrev pub side_entry_of : {V : Type 0} → List ℕ → List ℕ → (ℕ × List V) → Option (SideEntry V)
side_entry_of key pattern row = with_both (λ k p. record { key = k; pattern = p; row = row.0 }) (values_at row.1 key) (values_at row.1 pattern)

-- The entries of the rows of the left table, and of the right one.
abbrev pub left_entry_of : {V : Type 0} → Inclusion V → (ℕ × List V) → Option (SideEntry V)
left_entry_of i = side_entry_of i.x i.xp

abbrev pub right_entry_of : {V : Type 0} → Inclusion V → (ℕ × List V) → Option (SideEntry V)
right_entry_of i = side_entry_of i.y i.yp

abbrev pub left_entries : {V : Type 0} → Inclusion V → List (ℕ × List V) → List (SideEntry V)
left_entries i rows = filter_map (left_entry_of i) rows

abbrev pub right_entries : {V : Type 0} → Inclusion V → List (ℕ × List V) → List (SideEntry V)
right_entries i rows = filter_map (right_entry_of i) rows

-- A right row answers a left one: it has the same key, and the constants of Yp.
abbrev pub answers : {V : Type 0} → (V → V → Bool) → InclusionRow V → SideEntry V → SideEntry V → Bool
answers eq t left right = same_values eq left.key right.key && same_values eq t.yp right.pattern

-- An orphan: a left row that has the constants of Xp, and that no right row answers.
abbrev pub is_orphan : {V : Type 0} → (V → V → Bool) → InclusionRow V → List (SideEntry V) → SideEntry V → Bool
is_orphan eq t rights left = same_values eq t.xp left.pattern && not (list_any (answers eq t left) rights)

-- The orphans of a tableau row, in the order of the rows.
abbrev pub orphaned : {V : Type 0} → (V → V → Bool) → InclusionRow V → List (SideEntry V) → List (SideEntry V) → List ℕ
orphaned eq t lefts rights = map (λ left. left.row) (filter (is_orphan eq t rights) lefts)

-- The orphans of an inclusion: those of its tableau rows in order, each with the number of its tableau row.
abbrev pub orphans : {V : Type 0} → (V → V → Bool) → Inclusion V → List (SideEntry V) → List (SideEntry V) → List (ℕ × ℕ)
orphans eq i lefts rights = numbered (λ t. orphaned eq t lefts rights) i.rows
