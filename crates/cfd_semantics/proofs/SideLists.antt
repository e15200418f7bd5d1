-- What a row gives for one side of an inclusion.
use Rattle.std.proofs.Common.{◌≡◌, ℕ, List, Option, None, Some, refl}
use Rattle.cfd_semantics.specs.declared.inclusion.Inclusion.{Inclusion}
use Rattle.cfd_semantics.specs.Tuple.{with_both, values_at}
use Rattle.cfd_semantics.specs.Orphan.{SideEntry, side_entry_of, left_entry_of}

-- what an entry of a row says of the row
pub record IsSideOf {V : Type 0} (x xp : List ℕ) (row : ℕ × List V) (e : SideEntry V) : Type 0 where
  pub key : values_at row.1 x ≡ Some e.key
  pub pattern : values_at row.1 xp ≡ Some e.pattern
  pub is_row : e.row ≡ row.0

pub side_parts : {V : Type 0} (key pattern : List ℕ) (row : ℕ × List V) (e : SideEntry V) → side_entry_of key pattern row ≡ Some e → IsSideOf key pattern row e
side_parts {V} key pattern row e is = parts (values_at row.1 key) (values_at row.1 pattern) refl refl is
  where
    parts : (k p : Option (List V)) → values_at row.1 key ≡ k → values_at row.1 pattern ≡ p → with_both (λ k p. record { key = k; pattern = p; row = row.0 }) k p ≡ Some e → IsSideOf key pattern row e
    parts None p has_key has_pattern is = absurd (cc)
    parts (Some k) None has_key has_pattern is = absurd (cc)
    parts (Some k) (Some p) has_key has_pattern is =
        let same : record { key = k; pattern = p; row = row.0 } ≡ e = cc in
        rw (← same) (record { key = has_key; pattern = has_pattern; is_row = refl })

pub side_from_parts : {V : Type 0} (x xp : List ℕ) (row : ℕ × List V) (key pattern : List V) → values_at row.1 x ≡ Some key → values_at row.1 xp ≡ Some pattern → side_entry_of x xp row ≡ Some (record { key = key; pattern = pattern; row = row.0 })
side_from_parts x xp row key pattern has has_xp = rw (has, has_xp) refl

pub row_of_left_entry : {V : Type 0} (i : Inclusion V) (row : ℕ × List V) (e : SideEntry V) → left_entry_of i row ≡ Some e → e.row ≡ row.0
row_of_left_entry i row e is = (side_parts i.x i.xp row e is).is_row
