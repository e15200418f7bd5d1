-- What a row store is: a finite map from row ids to tuples, the next id, and how many rows can be
-- put without memory.
use Rattle.std.specs.Prelude.{◌≡◌, ℕ, ◌≤◌, List, None, refl}
use Rattle.std.specs.Ordering.{nat_cmp}
use Rattle.std.specs.FinMap as map
use Rattle.std.specs.Coded.{Coded, code_by, coded×, coded_list, coded_ℕ}

-- tuples by their row ids
abbrev pub Rows : Type 0
Rows = map.FinMap nat_cmp (List ℕ)

pub record Store : Type 0 where
  pub rows : Rows
  pub next : ℕ
  pub spare : ℕ

-- the next id lies above the id of each row
abbrev pub AllBelow : Rows → ℕ → Type 0
AllBelow rows next = (id : ℕ) → next ≤ id → map.get rows id ≡ None

abbrev pub store_code : Coded Store
store_code =
    code_by
    (Rows × (ℕ × ℕ))
    (coded× (map.code coded_ℕ (coded_list coded_ℕ)) (coded× coded_ℕ coded_ℕ))
    (λ s. (s.rows, (s.next, s.spare)))
    (λ p. record { rows = p.0; next = p.1.0; spare = p.1.1 })
    (λ _. refl)
