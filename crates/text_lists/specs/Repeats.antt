-- Items that stand twice in a list, and lists in which none does.
use Rattle.std.specs.Prelude.{◌≡◌, ◌≢◌, ℕ, Bool, List, [], ◌∷◌, ◌++◌, take, Option, Some, None, if◌then◌else◌, AllPairs, Contains, slice_get}
use Rattle.std.specs.List.{list_any}

-- no item stands twice
abbrev pub AreDistinct : {X : Type 0} → List X → Type 0
AreDistinct xs = AllPairs (λ x y. x ≢ y) xs

-- an item is equal to one of these
abbrev pub is_among : {X : Type 0} → (X → X → Bool) → List X → X → Bool
is_among eq xs x = list_any (λ y. eq y x) xs

-- the first item that is equal to one of those before it
abbrev pub repeated_after : {X : Type 0} → (X → X → Bool) → List X → List X → Option X
repeated_after eq before [] = None
repeated_after eq before (x ∷ xs) = if is_among eq before x then Some x else repeated_after eq (before ++ x ∷ []) xs

-- the first item that stands a second time
abbrev pub first_repeated : {X : Type 0} → (X → X → Bool) → List X → Option X
first_repeated eq xs = repeated_after eq [] xs

-- the item at a place is one of those before it, which are distinct
pub record RepeatsFirst {X : Type 0} (xs : List X) (x : X) : Type 0 where
  pub place : ℕ
  pub there : slice_get xs place ≡ Some x
  pub twice : Contains (take place xs) x
  pub once : AreDistinct (take place xs)

-- that item is found exactly where the list isn't distinct
abbrev pub IsFirstRepeated : {X : Type 0} → List X → Option X → Type 0
IsFirstRepeated xs None = AreDistinct xs
IsFirstRepeated xs (Some x) = RepeatsFirst xs x
