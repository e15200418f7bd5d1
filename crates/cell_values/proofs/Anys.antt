-- An element of a list that has something, part by part.
use Rattle.std.proofs.Common.{inl, inr, ◌⊎◌, zero, suc, List, [], ◌∷◌, ◌++◌, refl, sym, subst, arith}
use Rattle.std.specs.List.{Any}

pub Any-nil : {X : Type 0} (P : X → Type 0) → Any P [] → ⊥
Any-nil P (k, x, within, is, fact) = omega arith

pub Any-here : {X : Type 0} (P : X → Type 0) (x : X) (xs : List X) → P x → Any P (x ∷ xs)
Any-here P x xs fact = (0, x, omega arith, refl, fact)

pub Any-there : {X : Type 0} (P : X → Type 0) (x : X) (xs : List X) → Any P xs → Any P (x ∷ xs)
Any-there P x xs (k, y, within, is, fact) = (suc k, y, omega arith, is, fact)

pub Any-cases : {X : Type 0} (P : X → Type 0) (x : X) (xs : List X) → Any P (x ∷ xs) → P x ⊎ Any P xs
Any-cases P x xs (zero, y, within, is, fact) = inl (subst P (sym is) fact)
Any-cases P x xs (suc k, y, within, is, fact) = inr (k, y, omega arith, is, fact)

pub Any-left : {X : Type 0} (P : X → Type 0) (xs ys : List X) → Any P xs → Any P (xs ++ ys)
Any-left P [] ys any = absurd (Any-nil P any)
Any-left P (x ∷ xs) ys any = elim (Any-cases P x xs any) [
  | inl here ↦ Any-here P x (xs ++ ys) here
  | inr there ↦ Any-there P x (xs ++ ys) (Any-left P xs ys there)
]

pub Any-right : {X : Type 0} (P : X → Type 0) (xs ys : List X) → Any P ys → Any P (xs ++ ys)
Any-right P [] ys any = any
Any-right P (x ∷ xs) ys any = Any-there P x (xs ++ ys) (Any-right P xs ys any)

pub Any-append : {X : Type 0} (P : X → Type 0) (xs ys : List X) → Any P (xs ++ ys) → Any P xs ⊎ Any P ys
Any-append P [] ys any = inr any
Any-append P (x ∷ xs) ys any = elim (Any-cases P x (xs ++ ys) any) [
  | inl here ↦ inl (Any-here P x xs here)
  | inr there ↦ elim (Any-append P xs ys there) [
    | inl left ↦ inl (Any-there P x xs left)
    | inr right ↦ inr right
  ]
]
