-- What stands at a place of parts that follow one another.
use Rattle.std.proofs.Common.{◌≡◌, ℕ, zero, suc, ◌+◌, ◌-◌, ◌<◌, ◌≤◌, List, [], ◌∷◌, ◌++◌, length, get_or, drop, refl, sym, ap, ◌∙◌, subst, arith, length-append}
use Rattle.std.specs.Prelude.{slice_get}
use Rattle.std.specs.List.{flat_map}
use Rattle.std.proofs.lemmas.List.{drop_more}
use Rattle.cell_values.specs.declared.values.CellValues.{CellValues}

pub at-left : {X : Type 0} (xs ys : List X) (i : ℕ) → i < length xs → slice_get (xs ++ ys) i ≡ slice_get xs i
at-left [] ys i within = absurd (omega arith)
at-left (x ∷ xs) ys zero within = refl
at-left (x ∷ xs) ys (suc i) within = at-left xs ys i (omega arith)

pub at-right : {X : Type 0} (xs ys : List X) (i j : ℕ) → length xs + j ≡ i → slice_get (xs ++ ys) i ≡ slice_get ys j
at-right [] ys i j is = let same : i ≡ j = omega arith in ap (slice_get ys) same
at-right (x ∷ xs) ys zero j is = absurd (omega arith)
at-right (x ∷ xs) ys (suc i) j is = at-right xs ys i j (omega arith)

module _ {X : Type 0} (part : CellValues → List X) where
  -- what stands at the place in the parts that are left stands at the number in all
  pub record IsAt (all left : List CellValues) (number place : ℕ) : Type 0 where
    pub there : slice_get (flat_map part all) number ≡ slice_get (flat_map part left) place
    pub within : place < length (flat_map part left)

  pub at_next : (all : List CellValues) (i number place : ℕ) (cell : CellValues) → i < length all → cell ≡ get_or all i cell → IsAt all (drop i all) number place → IsAt all (cell ∷ drop (i + 1) all) number place
  at_next all i number place cell within is at = subst (λ (left : List CellValues). IsAt all left number place) (drop_more all i cell within ∙ ap (λ (c : CellValues). c ∷ drop (i + 1) all) (sym is)) at

  pub at_here : (all left : List CellValues) (cell : CellValues) (number place : ℕ) → IsAt all (cell ∷ left) number place → place < length (part cell) → slice_get (flat_map part all) number ≡ slice_get (part cell) place
  at_here all left cell number place at within = at.there ∙ at-left (part cell) (flat_map part left) place within

  pub at_later : (all left : List CellValues) (cell : CellValues) (number place : ℕ) → IsAt all (cell ∷ left) number place → length (part cell) ≤ place → IsAt all left number (place - length (part cell))
  at_later all left cell number place at past = record {
    there = at.there ∙ at-right (part cell) (flat_map part left) place (place - length (part cell)) (omega arith);
    within = let inside = at.within in omega (arith, length-append (part cell) (flat_map part left));
  }

  pub at_end : (all : List CellValues) (number place : ℕ) → IsAt all [] number place → ⊥
  at_end all number place at = let inside = at.within in omega arith
