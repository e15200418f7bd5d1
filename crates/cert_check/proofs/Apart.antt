-- Names of which no two are the same: each is found at its own place.
use Rattle.std.proofs.Common.{◌≡◌, ◌≢◌, ℕ, zero, suc, Bool, true, false, List, [], ◌∷◌, ◌++◌, Some, sym, ◌∙◌, subst, arith}
use Rattle.std.specs.Prelude.{map, slice_get}
use Rattle.std.specs.List.{AllByRecursion, flat_map, position_or_len}
use Rattle.cell_values.specs.declared.values.CellValues.{CellValues}
use Rattle.cert_check.proofs.Positions.{place-here, place-later}

-- what holds of the elements of two lists holds of those of both
pub each-append : {X : Type 0} (P : X → Type 0) (xs ys : List X) → AllByRecursion P xs → AllByRecursion P ys → AllByRecursion P (xs ++ ys)
each-append P [] ys first second = second
each-append P (x ∷ xs) ys first second = (first.0, each-append P xs ys first.1 second)

pub each-map : {X Y : Type 0} (P : Y → Type 0) (f : X → Y) (xs : List X) → ((x : X) → P (f x)) → AllByRecursion P (map f xs)
each-map P f [] holds = tt
each-map P f (x ∷ xs) holds = (holds x, each-map P f xs holds)

pub each-more : {X : Type 0} (P Q : X → Type 0) (xs : List X) → ((x : X) → P x → Q x) → AllByRecursion P xs → AllByRecursion Q xs
each-more P Q [] more all = tt
each-more P Q (x ∷ xs) more all = (more x all.0, each-more P Q xs more all.1)

pub each-at : {X : Type 0} (P : X → Type 0) (xs : List X) (i : ℕ) (x : X) → AllByRecursion P xs → slice_get xs i ≡ Some x → P x
each-at P [] i x all there = absurd cc
each-at P (y ∷ xs) zero x all there = let same : y ≡ x = cc in subst P same all.0
each-at P (y ∷ xs) (suc i) x all there = each-at P xs i x all.1 there

-- what is told of each isn't what is told of a later one
abbrev pub AreOthers : (CellValues → List ℕ) → List CellValues → Type 0
AreOthers own [] = Unit {0}
AreOthers own (cell ∷ cells) = AllByRecursion (λ later. own cell ≢ own later) cells × AreOthers own cells

-- A list of things, of which some have a name. `test` tells whether a thing has a name, and `is` says it.
module _ {X N : Type 0} (test : N → X → Bool) (is : X → N → Type 0) where
  -- the name of the second isn't one of the first
  abbrev pub Differ : X → X → Type 0
  Differ x y = (name : N) → is y name → test name x ≡ false

  abbrev pub Apart : List X → Type 0
  Apart [] = Unit {0}
  Apart (x ∷ xs) = AllByRecursion (Differ x) xs × Apart xs

  -- so each name is found at its place
  pub own_place : ((x : X) (name : N) → is x name → test name x ≡ true) → (xs : List X) → Apart xs → (i : ℕ) (x : X) (name : N) → slice_get xs i ≡ Some x → is x name → position_or_len (test name) xs ≡ i
  own_place itself [] apart i x name there named = absurd cc
  own_place itself (y ∷ xs) apart zero x name there named =
      let same : y ≡ x = cc in
      place-here (test name) y xs (subst (λ z. test name z ≡ true) (sym same) (itself x name named))
  own_place itself (y ∷ xs) apart (suc i) x name there named =
      let rest = own_place itself xs apart.1 i x name there named in
      place-later (test name) y xs (each-at (Differ y) xs i x apart.0 there name named) ∙ omega arith

  pub Apart-append : (xs ys : List X) → Apart xs → Apart ys → AllByRecursion (λ x. AllByRecursion (Differ x) ys) xs → Apart (xs ++ ys)
  Apart-append [] ys first second between = second
  Apart-append (x ∷ xs) ys first second between = (each-append (Differ x) xs ys first.0 between.0, Apart-append xs ys first.1 second between.1)

  -- parts of which each speaks of a thing of its own
  module _ (Of : List ℕ → X → Type 0) (other : (a b : List ℕ) (x y : X) → Of a x → Of b y → a ≢ b → Differ x y) (part : CellValues → List X) (own : CellValues → List ℕ) where
    abbrev pub IsPart : CellValues → Type 0
    IsPart cell = AllByRecursion (Of (own cell)) (part cell) × Apart (part cell)

    from_later : (cell : CellValues) (x : X) (cells : List CellValues) → Of (own cell) x → AllByRecursion (λ later. own cell ≢ own later) cells → AllByRecursion IsPart cells → AllByRecursion (Differ x) (flat_map part cells)
    from_later cell x [] of others parts = tt
    from_later cell x (later ∷ cells) of others parts =
        each-append (Differ x) (part later) (flat_map part cells)
        (each-more (Of (own later)) (Differ x) (part later) (λ y its. other (own cell) (own later) x y of its others.0) parts.0.0)
        (from_later cell x cells of others.1 parts.1)

    pub all_apart : (cells : List CellValues) → AreOthers own cells → AllByRecursion IsPart cells → Apart (flat_map part cells)
    all_apart [] apart parts = tt
    all_apart (cell ∷ cells) apart parts =
        Apart-append (part cell) (flat_map part cells) parts.0.1 (all_apart cells apart.1 parts.1)
        (each-more (Of (own cell)) (λ x. AllByRecursion (Differ x) (flat_map part cells)) (part cell) (λ x its. from_later cell x cells its apart.0 parts.1) parts.0.0)
