-- Which dependencies of a table tuples satisfy: lists of dependencies, and the pieces of dependencies.
use Rattle.std.proofs.Common.{◌≡◌, ℕ, zero, suc, ◌+◌, ◌↔◌, Bool, true, false, List, [], ◌∷◌, ◌++◌, refl, sym, ap, ◌∙◌, subst, inl, inr, arith}
use Rattle.std.specs.Prelude.{Contains, map, ◌==◌, if◌then◌else◌}
use Rattle.std.specs.List.{enumerate_from, flat_map}
use Rattle.std.proofs.lemmas.Bool.{eq-eqb}
use Rattle.std.proofs.lemmas.List.{map-append}
use Rattle.std.proofs.lemmas.List.Elements.{Contains-append_left, Contains-append_right, Contains-append_cases}
use Rattle.cfd_semantics.specs.declared.dependency.TableauRow.{TableauRow}
use Rattle.rule_model.specs.declared.dep.Dep.{Dep}
use Rattle.rule_model.specs.Satisfied.{SatisfyDep}
use Rattle.cfd_implication.specs.Implied.{SatisfyTable}
use Rattle.rule_cover.specs.declared.fates.Piece.{Piece}
use Rattle.rule_cover.specs.Pieces.{dep_pieces, deps_in, pieces_over, row_piece, single, table_pieces}

-- the only item
pub in_one : {X : Type 0} (x y : X) → Contains (x ∷ []) y → x ≡ y
in_one x y (zero, lt, is) = is
in_one x y (suc k, lt, is) = absurd (omega (arith, lt))

pub first_in : {X : Type 0} (x : X) (xs : List X) → Contains (x ∷ xs) x
first_in x xs = (0, omega arith, refl)

module _ (table : ℕ) (tuples : List (List (List ℕ))) where
  pub fewer : (xs ys : List Dep) → SatisfyTable table (xs ++ ys) tuples → SatisfyTable table xs tuples
  fewer xs ys all dep held own = all dep (Contains-append_left xs ys dep held) own

  pub behind : (xs ys : List Dep) → SatisfyTable table (xs ++ ys) tuples → SatisfyTable table ys tuples
  behind xs ys all dep held own = all dep (Contains-append_right xs ys dep held) own

  pub both : (xs ys : List Dep) → SatisfyTable table xs tuples → SatisfyTable table ys tuples → SatisfyTable table (xs ++ ys) tuples
  both xs ys some rest dep held own = elim (Contains-append_cases xs ys dep held) [
    | inl here ↦ some dep here own
    | inr there ↦ rest dep there own
  ]

  pub none : SatisfyTable table [] tuples
  none dep (k, lt, is) own = absurd (omega (arith, lt))

  pub one : (dep : Dep) → (dep.table ≡ table → SatisfyDep dep tuples) → SatisfyTable table (dep ∷ []) tuples
  one dep satisfied other held own =
      let same = in_one dep other held in
      subst (λ (d : Dep). SatisfyDep d tuples) same (satisfied (ap (λ (d : Dep). d.table) same ∙ own))

  pub of_one : (dep : Dep) (deps : List Dep) → SatisfyTable table (dep ∷ deps) tuples → dep.table ≡ table → SatisfyDep dep tuples
  of_one dep deps all own = all dep (first_in dep deps) own

  -- ---- a dependency and its pieces

  whole_single : (dep : Dep) (row : TableauRow (List ℕ)) → SatisfyDep dep tuples → Contains dep.rule.rows row → SatisfyDep (single dep row) tuples
  whole_single dep row whole held r t u left right in_r in_t in_u is_t is_u same match =
      whole r t u left right (subst (λ (s : TableauRow (List ℕ)). Contains dep.rule.rows s) (in_one row r in_r) held) in_t in_u is_t is_u same match

  singles_whole : (dep : Dep) → ((row : TableauRow (List ℕ)) → Contains dep.rule.rows row → SatisfyDep (single dep row) tuples) → SatisfyDep dep tuples
  singles_whole dep singles r t u left right in_r in_t in_u is_t is_u same match =
      singles r in_r r t u left right (first_in r []) in_t in_u is_t is_u same match

  -- the pieces of some of its rows
  rows_pieces : (place start : ℕ) (dep : Dep) (rows : List (TableauRow (List ℕ))) → ((row : TableauRow (List ℕ)) → Contains rows row → dep.table ≡ table → SatisfyDep (single dep row) tuples)
      → SatisfyTable table (deps_in (map (row_piece place dep) (enumerate_from start rows))) tuples
  rows_pieces place start dep [] singles = none
  rows_pieces place start dep (row ∷ rows) singles =
      both (single dep row ∷ []) (deps_in (map (row_piece place dep) (enumerate_from (start + 1) rows)))
      (one (single dep row) (singles row (first_in row rows)))
      (rows_pieces place (start + 1) dep rows (λ r held own. singles r (Contains-append_right (row ∷ []) rows r held) own))

  pieces_rows : (place start : ℕ) (dep : Dep) (rows : List (TableauRow (List ℕ))) → SatisfyTable table (deps_in (map (row_piece place dep) (enumerate_from start rows))) tuples
      → dep.table ≡ table → (row : TableauRow (List ℕ)) → Contains rows row → SatisfyDep (single dep row) tuples
  pieces_rows place start dep [] all own row (k, lt, is) = absurd (omega (arith, lt))
  pieces_rows place start dep (first ∷ rows) all own row held =
      let rest = deps_in (map (row_piece place dep) (enumerate_from (start + 1) rows)) in
      elim (Contains-append_cases (first ∷ []) rows row held) [
        | inl here ↦ subst (λ (r : TableauRow (List ℕ)). SatisfyDep (single dep r) tuples) (in_one first row here) (of_one (single dep first) rest all own)
        | inr there ↦ pieces_rows place (start + 1) dep rows (behind (single dep first ∷ []) rest all) own row there
      ]

  abbrev over_if : ℕ → Dep → Bool → List (Piece × Dep)
  over_if place dep b = if b then dep_pieces (place, dep) else []

  dep_over : (place : ℕ) (dep : Dep) (b : Bool) → (dep.table == table) ≡ b → (dep.table ≡ table → SatisfyDep dep tuples) → SatisfyTable table (deps_in (over_if place dep b)) tuples
  dep_over place dep true is satisfied = rows_pieces place 0 dep dep.rule.rows (λ row held own. whole_single dep row (satisfied own) held)
  dep_over place dep false is satisfied = none

  over_dep : (place : ℕ) (dep : Dep) (b : Bool) → (dep.table == table) ≡ b → SatisfyTable table (deps_in (over_if place dep b)) tuples → dep.table ≡ table → SatisfyDep dep tuples
  over_dep place dep true is all own = singles_whole dep (pieces_rows place 0 dep dep.rule.rows all own)
  over_dep place dep false is all own = let differs : true ≡ false = sym (eq-eqb dep.table table own) ∙ is in absurd (cc)

  abbrev from_place : ℕ → List Dep → List (Piece × Dep)
  from_place place deps = flat_map (pieces_over table) (enumerate_from place deps)

  parts : (place : ℕ) (dep : Dep) (deps : List Dep) → deps_in (from_place place (dep ∷ deps)) ≡ deps_in (pieces_over table (place, dep)) ++ deps_in (from_place (place + 1) deps)
  parts place dep deps = map-append (λ (piece : Piece × Dep). piece.1) (pieces_over table (place, dep)) (from_place (place + 1) deps)

  whole_pieces : (place : ℕ) (deps : List Dep) → SatisfyTable table deps tuples → SatisfyTable table (deps_in (from_place place deps)) tuples
  whole_pieces place [] all = none
  whole_pieces place (dep ∷ deps) all =
      subst (λ (ds : List Dep). SatisfyTable table ds tuples) (sym (parts place dep deps))
      (both (deps_in (pieces_over table (place, dep))) (deps_in (from_place (place + 1) deps))
      (dep_over place dep (dep.table == table) refl (of_one dep deps all))
      (whole_pieces (place + 1) deps (behind (dep ∷ []) deps all)))

  pieces_whole : (place : ℕ) (deps : List Dep) → SatisfyTable table (deps_in (from_place place deps)) tuples → SatisfyTable table deps tuples
  pieces_whole place [] all = none
  pieces_whole place (dep ∷ deps) all =
      let own = deps_in (pieces_over table (place, dep)) in
      let rest = deps_in (from_place (place + 1) deps) in
      let split = subst (λ (ds : List Dep). SatisfyTable table ds tuples) (parts place dep deps) all in
      both (dep ∷ []) deps (one dep (over_dep place dep (dep.table == table) refl (fewer own rest split))) (pieces_whole (place + 1) deps (behind own rest split))

  -- tuples satisfy the pieces of a table exactly where they satisfy its dependencies
  pub pieces_same : (deps : List Dep) → SatisfyTable table (deps_in (table_pieces table deps)) tuples ↔ SatisfyTable table deps tuples
  pieces_same deps = (pieces_whole 0 deps, whole_pieces 0 deps)
