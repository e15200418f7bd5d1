-- What the clauses of the asked dependency say of two tuples.
use Rattle.std.proofs.Common.{◌≡◌, ℕ, Bool, true, false, List, [], ◌∷◌, ◌++◌, length, map, refl, ap, ◌∙◌, arith}
use Rattle.std.specs.Prelude.{not, ◌&&◌, ◌||◌, zip}
use Rattle.std.specs.List.{flat_map, AllByRecursion}
use Rattle.std.specs.Str.{bytes_eq}
use Rattle.std.proofs.lemmas.List.Folds.{list_all-append}
use Rattle.cfd_semantics.specs.declared.pattern.Pattern.{Pattern}
use Rattle.cfd_semantics.specs.declared.pattern.Pattern.TheVariants.{Any, Is, In, NotIn}
use Rattle.cfd_semantics.specs.declared.dependency.TableauRow.{TableauRow}
use Rattle.cfd_semantics.specs.Pattern.{matches, all_match}
use Rattle.cfd_semantics.specs.Tuple.{same_values}
use Rattle.cell_values.specs.declared.values.CellValues.{CellValues}
use Rattle.cell_values.specs.TableRules.{Rule}
use Rattle.cell_values.specs.declared.which.Which.TheVariants.{First}
use Rattle.cell_values.specs.Layout.{equal_var}
use Rattle.cell_values.specs.RowClauses.{meets_at, misses_at}
use Rattle.cell_values.proofs.OneTuple.{MeetsCell}
use Rattle.cell_values.proofs.Truths.{or_false, clause_true, all_true, text_of, left_of, Misses}
use Rattle.cfd_implication.specs.Question.{agree_on, asked_cell, breaks, asked_clauses}
use Rattle.cfd_implication.proofs.TwoTuples.{Equates, Hears}

-- the tuples don't agree on the right, or the first doesn't match the cell there; of a constant the latter alone
abbrev pub Breaks : List (List ℕ) → List (List ℕ) → ℕ → Pattern (List ℕ) → Bool
Breaks one other attr Any = not (bytes_eq (text_of one attr) (text_of other attr))
Breaks one other attr (Is constant) = not (matches bytes_eq (Is constant) (text_of one attr))
Breaks one other attr (In members) = not (bytes_eq (text_of one attr) (text_of other attr)) || not (matches bytes_eq (In members) (text_of one attr))
Breaks one other attr (NotIn members) = not (bytes_eq (text_of one attr) (text_of other attr)) || not (matches bytes_eq (NotIn members) (text_of one attr))

and_true : (b : Bool) → (b && true) ≡ b
and_true true = refl
and_true false = refl

and_assoc : (a b c : Bool) → ((a && b) && c) ≡ (a && (b && c))
and_assoc true b c = refl
and_assoc false b c = refl

module _ (truth : ℕ → Bool) (cells : List CellValues) (one other : List (List ℕ)) where
  agree_is : (xs : List ℕ) → AllByRecursion (Equates truth cells one other) xs → all_true truth (map (agree_on cells) xs) ≡ same_values bytes_eq (left_of one xs) (left_of other xs)
  agree_is [] says = refl
  agree_is (x ∷ xs) says =
      ap (λ b. b && all_true truth (map (agree_on cells) xs)) (or_false (truth (equal_var cells x)) ∙ says.0)
      ∙ ap (λ b. bytes_eq (text_of one x) (text_of other x) && b) (agree_is xs says.1)

  cell_is : (attr : ℕ) (p : Pattern (List ℕ)) → MeetsCell truth cells First one attr p → all_true truth (asked_cell cells (attr, p)) ≡ matches bytes_eq p (text_of one attr)
  cell_is attr Any says = refl
  cell_is attr (Is constant) says = and_true (clause_true truth (meets_at cells First (attr, Is constant))) ∙ says
  cell_is attr (In members) says = and_true (clause_true truth (meets_at cells First (attr, In members))) ∙ says
  cell_is attr (NotIn members) says = and_true (clause_true truth (meets_at cells First (attr, NotIn members))) ∙ says

  cells_are : (xs : List ℕ) (ps : List (Pattern (List ℕ))) → length xs ≡ length ps → AllByRecursion (λ at. MeetsCell truth cells First one at.0 at.1) (zip xs ps)
      → all_true truth (flat_map (asked_cell cells) (zip xs ps)) ≡ all_match bytes_eq ps (left_of one xs)
  cells_are [] [] same says = refl
  cells_are [] (p ∷ ps) same says = absurd (omega arith)
  cells_are (x ∷ xs) [] same says = absurd (omega arith)
  cells_are (x ∷ xs) (p ∷ ps) same says =
      list_all-append (clause_true truth) (asked_cell cells (x, p)) (flat_map (asked_cell cells) (zip xs ps))
      ∙ ap (λ b. b && all_true truth (flat_map (asked_cell cells) (zip xs ps))) (cell_is x p says.0)
      ∙ ap (λ b. matches bytes_eq p (text_of one x) && b) (cells_are xs ps (omega arith) says.1)

  breaks_is : (attr : ℕ) (p : Pattern (List ℕ)) → Equates truth cells one other attr → Misses truth cells First one (attr, p) → clause_true truth (breaks cells attr p) ≡ Breaks one other attr p
  breaks_is attr Any equal says = or_false (not (truth (equal_var cells attr))) ∙ ap not equal
  breaks_is attr (Is constant) equal says = says
  breaks_is attr (In members) equal says =
      ap (λ b. not b || clause_true truth (misses_at cells First (attr, In members))) equal
      ∙ ap (λ b. not (bytes_eq (text_of one attr) (text_of other attr)) || b) says
  breaks_is attr (NotIn members) equal says =
      ap (λ b. not b || clause_true truth (misses_at cells First (attr, NotIn members))) equal
      ∙ ap (λ b. not (bytes_eq (text_of one attr) (text_of other attr)) || b) says

  -- what is heard of the asked row beside what is heard of every row
  pub record HearsAsked (rule : Rule) (row : TableauRow (List ℕ)) : Type 0 where
    pub row_hears : Hears truth cells one other rule row
    pub meets : AllByRecursion (λ at. MeetsCell truth cells First one at.0 at.1) (zip rule.x row.x)
    pub misses_right : Misses truth cells First one (rule.a, row.a)

  pub asked_is : (rule : Rule) (row : TableauRow (List ℕ)) → HearsAsked rule row
      → all_true truth (asked_clauses cells rule row)
      ≡ ((same_values bytes_eq (left_of one rule.x) (left_of other rule.x) && all_match bytes_eq row.x (left_of one rule.x)) && Breaks one other rule.a row.a)
  asked_is rule row hears =
      let agree = map (agree_on cells) rule.x in
      let match = flat_map (asked_cell cells) (zip rule.x row.x) in
      let last = breaks cells rule.a row.a ∷ [] in
      list_all-append (clause_true truth) (agree ++ match) last
      ∙ ap (λ b. b && (clause_true truth (breaks cells rule.a row.a) && true)) (list_all-append (clause_true truth) agree match
      ∙ ap (λ b. b && all_true truth match) (agree_is rule.x hears.row_hears.equal)
      ∙ ap (λ b. same_values bytes_eq (left_of one rule.x) (left_of other rule.x) && b) (cells_are rule.x row.x hears.row_hears.wide hears.meets))
      ∙ ap (λ b. (same_values bytes_eq (left_of one rule.x) (left_of other rule.x) && all_match bytes_eq row.x (left_of one rule.x)) && b)
      (and_true (clause_true truth (breaks cells rule.a row.a)) ∙ breaks_is rule.a row.a hears.row_hears.equal_right hears.misses_right)
