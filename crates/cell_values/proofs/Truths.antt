-- What clauses say under truth values, as tests of a tuple.
use Rattle.std.proofs.Common.{◌≡◌, ℕ, zero, suc, Bool, true, false, cond, List, [], ◌∷◌, length, map, refl, sym, ap, ◌∙◌, subst, arith}
use Rattle.std.specs.Prelude.{not, ◌&&◌, ◌||◌, Contains, slice_index_or, zip}
use Rattle.std.specs.List.{All, Any, flat_map, list_any, list_all, AllByRecursion}
use Rattle.std.specs.Str.{bytes_eq}
use Rattle.std.proofs.lemmas.Bool.{and_from, and_parts}
use Rattle.std.proofs.lemmas.List.Elements.{All-contains, All-from_recursion}
use Rattle.std.proofs.lemmas.List.Folds.{Any-from_list_any, list_any-append, list_any-from_Any, list_all-append}
use Rattle.cfd_semantics.proofs.Members.{contains-here, contains-there}
use Rattle.case_tree.specs.declared.clauses.Literal.{Literal}
use Rattle.case_tree.specs.CaseTree.{IsTrueUnder}
use Rattle.cfd_semantics.specs.declared.pattern.Pattern.{Pattern}
use Rattle.cfd_semantics.specs.declared.dependency.TableauRow.{TableauRow}
use Rattle.cfd_semantics.specs.Pattern.{matches, all_match}
use Rattle.cell_values.specs.declared.which.Which.{Which}
use Rattle.cell_values.specs.declared.values.CellValues.{CellValues}
use Rattle.cell_values.specs.RowClauses.{meets_at, misses_at, misses_left, alone}
use Rattle.cell_values.specs.TableRules.{Rule}

-- ---- tests

pub or_assoc : (a b c : Bool) → ((a || b) || c) ≡ (a || (b || c))
or_assoc true b c = refl
or_assoc false b c = refl

pub not_and : (a b : Bool) → not (a && b) ≡ (not a || not b)
not_and true b = refl
not_and false b = refl

pub or_false : (a : Bool) → (a || false) ≡ a
or_false true = refl
or_false false = refl

-- a literal, a clause, all clauses are true
abbrev pub lit_true : (ℕ → Bool) → Literal → Bool
lit_true truth literal = cond literal.positive (truth literal.var) (not (truth literal.var))

abbrev pub clause_true : (ℕ → Bool) → List Literal → Bool
clause_true truth clause = list_any (lit_true truth) clause

abbrev pub all_true : (ℕ → Bool) → List (List Literal) → Bool
all_true truth clauses = list_all (clause_true truth) clauses

pub any_flat : {X Y : Type 0} (p : Y → Bool) (f : X → List Y) (xs : List X) → list_any p (flat_map f xs) ≡ list_any (λ x. list_any p (f x)) xs
any_flat p f [] = refl
any_flat p f (x ∷ xs) = list_any-append p (f x) (flat_map f xs) ∙ ap (λ b. list_any p (f x) || b) (any_flat p f xs)

pub all_flat : {X Y : Type 0} (p : Y → Bool) (f : X → List Y) (xs : List X) → list_all p (flat_map f xs) ≡ list_all (λ x. list_all p (f x)) xs
all_flat p f [] = refl
all_flat p f (x ∷ xs) = list_all-append p (f x) (flat_map f xs) ∙ ap (λ b. list_all p (f x) && b) (all_flat p f xs)

-- ---- true literals, as a test

lit_is : (b v : Bool) → cond b v (not v) ≡ true → v ≡ b
lit_is true v e = e
lit_is false true e = absurd cc
lit_is false false e = refl

is_lit : (b v : Bool) → v ≡ b → cond b v (not v) ≡ true
is_lit true v e = e
is_lit false true e = absurd cc
is_lit false false e = refl

pub any_of_clause : (truth : ℕ → Bool) (clause : List Literal) → clause_true truth clause ≡ true → Any (IsTrueUnder truth) clause
any_of_clause truth clause e =
    let (k, x, within, is, fact) = Any-from_list_any (lit_true truth) clause e in
    (k, x, within, is, lit_is x.positive (truth x.var) fact)

pub clause_of_any : (truth : ℕ → Bool) (clause : List Literal) → Any (IsTrueUnder truth) clause → clause_true truth clause ≡ true
clause_of_any truth clause (k, x, within, is, fact) = list_any-from_Any (lit_true truth) clause (k, x, within, is, is_lit x.positive (truth x.var) fact)

-- ---- lists of tests

pub all_contained : {X : Type 0} (p : X → Bool) (xs : List X) → list_all p xs ≡ true → (x : X) → Contains xs x → p x ≡ true
all_contained p [] all x (k, within, is) = absurd (omega arith)
all_contained p (y ∷ ys) all x (zero, within, is) = subst (λ z. p z ≡ true) is (and_parts (p y) (list_all p ys) all).0
all_contained p (y ∷ ys) all x (suc k, within, is) = all_contained p ys (and_parts (p y) (list_all p ys) all).1 x (k, omega arith, is)

pub all_by : {X : Type 0} (p : X → Bool) (xs : List X) → ((x : X) → Contains xs x → p x ≡ true) → list_all p xs ≡ true
all_by p [] each = refl
all_by p (y ∷ ys) each = and_from (p y) (list_all p ys) (each y (contains-here y ys)) (all_by p ys (λ x there. each x (contains-there x y ys there)))

pub true_of_all : (truth : ℕ → Bool) (clauses : List (List Literal)) → All (Any (IsTrueUnder truth)) clauses → all_true truth clauses ≡ true
true_of_all truth clauses all = all_by (clause_true truth) clauses (λ clause there. clause_of_any truth clause (All-contains (Any (IsTrueUnder truth)) clauses clause all there))

pub all_of_true : (truth : ℕ → Bool) (clauses : List (List Literal)) → all_true truth clauses ≡ true → All (Any (IsTrueUnder truth)) clauses
all_of_true truth clauses holds = All-from_recursion (Any (IsTrueUnder truth)) clauses (each clauses holds) where
  each : (cs : List (List Literal)) → all_true truth cs ≡ true → AllByRecursion (Any (IsTrueUnder truth)) cs
  each [] e = tt
  each (c ∷ cs) e = let both = and_parts (clause_true truth c) (all_true truth cs) e in (any_of_clause truth c both.0, each cs both.1)

-- ---- tuples

abbrev pub text_of : List (List ℕ) → ℕ → List ℕ
text_of tuple attr = slice_index_or tuple attr []

abbrev pub left_of : List (List ℕ) → List ℕ → List (List ℕ)
left_of tuple xs = map (text_of tuple) xs

module _ (truth : ℕ → Bool) (cells : List CellValues) where
  -- the clause parts of a cell say whether the tuple matches it
  abbrev pub Misses : Which → List (List ℕ) → ℕ × Pattern (List ℕ) → Type 0
  Misses which tuple at = clause_true truth (misses_at cells which at) ≡ not (matches bytes_eq at.1 (text_of tuple at.0))

  abbrev pub Meets : Which → List (List ℕ) → ℕ × Pattern (List ℕ) → Type 0
  Meets which tuple at = clause_true truth (meets_at cells which at) ≡ matches bytes_eq at.1 (text_of tuple at.0)

  pub misses_left_is : (which : Which) (tuple : List (List ℕ)) (xs : List ℕ) (ps : List (Pattern (List ℕ))) → length xs ≡ length ps → AllByRecursion (Misses which tuple) (zip xs ps)
      → clause_true truth (flat_map (misses_at cells which) (zip xs ps)) ≡ not (all_match bytes_eq ps (left_of tuple xs))
  misses_left_is which tuple [] [] same says = refl
  misses_left_is which tuple [] (p ∷ ps) same says = absurd (omega arith)
  misses_left_is which tuple (x ∷ xs) [] same says = absurd (omega arith)
  misses_left_is which tuple (x ∷ xs) (p ∷ ps) same says =
      let rest = flat_map (misses_at cells which) (zip xs ps) in
      list_any-append (lit_true truth) (misses_at cells which (x, p)) rest
      ∙ ap (λ b. b || clause_true truth rest) says.0
      ∙ ap (λ b. not (matches bytes_eq p (text_of tuple x)) || b) (misses_left_is which tuple xs ps (omega arith) says.1)
      ∙ sym (not_and (matches bytes_eq p (text_of tuple x)) (all_match bytes_eq ps (left_of tuple xs)))

  pub alone_is : (which : Which) (tuple : List (List ℕ)) (rule : Rule) (row : TableauRow (List ℕ)) → length rule.x ≡ length row.x → AllByRecursion (Misses which tuple) (zip rule.x row.x) → Meets which tuple (rule.a, row.a)
      → clause_true truth (alone cells which rule row) ≡ (not (all_match bytes_eq row.x (left_of tuple rule.x)) || matches bytes_eq row.a (text_of tuple rule.a))
  alone_is which tuple rule row same left right =
      list_any-append (lit_true truth) (misses_left cells which rule row) (meets_at cells which (rule.a, row.a))
      ∙ ap (λ b. b || clause_true truth (meets_at cells which (rule.a, row.a))) (misses_left_is which tuple rule.x row.x same left)
      ∙ ap (λ b. not (all_match bytes_eq row.x (left_of tuple rule.x)) || b) right
