-- Where no reason holds, nothing is forced and each demanded cell has a true variable, the true variables of the path are
-- an allowed assignment.
use Rattle.std.proofs.Common.{◌≡◌, ◌≢◌, ℕ, suc, ◌+◌, ◌<◌, ◌↔◌, ◌⊎◌, Bool, true, false, not, List, [], ◌∷◌, ◌++◌, length, get_or, Option, Some, None, refl, sym, ap, ◌∙◌, subst, inl, inr, ⊎_elim, arith}
use Rattle.std.specs.Prelude.{slice_get}
use Rattle.std.specs.List.{All, Any, Contains}
use Rattle.std.proofs.lemmas.Bool.{cases_Bool, cases_eq, false_from_ne_true}
use Rattle.std.proofs.lemmas.List.{get_or_default}
use Rattle.std.proofs.lemmas.List.Elements.{All-nil, All-cons, All-head, All-tail, Contains-get_or}
use Rattle.std.proofs.lemmas.Option.{slice_get-get_or}
use Rattle.std.proofs.lemmas.List.FromFn.{length-map-range_with_len, get_or-map-range_with_len, map-range_with_len_more}
use Rattle.case_tree.specs.declared.clauses.Literal.{Literal}
use Rattle.case_tree.specs.declared.clauses.VarCell.{VarCell}
use Rattle.case_tree.specs.declared.tree.Reason.TheVariants.{Clause, Two}
use Rattle.case_tree.specs.CaseTree.{ClauseSet, IsAllowed, IsFalseOn, IsIn, IsTrueUnder, IsWellFormed, value_on, var_count}
use Rattle.case_tree.proofs.Cells.{cell_there}
use Rattle.case_tree.proofs.Lists.{IsSomeAnd-from}
use Rattle.case_tree.proofs.Paths.{value_on-same, value_on-other}
use Rattle.case_search.specs.Answer.{HasOneFree, IsFree}
use Rattle.case_search.specs.Model.{is_true, value_by, values_of}
use Rattle.case_search.specs.Step.{IsAllChosen, IsOpen, NoReason, NothingForced}
use Rattle.case_search.proofs.Around.{known, pair_holds}

-- a variable is true exactly where the path makes it so
true_on : (value : Option Bool) → is_true value ≡ true → value ≡ Some true
true_on None told = cc
true_on (Some true) told = refl
true_on (Some false) told = cc

-- the literal is open and positive
abbrev IsOpenPositive : List Literal → Literal → Type 0
IsOpenPositive path literal = (value_on path literal.var ≡ None) × (literal.positive ≡ true)

-- a literal that isn't true is false, or open and positive
untrue : (path : List Literal) (literal : Literal) (value : Option Bool) → value_on path literal.var ≡ value → is_true value ≡ not literal.positive → IsFalseOn path literal ⊎ IsOpenPositive path literal
untrue path literal None is opposite =
    inr (is, ⊎_elim (λ yes. yes) (λ no. let n : not literal.positive ≡ true = rw no refl in cc) (cases_Bool literal.positive))
untrue path literal (Some true) is opposite = inl (is ∙ ap Some opposite)
untrue path literal (Some false) is opposite = inl (is ∙ ap Some opposite)

module _ (value : ℕ → Bool) where
  -- a clause has a true literal, or each is not true
  some_true : (clause : List Literal) → Any (IsTrueUnder value) clause ⊎ All (λ (x : Literal). value x.var ≡ not x.positive) clause
  some_true [] = inr (All-nil (λ (x : Literal). value x.var ≡ not x.positive))
  some_true (x ∷ clause) =
      ⊎_elim
      (λ same. inl (0, x, omega arith, refl, same))
      (λ differ.
      ⊎_elim
      (λ (k, y, in_range, is, fact). inl (suc k, y, omega arith, is, fact))
      (λ rest. inr (All-cons (λ (x : Literal). value x.var ≡ not x.positive) x clause differ rest))
      (some_true clause))
      (either (value x.var) x.positive)
    where
      either : (b c : Bool) → (b ≡ c) ⊎ (b ≡ not c)
      either true true = inl refl
      either true false = inr refl
      either false true = inr refl
      either false false = inl refl

-- a clause is false throughout, or has an open positive literal
some_open : (path clause : List Literal) → All (λ (x : Literal). IsFalseOn path x ⊎ IsOpenPositive path x) clause → All (IsFalseOn path) clause ⊎ ((x : Literal) × Contains clause x × IsOpenPositive path x)
some_open path [] each = inl (All-nil (IsFalseOn path))
some_open path (x ∷ clause) each =
    ⊎_elim
    (λ is_false.
    ⊎_elim
    (λ rest. inl (All-cons (IsFalseOn path) x clause is_false rest))
    (λ (y, (k, in_range, is), opens). inr (y, (suc k, omega arith, is), opens))
    (some_open path clause (All-tail (λ (x : Literal). IsFalseOn path x ⊎ IsOpenPositive path x) x clause each)))
    (λ opens. inr (x, (0, omega arith, refl), opens))
    (All-head (λ (x : Literal). IsFalseOn path x ⊎ IsOpenPositive path x) x clause each)

module _ (set : ClauseSet) (path : List Literal) (value : ℕ → Bool) (well : IsWellFormed set) (quiet : NoReason set path) (nothing : NothingForced set path) (chosen : IsAllChosen set path) (free : All (HasOneFree set) set.clauses) (agrees : (v : ℕ) → v < var_count set.cells → value v ≡ value_by path v) where
  -- a true variable of a cell is true on the path
  on_path : (k v : ℕ) (d : VarCell) → k < length set.cells → IsIn (get_or set.cells k d) v → value v ≡ true → value_on path v ≡ Some true
  on_path k v d in_range inside v_true =
      true_on (value_on path v) (sym (agrees v (known set set.cells k v d well refl in_range inside)) ∙ v_true)

  -- an open variable lies in a cell that isn't demanded
  open_free : (v : ℕ) → IsOpen set path v → IsFree set v
  open_free v (there, unset) =
      let d : VarCell = record { first = 0; count = 0; demanded = false } in
      let (k, in_range, inside) = cell_there 0 set.cells v d well.cells_follow (omega arith) (omega arith) in
      let cell = get_or set.cells k d in (
        k,
        cell,
        in_range,
        get_or_default set.cells k cell d in_range,
        (
          false_from_ne_true cell.demanded (λ demanded.
              let (w, w_in, w_true) = chosen k d in_range demanded in
              let literal : Literal = record { var = v; positive = true } in
              let differ : v ≢ w = λ e. let w_open : value_on path w ≡ None = ap (value_on path) (sym e) ∙ unset in cc in
              nothing literal (there, unset) (Two v w) (pair_holds set (literal ∷ path) set.cells k v w d refl in_range differ inside w_in (value_on-same literal path v refl) (value_on-other literal path w differ ∙ w_true))),
          inside,
        ),
      )

  -- a clause whose literals are false but for one open variable would force it
  one_open : (k : ℕ) (d : List Literal) → k < length set.clauses → (x : Literal) → Contains (get_or set.clauses k d) x → IsOpenPositive path x → All (λ (y : Literal). IsFalseOn path y ⊎ IsOpenPositive path y) (get_or set.clauses k d) → x.var < var_count set.cells → ((y : Literal) → Contains (get_or set.clauses k d) y → y.var < var_count set.cells) → ⊥
  one_open k d in_range x x_in (unset, positive) each there all_there =
      let literal : Literal = record { var = x.var; positive = false } in
      let clause = get_or set.clauses k d in
      let all_false : All (IsFalseOn (literal ∷ path)) clause =
      λ i e i_in.
      let y = get_or clause i e in
      let y_in = Contains-get_or clause i e i_in in
      ⊎_elim
      (λ is_false. value_on-other literal path y.var (λ same. let y_open : value_on path y.var ≡ None = ap (value_on path) (sym same) ∙ unset in cc) ∙ is_false)
      (λ (y_unset, y_positive).
      let same = free k d in_range x y x_in y_in positive y_positive (open_free x.var (there, unset)) (open_free y.var (all_there y y_in, y_unset)) in
      value_on-same literal path y.var same ∙ ap Some (rw y_positive refl))
      (each i e i_in)
      in
      nothing literal (there, unset) (Clause k) (IsSomeAnd-from (slice_get set.clauses k) (All (IsFalseOn (literal ∷ path))) clause (slice_get-get_or set.clauses k d in_range) all_false)

  pub allowed : IsAllowed set value
  allowed = record {
    at_most_one = λ k d in_range v w v_in w_in v_true w_true.
        ⊎_elim
        (λ same. same)
        (λ differ. absurd (quiet (Two v w) (pair_holds set path set.cells k v w d refl in_range differ v_in w_in (on_path k v d in_range v_in v_true) (on_path k w d in_range w_in w_true))))
        (cases_eq v w);
    one_demanded = λ k d in_range demanded.
        let (v, v_in, v_true) = chosen k d in_range demanded in
        (v, v_in, agrees v (known set set.cells k v d well refl in_range v_in) ∙ ap is_true v_true);
    clauses_true = λ k d in_range.
        let clause = get_or set.clauses k d in
        let in_cells = well.literals_in_cells k d in_range in
        let there : (y : Literal) → Contains clause y → y.var < var_count set.cells =
        λ y (i, i_in, is). subst (λ (y : Literal). y.var < var_count set.cells) is (in_cells i y i_in)
        in
        ⊎_elim
        (λ some. some)
        (λ none.
        let each : All (λ (y : Literal). IsFalseOn path y ⊎ IsOpenPositive path y) clause =
        λ i e i_in.
        let y = get_or clause i e in
        untrue path y (value_on path y.var) refl (sym (agrees y.var (in_cells i e i_in)) ∙ none i e i_in)
        in
        absurd (⊎_elim
        (λ all_false. quiet (Clause k) (IsSomeAnd-from (slice_get set.clauses k) (All (IsFalseOn path)) clause (slice_get-get_or set.clauses k d in_range) all_false))
        (λ (x, x_in, opens). one_open k d in_range x x_in opens each (there x x_in) there)
        (some_open path clause each)))
        (some_true value clause);
  }

-- what a test says of a value is the value
pub is_true_from : (b : Bool) (value : Option Bool) → (b ≡ true) ↔ (value ≡ Some true) → b ≡ is_true value
is_true_from true None told = let given = told.0 refl in cc
is_true_from true (Some true) told = refl
is_true_from true (Some false) told = let given = told.0 refl in cc
is_true_from false None told = refl
is_true_from false (Some true) told = told.1 refl
is_true_from false (Some false) told = refl

-- the values of one variable more
pub values_of-more : (path : List Literal) (n : ℕ) → values_of path (n + 1) ≡ values_of path n ++ value_by path n ∷ []
values_of-more path n = map-range_with_len_more (value_by path) 0 n n (omega arith)

-- the list of the values of all variables is an allowed assignment
pub is_model : (set : ClauseSet) (path : List Literal) (values : List Bool) (n : ℕ) → IsWellFormed set → NoReason set path × NothingForced set path × IsAllChosen set path → All (HasOneFree set) set.clauses → values ≡ values_of path n → n ≡ var_count set.cells → (length values ≡ var_count set.cells) × IsAllowed set (λ v. get_or values v false)
is_model set path values n well (quiet, nothing, chosen) free are counted = (
  ap length are ∙ length-map-range_with_len (value_by path) 0 n ∙ counted,
  allowed set path (λ v. get_or values v false) well quiet nothing chosen free (λ v there. ap (λ (xs : List Bool). get_or xs v false) are ∙ get_or-map-range_with_len (value_by path) 0 n v v false (omega arith) (omega arith)),
)
