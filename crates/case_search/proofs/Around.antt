-- What setting one variable can change.
use Rattle.std.proofs.Common.{◌≡◌, ◌≢◌, ℕ, suc, ◌+◌, ◌<◌, ◌^◌, ◌⊎◌, Bool, true, false, List, [], ◌∷◌, length, get_or, Option, Some, None, refl, sym, ap, ◌∙◌, subst, inl, inr, ⊎_elim, arith}
use Rattle.std.specs.Prelude.{IsSomeAnd, IfNone, IfSome, slice_get}
use Rattle.std.specs.List.{All, Any, Contains}
use Rattle.std.proofs.lemmas.Bool.{cases_eq, cases_lt}
use Rattle.std.proofs.lemmas.List.{get_or_default}
use Rattle.std.proofs.lemmas.List.Elements.{All-nil, All-cons, All-head, All-tail, All-contains}
use Rattle.std.proofs.lemmas.Option.{slice_get_within, slice_get-get_or, get_or_from_slice_get}
use Rattle.case_tree.specs.declared.clauses.Literal.{Literal}
use Rattle.case_tree.specs.declared.clauses.VarCell.{VarCell}
use Rattle.case_tree.specs.declared.tree.Reason.TheVariants.{Clause, Two, NoneOf}
use Rattle.case_tree.specs.CaseTree.{ClauseSet, Holds, IsFalseOn, IsIn, IsWellFormed, value_on, var_count}
use Rattle.case_tree.proofs.Cells.{ends_within, has_vars, same_cell}
use Rattle.case_tree.proofs.Lists.{IsSomeAnd-from, IsSomeAnd-get_or, value_of}
use Rattle.case_tree.proofs.Paths.{value_on-other}
use Rattle.case_search.specs.Guards.{IsGuardedBut}
use Rattle.case_search.specs.Step.{HasTrue, IsWanted, NoReason, QuietBut}

-- some element, under one more
Any-there : {X : Type 0} (P : X → Type 0) (x : X) (xs : List X) → Any P xs → Any P (x ∷ xs)
Any-there P x xs (k, y, in_range, is, fact) = (suc k, y, omega arith, is, fact)

-- a clause that is false has a literal of the variable, or was false before it was set
clause_around : (literal : Literal) (above clause : List Literal) → All (IsFalseOn (literal ∷ above)) clause → Any (λ (x : Literal). x.var ≡ literal.var) clause ⊎ All (IsFalseOn above) clause
clause_around literal above [] all_false = inr (All-nil (IsFalseOn above))
clause_around literal above (x ∷ clause) all_false =
    ⊎_elim
    (λ same. inl (0, x, omega arith, refl, sym same))
    (λ other.
    ⊎_elim
    (λ some. inl (Any-there (λ (y : Literal). y.var ≡ literal.var) x clause some))
    (λ rest. inr (All-cons (IsFalseOn above) x clause (sym (value_on-other literal above x.var other) ∙ All-head (IsFalseOn (literal ∷ above)) x clause all_false) rest))
    (clause_around literal above clause (All-tail (IsFalseOn (literal ∷ above)) x clause all_false)))
    (cases_eq literal.var x.var)

-- a variable is one of a cell's or not
is_in : (cell : VarCell) (v : ℕ) → IsIn cell v ⊎ (IsIn cell v → ⊥)
is_in cell v =
    ⊎_elim
    (λ before. inr (λ (low, high). omega arith))
    (λ low. ⊎_elim (λ high. inl (low, high)) (λ past. inr (λ (low, high). omega arith)) (cases_lt v (cell.first + cell.count)))
    (cases_lt v cell.first)

-- where no reason held before a variable was set, each that holds now speaks of it
pub quiet_but : (set : ClauseSet) (literal : Literal) (above : List Literal) → NoReason set above → QuietBut set (literal ∷ above) literal.var
quiet_but set literal above quiet (Clause at) held =
    let (clause, there, all_false) = value_of (slice_get set.clauses at) (All (IsFalseOn (literal ∷ above))) held in
    ⊎_elim
    (λ some. IsSomeAnd-from (slice_get set.clauses at) (Any (λ (x : Literal). x.var ≡ literal.var)) clause there some)
    (λ before. absurd (quiet (Clause at) (IsSomeAnd-from (slice_get set.clauses at) (All (IsFalseOn above)) clause there before)))
    (clause_around literal above clause all_false)
quiet_but set literal above quiet (Two one two) (differ, shared, one_true, two_true) =
    ⊎_elim
    (λ same. inl (sym same))
    (λ other.
    ⊎_elim
    (λ same. inr (sym same))
    (λ another.
    absurd (quiet (Two one two) (differ, shared, sym (value_on-other literal above one other) ∙ one_true, sym (value_on-other literal above two another) ∙ two_true)))
    (cases_eq literal.var two))
    (cases_eq literal.var one)
quiet_but set literal above quiet (NoneOf at) held =
    let (cell, there, (demanded, all_false)) = value_of (slice_get set.cells at) (λ (cell : VarCell). (cell.demanded ≡ true) × ((v : ℕ) → IsIn cell v → value_on (literal ∷ above) v ≡ Some false)) held in
    ⊎_elim
    (λ inside. IsSomeAnd-from (slice_get set.cells at) (λ (cell : VarCell). IsIn cell literal.var) cell there inside)
    (λ outside.
    absurd (quiet (NoneOf at) (IsSomeAnd-from (slice_get set.cells at) (λ (cell : VarCell). (cell.demanded ≡ true) × ((v : ℕ) → IsIn cell v → value_on above v ≡ Some false)) cell there
    (demanded, λ v v_in. sym (value_on-other literal above v (λ e. outside (subst (IsIn cell) (sym e) v_in))) ∙ all_false v v_in))))
    (is_in cell literal.var)

-- the end of a cell can be written
pub cell_ends : (set : ClauseSet) (cells : List VarCell) (at : ℕ) (d : VarCell) → IsWellFormed set → cells ≡ set.cells → at < length cells → (get_or cells at d).first + (get_or cells at d).count < 2 ^ 64
cell_ends set cells at d well same in_range =
    let in_set = rw same at in_range in
    rw same (omega (arith, ends_within 0 set.cells at d well.cells_follow in_set, well.vars_fit))

-- two true variables of a cell
pub pair_holds : (set : ClauseSet) (path : List Literal) (cells : List VarCell) (at one two : ℕ) (d : VarCell) → cells ≡ set.cells → at < length cells → one ≢ two → IsIn (get_or cells at d) one → IsIn (get_or cells at d) two → value_on path one ≡ Some true → value_on path two ≡ Some true → Holds set path (Two one two)
pair_holds set path cells at one two d same in_range differ one_in two_in one_true two_true =
    (differ, subst (Any (λ (cell : VarCell). IsIn cell one × IsIn cell two)) same (at, get_or cells at d, in_range, get_or_default cells at _ d in_range, (one_in, two_in)), one_true, two_true)

-- the cell of the variable, found among the cells
pub cell_in_range : (set : ClauseSet) (cells : List VarCell) (at v : ℕ) → cells ≡ set.cells → IsSomeAnd (slice_get set.cells at) (λ cell. IsIn cell v) → at < length cells
cell_in_range set cells at v same there =
    let (cell, is, inside) = value_of (slice_get set.cells at) (λ (cell : VarCell). IsIn cell v) there in
    rw same (slice_get_within set.cells at cell is)

pub cell_has : (set : ClauseSet) (cells : List VarCell) (at v : ℕ) (d : VarCell) → cells ≡ set.cells → IsSomeAnd (slice_get set.cells at) (λ cell. IsIn cell v) → IsIn (get_or cells at d) v
cell_has set cells at v d same there =
    let (cell, is, inside) = value_of (slice_get set.cells at) (λ (cell : VarCell). IsIn cell v) there in
    rw same (subst (λ (x : VarCell). IsIn x v) (sym (get_or_from_slice_get set.cells at cell d is)) inside)

-- a variable lies in one cell only
cell_is : (set : ClauseSet) (at other v : ℕ) → IsWellFormed set → IsSomeAnd (slice_get set.cells at) (λ cell. IsIn cell v) → IsSomeAnd (slice_get set.cells other) (λ cell. IsIn cell v) → at ≡ other
cell_is set at other v well one two =
    let d : VarCell = record { first = 0; count = 0; demanded = false } in
    same_cell set.cells at other v d well.cells_follow (cell_in_range set set.cells at v refl one) (cell_in_range set set.cells other v refl two) (cell_has set set.cells at v d refl one) (cell_has set set.cells other v d refl two)

module _ (set : ClauseSet) (path : List Literal) (v cell : ℕ) (lists : Literal → List ℕ) (gone : Literal) (places : List ℕ) (well : IsWellFormed set) (guarded : IsGuardedBut set lists path gone) (quiet : QuietBut set path v) (listed : places ≡ lists gone) (none_false : All (λ (at : ℕ). Holds set path (Clause at) → ⊥) places) (v_in : IsSomeAnd (slice_get set.cells cell) (λ cell. IsIn cell v)) where
  -- a false clause isn't empty, so it has a guard, which is false, so the clause is in its list
  no_clause : (at : ℕ) → Holds set path (Clause at) → ⊥
  no_clause at held =
      let (clause, there, all_false) = value_of (slice_get set.clauses at) (All (IsFalseOn path)) held in
      let (named, named_there, (k, literal, in_range, is, of_v)) = value_of (slice_get set.clauses at) (Any (λ (literal : Literal). literal.var ≡ v)) (quiet (Clause at) held) in
      let same : named ≡ clause = cc in
      let some : 0 < length clause = omega (arith, ap length same) in
      let (guard, inside, why, has) = guarded.guard at clause there some in
      ⊎_elim
      (λ not_false. not_false (All-contains (IsFalseOn path) clause guard all_false inside))
      (λ is_gone. All-contains (λ (at : ℕ). Holds set path (Clause at) → ⊥) places at none_false (subst (λ (places : List ℕ). Contains places at) (ap lists is_gone ∙ sym listed) has) held)
      why

  -- a variable that shares a cell with it lies in its cell
  shared_in : (k w : ℕ) (x : VarCell) → k < length set.cells → get_or set.cells k x ≡ x → IsIn x v → IsIn x w → IsSomeAnd (slice_get set.cells cell) (λ cell. IsIn cell w)
  shared_in k w x in_range is here there =
      let at = slice_get-get_or set.cells k x in_range ∙ ap Some is in
      let same = cell_is set k cell v well (IsSomeAnd-from (slice_get set.cells k) (λ (cell : VarCell). IsIn cell v) x at here) v_in in
      subst (λ (i : ℕ). IsSomeAnd (slice_get set.cells i) (λ cell. IsIn cell w)) same (IsSomeAnd-from (slice_get set.cells k) (λ (cell : VarCell). IsIn cell w) x at there)

  -- where the variable is true, no other of its cell is, and no cell of it is false throughout
  pub none_by_true : value_on path v ≡ Some true → ((w : ℕ) → w ≢ v → IsSomeAnd (slice_get set.cells cell) (λ cell. IsIn cell w) → value_on path w ≡ Some true → ⊥) → NoReason set path
  none_by_true v_true alone (Clause at) held = no_clause at held
  none_by_true v_true alone (Two one two) (differ, (k, x, in_range, is, (one_in, two_in)), one_true, two_true) =
      ⊎_elim
      (λ same. alone two (λ e. differ (same ∙ sym e)) (shared_in k two x in_range is (subst (IsIn x) same one_in) two_in) two_true)
      (λ same. alone one (λ e. differ (e ∙ sym same)) (shared_in k one x in_range is (subst (IsIn x) same two_in) one_in) one_true)
      (quiet (Two one two) (differ, (k, x, in_range, is, (one_in, two_in)), one_true, two_true))
  none_by_true v_true alone (NoneOf at) held =
      let (x, there, (demanded, all_false)) = value_of (slice_get set.cells at) (λ (cell : VarCell). (cell.demanded ≡ true) × ((v : ℕ) → IsIn cell v → value_on path v ≡ Some false)) held in
      let (y, there_too, inside) = value_of (slice_get set.cells at) (λ (cell : VarCell). IsIn cell v) (quiet (NoneOf at) held) in
      let same : y ≡ x = cc in
      let v_false = all_false v (subst (λ (cell : VarCell). IsIn cell v) same inside) in
      cc

  -- where it isn't true, none does but its cell's
  pub none_by_other : (value_on path v ≡ Some true → ⊥) → (Holds set path (NoneOf cell) → ⊥) → NoReason set path
  none_by_other not_true not_none (Clause at) held = no_clause at held
  none_by_other not_true not_none (Two one two) held =
      ⊎_elim (λ same. not_true (ap (value_on path) (sym same) ∙ held.2)) (λ same. not_true (ap (value_on path) (sym same) ∙ held.3)) (quiet (Two one two) held)
  none_by_other not_true not_none (NoneOf at) held =
      not_none (subst (λ (i : ℕ). Holds set path (NoneOf i)) (cell_is set at cell v well (quiet (NoneOf at) held) v_in) held)

-- a fact of `Some`, weakened
pub IfSome-weaker : {X : Type 0} (o : Option X) (P Q : X → Type 0) → ((x : X) → P x → Q x) → IfSome o P → IfSome o Q
IfSome-weaker None P Q weaker fact = tt
IfSome-weaker (Some x) P Q weaker fact = weaker x fact

-- a fact of `None`, weakened
pub IfNone-weaker : {X : Type 0} (o : Option X) (P Q : Type 0) → (P → Q) → IfNone o P → IfNone o Q
IfNone-weaker None P Q weaker fact = weaker fact
IfNone-weaker (Some x) P Q weaker fact = tt

-- at the root no reason holds but an empty clause
pub root_quiet : (set : ClauseSet) → IsWellFormed set → ((k : ℕ) (clause : List Literal) → slice_get set.clauses k ≡ Some clause → 0 < length clause) → NoReason set []
root_quiet set well nonempty (Clause at) held =
    let (clause, there, all_false) = value_of (slice_get set.clauses at) (All (IsFalseOn [])) held in
    first_given clause (nonempty at clause there) all_false
  where
    first_given : (clause : List Literal) → 0 < length clause → All (IsFalseOn []) clause → ⊥
    first_given [] some all_false = omega arith
    first_given (x ∷ clause) some all_false = let given = All-head (IsFalseOn []) x clause all_false in cc
root_quiet set well nonempty (Two one two) (differ, shared, one_true, two_true) = cc
root_quiet set well nonempty (NoneOf at) held =
    let (cell, there, (demanded, all_false)) = value_of (slice_get set.cells at) (λ (cell : VarCell). (cell.demanded ≡ true) × ((v : ℕ) → IsIn cell v → value_on [] v ≡ Some false)) held in
    let some = has_vars 0 set.cells at cell well.cells_follow there in
    let given = all_false cell.first (omega arith, omega arith) in
    cc

-- a variable that is set and not true is false
pub false_of : (value : Option Bool) → (value ≡ None → ⊥) → (value ≡ Some true → ⊥) → value ≡ Some false
false_of None set not_true = absurd (set refl)
false_of (Some true) set not_true = absurd (not_true refl)
false_of (Some false) set not_true = refl

-- a variable of a cell is there
pub known : (set : ClauseSet) (cells : List VarCell) (at v : ℕ) (d : VarCell) → IsWellFormed set → cells ≡ set.cells → at < length cells → IsIn (get_or cells at d) v → v < var_count set.cells
known set cells at v d well same in_range inside =
    let in_set = rw same at in_range in
    let inside_set : IsIn (get_or set.cells at d) v = subst (λ (cells : List VarCell). IsIn (get_or cells at d) v) same inside in
    omega (arith, ends_within 0 set.cells at d well.cells_follow in_set, inside_set.1)

-- a demanded cell that is false throughout is a reason
pub none_holds : (set : ClauseSet) (path : List Literal) (cells : List VarCell) (at : ℕ) (d : VarCell) → cells ≡ set.cells → at < length cells → (get_or cells at d).demanded ≡ true → ((v : ℕ) → IsIn (get_or cells at d) v → value_on path v ≡ Some false) → Holds set path (NoneOf at)
none_holds set path cells at d same in_range demanded all_false =
    let says : VarCell → Type 0 = λ cell. (cell.demanded ≡ true) × ((v : ℕ) → IsIn cell v → value_on path v ≡ Some false) in
    subst (λ (cells : List VarCell). IsSomeAnd (slice_get cells at) says) same ((IsSomeAnd-get_or says cells at d in_range).1 (demanded, all_false))

-- a variable of a demanded cell with no true variable
pub wanted_of : (set : ClauseSet) (path : List Literal) (cells : List VarCell) (at v : ℕ) (d : VarCell) → cells ≡ set.cells → at < length cells → IsSomeAnd (slice_get set.cells at) (λ cell. IsIn cell v) → (get_or cells at d).demanded ≡ true → (HasTrue path (get_or cells at d) → ⊥) → IsWanted set path v
wanted_of set path cells at v d same in_range inside demanded none =
    subst (Any (λ (cell : VarCell). (cell.demanded ≡ true) × IsIn cell v × ¬ HasTrue path cell)) same
    (at, get_or cells at d, in_range, get_or_default cells at _ d in_range, (demanded, cell_has set cells at v d same inside, none))
