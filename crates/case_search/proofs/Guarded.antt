-- How guards stay right as the path grows and shrinks, and as clauses are passed on.
use Rattle.std.proofs.Common.{◌≡◌, ◌≢◌, ℕ, ◌⊎◌, Bool, true, false, not, List, [], ◌∷◌, ◌++◌, Some, None, refl, sym, ap, ◌∙◌, subst, inl, inr, ⊎_elim, arith}
use Rattle.std.specs.Prelude.{slice_get, IsSomeAnd}
use Rattle.std.specs.List.{Contains}
use Rattle.std.proofs.lemmas.Bool.{cases_Bool, cases_eq}
use Rattle.std.proofs.lemmas.List.Elements.{Contains-append_left, Contains-push, Contains-push_cases}
use Rattle.case_tree.specs.declared.clauses.Literal.{Literal}
use Rattle.case_tree.specs.declared.tree.Reason.TheVariants.{Clause}
use Rattle.case_tree.specs.CaseTree.{ClauseSet, Holds, IsFalseOn, value_on}
use Rattle.case_tree.specs.Walk.{IsApart, next_path}
use Rattle.case_tree.proofs.Lists.{value_of}
use Rattle.case_tree.proofs.Paths.{value_on-same, value_on-other}
use Rattle.case_search.specs.Guards.{IsGuarded, IsGuardedBut, parent}
use Rattle.case_search.specs.Places.{opposite_of}
use Rattle.case_search.specs.Step.{NoReason}
use Rattle.case_search.proofs.Signed.{cases_Literal, either_sign, not_opposite, same_literal}

-- a literal that isn't false becomes false by no split but the one on its opposite
still : (last : Literal) (above : List Literal) (literal : Literal) → (IsFalseOn above literal → ⊥) → (IsFalseOn (last ∷ above) literal → ⊥) ⊎ (literal ≡ opposite_of last)
still last above literal not_false =
    ⊎_elim
    (λ same.
    ⊎_elim
    (λ signs. inl (λ is_false. let given = value_on-same last above literal.var same in not_opposite literal.positive (let sign : last.positive ≡ not literal.positive = cc in signs ∙ sign)))
    (λ signs. inr (same_literal literal (opposite_of last) (sym same) signs))
    (either_sign literal.positive last.positive))
    (λ other. inl (λ is_false. not_false (sym (value_on-other last above literal.var other) ∙ is_false)))
    (cases_eq last.var literal.var)

-- one split more
pub guarded_but : (set : ClauseSet) (lists : Literal → List ℕ) (last : Literal) (above : List Literal) → IsGuarded set lists above → IsGuardedBut set lists (last ∷ above) (opposite_of last)
guarded_but set lists last above all = record {
  guard = λ at clause there some.
      let (literal, inside, not_false, listed) = all.guard at clause there some in
      (literal, inside, still last above literal not_false, listed);
}

-- the opposite of the last split is false
pub just_false : (last : Literal) (above : List Literal) → IsFalseOn (last ∷ above) (opposite_of last)
just_false last above = value_on-same last above last.var refl ∙ ap Some (twice last.positive)
  where
    twice : (b : Bool) → b ≡ not (not b)
    twice true = refl
    twice false = refl

-- one split fewer
guarded_up : (set : ClauseSet) (lists : Literal → List ℕ) (last : Literal) (above : List Literal) → value_on above last.var ≡ None → IsGuarded set lists (last ∷ above) → IsGuarded set lists above
guarded_up set lists last above fresh all = record {
  guard = λ at clause there some.
      let (literal, inside, not_false, listed) = all.guard at clause there some in (
        literal,
        inside,
        (λ is_false.
            ⊎_elim
            (λ same. let unset : value_on above literal.var ≡ None = ap (value_on above) (sym same) ∙ fresh in cc)
            (λ other. not_false (value_on-other last above literal.var other ∙ is_false))
            (cases_eq last.var literal.var)),
        listed,
      );
}

guarded_parent : (set : ClauseSet) (lists : Literal → List ℕ) (path : List Literal) → IsApart path → IsGuarded set lists path → IsGuarded set lists (parent path)
guarded_parent set lists [] apart all = all
guarded_parent set lists (last ∷ above) apart all = guarded_up set lists last above apart.0 all

-- the path of the next subtree
pub guarded_next : (set : ClauseSet) (lists : Literal → List ℕ) (path : List Literal) → IsApart path → IsGuarded set lists (parent path) → IsGuarded set lists (parent (next_path path))
guarded_next set lists [] apart all = all
guarded_next set lists (last ∷ above) apart all =
    ⊎_elim
    (λ on_true. rw on_true all)
    (λ on_false. rw on_false (guarded_next set lists above apart.1 (guarded_parent set lists above apart.1 all)))
    (cases_Bool last.positive)

pub apart_next : (path : List Literal) → IsApart path → IsApart (next_path path)
apart_next [] apart = apart
apart_next (last ∷ above) apart =
    ⊎_elim
    (λ on_true. rw on_true apart)
    (λ on_false. rw on_false (apart_next above apart.1))
    (cases_Bool last.positive)

-- a literal that isn't false is another than one that is
pub differ : (path : List Literal) (literal gone : Literal) → (IsFalseOn path literal → ⊥) → IsFalseOn path gone → literal ≢ gone
differ path literal gone not_false is_false same = not_false (subst (IsFalseOn path) (sym same) is_false)

module _ (set : ClauseSet) (path : List Literal) (gone : Literal) (old taken : Literal → List ℕ) (at : ℕ) (all : IsGuardedBut set old path gone) (from : old gone ≡ taken gone ++ at ∷ []) (stay : (other : Literal) → other ≢ gone → taken other ≡ old other) where
  -- the lists without the clause have every other one
  still_listed : (k : ℕ) (literal : Literal) → k ≢ at → Contains (old literal) k → Contains (taken literal) k
  still_listed k literal other listed =
      ⊎_elim
      (λ same.
      let here = subst (λ (xs : List ℕ). Contains xs k) (ap old same ∙ from) listed in
      subst (λ (x : Literal). Contains (taken x) k) (sym same)
      (⊎_elim (λ before. before) (λ last. absurd (other (sym last))) (Contains-push_cases (taken gone) at k here)))
      (λ differs. subst (λ (xs : List ℕ). Contains xs k) (sym (stay literal differs)) listed)
      (cases_Literal literal gone)

  -- the clause goes to a literal of it that isn't false
  pub passed : (new : Literal → List ℕ) (literal : Literal) → IsSomeAnd (slice_get set.clauses at) (λ clause. Contains clause literal) → (IsFalseOn path literal → ⊥) → new literal ≡ taken literal ++ at ∷ [] → ((other : Literal) → other ≢ literal → new other ≡ taken other) → IsGuardedBut set new path gone
  passed new literal inside not_false added others = record {
    guard = λ k clause there some.
        ⊎_elim
        (λ same.
        let (found, is, contained) = value_of (slice_get set.clauses at) (λ (c : List Literal). Contains c literal) inside in
        let equal : found ≡ clause = let moved : slice_get set.clauses at ≡ Some clause = ap (slice_get set.clauses) (sym same) ∙ there in cc in (
          literal,
          subst (λ (c : List Literal). Contains c literal) equal contained,
          inl not_false,
          subst (λ (i : ℕ). Contains (new literal) i) (sym same) (subst (λ (xs : List ℕ). Contains xs at) (sym added) (Contains-push (taken literal) at)),
        ))
        (λ other.
        let (guard, in_clause, why, listed) = all.guard k clause there some in (
          guard,
          in_clause,
          why,
          kept k guard (still_listed k guard other listed),
        ))
        (cases_eq k at);
  }
    where
      kept : (k : ℕ) (guard : Literal) → Contains (taken guard) k → Contains (new guard) k
      kept k guard listed =
          ⊎_elim
          (λ same. subst (λ (x : Literal). Contains (new x) k) (sym same) (subst (λ (xs : List ℕ). Contains xs k) (sym added) (Contains-append_left (taken literal) (at ∷ []) k (subst (λ (x : Literal). Contains (taken x) k) same listed))))
          (λ differs. subst (λ (xs : List ℕ). Contains xs k) (sym (others guard differs)) listed)
          (cases_Literal guard literal)

  -- or it isn't there
  pub passed_over : NoReason set path → ((clause : List Literal) → slice_get set.clauses at ≡ Some clause → Holds set path (Clause at)) → IsGuardedBut set taken path gone
  passed_over quiet none = record {
    guard = λ k clause there some.
        ⊎_elim
        (λ same. absurd (quiet (Clause at) (none clause (ap (slice_get set.clauses) (sym same) ∙ there))))
        (λ other.
        let (guard, in_clause, why, listed) = all.guard k clause there some in
        (guard, in_clause, why, still_listed k guard other listed))
        (cases_eq k at);
  }

-- where the list is empty, all are guarded
pub all_passed : (set : ClauseSet) (lists : Literal → List ℕ) (path : List Literal) (gone : Literal) → lists gone ≡ [] → IsGuardedBut set lists path gone → IsGuarded set lists path
all_passed set lists path gone none all = record {
  guard = λ at clause there some.
      let (literal, inside, why, listed) = all.guard at clause there some in (
        literal,
        inside,
        ⊎_elim
            (λ not_false. not_false)
            (λ same. let (k, in_range, is) = subst (λ (xs : List ℕ). Contains xs at) (ap lists same ∙ none) listed in absurd (omega arith))
            why,
        listed,
      );
}
