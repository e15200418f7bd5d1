-- A trail after a pop.
use Rattle.std.proofs.Common.{◌≡◌, ℕ, ◌<◌, Bool, List, ◌∷◌, length, get_or, set, Option, Some, None, refl, sym, ap, ◌∙◌, subst, arith, ⊎_elim, get_or-set_same, get_or-set_other}
use Rattle.std.specs.Prelude.{is_none, cond}
use Rattle.std.proofs.lemmas.Bool.{cases_lt, cases_eq}
use Rattle.std.proofs.lemmas.List.{get_or_past, length-set}
use Rattle.std.proofs.lemmas.List.Sums.{sum_by-set}
use Rattle.case_tree.specs.declared.clauses.Literal.{Literal}
use Rattle.case_tree.specs.CaseTree.{value_on}
use Rattle.case_tree.specs.Walk.{IsTrail}
use Rattle.case_tree.proofs.Paths.{value_on-same, value_on-other}

module _ (values : List (Option Bool)) (literal : Literal) (above : List Literal) (room : ℕ) (trail : IsTrail values (literal ∷ above) room) where
  -- the last variable has a value
  pub last_given : get_or values literal.var None ≡ Some literal.positive
  last_given = trail.values_are literal.var ∙ value_on-same literal above literal.var refl

  -- so it is there
  pub last_known : literal.var < length values
  last_known =
      ⊎_elim
      (λ known. known)
      (λ past. let none = get_or_past values literal.var None past in let given = last_given in cc)
      (cases_lt literal.var (length values))

  -- without the last split
  pub IsTrail-pop : IsTrail (set values literal.var None) above room
  IsTrail-pop =
      let same_length = length-set values literal.var None in
      record {
        values_are = λ v.
            ⊎_elim
            (λ same. subst (λ u. get_or (set values literal.var None) u None ≡ value_on above u) same (get_or-set_same values literal.var None None last_known ∙ sym trail.apart.0))
            (λ other. get_or-set_other values literal.var v None None (λ e. other (sym e)) ∙ trail.values_are v ∙ value_on-other literal above v other)
            (cases_eq literal.var v);
        apart = trail.apart.1;
        counted =
            let counts = sum_by-set (λ (value : Option Bool). cond (is_none value) 1 0) values literal.var None None last_known in
            let none_there = ap {B = ℕ} (λ (value : Option Bool). cond (is_none value) 1 0) last_given in
            omega (arith, counts, none_there, trail.counted);
        has_room = omega (arith, trail.has_room);
      }
