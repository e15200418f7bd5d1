use Rattle.std.proofs.Common.{◌≡◌, ◌<◌, length, arith, ap, List, ℕ, ◌++◌, ◌∷◌, [], set, sym, ◌∙◌, subst}
use Rattle.std.specs.Prelude.{MatchOption}
use Rattle.case_search.specs.Places.{list_at, lists_of}
use Rattle.case_search.proofs.Listed.{list_after, list_before, list_other, popped}
use Rattle.case_search.proofs.lists.Lists.take.Goals as goal

pub returns-then-var-len-clause-taken : goal.returns-then-var-len-clause-taken
returns-then-var-len-clause-taken c =
    let lists = c.self.inside.lists.items in
    let in_range : c.args.var < length lists = omega (arith, c.if-var-len.true, c.len.ensures, c.self.inside.lists.ok.0) in
    let after = list_after lists c.args.var c.pop.new.self in_range in
    let before = list_before lists c.args.var c.index_mut.result.now in_range c.index_mut.ensures.value in
    let view = c.self.view_is in
    let list = c.index_mut.result.now in
    let told = popped c.pop.result list.items c.pop.new.self.items _ _ list.ok.0 c.pop.ensures.cases c.pop.ensures.items in
    subst (λ (xs : List ℕ). MatchOption c.pop.result ((xs ≡ []) × (list_at (lists_of (set lists c.args.var c.pop.new.self)) c.args.var ≡ [])) (λ at. xs ≡ list_at (lists_of (set lists c.args.var c.pop.new.self)) c.args.var ++ at ∷ []))
    (sym (ap (λ (ls : List (List ℕ)). list_at ls c.args.var) (sym view) ∙ before))
    (subst (λ (ys : List ℕ). MatchOption c.pop.result ((list.items ≡ []) × (ys ≡ [])) (λ at. list.items ≡ ys ++ at ∷ [])) (sym after) told)

pub returns-then-var-len-clause-others : goal.returns-then-var-len-clause-others
returns-then-var-len-clause-others c v other =
    let same = list_other c.self.inside.lists.items c.args.var v c.pop.new.self other in
    let view = c.self.view_is in
    cc
