use Rattle.std.proofs.Common.{◌++◌, ◌∷◌, [], All, sym, subst, ◌∙◌}
use Rattle.std.proofs.lemmas.List.Elements.{All-push}
use Rattle.rule_model.specs.declared.dep.Dep.{Dep}
use Rattle.dep_finder.specs.Valid.{HasTexts}
use Rattle.dep_finder.proofs.Numbered.{deps_more}
use Rattle.dep_finder.proofs.deps.deps_of.Goals as goal

pub loop-place-preserved : goal.loop-place-preserved
loop-place-preserved c =
    let HaveTexts = All (λ (dep : Dep). HasTexts dep.rule) in
    record {
      named =
          c.in_ok-push.ensures.ok ∙ (λ i. c.loop-place.invariant.named i ++ c.in_ok-dep_of.ensures.is i ∷ [])
          ∙ sym (deps_more c.args.number c.args.rows.now c.args.sides.now c.args.found.now c.loop-place.place _ c.loop-place-test.true);
      texts = subst HaveTexts (sym c.in_ok-push.ensures.ok) (All-push (λ (dep : Dep). HasTexts dep.rule) c.loop-place.deps _ c.loop-place.invariant.texts c.in_ok-dep_of.ensures.texts);
    }
