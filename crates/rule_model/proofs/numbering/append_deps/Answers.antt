use Rattle.std.proofs.Common.{◌++◌, ◌∷◌, [], List, map, sym, ap, ◌∙◌, append_assoc, arith}
use Rattle.std.specs.List.{range_with_len}
use Rattle.std.proofs.lemmas.List.FromFn.{map-range_with_len_more}
use Rattle.rule_model.specs.declared.dep.Dep.{Dep}
use Rattle.rule_model.specs.Rules.{dep_at}
use Rattle.rule_model.proofs.numbering.append_deps.Goals as goal

pub loop-place-preserved : goal.loop-place-preserved
loop-place-preserved c =
    let place = c.loop-place.place in
    let made = dep_at c.args.schema.now c.args.cfd.now in
    let so_far = map made (range_with_len 0 place) in
    c.in_ok-push.ensures.ok
    ∙ ap (λ (deps : List Dep). deps ++ c.in_ok-dep.field-0 ∷ []) c.loop-place.invariant
    ∙ append_assoc c.args.deps.now so_far (c.in_ok-dep.field-0 ∷ [])
    ∙ ap (λ (dep : Dep). c.args.deps.now ++ (so_far ++ dep ∷ [])) c.in_ok-dep.ensures
    ∙ ap (λ (deps : List Dep). c.args.deps.now ++ deps) (sym (map-range_with_len_more made 0 place place (omega arith)))
