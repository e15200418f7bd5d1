use Rattle.std.proofs.Common.{◌≡◌, ◌∙◌, sym, subst, arith, ⊎_elim}
use Rattle.std.specs.Prelude.{slice_index}
use Rattle.std.proofs.lemmas.Bool.{cases_eq}
use Rattle.dep_search.specs.Leaders.{IsFirstPair}
use Rattle.dep_search.proofs.classes.first_in_classes.Goals as goal

pub loop-first-preserved : goal.loop-first-preserved
loop-first-preserved c = record {
  long = c.split.ensures.long ∙ c.loop-first.invariant.long;
  marks = c.split.ensures.marks;
  here = λ r rl l.
      ⊎_elim (λ (e : slice_index c.args.classes.now.leaders r ≡ c.loop-first.first). c.split.ensures.here r rl e)
      (λ (ne : slice_index c.args.classes.now.leaders r ≡ c.loop-first.first → ⊥).
      subst (IsFirstPair c.args.ids.now c.args.classes.now.leaders r) (sym (c.split.ensures.others r rl ne))
      (c.loop-first.invariant.here r rl (omega (arith, l, ne)))) (cases_eq (slice_index c.args.classes.now.leaders r) c.loop-first.first);
}
