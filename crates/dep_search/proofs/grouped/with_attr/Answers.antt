use Rattle.std.proofs.Common.{◌≡◌, List, ℕ, ap, ◌++◌, ◌∷◌, [], ◌∙◌, sym, subst}
use Rattle.dep_search.specs.Leaders.{AreLeaders}
use Rattle.dep_search.proofs.Told.{leaders_from_pairs}
use Rattle.dep_search.proofs.Parted.{lent_tells}
use Rattle.dep_search.proofs.grouped.with_attr.Goals as goal

pub returns-clause-rows : goal.returns-clause-rows
returns-clause-rows c =
    let table = c.args.table.now in
    let tells = lent_tells table.rows.now table.columns.now c.args.attr c.index-table-attr.result c.as_slice.result.now c.requires.table.columns c.requires.attr c.index-table-attr.is c.as_slice.ensures in
    let x : c.in_ok-x.x ≡ c.args.grouped.now.x ++ c.args.attr ∷ [] =
    c.in_ok-x.ensures ∙ ap (λ (l : List ℕ). l ++ c.args.attr ∷ []) c.as_slice-3.ensures in
    record {
      led = subst (λ x. AreLeaders table.rows.now x c.in_ok-leaders.leaders) (sym x)
          (leaders_from_pairs table.rows.now c.args.grouped.now.x c.args.attr c.as_slice.result.now c.args.grouped.now.classes.leaders c.in_ok-leaders.leaders
          tells c.requires.grouped.led.tells c.in_ok-leaders.ensures);
      steps = rw c.as_slice-2.ensures at c.in_ok-nexts.ensures;
    }
