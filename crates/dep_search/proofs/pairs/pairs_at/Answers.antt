use Rattle.std.proofs.Common.{◌≡◌, List, ℕ, [], ◌∷◌, ◌∙◌, subst}
use Rattle.std.specs.Prelude.{All}
use Rattle.dep_search.specs.Pairs.{HasAll, IsPair}
use Rattle.dep_search.proofs.Agreed.{led_all, led_pairs}
use Rattle.dep_search.proofs.pairs.pairs_at.Goals as goal

pub returns : goal.returns
returns c =
    let rows = c.args.table.now.rows.now in
    let list = c.push_all_pairs.new.pairs in
    let led = c.in_ok-grouped.ensures.rows.led in
    let x : c.in_ok-grouped.grouped.x ≡ c.args.attr ∷ [] = c.in_ok-grouped.ensures.x ∙ c.from_ref.ensures.value in
    record {
      attr = c.requires.attr;
      each = subst (λ (x : List ℕ). All (IsPair rows x) list) x (led_pairs rows c.in_ok-grouped.grouped.x c.in_ok-grouped.grouped.classes.leaders list led c.in_ok-whole.ensures.pairs);
      whole = λ e. subst (λ (x : List ℕ). HasAll rows x list) x (led_all rows c.in_ok-grouped.grouped.x c.in_ok-grouped.grouped.classes.leaders list led (c.in_ok-whole.ensures.all e));
    }
