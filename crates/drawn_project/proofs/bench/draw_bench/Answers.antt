use Rattle.std.proofs.Common.{◌≡◌, ◌++◌, List, ℕ, [], ◌∷◌, ap, sym, subst, ◌∙◌}
use Rattle.text_lists.specs.declared.limits.Limits.{Limits}
use Rattle.bench_core.specs.Loading.{AreTables, Tuples, loaded}
use Rattle.drawn_project.specs.Project.{AreRules, master_rows, rows}
use Rattle.drawn_project.proofs.Fitting.{tables_fit}
use Rattle.drawn_project.proofs.Known.{schema_of_rules}
use Rattle.drawn_project.proofs.bench.draw_bench.Goals as goal

-- two tables that were pushed
two : (none one both : List Tuples) (g m g_is m_is : Tuples) → none ≡ [] → one ≡ none ++ g ∷ [] → both ≡ one ++ m ∷ [] → g ≡ g_is → m ≡ m_is → both ≡ g_is ∷ m_is ∷ []
two none one both g m g_is m_is empty first second same_g same_m =
    second ∙ ap (λ (ts : List Tuples). ts ++ m ∷ []) (first ∙ ap (λ (ts : List Tuples). ts ++ g ∷ []) empty) ∙ (λ i. same_g i ∷ same_m i ∷ [])

pub load-requires-clause-tables : goal.load-requires-clause-tables
load-requires-clause-tables g c =
    let book = c.in_ok-rules.rules in
    let word = c.args.draws.now in
    let all = two _ _ _ _ _ (rows word).0 (master_rows 4500) c.new-tables.ensures c.in_ok-push.ensures.ok c.in_ok-push-2.ensures.ok (ap (λ (p : Tuples × ℕ). p.0) c.in_ok-draw_rows.ensures) c.in_ok-master_rows.ensures in
    subst (λ (limits : Limits). AreTables book.schema limits.cell_bytes c.push-2.new.self) (sym c.standard.ensures.value)
    (subst (λ (ts : List Tuples). AreTables book.schema 65535 ts) (sym all) (tables_fit book.schema word (schema_of_rules book c.in_ok-rules.ensures)))

pub returns-in-Ok-clause-rules : goal.returns-in-Ok-clause-rules
returns-in-Ok-clause-rules g c = subst AreRules (sym c.in-Ok.ensures.made_with.0) c.in_ok-rules.ensures

pub returns-in-Ok-clause-limits : goal.returns-in-Ok-clause-limits
returns-in-Ok-clause-limits g c = c.in-Ok.ensures.made_with.1 ∙ c.standard.ensures.value

pub returns-in-Ok-clause-begins : goal.returns-in-Ok-clause-begins
returns-in-Ok-clause-begins g c =
    let word = c.args.draws.now in
    let all = two _ _ _ _ _ (rows word).0 (master_rows 4500) c.new-tables.ensures c.in_ok-push.ensures.ok c.in_ok-push-2.ensures.ok (ap (λ (p : Tuples × ℕ). p.0) c.in_ok-draw_rows.ensures) c.in_ok-master_rows.ensures in
    record {
      loaded = (λ i. loaded (c.in-Ok.ensures.made_with.0 i) (sym c.standard.ensures.value i) (sym all i)) ∙ c.in-Ok.ensures.loaded;
      no_past = c.in-Ok.ensures.fresh.0;
      nothing_undone = c.in-Ok.ensures.fresh.1;
    }

pub returns-in-Ok-clause-drawn : goal.returns-in-Ok-clause-drawn
returns-in-Ok-clause-drawn g c = ap (λ (p : Tuples × ℕ). p.1) c.in_ok-draw_rows.ensures
