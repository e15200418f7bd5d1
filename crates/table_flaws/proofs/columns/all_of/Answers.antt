use Rattle.std.proofs.Common.{Bool, List, ℕ, true, cond, ◌∙◌, ap}
use Rattle.std.specs.HashSet.{contains_by}
use Rattle.std.specs.Str.{bytes_eq}
use Rattle.text_lists.proofs.RepeatLemmas.{is_among-more}
use Rattle.table_flaws.proofs.columns.all_of.Goals as goal

pub loop-value-preserved : goal.loop-value-preserved
loop-value-preserved c = λ q.
    c.in_ok-insert.ensures.updates.0 (record { ref_ptr = (0, 0); now = q })
    ∙ ap (λ (t : List ℕ). cond (bytes_eq t q) true (contains_by (λ key. bytes_eq q key.now) c.loop-value.all)) c.as_str.ensures.bytes
    ∙ ap (λ (b : Bool). cond (bytes_eq c.value-item.result q) true b) (c.loop-value.invariant q)
    ∙ is_among-more c.args.values.now c.loop-value.value-index c.value-item.result q c.loop-value-test.true c.value-item.is
