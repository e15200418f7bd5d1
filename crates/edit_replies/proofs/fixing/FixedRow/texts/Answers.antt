use Rattle.std.proofs.Common.{◌++◌, ◌∷◌, [], ℕ, List, take, sym, ap, ◌∙◌}
use Rattle.std.proofs.lemmas.List.{map_more}
use Rattle.std.proofs.lemmas.Option.{get_or_from_slice_get}
use Rattle.fix_engine.specs.Questions.{text_of, texts_of}
use Rattle.edit_replies.proofs.fixing.FixedRow.texts.Goals as goal

pub loop-id-preserved : goal.loop-id-preserved
loop-id-preserved c =
    let pool = c.args.self.now.pool.now in
    let so_far = texts_of pool (take c.loop-id.id-index c.args.ids.now) in
    c.in_ok-push.ensures.ok
    ∙ ap (λ (ts : List (List ℕ)). ts ++ c.in_ok-new.field-0 ∷ []) c.loop-id.invariant
    ∙ ap (λ (t : List ℕ). so_far ++ t ∷ []) (c.in_ok-new.ensures ∙ sym (get_or_from_slice_get pool _ _ [] c.text.ensures))
    ∙ sym (map_more (text_of pool) c.args.ids.now c.loop-id.id-index 0 c.loop-id-test.true)
