use Rattle.std.proofs.Common.{◌∷◌, ◌++◌, ◌∙◌, [], ℕ, List, ap, sym, take}
use Rattle.std.specs.Str.{is_utf8}
use Rattle.std.proofs.lemmas.List.{take_more}
use Rattle.std.proofs.lemmas.List.Folds.{list_all_more}
use Rattle.std.proofs.lemmas.Str.{is_utf8-from_IsUtf8}
use Rattle.csv_tables.proofs.writing.push_texts.Goals as goal

pub loop-text-preserved : goal.loop-text-preserved
loop-text-preserved c =
    let row = c.args.row.now in
    let i = c.loop-text.text-index in
    let inside = c.loop-text-test.true in
    let text = c.text-item.result in
    record {
      texts =
          c.in_ok-push_field.ensures.fields
          ∙ rw (c.loop-text.invariant.ended, c.as_bytes.ensures.value, c.as_str.ensures.bytes, c.loop-text.invariant.texts)
          (ap (λ (t : List ℕ). take i row ++ t ∷ []) c.text-item.is ∙ sym (take_more row i text inside));
      ended = c.in_ok-push_field.ensures.partial;
      utf8 =
          list_all_more is_utf8 row i text inside
          ∙ rw (c.loop-text.invariant.utf8, ← c.text-item.is) (is_utf8-from_IsUtf8 text c.as_str.ensures.utf8);
    }
