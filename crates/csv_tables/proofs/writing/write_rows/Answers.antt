use Rattle.std.proofs.Common.{◌≡◌, ℕ, List, true}
use Rattle.std.specs.List.{list_all}
use Rattle.std.specs.Str.{is_utf8}
use Rattle.std.proofs.KnownBytes.{Appends-trans}
use Rattle.std.proofs.lemmas.List.Elements.{All-more}
use Rattle.csv_tables.proofs.WrittenFacts.{records_text-more}
use Rattle.csv_tables.proofs.writing.write_rows.Goals as goal

pub loop-row-preserved : goal.loop-row-preserved
loop-row-preserved g c =
    let rows = c.args.rows.now in
    let i = c.loop-row.row-index in
    let row = c.row-item.result in
    let inside = c.loop-row-test.true in
    let texts = c.in_ok-push_texts.ensures in
    let written = rw (texts.texts, c.as_slice.ensures) at c.in_ok-write_record.ensures.text in
    record {
      ready = c.in_ok-write_record.ensures.ready;
      text =
          rw (records_text-more rows i row inside c.row-item.is)
          (Appends-trans _ _ _ _ _ c.loop-row.invariant.text written);
      utf8 =
          All-more (λ (r : List (List ℕ)). list_all is_utf8 r ≡ true) rows i row inside c.loop-row.invariant.utf8
          (rw (← c.row-item.is) (rw c.as_slice.ensures at texts.utf8));
    }
