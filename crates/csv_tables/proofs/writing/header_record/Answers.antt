use Rattle.std.proofs.Common.{◌∙◌, sym}
use Rattle.csv_tables.proofs.WrittenFacts.{names-more, names-utf8-more}
use Rattle.csv_tables.proofs.writing.header_record.Goals as goal

pub loop-attr-preserved : goal.loop-attr-preserved
loop-attr-preserved c =
    let more = names-more c.args.attrs.now c.loop-attr.attr-index c.attr-item.result c.loop-attr-test.true c.attr-item.is in
    record {
      names =
          c.in_ok-push_field.ensures.fields
          ∙ rw (c.loop-attr.invariant.ended, c.as_bytes.ensures.value, c.as_str.ensures.bytes, c.loop-attr.invariant.names) (sym more);
      utf8 = rw more (names-utf8-more _ _ c.loop-attr.invariant.utf8 c.as_str.ensures.utf8);
      ended = c.in_ok-push_field.ensures.partial;
    }
