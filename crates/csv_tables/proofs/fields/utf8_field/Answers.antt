use Rattle.std.proofs.lemmas.Str.{IsUtf8-from_is_utf8}
use Rattle.csv_tables.proofs.FieldFacts.{is_utf8-at}
use Rattle.csv_tables.proofs.fields.utf8_field.Goals as goal

pub from_utf8_unchecked-requires : goal.from_utf8_unchecked-requires
from_utf8_unchecked-requires c = rw c.field_bytes.ensures (IsUtf8-from_is_utf8 _ (is_utf8-at _ c.args.place c.requires.inside c.requires.text))
