use Rattle.std.proofs.Common.{◌≡◌, [], take, true}
use Rattle.std.specs.List.{list_all}
use Rattle.std.specs.Str.{is_utf8}
use Rattle.csv.specs.Records.{fields_of, partial_of}
use Rattle.schema_core.specs.Schemas.{names_of_attrs}
use Rattle.csv_tables.proofs.writing.header_record.Given as goal

abbrev pub invariant-loop-attr : goal.invariant-loop-attr
invariant-loop-attr l = record {
  names : fields_of l.header ≡ names_of_attrs (take l.attr-index l.attrs);
  utf8 : list_all is_utf8 (names_of_attrs (take l.attr-index l.attrs)) ≡ true;
  ended : partial_of l.header ≡ [];
}
