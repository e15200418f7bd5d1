use Rattle.std.proofs.Common.{◌≡◌, [], true, take}
use Rattle.std.specs.List.{list_all}
use Rattle.std.specs.Str.{is_utf8}
use Rattle.csv.specs.Records.{fields_of, partial_of}
use Rattle.csv_tables.proofs.writing.push_texts.Given as goal

abbrev pub invariant-loop-text : goal.invariant-loop-text
invariant-loop-text l = record {
  texts : fields_of l.fields ≡ take l.text-index l.row;
  ended : partial_of l.fields ≡ [];
  utf8 : list_all is_utf8 (take l.text-index l.row) ≡ true;
}
