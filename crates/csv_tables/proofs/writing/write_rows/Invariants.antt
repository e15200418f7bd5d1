use Rattle.std.specs.Prelude.{All}
use Rattle.std.specs.Io.KnownBytes.{Appends}
use Rattle.std.specs.List.{list_all}
use Rattle.std.specs.Str.{is_utf8}
use Rattle.std.proofs.Common.{◌≡◌, ℕ, List, true, take}
use Rattle.csv.specs.Writing.{text_written}
use Rattle.csv_tables.specs.WrittenFiles.{StandsBetween, records_text}
use Rattle.csv_tables.proofs.writing.write_rows.Given as goal

abbrev pub invariant-loop-row : goal.invariant-loop-row
invariant-loop-row g l = record {
  ready : StandsBetween l.writer;
  text : Appends (text_written g.W.Write.contents l.initial.writer) (text_written g.W.Write.contents l.writer) (records_text (take l.row-index l.rows));
  utf8 : All (λ (row : List (List ℕ)). list_all is_utf8 row ≡ true) (take l.row-index l.rows);
}
