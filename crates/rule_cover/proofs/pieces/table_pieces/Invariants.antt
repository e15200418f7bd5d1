use Rattle.std.proofs.Common.{◌≡◌, ◌+◌, ◌<◌, ◌^◌, ◌++◌, drop}
use Rattle.std.specs.Prelude.{All}
use Rattle.std.specs.List.{enumerate_from, flat_map}
use Rattle.rule_cover.specs.declared.fates.Piece.{Piece}
use Rattle.rule_cover.specs.Pieces.{deps_in, numbers_in, pieces_over, table_pieces}
use Rattle.rule_cover.proofs.pieces.table_pieces.Given as goal

abbrev pub invariant-loop-place : goal.invariant-loop-place
invariant-loop-place l = record {
  numbers : l.pieces.numbers ++ numbers_in (flat_map (pieces_over l.table) (enumerate_from l.place (drop l.place l.deps))) ≡ numbers_in (table_pieces l.table l.deps);
  deps : l.pieces.deps ++ deps_in (flat_map (pieces_over l.table) (enumerate_from l.place (drop l.place l.deps))) ≡ deps_in (table_pieces l.table l.deps);
  rows : All (λ (number : Piece). number.row + 1 < 2 ^ 64) l.pieces.numbers;
}
