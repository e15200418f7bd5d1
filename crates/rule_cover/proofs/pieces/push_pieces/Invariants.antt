use Rattle.std.proofs.Common.{◌≡◌, ◌+◌, ◌<◌, ◌^◌, ◌++◌, drop, map}
use Rattle.std.specs.Prelude.{All}
use Rattle.std.specs.List.{enumerate_from}
use Rattle.rule_cover.specs.declared.fates.Piece.{Piece}
use Rattle.rule_cover.specs.Pieces.{dep_pieces, deps_in, numbers_in, row_piece}
use Rattle.rule_cover.proofs.pieces.push_pieces.Given as goal

abbrev pub invariant-loop-row : goal.invariant-loop-row
invariant-loop-row l = record {
  numbers : l.pieces.numbers ++ numbers_in (map (row_piece l.place l.dep) (enumerate_from l.row (drop l.row l.dep.rule.rows))) ≡ l.initial.pieces.numbers ++ numbers_in (dep_pieces (l.place, l.dep));
  deps : l.pieces.deps ++ deps_in (map (row_piece l.place l.dep) (enumerate_from l.row (drop l.row l.dep.rule.rows))) ≡ l.initial.pieces.deps ++ deps_in (dep_pieces (l.place, l.dep));
  rows : All (λ (number : Piece). number.row + 1 < 2 ^ 64) l.pieces.numbers;
}
