use Rattle.std.proofs.Common.{All}
use Rattle.rule_parser.specs.RuleFiles.{rows_of}
use Rattle.rule_parser.proofs.RowLists.{ReadSoFar}
use Rattle.rule_parser.proofs.file.rows_of.Given as goal

-- the rows that are held are fit, and stand for all of the lines that were read
abbrev pub invariant-loop-line : goal.invariant-loop-line
invariant-loop-line g l = ReadSoFar g.P.Phrase.reads (g.T.TestsRows.tests l.tests) l.most (rows_of g.P.Phrase.reads l.fn.lines) l.line-iterator.rest.items l.held × All g.P.Phrase.is_fit l.held.rows
