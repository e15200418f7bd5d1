use Rattle.std.proofs.Common.{◌≡◌, map, take}
use Rattle.rule_model.specs.Books.{book_edits}
use Rattle.library_tests.proofs.Masters.{list_of}
use Rattle.library_tests.proofs.fix_runs.column_lists.Given as goal

abbrev pub invariant-loop-rule : goal.invariant-loop-rule
invariant-loop-rule l = l.lists.items ≡ map list_of (take l.rule-index (book_edits l.rules))
