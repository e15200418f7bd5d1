use Rattle.std.proofs.Common.{◌≡◌, ◌++◌, replicate}
use Rattle.case_tree.specs.declared.tree.Node.TheVariants.{Unclosed}
use Rattle.case_search.proofs.search.with_open.Given as goal

abbrev pub invariant-loop : goal.invariant-loop
invariant-loop l = l.nodes.items ≡ l.initial.nodes.items ++ replicate l.counter Unclosed
