use Rattle.std.proofs.Common.{ap, subst}
use Rattle.line_grammar.specs.Faults.{GivesUnlessMemory}
use Rattle.row_takers.specs.Taken.{TablesTaken}
use Rattle.bench_core.specs.Loading.{full_table, loaded}
use Rattle.bench_core.specs.Bench.{BenchModel}
use Rattle.bench_core.proofs.bench.Bench.load.Goals as goal

pub returns-clause-loaded : goal.returns-clause-loaded
returns-clause-loaded g c =
    subst (λ tables. GivesUnlessMemory full_table (loaded c.args.rules c.args.limits tables) (λ (bench : BenchModel). bench.history.present) c.of_tables.result)
    (ap (λ (taken : TablesTaken). taken.tables) c.in_ok-tables.ensures) c.of_tables.ensures.loaded
