use Rattle.std.proofs.Common.{◌≡◌, map, Ok, Err, sym, subst}
use Rattle.line_grammar.specs.Faults.{GivesUnlessMemory}
use Rattle.bench_core.specs.Loading.{AreTables, full_table, loaded}
use Rattle.bench_core.specs.Stored.{state_of, stored}
use Rattle.bench_core.specs.Bench.{present_of}
use Rattle.bench_core.specs.declared.project.Project.{Project}
use Rattle.bench_index.specs.declared.all_indexes.AllIndexes.{AllIndexes}
use Rattle.bench_core.proofs.Filled.{held-fresh}
use Rattle.bench_core.proofs.Loads.{loaded-bench}
use Rattle.bench_core.proofs.project.Project.load.Goals as goal

pub load_all-requires-clause-tables : goal.load_all-requires-clause-tables
load_all-requires-clause-tables g c = subst (AreTables c.args.rules.schema c.args.limits.cell_bytes) (sym c.into_parts-pool.ensures.texts) c.requires.tables

pub returns-in-Err-clause-loaded : goal.returns-in-Err-clause-loaded
returns-in-Err-clause-loaded g c =
    subst (λ tables. GivesUnlessMemory {X = Project × AllIndexes} full_table (loaded c.args.rules c.args.limits tables) (λ all. present_of all.0) (Err c.in-Err.fault)) c.into_parts-pool.ensures.texts c.in-Err.ensures.loaded

pub returns-in-Ok-clause-loaded : goal.returns-in-Ok-clause-loaded
returns-in-Ok-clause-loaded g c =
    subst (λ tables. loaded c.args.rules c.args.limits tables ≡ Ok (state_of c.load_all.new.pool (map stored c.in-Ok.all.stores.items))) c.into_parts-pool.ensures.texts c.in-Ok.ensures.loaded

pub returns-in-Ok-clause-held : goal.returns-in-Ok-clause-held
returns-in-Ok-clause-held g c =
    let has = c.in-Ok.ensures.held in
    let is = subst (λ tables. loaded c.args.rules c.args.limits tables ≡ Ok (state_of c.load_all.new.pool (map stored c.in-Ok.all.stores.items))) c.into_parts-pool.ensures.texts c.in-Ok.ensures.loaded in
    let bench = loaded-bench c.args.rules c.args.limits c.args.tables.tables _ c.requires.limits c.requires.tables is in
    held-fresh c.args.rules c.args.limits c.load_all.new.pool c.new.result c.in-Ok.all.stores.items _ _ _ c.new.ensures.past c.new.ensures.undone bench has.counts has.named

pub returns-in-Ok-clause-indexed : goal.returns-in-Ok-clause-indexed
returns-in-Ok-clause-indexed g c = c.in-Ok.ensures.held.indexed

pub returns-in-Ok-clause-probes : goal.returns-in-Ok-clause-probes
returns-in-Ok-clause-probes g c = c.in-Ok.ensures.held.probes
