use Rattle.std.proofs.Common.{◌≡◌, List, Ok, Err, refl, ap, ◌∙◌}
use Rattle.std.proofs.lemmas.Result.{err_from_is_err_and}
use Rattle.text_lists.specs.declared.limits.Limits.{Limits}
use Rattle.schema_core.specs.declared.schema.Schema.{Schema}
use Rattle.rule_model.specs.Books.{Book}
use Rattle.script_lines.specs.declared.command.Command.{Command}
use Rattle.project_files.specs.declared.project.Project.{Project}
use Rattle.cli_output.specs.Fetching.{Fetching, ◌>>=◌, given}
use Rattle.cli_output.specs.RuleFiles.{fetch_rules, fetch_schema}
use Rattle.project_files.specs.Project.{ProjectRead, Tables, fetch_bench, fetch_commands, fetch_project, read_of, tables_of}
use Rattle.cli_output.proofs.FetchingSteps.{fetches-given, fetches-next, fetches-same, fetches-stopped}
use Rattle.project_files.proofs.project.fetch_project.Goals as goal

-- what follows each step

project_with : Tables → List Command → Fetching ProjectRead
project_with tables commands = given (Ok (record { tables = tables; commands = commands }))

with_commands : Limits → Tables → Fetching ProjectRead
with_commands limits tables = fetch_commands limits tables.rules.schema >>= λ commands. given (Ok (record { tables = tables; commands = commands }))

with_bench : Limits → Book → Fetching ProjectRead
with_bench limits rules = fetch_bench limits rules >>= λ tables. fetch_commands limits tables.rules.schema >>= λ commands. given (Ok (record { tables = tables; commands = commands }))

with_rules : Limits → Schema → Fetching ProjectRead
with_rules limits schema =
    fetch_rules limits schema >>= λ rules. fetch_bench limits rules >>= λ tables. fetch_commands limits tables.rules.schema >>= λ commands. given (Ok (record { tables = tables; commands = commands }))

pub returns-in_err-commands-clause-fetches : goal.returns-in_err-commands-clause-fetches
unfolding fetch_project with_commands with_bench with_rules project_with
returns-in_err-commands-clause-fetches g c =
    let limits = c.args.limits.now in
    let p = err_from_is_err_and c.from_residual-in_err-commands.result c.from_residual-in_err-commands.ensures.1 in
    let same : c.from_residual-in_err-commands.result ≡ Err c.in_err-commands.field-0.0 = rw (p.1, p.2) refl in
    let schema = c.schema.ensures.schema ∙ ap (λ (r : Book). r.schema) c.rules.ensures.value in
    let commands = fetches-same (ap (fetch_commands limits) schema) c.in_err-commands.ensures in
    fetches-next (fetch_schema limits c.args.name.now) (with_rules limits) (λ x. x) read_of 1 66 c.in_ok-schema.schema c.from_residual-in_err-commands.result _ _ _ _ _ _ c.in_ok-schema.ensures.schema
    (fetches-next (fetch_rules limits c.in_ok-schema.schema) (with_bench limits) (λ x. x) read_of 1 65 c.in_ok-rules.rules c.from_residual-in_err-commands.result _ _ _ _ _ _ c.in_ok-rules.ensures
    (fetches-next (fetch_bench limits c.in_ok-rules.rules) (with_commands limits) tables_of read_of 64 1 c.in_ok-bench.bench c.from_residual-in_err-commands.result _ _ _ _ _ _ c.in_ok-bench.ensures.fetches
    (fetches-stopped (fetch_commands limits c.in_ok-bench.bench.rules.schema) (project_with (tables_of c.in_ok-bench.bench)) (λ x. x) read_of 1 0 c.in_err-commands.field-0.0 c.from_residual-in_err-commands.result _ _ _ _ same commands)))

pub returns-clause-fetches : goal.returns-clause-fetches
unfolding fetch_project with_commands with_bench with_rules project_with
returns-clause-fetches g c =
    let limits = c.args.limits.now in
    let bench = c.in_ok-bench.bench in
    let project : Project = record { bench = bench; commands = c.in_ok-commands.commands } in
    let schema = c.schema.ensures.schema ∙ ap (λ (r : Book). r.schema) c.rules.ensures.value in
    let commands = fetches-same (ap (fetch_commands limits) schema) c.in_ok-commands.ensures in
    fetches-next (fetch_schema limits c.args.name.now) (with_rules limits) (λ x. x) read_of 1 66 c.in_ok-schema.schema (Ok project) _ _ _ _ _ _ c.in_ok-schema.ensures.schema
    (fetches-next (fetch_rules limits c.in_ok-schema.schema) (with_bench limits) (λ x. x) read_of 1 65 c.in_ok-rules.rules (Ok project) _ _ _ _ _ _ c.in_ok-rules.ensures
    (fetches-next (fetch_bench limits c.in_ok-rules.rules) (with_commands limits) tables_of read_of 64 1 bench (Ok project) _ _ _ _ _ _ c.in_ok-bench.ensures.fetches
    (fetches-next (fetch_commands limits bench.rules.schema) (project_with (tables_of bench)) (λ x. x) read_of 1 0 c.in_ok-commands.commands (Ok project) _ _ _ _ _ _ commands
    (fetches-given (Ok (read_of project)) read_of (Ok project) _ _ (record { gives = refl; no_fault = λ fault. absurd fault })))))
