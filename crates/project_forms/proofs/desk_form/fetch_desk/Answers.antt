use Rattle.std.proofs.Common.{◌≡◌, List, ℕ, Ok, Err, refl}
use Rattle.std.proofs.lemmas.Result.{err_from_is_err_and}
use Rattle.text_lists.specs.declared.limits.Limits.{Limits}
use Rattle.schema_core.specs.declared.schema.Schema.{Schema}
use Rattle.rule_model.specs.Books.{Book}
use Rattle.desk_events.specs.declared.event.Event.{Event}
use Rattle.project_forms.specs.declared.desk_form.DeskFiles.{DeskFiles}
use Rattle.cli_output.specs.Fetching.{Fetching, ◌>>=◌, given}
use Rattle.cli_output.specs.RuleFiles.{fetch_rules, fetch_schema}
use Rattle.project_files.specs.Project.{Tables, fetch_bench, tables_of}
use Rattle.project_forms.specs.DeskForm.{DeskRead, fetch_desk, fetch_events, read_of}
use Rattle.cli_output.proofs.FetchingSteps.{fetches-given, fetches-next, fetches-stopped}
use Rattle.project_forms.proofs.desk_form.fetch_desk.Goals as goal

-- what follows each step

desk_with : Tables → List Event → Fetching DeskRead
desk_with tables events = given (Ok (record { tables = tables; events = events }))

with_events : Limits → List ℕ → Tables → Fetching DeskRead
with_events limits events tables = fetch_events limits events >>= λ told. given (Ok (record { tables = tables; events = told }))

with_bench : Limits → List ℕ → Book → Fetching DeskRead
with_bench limits events rules = fetch_bench limits rules >>= λ tables. fetch_events limits events >>= λ told. given (Ok (record { tables = tables; events = told }))

with_rules : Limits → List ℕ → Schema → Fetching DeskRead
with_rules limits events schema =
    fetch_rules limits schema >>= λ rules. fetch_bench limits rules >>= λ tables. fetch_events limits events >>= λ told. given (Ok (record { tables = tables; events = told }))

pub returns-in_err-events-clause-fetches : goal.returns-in_err-events-clause-fetches
unfolding fetch_desk with_events with_bench with_rules desk_with
returns-in_err-events-clause-fetches g c =
    let limits = c.args.limits.now in
    let events = c.args.events.now in
    let p = err_from_is_err_and c.from_residual-in_err-events.result c.from_residual-in_err-events.ensures.1 in
    let same : c.from_residual-in_err-events.result ≡ Err c.in_err-events.field-0.0 = rw (p.1, p.2) refl in
    fetches-next (fetch_schema limits c.args.name.now) (with_rules limits events) (λ x. x) read_of 1 66 c.in_ok-schema.schema c.from_residual-in_err-events.result _ _ _ _ _ _ c.in_ok-schema.ensures.schema
    (fetches-next (fetch_rules limits c.in_ok-schema.schema) (with_bench limits events) (λ x. x) read_of 1 65 c.in_ok-rules.rules c.from_residual-in_err-events.result _ _ _ _ _ _ c.in_ok-rules.ensures
    (fetches-next (fetch_bench limits c.in_ok-rules.rules) (with_events limits events) tables_of read_of 64 1 c.in_ok-bench.bench c.from_residual-in_err-events.result _ _ _ _ _ _ c.in_ok-bench.ensures.fetches
    (fetches-stopped (fetch_events limits events) (desk_with (tables_of c.in_ok-bench.bench)) (λ x. x) read_of 1 0 c.in_err-events.field-0.0 c.from_residual-in_err-events.result _ _ _ _ same c.in_err-events.ensures)))

pub returns-clause-fetches : goal.returns-clause-fetches
unfolding fetch_desk with_events with_bench with_rules desk_with
returns-clause-fetches g c =
    let limits = c.args.limits.now in
    let events = c.args.events.now in
    let bench = c.in_ok-bench.bench in
    let files : DeskFiles = record { bench = bench; events = c.in_ok-events.events } in
    fetches-next (fetch_schema limits c.args.name.now) (with_rules limits events) (λ x. x) read_of 1 66 c.in_ok-schema.schema (Ok files) _ _ _ _ _ _ c.in_ok-schema.ensures.schema
    (fetches-next (fetch_rules limits c.in_ok-schema.schema) (with_bench limits events) (λ x. x) read_of 1 65 c.in_ok-rules.rules (Ok files) _ _ _ _ _ _ c.in_ok-rules.ensures
    (fetches-next (fetch_bench limits c.in_ok-rules.rules) (with_events limits events) tables_of read_of 64 1 bench (Ok files) _ _ _ _ _ _ c.in_ok-bench.ensures.fetches
    (fetches-next (fetch_events limits events) (desk_with (tables_of bench)) (λ x. x) read_of 1 0 c.in_ok-events.events (Ok files) _ _ _ _ _ _ c.in_ok-events.ensures
    (fetches-given (Ok (read_of files)) read_of (Ok files) _ _ (record { gives = refl; no_fault = λ fault. absurd fault })))))
