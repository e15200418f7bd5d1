-- Tables as they are loaded, and the file of the first with which they are too many.
use Rattle.std.proofs.Common.{◌≡◌, ℕ, zero, suc, ◌+◌, ◌<◌, List, [], ◌∷◌, length, take, map, get_or, slice_get, Option, Some, None, Result, Ok, Err, sym, ap, ◌∙◌, arith}
use Rattle.std.specs.Option.{option_map_or}
use Rattle.std.specs.List.{range_with_len}
use Rattle.std.proofs.lemmas.List.{length-map}
use Rattle.std.proofs.lemmas.Slice.Zip.{AllZip-long}
use Rattle.std.proofs.lemmas.List.FromFn.{length-range_with_len}
use Rattle.std.proofs.lemmas.List.Quantifiers.{position-Some}
use Rattle.line_grammar.specs.Faults.{GivesUnlessMemory}
use Rattle.text_lists.specs.declared.limits.Limits.{Limits}
use Rattle.schema_core.specs.declared.schema.Table.{Table}
use Rattle.rule_model.specs.Books.{Book}
use Rattle.bench_core.specs.Found.{unless_found}
use Rattle.bench_core.specs.Bench.{BenchModel}
use Rattle.bench_core.specs.History.{History, HasNoPast, HasNothingUndone}
use Rattle.bench_core.specs.Loading.{AreTables, Tuples, first_over, loaded, loaded_table}
use Rattle.bench_core.specs.Sizes.{is_over}
use Rattle.bench_core.specs.State.{State}
use Rattle.cli_output.specs.declared.fetching.Stop.{Stop}
use Rattle.cli_output.specs.declared.fetching.Stop.TheVariants as stop
use Rattle.cli_output.specs.declared.refusal.Cause.TheVariants.{RowsFull}
use Rattle.cli_output.specs.declared.refusal.Refusal.{Refusal}
use Rattle.cli_output.specs.Fetching.{Reads, refusal_in}
use Rattle.project_files.specs.Project.{Tables, begins_with, bench_of, tables_of}

over_place : (full : Option ℕ) (state : State) (table : ℕ) → unless_found full state ≡ Err table → full ≡ Some table
over_place None state table is = absurd (cc)
over_place (Some place) state table is = let same : place ≡ table = cc in ap Some same

-- it is one of the tables of the schema
told_table : (limits : Limits) (rules : Book) (tables : List Tuples) (table : ℕ) → AreTables rules.schema limits.cell_bytes tables → loaded rules limits tables ≡ Err table → table < length rules.schema.tables
told_table limits rules tables table fit is =
    let all = map loaded_table tables in
    let full = over_place (first_over rules limits all) all table is in
    let found = position-Some (λ place. is_over rules limits (take (place + 1) all)) (range_with_len 0 (length all)) table 0 full in
    omega (arith, found.0, length-range_with_len 0 (length all), length-map tables loaded_table, AllZip-long _ rules.schema.tables tables fit)

-- so it has a file name
pub told_name : (limits : Limits) (rules : Book) (tables : List Tuples) (table : ℕ) (names : List (List ℕ)) → AreTables rules.schema limits.cell_bytes tables → loaded rules limits tables ≡ Err table → names ≡ map (λ (t : Table). t.file) rules.schema.tables → table < length names
told_name limits rules tables table names fit is are = omega (arith, told_table limits rules tables table fit is, ap length are, length-map rules.schema.tables (λ (t : Table). t.file))

name_at : (tables : List Table) (place : ℕ) (name : List ℕ) → name ≡ get_or (map (λ (t : Table). t.file) tables) place name → place < length tables → name ≡ option_map_or (λ (t : Table). t.file) (slice_get tables place) []
name_at [] place name is within = absurd (omega arith)
name_at (table ∷ tables) zero name is within = is
name_at (table ∷ tables) (suc place) name is within = name_at tables place name is (omega arith)

-- tables that are too many are refused by the file of the first with which they are
pub full_refusal : (limits : Limits) (rules : Book) (tables : List Tuples) (table : ℕ) (names : List (List ℕ)) (name : List ℕ) → AreTables rules.schema limits.cell_bytes tables → loaded rules limits tables ≡ Err table → names ≡ map (λ (t : Table). t.file) rules.schema.tables → name ≡ get_or names table name
    → bench_of rules limits (loaded rules limits tables) ≡ Err (record { what = name; cause = RowsFull })
full_refusal limits rules tables table names name fit is are read =
    let named = name_at rules.schema.tables table name (read ∙ ap (λ ns. get_or ns table name) are) (told_table limits rules tables table fit is) in
    ap (bench_of rules limits) is ∙ ap (λ w. Err (record { what = w; cause = RowsFull })) (sym named)

tables_with : Book → Limits → History → Tables
tables_with rules limits history = record { rules = rules; limits = limits; history = history }

with_past : List State → State → List State → History
with_past past present undone = record { past = past; present = present; undone = undone }

-- a history with no past and nothing undone begins with its state
fresh : (history : History) → HasNoPast history → HasNothingUndone history → begins_with history.present ≡ history
unfolding with_past
fresh history past undone =
    ap (λ (none : List State). with_past none history.present []) (sym past) ∙ ap (λ (none : List State). with_past history.past history.present none) (sym undone)

-- the bench of tables that are loaded
pub loaded_bench : (rules : Book) (limits : Limits) (tables : List Tuples) (bench : BenchModel) → loaded rules limits tables ≡ Ok bench.history.present → bench.rules ≡ rules → bench.limits ≡ limits → HasNoPast bench.history → HasNothingUndone bench.history → bench_of rules limits (loaded rules limits tables) ≡ Ok (tables_of bench)
unfolding tables_with
loaded_bench rules limits tables bench is same_rules same_limits past undone =
    ap (bench_of rules limits) is ∙ ap (λ r. Ok (tables_with r limits (begins_with bench.history.present))) (sym same_rules) ∙ ap (λ l. Ok (tables_with bench.rules l (begins_with bench.history.present))) (sym same_limits) ∙ ap (λ h. Ok (tables_with bench.rules bench.limits h)) (fresh bench.history past undone)

refused_gives : {X Y : Type 0} (refusal : Refusal) (view : X → Y) (result : Result X Stop) → GivesUnlessMemory {C = Refusal} refusal_in (Err refusal) (λ x. x) result → GivesUnlessMemory {C = Refusal} refusal_in (Err refusal) view result
refused_gives refusal view (Ok x) gives = absurd (cc)
refused_gives refusal view (Err (stop.Refused told)) gives = let same : refusal ≡ told = cc in ap Err same
refused_gives refusal view (Err stop.ReadFault) gives = tt
refused_gives refusal view (Err stop.Memory) gives = tt

-- what is refused is refused however a value would be seen
pub refused_reads : {X Y : Type 0} (refusal : Refusal) (view : X → Y) (result : Result X Stop) → Reads (Err refusal) (λ x. x) result → Reads (Err refusal) view result
refused_reads refusal view result reads = record { gives = refused_gives refusal view result reads.gives; no_fault = reads.no_fault }
