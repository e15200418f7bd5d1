use Rattle.std.proofs.Common.{◌≡◌, ℕ, ◌+◌, ◌-◌, ◌*◌, ◌≤◌, map, [], ◌∷◌, ◌++◌, length, ap, subst, sym, ◌∙◌, arith}
use Rattle.std.proofs.lemmas.List.{length-map, map-append}
use Rattle.std.specs.FinMap as finmap
use Rattle.std.specs.Option.{ForSome}
use Rattle.schema_core.specs.Lookups.{attrs_at}
use Rattle.row_store.specs.Tuple.{ids_of}
use Rattle.bench_index.specs.AllIndexes.{most_probes}
use Rattle.bench_index.specs.Loading.{AllLoad}
use Rattle.bench_core.specs.Stored.{stored}
use Rattle.bench_core.specs.Indexed.{IsIndexed, tuples_of}
use Rattle.bench_core.proofs.Filled.{first-none, rows-wide}
use Rattle.bench_core.proofs.RowJoins.{table-joined}
use Rattle.bench_core.proofs.loading.add_table.Goals as goal
use Rattle.bench_core.proofs.loading.add_table.Goals.{After-len, In_ok-push}

-- the number of the new table
place : (g : _) (c : After-len g) → c.len.result ≡ length c.args.all.now.items
place g c = c.len.ensures ∙ c.args.all.now.ok.0

-- the stores with the new one
last : (g : _) (c : In_ok-push g) → map stored c.push.new.self.items ≡ map stored c.args.all.now.items ++ stored c.in_ok-store.store ∷ []
last g c = ap (map stored) c.in_ok-push.ensures.items ∙ map-append stored c.args.all.now.items (c.in_ok-store.store ∷ [])

pub load-requires-clause-wide : goal.load-requires-clause-wide
load-requires-clause-wide g c =
    subst (λ n. (row : ℕ) → ForSome (finmap.get c.in_ok-store.store.rows row) (λ ids. length ids ≡ length (attrs_at c.args.rules.now.schema n))) (sym (place g (goal.at.load-requires-clause-wide g c).After-len))
    (rows-wide c.in_ok-store.ensures (length (attrs_at c.args.rules.now.schema (length c.args.all.now.items))) c.requires.full)

pub load-requires-clause-first : goal.load-requires-clause-first
load-requires-clause-first g c = first-none c.in_ok-store.ensures

pub returns-clause-stored : goal.returns-clause-stored
returns-clause-stored g c = record { table = stored c.in_ok-store.store; last = last g c; in_order = c.in_ok-store.ensures }

pub returns-clause-indexed : goal.returns-clause-indexed
returns-clause-indexed g c = λ texts held.
    let before = map stored c.args.all.now.items in
    let n : c.len.result ≡ length before = place g (goal.at.returns-clause-indexed g c).After-len ∙ sym (length-map c.args.all.now.items stored) in
    subst (λ tables. IsIndexed c.args.rules.now texts (tuples_of tables) c.load.new.self) (sym (last g c))
    (table-joined before held (stored c.in_ok-store.store) c.load.new.self (subst (λ n. AllLoad c.args.rules.now n (finmap.get c.in_ok-store.store.rows) c.args.index.now c.load.new.self) n c.in_ok-load.ensures.ok))

pub returns-clause-probes : goal.returns-clause-probes
returns-clause-probes g c =
    let rows : c.in_ok-store.store.next - 1 ≡ length c.args.tuples.items = omega (arith, c.in_ok-store.ensures.next-is, length-map c.args.tuples.items ids_of) in
    subst (λ n. c.load.new.steps ≤ c.args.steps.now + length c.args.tuples.items * most_probes c.args.rules.now n) (place g (goal.at.returns-clause-probes g c).After-len)
    (subst (λ k. c.load.new.steps ≤ c.args.steps.now + k * most_probes c.args.rules.now c.len.result) rows c.in_ok-load.ensures.probes)
