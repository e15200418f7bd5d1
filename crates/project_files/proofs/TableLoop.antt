-- The tables' files, fetched one after the other.
use Rattle.std.proofs.Common.{◌≡◌, ℕ, ◌+◌, ◌<◌, ◌≤◌, List, [], ◌∷◌, ◌++◌, length, take, get_or, Ok, Err, ap, sym, subst, ◌∙◌, arith}
use Rattle.std.specs.List.{All, AllZip}
use Rattle.std.proofs.lemmas.List.{take_more}
use Rattle.std.proofs.lemmas.Slice.Zip.{all_zipped_more}
use Rattle.schema_core.specs.Rows.{IsRowOf}
use Rattle.text_lists.specs.declared.limits.Limits.{Limits}
use Rattle.schema_core.specs.declared.schema.Table.{Table}
use Rattle.shelf_io.specs.Shelf.{ShelfTold}
use Rattle.bench_core.specs.Loading.{Tuples}
use Rattle.cli_output.specs.declared.fetching.Stop.{Stop}
use Rattle.cli_output.specs.declared.fetching.Stop.TheVariants.{Memory}
use Rattle.cli_output.specs.Each.{fetch_each}
use Rattle.cli_output.specs.Fetching.{Fetches, Fetching, Outcome}
use Rattle.cli_output.specs.TableFiles.{fetch_table}
use Rattle.cli_output.proofs.Faults.{same_fault}
use Rattle.cli_output.proofs.EachLoop as each

-- what a row of rows has that belongs to a table
abbrev pub AreRowsOf : Limits → Table → Tuples → Type 0
AreRowsOf limits table rows = All (IsRowOf table.attrs limits.cell_bytes) rows

-- a fetch for each table so far, and what came of them
pub record IsUnderWay (limits : Limits) (tables : List Table) (place : ℕ) (all : List Tuples) (before after : ShelfTold) (room left : ℕ) : Type 0 where
  pub fetched : each.IsUnderWay (fetch_table limits) tables place all before after room left
  pub valid : AllZip (AreRowsOf limits) (take place tables) all

-- pairs that meet a fact, with one more of the first list at its place and one more at the end of the other
pub AllZip-take_more : {A B : Type 0} (R : A → B → Type 0) (xs : List A) (ys : List B) (place : ℕ) (x : A) (y : B) → place < length xs → x ≡ get_or xs place x → AllZip R (take place xs) ys → R x y → AllZip R (take (place + 1) xs) (ys ++ y ∷ [])
AllZip-take_more R xs ys place x y within is all last =
    subst (λ front. AllZip R front (ys ++ y ∷ [])) (sym (take_more xs place x within ∙ ap (λ z. take place xs ++ z ∷ []) (sym is)))
    (all_zipped_more R (take place xs) ys x y all last)

-- ---- what fetching gave, seen in another way

module _ {X Y : Type 0} (fetching : Fetching Y) (view : X → Y) (most : ℕ) (before after : ShelfTold) (left still : ℕ) where
  pub fetched-as : (x : X) → Fetches fetching view most (Ok x) before after left still → Fetches fetching (λ y. y) most (Ok (view x)) before after left still
  fetched-as x one = record {
    gives = one.gives;
    told_left = one.told_left;
    told_fetches = one.told_fetches;
    absences = one.absences;
    fetches = one.fetches;
    read_fault = λ fault. absurd fault;
    calls = one.calls;
    faults = one.faults;
    holding = one.holding;
  }

  pub fetched-in : (x : X) → Fetches fetching (λ y. y) most (Ok (view x)) before after left still → Fetches fetching view most (Ok x) before after left still
  fetched-in x one = record {
    gives = one.gives;
    told_left = one.told_left;
    told_fetches = one.told_fetches;
    absences = one.absences;
    fetches = one.fetches;
    read_fault = λ fault. absurd fault;
    calls = one.calls;
    faults = one.faults;
    holding = one.holding;
  }

  pub stopped-as : {Z : Type 0} (other : Z → Y) (stop : Stop) → Fetches fetching view most (Err stop) before after left still → Fetches fetching other most (Err stop) before after left still
  stopped-as {Z} other stop one = record {
    gives = one.gives;
    told_left = λ files told. tt;
    told_fetches = one.told_fetches;
    absences = one.absences;
    fetches = one.fetches;
    read_fault = λ fault. one.read_fault (same_fault Z X stop fault);
    calls = one.calls;
    faults = one.faults;
    holding = one.holding;
  }

-- memory ran out between two tables
pub under_way-out : {X Z : Type 0} (fetch : Table → Fetching X) (view : Z → List X) (tables : List Table) (place : ℕ) (all : List X) (before after : ShelfTold) (room left : ℕ) → place ≤ length tables
    → each.IsUnderWay fetch tables place all before after room left → Fetches (fetch_each fetch tables) view (length tables) (Err Memory) before after room left
under_way-out {X} fetch view tables place all before after room left within so_far = record {
  gives = λ files told. tt;
  told_left = λ files told. tt;
  told_fetches = λ files told. let front = so_far.told files told in omega (arith, front.2, ap (λ (o : Outcome (List X)). o.fetches) front.1);
  absences = λ files told none. so_far.absences files told;
  fetches = omega (arith, so_far.fetches, within);
  read_fault = λ fault. absurd fault;
  calls = so_far.calls;
  faults = so_far.faults;
  holding = so_far.holding;
}
