-- The files of tables, fetched one after the other.
use Rattle.std.proofs.Common.{◌≡◌, ℕ, ◌+◌, ◌<◌, ◌≤◌, List, [], ◌∷◌, ◌++◌, length, drop, get_or, Result, Some, Ok, Err, IfSome, refl, append_assoc, ap, sym, subst, ◌∙◌, arith}
use Rattle.std.proofs.lemmas.List.{at_drop_more, at_drop_all, append-nil}
use Rattle.schema_core.specs.declared.schema.Table.{Table}
use Rattle.shelf_io.specs.Files.{Files}
use Rattle.shelf_io.specs.Shelf.{ShelfTold}
use Rattle.cli_output.specs.declared.fetching.Stop.{Stop}
use Rattle.cli_output.specs.declared.fetching.Stop.TheVariants.{Refused, ReadFault, Memory}
use Rattle.cli_output.specs.Fetching.{Fetches, Fetching, NoneIsAbsent, OrRefusal, Outcome, ◌>>=◌, followed, given, refusal_in}
use Rattle.cli_output.specs.Each.{fetch_each}
use Rattle.cli_output.proofs.Faults.{Rose-from, same_fault}
use Rattle.cli_output.proofs.FetchingSteps.{none_absent, none_in_first}

-- ---- the tables that are left, behind those that were fetched

abbrev with_before : {X : Type 0} → List X → OrRefusal (List X) → OrRefusal (List X)
with_before before (Ok others) = Ok (before ++ others)
with_before before (Err refusal) = Err refusal

-- what all tables come to, where these were fetched before, in so many fetches
abbrev behind : {X : Type 0} → List X → ℕ → Outcome (List X) → Outcome (List X)
behind before fetches outcome = record { found = with_before before outcome.found; fetches = fetches + outcome.fetches; left = outcome.left }

-- what is left of all tables
abbrev GoesOn : {X : Type 0} → (Table → Fetching X) → Files → List Table → ℕ → ℕ → List X → ℕ → ℕ → Type 0
GoesOn fetch files tables room place before fetches left = behind before fetches (fetch_each fetch (drop place tables) files left) ≡ fetch_each fetch tables files room

abbrev outcome_of : {X : Type 0} → OrRefusal X → ℕ → ℕ → Outcome X
outcome_of found fetches left = record { found = found; fetches = fetches; left = left }

same_outcome : {X : Type 0} {f g : OrRefusal X} {m n k l : ℕ} → f ≡ g → m ≡ n → k ≡ l → outcome_of f m k ≡ outcome_of g n l
same_outcome f m k = λ i. outcome_of (f i) (m i) (k i)

-- before the first table
goes_on-none : {X : Type 0} (fetch : Table → Fetching X) (files : Files) (tables : List Table) (room : ℕ) → GoesOn fetch files tables room 0 [] 0 room
goes_on-none {X} fetch files tables room = go (fetch_each fetch tables files room)
  where
    go : (o : Outcome (List X)) → behind [] 0 o ≡ o
    go o = same_outcome (found o.found) (omega arith) refl
      where
        found : (f : OrRefusal (List X)) → with_before [] f ≡ f
        found (Ok others) = refl
        found (Err refusal) = refl

-- one more table, which was fetched
next_outcome : {X : Type 0} (before : List X) (fetches more still : ℕ) (rows : X) (others : Fetching (List X)) (files : Files) → behind before fetches (followed more still (Ok rows) (λ r. (others >>= λ rest. given (Ok (r ∷ rest))) files)) ≡ behind (before ++ rows ∷ []) (fetches + more) (others files still)
next_outcome {X} before fetches more still rows others files = go (others files still)
  where
    go : (o : Outcome (List X)) → behind before fetches (record (followed o.fetches o.left o.found (λ rest left. outcome_of (Ok (rows ∷ rest)) 0 left)) { fetches = more + (followed o.fetches o.left o.found (λ rest left. outcome_of (Ok (rows ∷ rest)) 0 left)).fetches }) ≡ behind (before ++ rows ∷ []) (fetches + more) o
    go o = by o.found
      where
        by : (f : OrRefusal (List X)) → behind before fetches (record (followed o.fetches o.left f (λ rest left. outcome_of (Ok (rows ∷ rest)) 0 left)) { fetches = more + (followed o.fetches o.left f (λ rest left. outcome_of (Ok (rows ∷ rest)) 0 left)).fetches }) ≡ behind (before ++ rows ∷ []) (fetches + more) (record o { found = f })
        by (Ok rest) = same_outcome (ap Ok (sym (append_assoc before (rows ∷ []) rest))) (omega arith) refl
        by (Err refusal) = same_outcome refl (omega arith) refl

goes_on-more : {X : Type 0} (fetch : Table → Fetching X) (files : Files) (tables : List Table) (room place : ℕ) (before : List X) (fetches left : ℕ) (table : Table) (rows : X) (still : ℕ) → place < length tables → table ≡ get_or tables place table → GoesOn fetch files tables room place before fetches left
    → (fetch table files left).found ≡ Ok rows → (fetch table files left).left ≡ still → GoesOn fetch files tables room (place + 1) (before ++ rows ∷ []) (fetches + (fetch table files left).fetches) still
goes_on-more fetch files tables room place before fetches left table rows still within is so_far found kept =
    let more = (fetch table files left).fetches in
    let rest = fetch_each fetch (drop (place + 1) tables) in
    sym (next_outcome before fetches more still rows rest files)
    ∙ sym (ap (λ f. behind before fetches (followed more (fetch table files left).left f (λ r. (rest >>= λ others. given (Ok (r ∷ others))) files))) found
    ∙ ap (λ l. behind before fetches (followed more l (Ok rows) (λ r. (rest >>= λ others. given (Ok (r ∷ others))) files))) kept)
    ∙ sym (ap (λ t. behind before fetches (fetch_each fetch (t ∷ drop (place + 1) tables) files left)) (sym is))
    ∙ sym (at_drop_more (λ others. behind before fetches (fetch_each fetch others files left)) tables place table within)
    ∙ so_far

-- the next table takes as many fetches as it takes, and where it is refused, all of them are
next_fetches : {X : Type 0} (fetch : Table → Fetching X) (files : Files) (tables : List Table) (room place : ℕ) (before : List X) (fetches left : ℕ) (table : Table) → place < length tables → table ≡ get_or tables place table → GoesOn fetch files tables room place before fetches left
    → behind before fetches (fetch_each fetch (table ∷ drop (place + 1) tables) files left) ≡ fetch_each fetch tables files room
next_fetches fetch files tables room place before fetches left table within is so_far =
    ap (λ t. behind before fetches (fetch_each fetch (t ∷ drop (place + 1) tables) files left)) is
    ∙ sym (at_drop_more (λ others. behind before fetches (fetch_each fetch others files left)) tables place table within)
    ∙ so_far

some_fetches : {X Y : Type 0} (found : OrRefusal X) (fetches left : ℕ) (further : X → ℕ → Outcome Y) → fetches ≤ (followed fetches left found further).fetches
some_fetches (Ok x) fetches left further = omega arith
some_fetches (Err refusal) fetches left further = omega arith

goes_on-fetches : {X : Type 0} (fetch : Table → Fetching X) (files : Files) (tables : List Table) (room place : ℕ) (before : List X) (fetches left : ℕ) (table : Table) → place < length tables → table ≡ get_or tables place table → GoesOn fetch files tables room place before fetches left
    → fetches + (fetch table files left).fetches ≤ (fetch_each fetch tables files room).fetches
goes_on-fetches fetch files tables room place before fetches left table within is so_far =
    let this = fetch table files left in
    omega (
      arith,
      ap (λ o. o.fetches) (next_fetches fetch files tables room place before fetches left table within is so_far),
      some_fetches this.found this.fetches this.left (λ r. (fetch_each fetch (drop (place + 1) tables) >>= λ others. given (Ok (r ∷ others))) files),
    )

goes_on-refused : {X : Type 0} (fetch : Table → Fetching X) (files : Files) (tables : List Table) (room place : ℕ) (before : List X) (fetches left : ℕ) (table : Table) (stop : Stop) → place < length tables → table ≡ get_or tables place table → GoesOn fetch files tables room place before fetches left
    → IfSome (refusal_in stop) (λ refusal. (fetch table files left).found ≡ Err refusal) → IfSome (refusal_in stop) (λ refusal. (fetch_each fetch tables files room).found ≡ Err refusal)
goes_on-refused fetch files tables room place before fetches left table (Refused refusal) within is so_far this =
    sym (ap (λ o. o.found) (next_fetches fetch files tables room place before fetches left table within is so_far))
    ∙ ap (λ f. with_before before (followed (fetch table files left).fetches (fetch table files left).left f (λ r. (fetch_each fetch (drop (place + 1) tables) >>= λ others. given (Ok (r ∷ others))) files)).found) this
goes_on-refused fetch files tables room place before fetches left table ReadFault within is so_far this = tt
goes_on-refused fetch files tables room place before fetches left table Memory within is so_far this = tt

-- where no file is refused as absent, that of the next table isn't
none_behind : {X : Type 0} (before : List X) (found : OrRefusal (List X)) → NoneIsAbsent (with_before before found) → NoneIsAbsent found
none_behind before (Ok others) none = tt
none_behind before (Err refusal) none = none

goes_on-none_absent : {X : Type 0} (fetch : Table → Fetching X) (files : Files) (tables : List Table) (room place : ℕ) (before : List X) (fetches left : ℕ) (table : Table) → place < length tables → table ≡ get_or tables place table → GoesOn fetch files tables room place before fetches left
    → NoneIsAbsent (fetch_each fetch tables files room).found → NoneIsAbsent (fetch table files left).found
goes_on-none_absent fetch files tables room place before fetches left table within is so_far none =
    let this = fetch table files left in
    none_in_first this.found this.fetches this.left (λ r. (fetch_each fetch (drop (place + 1) tables) >>= λ others. given (Ok (r ∷ others))) files)
    (none_behind before (fetch_each fetch (table ∷ drop (place + 1) tables) files left).found
    (subst (λ o. NoneIsAbsent o.found) (sym (next_fetches fetch files tables room place before fetches left table within is so_far)) none))

-- past the last table
goes_on-all : {X : Type 0} (fetch : Table → Fetching X) (files : Files) (tables : List Table) (room place : ℕ) (before : List X) (fetches left : ℕ) → length tables ≤ place → GoesOn fetch files tables room place before fetches left → outcome_of (Ok before) fetches left ≡ fetch_each fetch tables files room
goes_on-all fetch files tables room place before fetches left past so_far =
    same_outcome (ap Ok (sym (append-nil before))) (omega arith) refl
    ∙ sym (at_drop_all (λ others. behind before fetches (fetch_each fetch others files left)) tables place past)
    ∙ so_far

all_found : {X : Type 0} (fetch : Table → Fetching X) (files : Files) (tables : List Table) (room place : ℕ) (before : List X) (fetches left : ℕ) → length tables ≤ place → GoesOn fetch files tables room place before fetches left → (fetch_each fetch tables files room).found ≡ Ok before
all_found fetch files tables room place before fetches left past so_far = sym (ap (λ o. o.found) (goes_on-all fetch files tables room place before fetches left past so_far))

all_left : {X : Type 0} (fetch : Table → Fetching X) (files : Files) (tables : List Table) (room place : ℕ) (before : List X) (fetches left : ℕ) → length tables ≤ place → GoesOn fetch files tables room place before fetches left → (fetch_each fetch tables files room).left ≡ left
all_left fetch files tables room place before fetches left past so_far = sym (ap (λ o. o.left) (goes_on-all fetch files tables room place before fetches left past so_far))

all_fetches : {X : Type 0} (fetch : Table → Fetching X) (files : Files) (tables : List Table) (room place : ℕ) (before : List X) (fetches left : ℕ) → length tables ≤ place → GoesOn fetch files tables room place before fetches left → (fetch_each fetch tables files room).fetches ≡ fetches
all_fetches fetch files tables room place before fetches left past so_far = sym (ap (λ o. o.fetches) (goes_on-all fetch files tables room place before fetches left past so_far))

-- ---- the loop

-- a fetch for each table so far, and what came of them
pub record IsUnderWay {X : Type 0} (fetch : Table → Fetching X) (tables : List Table) (place : ℕ) (all : List X) (before after : ShelfTold) (room left : ℕ) : Type 0 where
  pub told : (files : Files) → before.holding ≡ Some files → (fetches : ℕ) × GoesOn fetch files tables room place all fetches left × (after.calls ≤ before.calls + fetches)
  pub absences : (files : Files) → before.holding ≡ Some files → after.absences ≡ before.absences
  pub fetches : after.calls ≤ before.calls + place
  pub calls : before.calls ≤ after.calls
  pub faults : before.faults ≤ after.faults
  pub holding : after.holding ≡ before.holding

pub under_way-none : {X : Type 0} (fetch : Table → Fetching X) (tables : List Table) (shelf : ShelfTold) (room : ℕ) → IsUnderWay fetch tables 0 [] shelf shelf room room
under_way-none fetch tables shelf room = record {
  told = λ files is. (0, goes_on-none fetch files tables room, omega arith);
  absences = λ files is. refl;
  fetches = omega arith;
  calls = omega arith;
  faults = omega arith;
  holding = refl;
}

-- the next table is fetched
pub under_way-next : {X : Type 0} (fetch : Table → Fetching X) (tables : List Table) (place : ℕ) (all : List X) (before between after : ShelfTold) (room left still : ℕ) (table : Table) (x : X) → place < length tables → table ≡ get_or tables place table
    → IsUnderWay fetch tables place all before between room left → Fetches (fetch table) (λ y. y) 1 (Ok x) between after left still → IsUnderWay fetch tables (place + 1) (all ++ x ∷ []) before after room still
under_way-next fetch tables place all before between after room left still table x within is so_far one = record {
  told = λ files told.
      let there = so_far.holding ∙ told in
      let front = so_far.told files told in (
        front.0 + (fetch table files left).fetches,
        goes_on-more fetch files tables room place all front.0 left table x still within is front.1 (one.gives files there) (one.told_left files there),
        omega (arith, front.2, one.told_fetches files there),
      );
  absences = λ files told. none_absent (fetch table) (λ y. y) 1 x between after left still one files (so_far.holding ∙ told) ∙ so_far.absences files told;
  fetches = omega (arith, so_far.fetches, one.fetches);
  calls = omega (arith, so_far.calls, one.calls);
  faults = omega (arith, so_far.faults, one.faults);
  holding = one.holding ∙ so_far.holding;
}

-- it is refused, or can't be read
pub under_way-stopped : {X : Type 0} (fetch : Table → Fetching X) (tables : List Table) (place : ℕ) (all : List X) (before between after : ShelfTold) (room left still : ℕ) (table : Table) (stop : Stop) (result : Result (List X) Stop) → place < length tables → table ≡ get_or tables place table → result ≡ Err stop
    → IsUnderWay fetch tables place all before between room left → Fetches (fetch table) (λ y. y) 1 (Err stop) between after left still → Fetches (fetch_each fetch tables) (λ xs. xs) (length tables) result before after room still
under_way-stopped {X} fetch tables place all before between after room left still table stop result within is ends so_far one = subst (λ r. Fetches (fetch_each fetch tables) (λ xs. xs) (length tables) r before after room still) (sym ends) (record {
  gives = λ files told. let front = so_far.told files told in goes_on-refused fetch files tables room place all front.0 left table stop within is front.1 (one.gives files (so_far.holding ∙ told));
  told_left = λ files told. tt;
  told_fetches = λ files told.
      let front = so_far.told files told in
      omega (arith, front.2, one.told_fetches files (so_far.holding ∙ told), goes_on-fetches fetch files tables room place all front.0 left table within is front.1);
  absences = λ files told none.
      let front = so_far.told files told in
      one.absences files (so_far.holding ∙ told) (goes_on-none_absent fetch files tables room place all front.0 left table within is front.1 none) ∙ so_far.absences files told;
  fetches = omega (arith, so_far.fetches, one.fetches, within);
  read_fault = λ fault. Rose-from _ _ _ (one.read_fault (same_fault (List X) X stop fault)) so_far.faults;
  calls = omega (arith, so_far.calls, one.calls);
  faults = omega (arith, so_far.faults, one.faults);
  holding = one.holding ∙ so_far.holding;
})

-- none is left
pub under_way-all : {X : Type 0} (fetch : Table → Fetching X) (tables : List Table) (place : ℕ) (all : List X) (before after : ShelfTold) (room left : ℕ) → length tables ≤ place → place ≤ length tables → IsUnderWay fetch tables place all before after room left
    → Fetches (fetch_each fetch tables) (λ xs. xs) (length tables) (Ok all) before after room left
under_way-all fetch tables place all before after room left past within so_far = record {
  gives = λ files told. let front = so_far.told files told in all_found fetch files tables room place all front.0 left past front.1;
  told_left = λ files told. let front = so_far.told files told in all_left fetch files tables room place all front.0 left past front.1;
  told_fetches = λ files told. let front = so_far.told files told in omega (arith, front.2, all_fetches fetch files tables room place all front.0 left past front.1);
  absences = λ files told none. so_far.absences files told;
  fetches = omega (arith, so_far.fetches, within);
  read_fault = λ fault. absurd fault;
  calls = so_far.calls;
  faults = so_far.faults;
  holding = so_far.holding;
}
