-- A project that was read, or was refused and looked at once more.
use Rattle.std.proofs.Common.{◌≡◌, ◌≢◌, ℕ, ◌≤◌, Bool, true, false, if◌then◌else◌, List, Option, Some, None, Result, Ok, Err, IfOk, refl, ap, sym, subst, ◌∙◌, arith}
use Rattle.text_lists.specs.declared.limits.Limits.{Limits}
use Rattle.line_grammar.specs.Faults.{GivesUnlessMemory}
use Rattle.shelf_io.specs.Files.{Files}
use Rattle.shelf_io.specs.Shelf.{ShelfTold}
use Rattle.cli_output.specs.declared.fetching.Stop.{Stop}
use Rattle.cli_output.specs.declared.fetching.Stop.TheVariants.{Refused, ReadFault, Memory}
use Rattle.cli_output.specs.declared.refusal.Cause.{Cause}
use Rattle.cli_output.specs.declared.refusal.Cause.TheVariants.{Absent}
use Rattle.cli_output.specs.declared.refusal.Refusal.{Refusal}
use Rattle.cli_output.specs.Fetching.{Fetches, Fetching, IsReadFault, NoneIsAbsent, OrRefusal, Outcome, refusal_in}
use Rattle.cli_output.proofs.Faults.{Rose-from, same_fault}
use Rattle.cli_output.proofs.FetchingSteps.{none_absent}
use Rattle.project_files.specs.Project.{ProjectRead, fetch_project, read_of}
use Rattle.project_files.specs.declared.project.Project.{Project}
use Rattle.view_check.specs.Seen.{again, fetch_seen, is_absent, off_unless, passed_over, passing_over, seen_after, seen_of}
use Rattle.view_check.specs.declared.fetching.Seen.{Seen}
use Rattle.view_check.specs.declared.fetching.Seen.TheVariants.{Whole}

pub seen-whole : (limits : Limits) (name : List ℕ) (project : Project) (before after : ShelfTold) (left still : ℕ) → Fetches (fetch_project limits name) read_of 67 (Ok project) before after left still
    → Fetches (fetch_seen limits name) seen_of 134 (Ok (Whole project)) before after left still
unfolding fetch_seen
seen-whole limits name project before after left still step = record {
  gives = λ files told. ap (λ f. (seen_after limits name files (fetch_project limits name files left) f).found) (step.gives files told);
  told_left = λ files told. ap (λ f. (seen_after limits name files (fetch_project limits name files left) f).left) (step.gives files told) ∙ step.told_left files told;
  told_fetches = λ files told. omega (arith, step.told_fetches files told, ap (λ f. (seen_after limits name files (fetch_project limits name files left) f).fetches) (step.gives files told));
  absences = λ files told none. none_absent (fetch_project limits name) read_of 67 project before after left still step files told;
  fetches = omega (arith, step.fetches);
  read_fault = λ fault. absurd fault;
  calls = step.calls;
  faults = step.faults;
  holding = step.holding;
}

-- where no file is refused as absent in the end, the project isn't
none_off : (limits : Limits) (name what : List ℕ) (cause : Cause) (files : Files) → NoneIsAbsent (off_unless (is_absent cause) limits name (record { what = what; cause = cause }) files 0).found → cause ≢ Absent
none_off limits name what cause files none = λ is. (subst (λ c. NoneIsAbsent (off_unless (is_absent c) limits name (record { what = what; cause = c }) files 0).found) is none) refl

none_seen : (limits : Limits) (name : List ℕ) (files : Files) (outcome : Outcome ProjectRead) (found : OrRefusal ProjectRead) → NoneIsAbsent (seen_after limits name files outcome found).found → NoneIsAbsent found
none_seen limits name files outcome (Ok project) none = tt
none_seen limits name files outcome (Err refusal) none = none_off limits name refusal.what refusal.cause files none

pub seen-refused : (limits : Limits) (name : List ℕ) (refusal : Refusal) (result : Result Seen Stop) (before between after : ShelfTold) (left still : ℕ) → Fetches (fetch_project limits name) read_of 67 (Err (Refused refusal)) before between left still
    → Fetches (off_unless (is_absent refusal.cause) limits name refusal) seen_of 67 result between after 0 0 → Fetches (fetch_seen limits name) seen_of 134 result before after left 0
unfolding fetch_seen
seen-refused limits name refusal result before between after left still step more = record {
  gives = λ files told. subst (λ o. GivesUnlessMemory refusal_in o.found seen_of result) (sym (joined files told)) (more.gives files (step.holding ∙ told));
  told_left = λ files told. subst (λ o. IfOk result (λ x. o.left ≡ 0)) (sym (joined files told)) (more.told_left files (step.holding ∙ told));
  told_fetches = λ files told. omega (arith, step.told_fetches files told, more.told_fetches files (step.holding ∙ told), ap (λ o. o.fetches) (joined files told));
  absences = λ files told none.
      more.absences files (step.holding ∙ told) (subst (λ o. NoneIsAbsent o.found) (joined files told) none)
      ∙ step.absences files told (none_seen limits name files (fetch_project limits name files left) (fetch_project limits name files left).found none);
  fetches = omega (arith, step.fetches, more.fetches);
  read_fault = λ fault. Rose-from _ _ _ (more.read_fault fault) step.faults;
  calls = omega (arith, step.calls, more.calls);
  faults = omega (arith, step.faults, more.faults);
  holding = more.holding ∙ step.holding;
}
  where
    joined : (files : Files) → before.holding ≡ Some files → fetch_seen limits name files left ≡ seen_after limits name files (fetch_project limits name files left) (Err refusal)
    joined files told = ap (λ f. seen_after limits name files (fetch_project limits name files left) f) (step.gives files told)

some_fetches : (limits : Limits) (name : List ℕ) (files : Files) (outcome : Outcome ProjectRead) (found : OrRefusal ProjectRead) → outcome.fetches ≤ (seen_after limits name files outcome found).fetches
some_fetches limits name files outcome (Ok project) = omega arith
some_fetches limits name files outcome (Err refusal) = omega arith

-- no refusal, but a failed fetch or want of memory
pub seen-stopped : (limits : Limits) (name : List ℕ) (stop : Stop) (before after : ShelfTold) (left still : ℕ) → refusal_in stop ≡ None → Fetches (fetch_project limits name) read_of 67 (Err stop) before after left still
    → Fetches (fetch_seen limits name) seen_of 134 (Err stop) before after left still
unfolding fetch_seen
seen-stopped limits name stop before after left still none step = record {
  gives = λ files told. rw none tt;
  told_left = λ files told. tt;
  told_fetches = λ files told. omega (arith, step.told_fetches files told, some_fetches limits name files (fetch_project limits name files left) (fetch_project limits name files left).found);
  absences = λ files told present. step.absences files told (none_seen limits name files (fetch_project limits name files left) (fetch_project limits name files left).found present);
  fetches = omega (arith, step.fetches);
  read_fault = λ fault. step.read_fault (same_fault Seen Project stop fault);
  calls = step.calls;
  faults = step.faults;
  holding = step.holding;
}

-- ---- something once more

none_again : (X : Type 0) (what : List ℕ) (cause : Cause) → NoneIsAbsent {X = Option X} (if is_absent cause then Err (record { what = what; cause = cause }) else Ok None) → cause ≢ Absent
none_again X what cause none = λ is. (subst (λ c. NoneIsAbsent {X = Option X} (if is_absent c then Err (record { what = what; cause = c }) else Ok None)) is none) refl

none_passed : {X : Type 0} (found : OrRefusal X) → NoneIsAbsent (passed_over found) → NoneIsAbsent found
none_passed (Ok x) none = tt
none_passed {X} (Err refusal) none = none_again X refusal.what refusal.cause none

gives_again : {X : Type 0} (found : OrRefusal X) (result : Result X Stop) → GivesUnlessMemory refusal_in found (λ x. x) result → GivesUnlessMemory refusal_in (passed_over found) (λ x. x) (passing_over result)
gives_again found (Ok x) is = ap passed_over is
gives_again {X} found (Err (Refused refusal)) is = by (is_absent refusal.cause) (ap passed_over is)
  where
    by : (absent : Bool) → passed_over found ≡ (if absent then Err refusal else Ok None) → GivesUnlessMemory {X = Option X} {Y = Option X} refusal_in (passed_over found) (λ x. x) (if absent then Err (Refused refusal) else Ok None)
    by true same = same
    by false same = same
gives_again found (Err ReadFault) is = tt
gives_again found (Err Memory) is = tt

fault_again : {X : Type 0} (result : Result X Stop) → IsReadFault (passing_over result) → IsReadFault result
fault_again (Ok x) fault = fault
fault_again {X} (Err (Refused refusal)) fault = by (is_absent refusal.cause) fault
  where
    by : (absent : Bool) → IsReadFault {X = Option X} (if absent then Err (Refused refusal) else Ok None) → ⊥
    by true none = none
    by false none = none
fault_again (Err ReadFault) fault = fault
fault_again (Err Memory) fault = fault

stays : {X : Type 0} (result : Result X Stop) (left : ℕ) → IfOk result (λ x. left ≡ left)
stays (Ok x) left = refl
stays (Err stop) left = tt

pub again-fetches : {X : Type 0} (limits : Limits) (most : ℕ) (fetching : Fetching X) (result : Result X Stop) (before after : ShelfTold) (still left : ℕ) → Fetches fetching (λ x. x) most result before after limits.all_bytes still
    → Fetches (again limits fetching) (λ x. x) most (passing_over result) before after left left
again-fetches limits most fetching result before after still left step = record {
  gives = λ files told. gives_again (fetching files limits.all_bytes).found result (step.gives files told);
  told_left = λ files told. stays (passing_over result) left;
  told_fetches = step.told_fetches;
  absences = λ files told none. step.absences files told (none_passed (fetching files limits.all_bytes).found none);
  fetches = step.fetches;
  read_fault = λ fault. step.read_fault (fault_again result fault);
  calls = step.calls;
  faults = step.faults;
  holding = step.holding;
}

-- ---- the same in other words

-- at most so many fetches, or more
pub fetches-at_most : {X Y : Type 0} (fetching : Fetching Y) (view : X → Y) (some more : ℕ) (result : Result X Stop) (before after : ShelfTold) (left still : ℕ) → some ≤ more → Fetches fetching view some result before after left still → Fetches fetching view more result before after left still
fetches-at_most fetching view some more result before after left still fits step = record {
  gives = step.gives;
  told_left = step.told_left;
  told_fetches = step.told_fetches;
  absences = step.absences;
  fetches = omega (arith, step.fetches, fits);
  read_fault = step.read_fault;
  calls = step.calls;
  faults = step.faults;
  holding = step.holding;
}

-- a value in other words
pub fetches-viewed : {X Y : Type 0} (fetching : Fetching Y) (view : X → Y) (most : ℕ) (x : X) (y : Y) (before after : ShelfTold) (left still : ℕ) → y ≡ view x → Fetches fetching view most (Ok x) before after left still → Fetches fetching (λ z. z) most (Ok y) before after left still
fetches-viewed {X} {Y} fetching view most x y before after left still is step = record {
  gives = λ files told. step.gives files told ∙ ap Ok (sym is);
  told_left = step.told_left;
  told_fetches = step.told_fetches;
  absences = step.absences;
  fetches = step.fetches;
  read_fault = λ fault. absurd fault;
  calls = step.calls;
  faults = step.faults;
  holding = step.holding;
}

pub fetches-failed : {X Y Z : Type 0} (fetching : Fetching Z) (one : X → Z) (other : Y → Z) (most : ℕ) (stop : Stop) (before after : ShelfTold) (left still : ℕ) → Fetches fetching one most (Err stop) before after left still → Fetches fetching other most (Err stop) before after left still
fetches-failed {X} {Y} fetching one other most stop before after left still step = record {
  gives = step.gives;
  told_left = λ files told. tt;
  told_fetches = step.told_fetches;
  absences = step.absences;
  fetches = step.fetches;
  read_fault = λ fault. step.read_fault (same_fault Y X stop fault);
  calls = step.calls;
  faults = step.faults;
  holding = step.holding;
}
