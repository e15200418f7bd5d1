-- Fetching step after step: what calls that were made one after the other promise together.
use Rattle.std.proofs.Common.{◌≡◌, ℕ, ◌+◌, ◌≤◌, Result, Some, Ok, Err, IfOk, IfSome, refl, sym, ap, subst, ◌∙◌, arith}
use Rattle.line_grammar.specs.Faults.{GivesUnlessMemory}
use Rattle.shelf_io.specs.Files.{Files}
use Rattle.shelf_io.specs.Shelf.{ShelfTold}
use Rattle.cli_output.specs.declared.fetching.Stop.{Stop}
use Rattle.cli_output.specs.declared.fetching.Stop.TheVariants.{Refused, ReadFault, Memory}
use Rattle.cli_output.proofs.Faults.{Rose-from, same_fault}
use Rattle.cli_output.specs.Fetching.{Fetches, Fetching, NoneIsAbsent, OrRefusal, Outcome, Reads, ◌>>=◌, followed, given, refusal_in}

-- ---- no step

-- the same answer to a step that fetches nothing
pub fetches-given : {X Y : Type 0} (found : OrRefusal Y) (view : X → Y) (result : Result X Stop) (shelf : ShelfTold) (left : ℕ) → Reads found view result → Fetches (given found) view 0 result shelf shelf left left
fetches-given {X} {Y} found view result shelf left reads = record {
  gives = λ files is. reads.gives;
  told_left = λ files is. still result;
  told_fetches = λ files is. omega arith;
  absences = λ files is none. refl;
  fetches = omega arith;
  read_fault = λ fault. absurd (reads.no_fault fault);
  calls = omega arith;
  faults = omega arith;
  holding = refl;
}
  where
    still : (r : Result X Stop) → IfOk r (λ x. left ≡ left)
    still (Ok x) = refl
    still (Err stop) = tt

-- ---- a step that stops

stops : {X Y : Type 0} (found : OrRefusal X) (fetches left : ℕ) (further : X → ℕ → Outcome Y) (stop : Stop) → IfSome (refusal_in stop) (λ refusal. found ≡ Err refusal) → IfSome (refusal_in stop) (λ refusal. (followed fetches left found further).found ≡ Err refusal)
stops found fetches left further (Refused refusal) is = ap (λ f. (followed fetches left f further).found) is
stops found fetches left further ReadFault is = tt
stops found fetches left further Memory is = tt

at_least : {X Y : Type 0} (found : OrRefusal X) (fetches left : ℕ) (further : X → ℕ → Outcome Y) → fetches ≤ (followed fetches left found further).fetches
at_least (Ok x) fetches left further = omega arith
at_least (Err refusal) fetches left further = omega arith

-- where no file is refused as absent in the end, none was in the first step
pub none_in_first : {X Y : Type 0} (found : OrRefusal X) (fetches left : ℕ) (further : X → ℕ → Outcome Y) → NoneIsAbsent (followed fetches left found further).found → NoneIsAbsent found
none_in_first (Ok x) fetches left further none = tt
none_in_first (Err refusal) fetches left further none = none

pub fetches-stopped : {X Y Z W : Type 0} (first : Fetching X) (further : X → Fetching Y) (view : W → X) (last : Z → Y) (some more : ℕ) (stop : Stop) (result : Result Z Stop) (before after : ShelfTold) (left still_left : ℕ) → result ≡ Err stop
    → Fetches first view some (Err stop) before after left still_left → Fetches (first >>= further) last (some + more) result before after left still_left
fetches-stopped {X} {Y} {Z} {W} first further view last some more stop result before after left still_left is step = subst (λ r. Fetches (first >>= further) last (some + more) r before after left still_left) (sym is) (record {
  gives = λ files told. stops (first files left).found (first files left).fetches (first files left).left (λ x. further x files) stop (step.gives files told);
  told_left = λ files told. tt;
  told_fetches = λ files told. omega (arith, step.told_fetches files told, at_least (first files left).found (first files left).fetches (first files left).left (λ x. further x files));
  absences = λ files told none. step.absences files told (none_in_first (first files left).found (first files left).fetches (first files left).left (λ x. further x files) none);
  fetches = omega (arith, step.fetches);
  read_fault = λ fault. step.read_fault (same_fault Z W stop fault);
  calls = step.calls;
  faults = step.faults;
  holding = step.holding;
})

-- ---- one step after the other

-- where all was read, no absence was counted
pub none_absent : {X Y : Type 0} (fetching : Fetching Y) (view : X → Y) (most : ℕ) (x : X) (before after : ShelfTold) (left still_left : ℕ) → Fetches fetching view most (Ok x) before after left still_left → (files : Files) → before.holding ≡ Some files → after.absences ≡ before.absences
none_absent fetching view most x before after left still_left step files told = step.absences files told (subst (λ f. NoneIsAbsent f) (sym (step.gives files told)) tt)

pub fetches-next : {X Y Z W : Type 0} (first : Fetching X) (further : X → Fetching Y) (view : W → X) (last : Z → Y) (some more : ℕ) (w : W) (result : Result Z Stop) (before between after : ShelfTold) (left middle still_left : ℕ)
    → Fetches first view some (Ok w) before between left middle → Fetches (further (view w)) last more result between after middle still_left → Fetches (first >>= further) last (some + more) result before after left still_left
fetches-next first further view last some more w result before between after left middle still_left one two = record {
  gives = λ files told. subst (λ o. GivesUnlessMemory refusal_in o.found last result) (sym (joined files told)) (two.gives files (one.holding ∙ told));
  told_left = λ files told. subst (λ o. IfOk result (λ x. o.left ≡ still_left)) (sym (joined files told)) (two.told_left files (one.holding ∙ told));
  told_fetches = λ files told. omega (arith, one.told_fetches files told, two.told_fetches files (one.holding ∙ told), ap (λ o. o.fetches) (joined files told));
  absences = λ files told none.
      two.absences files (one.holding ∙ told) (subst (λ o. NoneIsAbsent o.found) (joined files told) none)
      ∙ one.absences files told (none_in_first (first files left).found (first files left).fetches (first files left).left (λ x. further x files) none);
  fetches = omega (arith, one.fetches, two.fetches);
  read_fault = λ fault. Rose-from _ _ _ (two.read_fault fault) one.faults;
  calls = omega (arith, one.calls, two.calls);
  faults = omega (arith, one.faults, two.faults);
  holding = two.holding ∙ one.holding;
}
  where
    joined : (files : Files) → before.holding ≡ Some files → (first >>= further) files left ≡ record (further (view w) files middle) { fetches = (first files left).fetches + (further (view w) files middle).fetches }
    joined files told =
        ap (λ f. followed (first files left).fetches (first files left).left f (λ x. further x files)) (one.gives files told)
        ∙ ap (λ l. followed (first files left).fetches l (Ok (view w)) (λ x. further x files)) (one.told_left files told)

-- the same way of fetching in other words
pub fetches-same : {X Y : Type 0} {one other : Fetching Y} {view : X → Y} {most : ℕ} {result : Result X Stop} {before after : ShelfTold} {left still_left : ℕ} → one ≡ other → Fetches one view most result before after left still_left → Fetches other view most result before after left still_left
fetches-same {X} {Y} {one} {other} {view} {most} {result} {before} {after} {left} {still_left} same step = subst (λ f. Fetches f view most result before after left still_left) same step
