-- The state to which a change leads differs in no other table than the change's.
use Rattle.std.proofs.Common.{◌≡◌, ℕ, zero, suc, ◌+◌, ◌-◌, ◌≤◌, List, [], ◌∷◌, ◌++◌, length, Some, refl, sym, ap, subst, ◌∙◌, arith}
use Rattle.std.specs.List.{slice_get}
use Rattle.std.proofs.lemmas.List.{length-append}
use Rattle.rule_model.specs.Books.{Book}
use Rattle.edit_log.specs.declared.change.Change.{Change}
use Rattle.edit_log.specs.Journal.{last_change, first_change}
use Rattle.bench_index.specs.AllIndexes.{most_probes}
use Rattle.bench_core.specs.State.{State}
use Rattle.bench_core.specs.Stored.{Stored, state_of}
use Rattle.bench_core.specs.Changes.{at_table, taken_back, made_again, before_change, after_change, history_of, states_before}
use Rattle.bench_core.specs.History.{last_past, first_undone}
use Rattle.bench_core.specs.Indexed.{AreOfTheChange, DifferOnlyAt}
use Rattle.bench_core.proofs.Holding.{last-splits, first-splits}
use Rattle.bench_core.proofs.Walks.{states_before-push}

last-place : {X : Type 0} (xs : List X) (x : X) → slice_get (xs ++ x ∷ []) (length xs) ≡ Some x
last-place [] x = refl
last-place (y ∷ xs) x = last-place xs x

last-pushed : {X : Type 0} (xs : List X) (x : X) → slice_get (xs ++ x ∷ []) (length (xs ++ x ∷ []) - 1) ≡ Some x
last-pushed xs x =
    let place : length (xs ++ x ∷ []) - 1 ≡ length xs = omega (arith, length-append xs (x ∷ [])) in
    ap (slice_get (xs ++ x ∷ [])) place ∙ last-place xs x

differ-only : (texts : List (List ℕ)) (n : ℕ) (becomes : Stored → Stored) (tables : List Stored) → DifferOnlyAt n (state_of texts tables) (state_of texts (at_table n becomes tables))
differ-only texts n becomes [] t apart = refl
differ-only texts zero becomes (x ∷ tables) zero apart = absurd (apart refl)
differ-only texts zero becomes (x ∷ tables) (suc t) apart = refl
differ-only texts (suc n) becomes (x ∷ tables) zero apart = refl
differ-only texts (suc n) becomes (x ∷ tables) (suc t) apart = differ-only texts n becomes tables t (λ same. apart (ap suc same))

module _ (rules : Book) (texts : List (List ℕ)) (past undone : List Change) (tables : List Stored) where
  pub no-undo-probes : past ≡ [] → (n : ℕ) → AreOfTheChange rules (state_of texts tables) (last_past (history_of texts past undone tables)) n n
  no-undo-probes none n = subst (λ past. AreOfTheChange rules (state_of texts tables) (last_past (history_of texts past undone tables)) n n) (sym none) (omega arith)

  pub no-redo-probes : undone ≡ [] → (n : ℕ) → AreOfTheChange rules (state_of texts tables) (first_undone (history_of texts past undone tables)) n n
  no-redo-probes none n = subst (λ undone. AreOfTheChange rules (state_of texts tables) (first_undone (history_of texts past undone tables)) n n) (sym none) (omega arith)

  module _ (change : Change) (before after : ℕ) (few : after ≤ before + most_probes rules change.table) where
    pub undo-probes : last_change past ≡ Some change → AreOfTheChange rules (state_of texts tables) (last_past (history_of texts past undone tables)) before after
    undo-probes last =
        let (front, is) = last-splits past change last in
        let to = state_of texts (taken_back change tables) in
        let there : last_past (history_of texts past undone tables) ≡ Some to =
        ap (λ past. last_past (history_of texts past undone tables)) is
        ∙ ap (λ (states : List State). slice_get states (length states - 1)) (states_before-push change tables texts front)
        ∙ last-pushed (states_before texts front (taken_back change tables)) to in
        subst (λ other. AreOfTheChange rules (state_of texts tables) other before after) (sym there) (change.table, differ-only texts change.table (before_change change) tables, few)

    pub redo-probes : first_change undone ≡ Some change → AreOfTheChange rules (state_of texts tables) (first_undone (history_of texts past undone tables)) before after
    redo-probes first =
        let (rest, is) = first-splits undone change first in
        let to = state_of texts (made_again change tables) in
        let there : first_undone (history_of texts past undone tables) ≡ Some to = ap (λ undone. first_undone (history_of texts past undone tables)) is in
        subst (λ other. AreOfTheChange rules (state_of texts tables) other before after) (sym there) (change.table, differ-only texts change.table (after_change change) tables, few)
