-- An index that is in step with rows holds what its table's rows give, so at most one entry of a row.
use Rattle.std.proofs.Common.{◌≡◌, ℕ, true, false, ◌&&◌, List, Option, Some, None, get_or, refl, sym, ap, ◌∙◌, arith}
use Rattle.std.specs.Prelude.{◌==◌, nat_eq, IsTrue}
use Rattle.std.specs.Bool.{Decides}
use Rattle.std.specs.Option.{option_map_or}
use Rattle.std.proofs.lemmas.Bool.Decides.{nat_tests}
use Rattle.cfd_semantics.specs.Violation.{Entry, entry_of}
use Rattle.cfd_semantics.specs.EntrySets.{IsGivenBy, gives}
use Rattle.cfd_semantics.proofs.RowSets.{gives_decides}
use Rattle.row_store.specs.Watch.{entries_of}
use Rattle.row_store.specs.Watches.{IsInStep}
use Rattle.group_index.specs.GroupSet.{GroupSet, holds_entry, gives_entry}
use Rattle.group_index.specs.Answers.{IsSettled}
use Rattle.bench_index.specs.InStep.{AreInStep}
use Rattle.bench_index.specs.Watching.{group_watch}
use Rattle.bench_index.specs.Replies.{AreSettled}
use Rattle.bench_index.specs.declared.index.BenchIndex.{BenchIndex}

pub exact_ids : (v w : ℕ) → Decides (nat_eq v w) (v ≡ w)
exact_ids v w = ((λ is. grind (arith, nat_tests)), (λ is. grind (arith, nat_tests)))

own_table : (n : ℕ) → (n == n) ≡ true
own_table n = grind (arith, nat_tests)

module _ (tuples : ℕ → ℕ → Option (List ℕ)) where
  pub given_in_step : (s : GroupSet) → IsInStep group_watch tuples s → IsGivenBy (λ (e : Entry ℕ). e.row) (gives nat_eq s.made.dependency) (tuples s.made.table) (holds_entry s)
  given_in_step s in_step e = in_step s.made.table e.row e refl refl ∙ at (tuples s.made.table e.row)
    where
      at : (o : Option (List ℕ)) → entries_of (gives_entry s.made s.made.table e.row) o e ≡ option_map_or (λ tuple. gives nat_eq s.made.dependency e.row tuple e) o false
      at None = refl
      at (Some ids) = ap (λ b. b && gives nat_eq s.made.dependency e.row ids e) (own_table s.made.table)

  -- the row of an entry that is held gives it
  pub record IsGiven (s : GroupSet) (e : Entry ℕ) : Type 0 where
    pub ids : List ℕ
    pub at : tuples s.made.table e.row ≡ Some ids
    pub entry : entry_of s.made.dependency (e.row, ids) ≡ Some e

  given_from : (s : GroupSet) (e : Entry ℕ) (o : Option (List ℕ)) → tuples s.made.table e.row ≡ o → option_map_or (λ tuple. gives nat_eq s.made.dependency e.row tuple e) o false ≡ true → IsGiven s e
  given_from s e None at given = absurd (cc)
  given_from s e (Some ids) at given = record { ids = ids; at = at; entry = (gives_decides nat_eq exact_ids s.made.dependency e.row ids e).0 given }

  is_given : (s : GroupSet) → IsInStep group_watch tuples s → (e : Entry ℕ) → IsTrue (holds_entry s e) → IsGiven s e
  is_given s in_step e held = given_from s e (tuples s.made.table e.row) refl (sym (given_in_step s in_step e) ∙ held)

  settled : (s : GroupSet) → IsInStep group_watch tuples s → IsSettled s
  settled s in_step e f held beside same =
      let one = is_given s in_step e held in
      let other = is_given s in_step f beside in
      let ids : Some one.ids ≡ Some other.ids = sym one.at ∙ ap (tuples s.made.table) same ∙ other.at in
      let ids_same : one.ids ≡ other.ids = cc in
      let entries : Some e ≡ Some f = sym one.entry ∙ ap (λ row. entry_of s.made.dependency (row, one.ids)) same ∙ ap (λ ids. entry_of s.made.dependency (f.row, ids)) ids_same ∙ other.entry in
      cc

  -- indexes that are in step with some rows answer for all that is asked of them
  pub settled_in_step : (index : BenchIndex) → AreInStep group_watch tuples index.groups.items → AreSettled index
  settled_in_step index in_step = record { each = λ k d within. settled (get_or index.groups.items k d) (in_step k d within) }
