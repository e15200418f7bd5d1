-- Moves of editing rules are moves that each validate one attribute and read validated ones alone.
use Rattle.std.proofs.Common.{◌≡◌, ℕ, ◌<◌, Bool, true, false, List, [], ◌∷◌, length, get_or, set, Option, Some, None, refl, sym, ap, ◌∙◌, subst, ⊎_elim, arith}
use Rattle.std.specs.Prelude.{◌≢◌, ◌||◌, IsSomeAnd, slice_get, slice_set, option_map}
use Rattle.std.specs.Option.{option_map_or}
use Rattle.std.proofs.lemmas.Bool.{eq-eqb}
use Rattle.std.proofs.lemmas.Bool.Decides.{eqb_tells}
use Rattle.std.proofs.lemmas.List.{length-set}
use Rattle.std.proofs.lemmas.Option.{slice_get-get_or, none-some}
use Rattle.rule_model.specs.declared.edit_rule.EditRule.{EditRule}
use Rattle.rule_runs.specs.declared.moves.Move.{Move}
use Rattle.rule_runs.specs.Marks.{with_attr}
use Rattle.rule_runs.specs.Moves.{Stage, Basis, Fits, correction, Corrects, Applies, corrected, after, target_of}
use Rattle.rule_runs.proofs.Extending.{AreMoves, Extends}
use Rattle.rule_runs.proofs.Lists.{value_of, IsSomeAnd-from, map-same, slice_get-either, slice_get-set_same, slice_get-set_other}

-- stages are one where they have the same tuple and have validated the same attributes
pub same_stage : {V : Type 0} (t u : List V) (f g : ℕ → Bool) → t ≡ u → ((a : ℕ) → f a ≡ g a) → let one : Stage V = record { tuple = t; validated = f } in let other : Stage V = record { tuple = u; validated = g } in one ≡ other
same_stage t u f g tuples marks = λ i. record { tuple = tuples i; validated = λ a. marks a i }

-- the set with one more attribute, at it and elsewhere
with_attr-same : (f : ℕ → Bool) (k a : ℕ) → a ≡ k → with_attr f k a ≡ true
with_attr-same f k a e = ap (λ t. t || f a) (eq-eqb a k e)

with_attr-other : (f : ℕ → Bool) (k a : ℕ) → a ≢ k → with_attr f k a ≡ f a
with_attr-other f k a other =
    ⊎_elim (λ (same, e). absurd (other e)) (λ (apart, _). ap (λ t. t || f a) apart) (eqb_tells a k)

module _ {V : Type 0} (basis : Basis V) where
  -- the attribute that a move validates, and the value that it writes
  abbrev pub attr_of : Move → ℕ
  attr_of move = option_map_or (λ (c : EditRule × List V). c.0.target) (correction basis move) 0

  abbrev pub value_written : Move → Option V
  value_written move = option_map_or (λ (c : EditRule × List V). slice_get c.1 c.0.source) (correction basis move) None

  abbrev pub has : Stage V → ℕ → Bool
  has stage = stage.validated

  abbrev pub value_at : Stage V → ℕ → Option V
  value_at stage attr = slice_get stage.tuple attr

  -- a stage whose tuple has so many attributes
  abbrev pub HasWidth : ℕ → Stage V → Type 0
  HasWidth width stage = length stage.tuple ≡ width

  -- the rules of the table write within tuples of so many attributes, from what their master rows have
  pub record WritesWithin (width : ℕ) : Type 0 where
    pub target : (move : Move) (rule : EditRule) (master : List V) → correction basis move ≡ Some (rule, master) → rule.table ≡ basis.table → rule.target < width
    pub source : (move : Move) (rule : EditRule) (master : List V) → correction basis move ≡ Some (rule, master) → rule.source < length master

not_past : {X : Type 0} (xs : List X) (k : ℕ) → k < length xs → slice_get xs k ≡ None → ⊥
not_past [] k within none = absurd (omega arith)
not_past (x ∷ xs) k within none = none-some (get_or (x ∷ xs) k x) (sym none ∙ slice_get-get_or (x ∷ xs) k x within)

module _ {V : Type 0} (basis : Basis V) where
  -- what a move that applies corrects by
  pub parts : (s : Stage V) (m : Move) → Applies basis s m → (c : EditRule × List V) × (correction basis m ≡ Some c) × Corrects basis s c
  parts s m applies = value_of (correction basis m) (Corrects basis s) applies

  pub target-some : (m : Move) (c : EditRule × List V) → correction basis m ≡ Some c → target_of basis m ≡ Some (attr_of basis m)
  target-some m c is = ap (λ o. option_map (λ (d : EditRule × List V). d.0.target) o) is ∙ ap Some (sym (ap (λ o. option_map_or (λ (d : EditRule × List V). d.0.target) o 0) is))

  pub attr-is : (m : Move) (c : EditRule × List V) → correction basis m ≡ Some c → attr_of basis m ≡ c.0.target
  attr-is m c is = ap (λ o. option_map_or (λ (d : EditRule × List V). d.0.target) o 0) is

  written-is : (m : Move) (c : EditRule × List V) → correction basis m ≡ Some c → value_written basis m ≡ slice_get c.1 c.0.source
  written-is m c is = ap (λ o. option_map_or (λ (d : EditRule × List V). slice_get d.1 d.0.source) o None) is

  pub after-is : (s : Stage V) (m : Move) (c : EditRule × List V) → correction basis m ≡ Some c → after basis s m ≡ corrected basis s c
  after-is s m c is = ap (λ o. option_map_or (corrected basis s) o s) is

  -- the tuple with a value that may be missing
  abbrev put : List V → ℕ → Option V → List V
  put tuple target o = option_map_or (slice_set tuple target) o tuple

  put-length : (tuple : List V) (target : ℕ) (o : Option V) → length (put tuple target o) ≡ length tuple
  put-length tuple target None = refl
  put-length tuple target (Some v) = length-set tuple target v

  -- a value that is there is put
  put-same : (tuple : List V) (target : ℕ) (master : List V) (source : ℕ) → source < length master → target < length tuple → slice_get (put tuple target (slice_get master source)) target ≡ slice_get master source
  put-same tuple target master source there within =
      ⊎_elim
      (λ (v, is). ap (λ o. slice_get (put tuple target o) target) is ∙ slice_get-set_same tuple target v within ∙ sym is)
      (λ none. absurd (not_past master source there none))
      (slice_get-either master source)

  put-other : (tuple : List V) (target a : ℕ) (o : Option V) → a ≢ target → slice_get (put tuple target o) a ≡ slice_get tuple a
  put-other tuple target a None other = refl
  put-other tuple target a (Some v) other = slice_get-set_other tuple target a v other

  -- what a ready rule reads is the same where it is validated with the same values
  pub lifted : (s v : Stage V) (c : EditRule × List V) → Extends (Applies basis) (after basis) (has basis) (value_at basis) (attr_of basis) (value_written basis) s v → Corrects basis s c → v.validated c.0.target ≡ false → Corrects basis v c
  lifted s v (rule, master) extends (ready, same) out =
      let matched = ready.matched in
      let asked = ready.asked in (
        record {
          table = ready.table;
          matched = λ k d within. (extends _ (ready.matched k d within)).0;
          asked = λ k d within. (extends _ (ready.asked k d within)).0;
          target = out;
          pattern = λ k d within. subst (λ o. IsSomeAnd o (Fits basis.is_text (get_or rule.when k d).1)) (sym (extends _ (ready.asked k d within)).1) (ready.pattern k d within);
        },
        map-same (λ a. s.validated a ≡ true) (slice_get v.tuple) (slice_get s.tuple) rule.x (λ a h. (extends a h).1) ready.matched ∙ same,
      )

  module _ (width : ℕ) (within : WritesWithin basis width) where
    pub are_moves : AreMoves (Applies basis) (after basis) (has basis) (value_at basis) (attr_of basis) (value_written basis) (HasWidth basis width)
    are_moves = record {
      good = λ s m good applies.
          let (c, is, corrects) = parts s m applies in
          ap (λ (t : Stage V). length t.tuple) (after-is s m c is) ∙ put-length s.tuple c.0.target (slice_get c.1 c.0.source) ∙ good;
      fresh = λ s m applies.
          let (c, is, (ready, same)) = parts s m applies in
          ap s.validated (attr-is m c is) ∙ ready.target;
      has_target = λ s m good applies.
          let (c, is, corrects) = parts s m applies in
          ap (λ (t : Stage V). t.validated (attr_of basis m)) (after-is s m c is) ∙ with_attr-same s.validated c.0.target (attr_of basis m) (attr-is m c is);
      has_other = λ s m a good applies other.
          let (c, is, corrects) = parts s m applies in
          ap (λ (t : Stage V). t.validated a) (after-is s m c is) ∙ with_attr-other s.validated c.0.target a (λ e. other (e ∙ sym (attr-is m c is)));
      value_target = λ s m good applies.
          let (c, is, (ready, same)) = parts s m applies in
          let source = within.source m c.0 c.1 is in
          let target = within.target m c.0 c.1 is ready.table in
          ap (λ (t : Stage V). slice_get t.tuple (attr_of basis m)) (after-is s m c is) ∙ ap (slice_get (put s.tuple c.0.target (slice_get c.1 c.0.source))) (attr-is m c is)
          ∙ put-same s.tuple c.0.target c.1 c.0.source source (omega arith) ∙ sym (written-is m c is);
      value_other = λ s m a good applies other.
          let (c, is, corrects) = parts s m applies in
          ap (λ (t : Stage V). slice_get t.tuple a) (after-is s m c is) ∙ put-other s.tuple c.0.target a (slice_get c.1 c.0.source) (λ e. other (e ∙ sym (attr-is m c is)));
      lift = λ s v m extends applies out.
          let (c, is, corrects) = parts s m applies in
          IsSomeAnd-from (correction basis m) (Corrects basis v) c is (lifted s v c extends corrects (sym (ap v.validated (attr-is m c is)) ∙ out));
    }

-- what a move does, where its rule and its master row are known
pub step_is : {V : Type 0} (basis : Basis V) (t u : List V) (f g : ℕ → Bool) (move : Move) (rule : EditRule) (master : List V) (v : V) → correction basis move ≡ Some (rule, master) → slice_get master rule.source ≡ Some v → u ≡ set t rule.target v → ((a : ℕ) → g a ≡ with_attr f rule.target a) → let old : Stage V = record { tuple = t; validated = f } in let new : Stage V = record { tuple = u; validated = g } in new ≡ after basis old move
step_is {V} basis t u f g move rule master v is there tuple marks =
    let old : Stage V = record { tuple = t; validated = f } in
    same_stage u (option_map_or (slice_set t rule.target) (slice_get master rule.source) t) g (with_attr f rule.target) (tuple ∙ sym (ap (λ o. option_map_or (slice_set t rule.target) o t) there)) marks
    ∙ sym (after-is basis old move (rule, master) is)
