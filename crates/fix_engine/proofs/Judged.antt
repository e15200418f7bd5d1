-- Whatever is asked, there is a verdict, if the master rows are finitely many: all maximal runs end in one tuple, or two end
-- in different ones.
use Rattle.std.proofs.Common.{◌≡◌, ℕ, zero, suc, ◌+◌, ◌<◌, ◌≤◌, Bool, true, false, List, [], ◌∷◌, ◌++◌, length, Option, Some, None, inl, inr, ◌⊎◌, refl, sym, ap, subst, ◌∙◌, ⊎_elim, arith}
use Rattle.std.specs.Prelude.{◌≢◌, ◌||◌, ◌==◌, IsSomeAnd, slice_get, take, option_map}
use Rattle.std.specs.Option.{option_and_then}
use Rattle.std.specs.List.{All}
use Rattle.std.proofs.lemmas.Bool.{cases_lt}
use Rattle.std.proofs.lemmas.Bool.Decides.{eqb_tells}
use Rattle.std.proofs.lemmas.List.Elements.{All-cons, All-head, All-nil, All-tail}
use Rattle.std.proofs.lemmas.Option.{none-some, same_Some, slice_get_within}
use Rattle.rule_model.specs.declared.edit_rule.EditCell.{EditCell}
use Rattle.rule_model.specs.declared.edit_rule.EditCell.TheVariants.{Any, Is, Not}
use Rattle.rule_model.specs.declared.edit_rule.EditRule.{EditRule}
use Rattle.rule_runs.specs.declared.moves.Move.{Move}
use Rattle.rule_runs.specs.Marks.{with_attr}
use Rattle.rule_runs.specs.Moves.{Applies, Basis, Corrects, Fits, IsReady, MatchesPattern, Stage, after, correction, values_in}
use Rattle.rule_runs.proofs.Moving.{after-is, parts}
use Rattle.fix_engine.specs.Fixes.{AllEndIn, DifferFirstAt, IsFullRun, Question, stage_after}
use Rattle.fix_engine.proofs.Judging.{Agree, Among, Differ, judged}

-- ---- what can be decided

abbrev pub Decided : Type 0 → Type 0
Decided P = P ⊎ ¬ P

both : {P Q : Type 0} → Decided P → Decided Q → Decided (P × Q)
both one other = elim one [
  | inl p ↦ elim other [ inl q ↦ inl (p, q) | inr isnt ↦ inr (λ pair. isnt pair.1) ]
  | inr isnt ↦ inr (λ pair. isnt pair.0)
]

each : {X : Type 0} (P : X → Type 0) → ((x : X) → Decided (P x)) → (xs : List X) → Decided (All P xs)
each P decide [] = inl (All-nil P)
each P decide (x ∷ xs) = elim (decide x) [
  | inl head ↦ elim (each P decide xs) [ inl tail ↦ inl (All-cons P x xs head tail) | inr isnt ↦ inr (λ all. isnt (All-tail P x xs all)) ]
  | inr isnt ↦ inr (λ all. isnt (All-head P x xs all))
]

of_some : {X : Type 0} (o : Option X) (P : X → Type 0) → ((x : X) → Decided (P x)) → Decided (IsSomeAnd o P)
of_some None P decide = inr (λ fact. fact)
of_some (Some x) P decide = decide x

same_bool : (b c : Bool) → Decided (b ≡ c)
same_bool true true = inl refl
same_bool true false = inr (λ e. cc)
same_bool false true = inr (λ e. cc)
same_bool false false = inl refl

pub same_number : (n m : ℕ) → Decided (n ≡ m)
same_number n m = elim (eqb_tells n m) [ inl (is, e) ↦ inl e | inr (is, apart) ↦ inr apart ]

below-suc : (k n : ℕ) → k < suc n → k ≢ n → k < n
below-suc k n within apart = ⊎_elim (λ lt. lt) (λ ge. absurd (apart (omega arith))) (cases_lt k n)

-- ---- fewer attributes are left after each move

abbrev bit : Bool → ℕ
bit true = 0
bit false = 1

-- how many attributes below a number aren't in a set
abbrev unmarked : (ℕ → Bool) → ℕ → ℕ
unmarked set zero = 0
unmarked set (suc n) = bit (set n) + unmarked set n

bit-or : (b c : Bool) → bit (b || c) ≤ bit c
bit-or true true = omega arith
bit-or true false = omega arith
bit-or false c = omega arith

never-more : (set : ℕ → Bool) (k n : ℕ) → unmarked (with_attr set k) n ≤ unmarked set n
never-more set k zero = omega arith
never-more set k (suc n) = let here = bit-or (n == k) (set n) in let below = never-more set k n in omega arith

one-less : (set : ℕ → Bool) (k n : ℕ) → k < n → set k ≡ false → unmarked (with_attr set k) n < unmarked set n
one-less set k zero within out = absurd (omega arith)
one-less set k (suc n) within out = elim (eqb_tells n k) [
  | inl (is, e) ↦
      let now : bit (with_attr set k n) ≡ 0 = ap (λ b. bit (b || set n)) is in
      let was : bit (set n) ≡ 1 = ap (λ j. bit (set j)) e ∙ ap bit out in
      let below = never-more set k n in
      omega (arith, now, was, below)
  | inr (is, apart) ↦
      let here = bit-or (n == k) (set n) in
      let below = one-less set k n (below-suc k n within (λ e. apart (sym e))) out in
      omega (arith, here, below)
]

-- ---- all moves that there may be

abbrev with_rule : ℕ → List ℕ → List Move
with_rule rule [] = []
with_rule rule (row ∷ rows) = record { rule = rule; master = row } ∷ with_rule rule rows

abbrev all_moves : ℕ → List ℕ → List Move
all_moves zero rows = []
all_moves (suc n) rows = with_rule n rows ++ all_moves n rows

pub among-left : {X : Type 0} (xs ys : List X) (x : X) → Among xs x → Among (xs ++ ys) x
among-left [] ys x among = absurd among
among-left (y ∷ xs) ys x among = elim among [ inl is ↦ inl is | inr later ↦ inr (among-left xs ys x later) ]

pub among-right : {X : Type 0} (xs ys : List X) (x : X) → Among ys x → Among (xs ++ ys) x
among-right [] ys x among = among
among-right (y ∷ xs) ys x among = inr (among-right xs ys x among)

among-rule : (rule row : ℕ) (rows : List ℕ) → Among rows row → Among (with_rule rule rows) (record { rule = rule; master = row })
among-rule rule row [] among = absurd among
among-rule rule row (first ∷ rows) among = elim among [
  | inl is ↦ inl (ap (λ r. record { rule = rule; master = r }) is)
  | inr later ↦ inr (among-rule rule row rows later)
]

among-all : (n rule row : ℕ) (rows : List ℕ) → rule < n → Among rows row → Among (all_moves n rows) (record { rule = rule; master = row })
among-all zero rule row rows within among = absurd (omega arith)
among-all (suc n) rule row rows within among = elim (eqb_tells rule n) [
  | inl (is, e) ↦ among-left (with_rule n rows) (all_moves n rows) _ (subst (λ r. Among (with_rule r rows) (record { rule = rule; master = row })) e (among-rule rule row rows among))
  | inr (is, apart) ↦ among-right (with_rule n rows) (all_moves n rows) _ (among-all n rule row rows (below-suc rule n within apart) among)
]

-- ---- values that can be told apart

module _ {V : Type 0} (same : (v w : V) → Decided (v ≡ w)) where
  pub same_list : (vs ws : List V) → Decided (vs ≡ ws)
  same_list [] [] = inl refl
  same_list [] (w ∷ ws) = inr (λ e. cc)
  same_list (v ∷ vs) [] = inr (λ e. cc)
  same_list (v ∷ vs) (w ∷ ws) = elim (same v w) [
    | inl e ↦ elim (same_list vs ws) [ inl es ↦ inl (cc) | inr isnt ↦ inr (λ all. isnt (cc)) ]
    | inr isnt ↦ inr (λ all. isnt (cc))
  ]

  same_option : (o p : Option V) → Decided (o ≡ p)
  same_option None None = inl refl
  same_option None (Some w) = inr (λ e. none-some w e)
  same_option (Some v) None = inr (λ e. none-some v (sym e))
  same_option (Some v) (Some w) = elim (same v w) [ inl e ↦ inl (ap Some e) | inr isnt ↦ inr (λ e. isnt (same_Some v w e)) ]

  -- different lists differ at a place, and nowhere before
  place_of : (vs ws : List V) → vs ≢ ws → (place : ℕ) × DifferFirstAt vs ws place
  place_of [] [] apart = absurd (apart refl)
  place_of [] (w ∷ ws) apart = (0, record { before = refl; here = λ e. none-some w e })
  place_of (v ∷ vs) [] apart = (0, record { before = refl; here = λ e. none-some v (sym e) })
  place_of (v ∷ vs) (w ∷ ws) apart = elim (same v w) [
    | inl e ↦
        let (place, first) = place_of vs ws (λ es. apart (cc)) in
        (suc place, record { before = ap (λ u. u ∷ take place vs) e ∙ ap (λ us. w ∷ us) first.before; here = first.here })
    | inr isnt ↦ (0, record { before = refl; here = λ e. isnt (same_Some v w e) })
  ]

same_options : {V : Type 0} → ((v w : V) → Decided (v ≡ w)) → (os ps : List (Option V)) → Decided (os ≡ ps)
same_options same os ps = same_list (same_option same) os ps

fits : {V : Type 0} (is_text : V → List ℕ → Bool) (cell : EditCell) (v : V) → Decided (Fits is_text cell v)
fits is_text Any v = inl tt
fits is_text (Is text) v = same_bool (is_text v text) true
fits is_text (Not text) v = same_bool (is_text v text) false

module _ {V : Type 0} (same : (v w : V) → Decided (v ≡ w)) (basis : Basis V) where
  matches : (tuple : List V) (pattern : List (ℕ × EditCell)) → Decided (MatchesPattern basis.is_text tuple pattern)
  matches tuple pattern = each (λ (p : ℕ × EditCell). IsSomeAnd (slice_get tuple p.0) (Fits basis.is_text p.1)) (λ p. of_some (slice_get tuple p.0) (Fits basis.is_text p.1) (fits basis.is_text p.1)) pattern

  ready : (stage : Stage V) (rule : EditRule) → Decided (IsReady basis stage rule)
  ready stage rule =
      let parts_of =
      both (same_number rule.table basis.table)
      (both (each (λ attr. stage.validated attr ≡ true) (λ attr. same_bool (stage.validated attr) true) rule.x)
      (both (each (λ (p : ℕ × EditCell). stage.validated p.0 ≡ true) (λ p. same_bool (stage.validated p.0) true) rule.when)
      (both (same_bool (stage.validated rule.target) false)
      (matches stage.tuple rule.when)))) in
      elim parts_of [
        | inl all ↦ inl (record { table = all.0; matched = all.1.0; asked = all.1.1.0; target = all.1.1.1.0; pattern = all.1.1.1.1 })
        | inr isnt ↦ inr (λ is. isnt (is.table, (is.matched, (is.asked, (is.target, is.pattern)))))
      ]

  applies : (stage : Stage V) (move : Move) → Decided (Applies basis stage move)
  applies stage move = of_some (correction basis move) (Corrects basis stage) (λ (rule, master). both (ready stage rule) (same_options same (values_in stage.tuple rule.x) (values_in master rule.xm)))

-- what a correction has is there
correction-parts : {V : Type 0} (basis : Basis V) (move : Move) (c : EditRule × List V) → correction basis move ≡ Some c → (slice_get basis.rules move.rule ≡ Some c.0) × (basis.masters c.0.master move.master ≡ Some c.1)
correction-parts {V} basis move c is = correction-at (slice_get basis.rules move.rule) refl is
  where
    at_row : (rule : EditRule) (row : Option (List V)) → basis.masters rule.master move.master ≡ row → option_map (λ (m : List V). (rule, m)) row ≡ Some c → slice_get basis.rules move.rule ≡ Some rule → (slice_get basis.rules move.rule ≡ Some c.0) × (basis.masters c.0.master move.master ≡ Some c.1)
    at_row rule None row is there = absurd (none-some c is)
    at_row rule (Some m) row is there =
        let pair = same_Some (rule, m) c is in
        (there ∙ ap (λ (d : EditRule × List V). Some d.0) pair, subst (λ (d : EditRule × List V). basis.masters d.0.master move.master ≡ Some d.1) pair row)

    correction-at : (o : Option EditRule) → slice_get basis.rules move.rule ≡ o → option_and_then (λ (rule : EditRule). option_map (λ (m : List V). (rule, m)) (basis.masters rule.master move.master)) o ≡ Some c → (slice_get basis.rules move.rule ≡ Some c.0) × (basis.masters c.0.master move.master ≡ Some c.1)
    correction-at None there is = absurd (none-some c is)
    correction-at (Some rule) there is = at_row rule (basis.masters rule.master move.master) refl is there

-- what a question has as its verdict
abbrev pub HasVerdict : {V : Type 0} → Question V → Type 0
HasVerdict question =
    ((moves : List Move) × IsFullRun question moves × AllEndIn question (stage_after question moves).tuple)
    ⊎ ((one : List Move) × (other : List Move) × (attr : ℕ) × IsFullRun question one × IsFullRun question other × DifferFirstAt (stage_after question one).tuple (stage_after question other).tuple attr)

-- a number above the targets of all rules
abbrev targets_of : List EditRule → ℕ
targets_of [] = 0
targets_of (rule ∷ rules) = rule.target + 1 + targets_of rules

target-below : (rules : List EditRule) (number : ℕ) (rule : EditRule) → slice_get rules number ≡ Some rule → rule.target < targets_of rules
target-below [] number rule there = absurd (none-some rule there)
target-below (first ∷ rules) zero rule there =
    let same : first.target ≡ rule.target = ap (λ (r : EditRule). r.target) (same_Some first rule there) in
    omega (arith, same)
target-below (first ∷ rules) (suc number) rule there = let later = target-below rules number rule there in omega (arith, later)

-- values can be told apart, and these are the ids of all master rows
pub has-verdict : {V : Type 0} (same : (v w : V) → (v ≡ w) ⊎ (v ≢ w)) (question : Question V) (rows : List ℕ)
    → ((table row : ℕ) (tuple : List V) → question.basis.masters table row ≡ Some tuple → Among rows row)
    → HasVerdict question
has-verdict {V} same question rows listed = elim verdict [
  | inl agree ↦ inl (agree.moves, agree.full, agree.all)
  | inr differ ↦
      let (attr, first) = place_of same _ _ differ.differ in
      inr (differ.one, differ.other, attr, differ.full_one, differ.full_other, first)
]
  where
    basis : Basis V
    basis = question.basis

    width : ℕ
    width = targets_of basis.rules

    among : (stage : Stage V) (move : Move) → Applies basis stage move → Among (all_moves (length basis.rules) rows) move
    among stage move fact =
        let (c, is, corrects) = parts basis stage move fact in
        let (rule, row) = correction-parts basis move c is in
        among-all (length basis.rules) move.rule move.master rows (slice_get_within basis.rules move.rule c.0 rule) (listed c.0.master move.master c.1 row)

    fewer : (stage : Stage V) (move : Move) → Applies basis stage move → unmarked (after basis stage move).validated width < unmarked stage.validated width
    fewer stage move fact =
        let (c, is, corrects) = parts basis stage move fact in
        let (rule, row) = correction-parts basis move c is in
        let within = target-below basis.rules move.rule c.0 rule in
        let less = one-less stage.validated c.0.target width within corrects.0.target in
        subst (λ (s : Stage V). unmarked s.validated width < unmarked stage.validated width) (sym (after-is basis stage move c is)) less

    verdict : Agree (Applies basis) (after basis) (λ (s : Stage V). s.tuple) question.stage ⊎ Differ (Applies basis) (after basis) (λ (s : Stage V). s.tuple) question.stage
    verdict = judged (Applies basis) (after basis) (λ (s : Stage V). s.tuple) (same_list same) (applies same basis) (all_moves (length basis.rules) rows) among (λ (s : Stage V). unmarked s.validated width) fewer question.stage
