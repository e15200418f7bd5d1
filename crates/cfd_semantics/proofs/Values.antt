-- Steps of the walks over attributes: one more attribute is one more test.
use Rattle.std.proofs.Common.{◌≡◌, ◌≢◌, ℕ, ◌+◌, ◌<◌, ◌≤◌, Bool, true, false, ◌&&◌, List, [], ◌∷◌, length, get_or, drop, Option, Some, None, refl, sym, ap, ◌∙◌, arith}
use Rattle.std.specs.Prelude.{is_some, slice_get}
use Rattle.std.specs.Option.{option_map_or}
use Rattle.std.specs.Cmp.Lexicographic.{pointwise}
use Rattle.std.proofs.lemmas.List.{drop_more, drop_all}
use Rattle.cfd_semantics.specs.Tuple.{with_both, values_at}

pub and-false : (b : Bool) → (b && false) ≡ false
and-false true = refl
and-false false = refl

-- ---- the tuple has the attributes

both_there : {A B C : Type 0} (f : A → B → C) (one : Option A) (other : Option B) → is_some (with_both f one other) ≡ (is_some one && is_some other)
both_there f None other = refl
both_there f (Some a) None = refl
both_there f (Some a) (Some b) = refl

pub has-more : {V : Type 0} (tuple : List V) (x : List ℕ) (i attribute : ℕ) → i < length x → attribute ≡ get_or x i 0
    → is_some (values_at tuple (drop i x)) ≡ (is_some (slice_get tuple attribute) && is_some (values_at tuple (drop (i + 1) x)))
has-more tuple x i attribute h is =
    ap (λ rest. is_some (values_at tuple rest)) (drop_more x i 0 h) ∙ both_there (λ v vs. v ∷ vs) (slice_get tuple (get_or x i 0)) (values_at tuple (drop (i + 1) x))
    ∙ ap (λ a. is_some (slice_get tuple a) && is_some (values_at tuple (drop (i + 1) x))) (sym is)

-- ---- its values are as wanted

module _ {A V : Type 0} (R : A → V → Bool) where
  -- the tuple's values at the attributes are as wanted, place by place
  abbrev pub agrees : List A → List V → List ℕ → Bool
  agrees wanted tuple x = option_map_or (pointwise R wanted) (values_at tuple x) false

  agrees-one : (w : A) (ws : List A) (one : Option V) (more : Option (List V)) → option_map_or (pointwise R (w ∷ ws)) (with_both (λ v vs. v ∷ vs) one more) false ≡ (option_map_or (R w) one false && option_map_or (pointwise R ws) more false)
  agrees-one w ws None more = refl
  agrees-one w ws (Some v) None = sym (and-false (R w v))
  agrees-one w ws (Some v) (Some vs) = refl

  pub agrees-more : (wanted : List A) (tuple : List V) (x : List ℕ) (i : ℕ) (w : A) (attribute : ℕ) → i < length wanted → i < length x → w ≡ get_or wanted i w → attribute ≡ get_or x i 0
      → agrees (drop i wanted) tuple (drop i x) ≡ (option_map_or (R w) (slice_get tuple attribute) false && agrees (drop (i + 1) wanted) tuple (drop (i + 1) x))
  agrees-more wanted tuple x i w attribute h k is at =
      ap (λ ws. agrees ws tuple (drop i x)) (drop_more wanted i w h) ∙ ap (λ rest. agrees (get_or wanted i w ∷ drop (i + 1) wanted) tuple rest) (drop_more x i 0 k)
      ∙ agrees-one (get_or wanted i w) (drop (i + 1) wanted) (slice_get tuple (get_or x i 0)) (values_at tuple (drop (i + 1) x))
      ∙ ap (λ v. option_map_or (R v) (slice_get tuple (get_or x i 0)) false && agrees (drop (i + 1) wanted) tuple (drop (i + 1) x)) (sym is)
      ∙ ap (λ a. option_map_or (R w) (slice_get tuple a) false && agrees (drop (i + 1) wanted) tuple (drop (i + 1) x)) (sym at)

  pub agrees-long : (wanted : List A) (tuple : List V) (x : List ℕ) → length wanted ≢ length x → agrees wanted tuple x ≡ false
  agrees-long [] tuple [] long = absurd (long refl)
  agrees-long [] tuple (a ∷ x) long = none (slice_get tuple a) (values_at tuple x)
    where
      none : (one : Option V) (more : Option (List V)) → option_map_or (pointwise R []) (with_both (λ v vs. v ∷ vs) one more) false ≡ false
      none None more = refl
      none (Some v) None = refl
      none (Some v) (Some vs) = refl
  agrees-long (w ∷ ws) tuple [] long = refl
  agrees-long (w ∷ ws) tuple (a ∷ x) long =
      agrees-one w ws (slice_get tuple a) (values_at tuple x) ∙ ap (λ b. option_map_or (R w) (slice_get tuple a) false && b) (agrees-long ws tuple x (λ same. long (omega (arith, same)))) ∙ and-false _

  pub agrees-end : (wanted : List A) (tuple : List V) (x : List ℕ) (i : ℕ) → length wanted ≡ length x → length x ≤ i → agrees (drop i wanted) tuple (drop i x) ≡ true
  agrees-end wanted tuple x i same past =
      ap (λ ws. agrees ws tuple (drop i x)) (drop_all i wanted (omega arith)) ∙ ap (λ rest. agrees [] tuple rest) (drop_all i x past)

-- ---- two tuples have the same values

module _ {V : Type 0} (eq : V → V → Bool) where
  -- the two tuples' values at the attributes are the same, place by place
  abbrev pub agree : List V → List ℕ → List V → List ℕ → Bool
  agree tuple x other y = option_map_or (λ values. option_map_or (pointwise eq values) (values_at other y) false) (values_at tuple x) false

  agree-one : (one : Option V) (more : Option (List V)) (beside : Option V) (rest : Option (List V))
      → option_map_or (λ values. option_map_or (pointwise eq values) (with_both (λ v vs. v ∷ vs) beside rest) false) (with_both (λ v vs. v ∷ vs) one more) false
      ≡ (option_map_or (λ v. option_map_or (eq v) beside false) one false && option_map_or (λ values. option_map_or (pointwise eq values) rest false) more false)
  agree-one None more beside rest = refl
  agree-one (Some v) None beside rest = sym (and-false _)
  agree-one (Some v) (Some vs) None rest = refl
  agree-one (Some v) (Some vs) (Some w) None = sym (and-false _)
  agree-one (Some v) (Some vs) (Some w) (Some ws) = refl

  pub agree-more : (tuple : List V) (x : List ℕ) (other : List V) (y : List ℕ) (i a b : ℕ) → i < length x → i < length y → a ≡ get_or x i 0 → b ≡ get_or y i 0
      → agree tuple (drop i x) other (drop i y) ≡ (option_map_or (λ v. option_map_or (eq v) (slice_get other b) false) (slice_get tuple a) false && agree tuple (drop (i + 1) x) other (drop (i + 1) y))
  agree-more tuple x other y i a b h k is at =
      ap (λ rest. agree tuple rest other (drop i y)) (drop_more x i 0 h) ∙ ap (λ rest. agree tuple (get_or x i 0 ∷ drop (i + 1) x) other rest) (drop_more y i 0 k)
      ∙ agree-one (slice_get tuple (get_or x i 0)) (values_at tuple (drop (i + 1) x)) (slice_get other (get_or y i 0)) (values_at other (drop (i + 1) y))
      ∙ ap (λ n. option_map_or (λ v. option_map_or (eq v) (slice_get other (get_or y i 0)) false) (slice_get tuple n) false && agree tuple (drop (i + 1) x) other (drop (i + 1) y)) (sym is)
      ∙ ap (λ n. option_map_or (λ v. option_map_or (eq v) (slice_get other n) false) (slice_get tuple a) false && agree tuple (drop (i + 1) x) other (drop (i + 1) y)) (sym at)

  pub agree-long : (tuple : List V) (x : List ℕ) (other : List V) (y : List ℕ) → length x ≢ length y → agree tuple x other y ≡ false
  agree-long tuple [] other [] long = absurd (long refl)
  agree-long tuple [] other (b ∷ y) long = none (slice_get other b) (values_at other y)
    where
      none : (one : Option V) (more : Option (List V)) → option_map_or (pointwise eq []) (with_both (λ v vs. v ∷ vs) one more) false ≡ false
      none None more = refl
      none (Some v) None = refl
      none (Some v) (Some vs) = refl
  agree-long tuple (a ∷ x) other [] long = none (slice_get tuple a) (values_at tuple x)
    where
      none : (one : Option V) (more : Option (List V)) → option_map_or (λ values. pointwise eq values []) (with_both (λ v vs. v ∷ vs) one more) false ≡ false
      none None more = refl
      none (Some v) None = refl
      none (Some v) (Some vs) = refl
  agree-long tuple (a ∷ x) other (b ∷ y) long =
      agree-one (slice_get tuple a) (values_at tuple x) (slice_get other b) (values_at other y)
      ∙ ap (λ c. option_map_or (λ v. option_map_or (eq v) (slice_get other b) false) (slice_get tuple a) false && c) (agree-long tuple x other y (λ same. long (omega (arith, same)))) ∙ and-false _

  pub agree-end : (tuple : List V) (x : List ℕ) (other : List V) (y : List ℕ) (i : ℕ) → length x ≡ length y → length x ≤ i → agree tuple (drop i x) other (drop i y) ≡ true
  agree-end tuple x other y i same past =
      ap (λ rest. agree tuple rest other (drop i y)) (drop_all i x past) ∙ ap (λ rest. agree tuple [] other rest) (drop_all i y (omega arith))
