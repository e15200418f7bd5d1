-- What is in the lists of a search: left sides, and what is found.
use Rattle.std.proofs.Common.{◌≡◌, ℕ, zero, suc, ◌+◌, ◌<◌, ◌≤◌, true, false, ◌&&◌, cond, List, [], ◌∷◌, ◌++◌, take, length, length-append, None, Some, All, get_or, refl, sym, ap, subst, ◌∙◌, arith, ⊎_elim}
use Rattle.std.specs.Prelude.{nat_eq, nat_lt, slice_index_or}
use Rattle.std.specs.List.{Contains, list_all, list_any}
use Rattle.std.proofs.lemmas.Bool.{and_parts, cases_eq, cond-true, cond-false, cond_both, lt-ltb, ltb-true}
use Rattle.std.proofs.Math.Seq.{get_or-append_seam}
use Rattle.std.proofs.lemmas.List.{get_or_append_left, get_or_default, take_all, take_more}
use Rattle.std.proofs.lemmas.List.Elements.{All-append, All-cons, All-nil, All-take, All-weaker, Contains-append_left, Contains-append_right}
use Rattle.cfd_semantics.proofs.Members.{contains-here}
use Rattle.dep_search.specs.Counting.{gathered}
use Rattle.dep_search.specs.Rows.{Row}
use Rattle.dep_search.specs.Found.{all_found, constant_at, constants_at, found_at, found_on, is_constant, is_plain, left_sides, longer, plain_at, side_at, sides_of_size}
use Rattle.dep_search.specs.declared.candidate.Candidate.{Candidate}
use Rattle.dep_finder.proofs.KeptParts.{IsRising}

pub gathered_has : {A : Type 0} (f : ℕ → List A) (n k : ℕ) (y : A) → k < n → Contains (f k) y → Contains (gathered f n) y
gathered_has f zero k y kl among = absurd (omega arith)
gathered_has f (suc n) k y kl among =
    ⊎_elim (λ (e : k ≡ n). Contains-append_right (gathered f n) (f n) y (subst (λ (m : ℕ). Contains (f m) y) e among))
    (λ (ne : k ≡ n → ⊥). Contains-append_left (gathered f n) (f n) y (gathered_has f n k y (omega (arith, ne)) among))
    (cases_eq k n)

-- what is so of all that each number gives is so of all
gathered_all : {A : Type 0} (P : A → Type 0) (f : ℕ → List A) (n : ℕ) → ((k : ℕ) → k < n → All P (f k)) → All P (gathered f n)
gathered_all P f zero each = All-nil P
gathered_all P f (suc n) each = All-append P (gathered f n) (f n) (gathered_all P f n (λ k l. each k (omega arith))) (each n (omega arith))

-- ---- left sides

all_below : (x : List ℕ) (attr : ℕ) → All (λ before. before < attr) x → list_all (λ before. nat_lt before attr) x ≡ true
all_below [] attr below = refl
all_below (first ∷ x) attr below =
    let here : nat_lt first attr ≡ true = lt-ltb first attr (below 0 0 (omega arith)) in
    let rest = all_below x attr (λ k d kl. below (suc k) d (omega arith)) in
    λ i. here i && rest i

longer_has : (attrs : ℕ) (x : List ℕ) (attr : ℕ) → attr < attrs → All (λ before. before < attr) x → Contains (longer attrs x) (x ++ attr ∷ [])
unfolding longer
longer_has attrs x attr al below =
    gathered_has (λ attr. cond (list_all (λ before. nat_lt before attr) x) ((x ++ attr ∷ []) ∷ []) []) attrs attr (x ++ attr ∷ []) al
    (subst (λ (xs : List (List ℕ)). Contains xs (x ++ attr ∷ [])) (sym (cond-true (list_all (λ before. nat_lt before attr) x) ((x ++ attr ∷ []) ∷ []) [] (all_below x attr below)))
    (contains-here (x ++ attr ∷ []) []))

of_size : (attrs size : ℕ) (x : List ℕ) → length x ≡ size → IsRising x → All (λ attr. attr < attrs) x → Contains (sides_of_size attrs size) x
of_size attrs zero [] e rising within = contains-here [] []
of_size attrs zero (attr ∷ x) e rising within = absurd (omega arith)
of_size attrs (suc size) x e rising within =
    let last = get_or x size 0 in
    let front = take size x in
    let inside : size < length x = omega (arith, e) in
    let whole : front ++ last ∷ [] ≡ x = sym (take_more x size 0 inside) ∙ take_all (size + 1) x (omega (arith, e)) in
    let long : length front ≡ size = front_long x size (omega (arith, e)) in
    let rises : IsRising front = λ i j d lt jl.
    subst (λ (m : ℕ). m < get_or front j d) (sym (front_at x size i d (omega (arith, long))))
    (subst (λ (m : ℕ). get_or x i d < m) (sym (front_at x size j d (omega (arith, long)))) (rising i j d lt (omega (arith, long, e)))) in
    let below : All (λ before. before < last) front = λ k d kl.
    subst (λ (m : ℕ). m < last) (sym (front_at x size k d (omega (arith, long))))
    (subst (λ (m : ℕ). get_or x k d < m) (get_or_default x size d 0 inside) (rising k size d (omega (arith, long)) inside)) in
    let (n, nl, is) = of_size attrs size front long rises (All-take (λ (attr : ℕ). attr < attrs) size x within) in
    let sides = sides_of_size attrs size in
    let there : slice_index_or sides n [] ≡ front = get_or_default sides n [] front nl ∙ is in
    gathered_has (λ n. longer attrs (slice_index_or sides n [])) (length sides) n x nl
    (subst (λ (y : List ℕ). Contains (longer attrs y) x) (sym there) (subst (Contains (longer attrs front)) whole (longer_has attrs front last (within size 0 inside) below)))
  where
    front_long : (x : List ℕ) (n : ℕ) → n ≤ length x → length (take n x) ≡ n
    front_long x zero le = refl
    front_long [] (suc n) le = absurd (omega arith)
    front_long (y ∷ x) (suc n) le = ap suc (front_long x n (omega arith))

    front_at : (x : List ℕ) (n k d : ℕ) → k < n → get_or (take n x) k d ≡ get_or x k d
    front_at x zero k d kl = absurd (omega arith)
    front_at [] (suc n) k d kl = refl
    front_at (y ∷ x) (suc n) zero d kl = refl
    front_at (y ∷ x) (suc n) (suc k) d kl = front_at x n k d (omega arith)

-- X is a left side
pub left_side : (attrs width : ℕ) (x : List ℕ) → IsRising x → length x ≤ width → All (λ attr. attr < attrs) x
    → (side : ℕ) × (side < length (left_sides attrs width)) × (side_at (left_sides attrs width) side ≡ x)
unfolding left_sides
left_side attrs width x rising narrow within =
    let sides = gathered (sides_of_size attrs) (width + 1) in
    let (side, sl, is) = gathered_has (sides_of_size attrs) (width + 1) (length x) x (omega arith) (of_size attrs (length x) x refl rising within) in
    (side, sl, get_or_default sides side [] x sl ∙ is)

-- what a left side is
pub record IsSide (attrs width : ℕ) (x : List ℕ) : Type 0 where
  pub rising : IsRising x
  pub narrow : length x ≤ width
  pub within : All (λ attr. attr < attrs) x

-- so many attributes that rise
record HasSize (attrs size : ℕ) (x : List ℕ) : Type 0 where
  rising : IsRising x
  long : length x ≡ size
  within : All (λ attr. attr < attrs) x

below_all : (x : List ℕ) (attr : ℕ) → list_all (λ before. nat_lt before attr) x ≡ true → All (λ before. before < attr) x
below_all [] attr e = All-nil (λ (before : ℕ). before < attr)
below_all (first ∷ x) attr e =
    let parts = and_parts (nat_lt first attr) (list_all (λ before. nat_lt before attr) x) e in
    All-cons (λ (before : ℕ). before < attr) first x (ltb-true first attr parts.0) (below_all x attr parts.1)

-- one more behind those that rise
rises_on : (x : List ℕ) (attr : ℕ) → IsRising x → All (λ before. before < attr) x → IsRising (x ++ attr ∷ [])
rises_on x attr rising below = λ i j d lt jl.
    let last : j < length x + 1 = omega (arith, jl, length-append x (attr ∷ [])) in
    let here = λ (k : ℕ) (kl : k < length x). get_or_append_left x (attr ∷ []) d k kl in
    ⊎_elim
    (λ (e : j ≡ length x).
    let il : i < length x = omega (arith, e) in
    subst (λ (m : ℕ). m < get_or (x ++ attr ∷ []) j d) (sym (here i il))
    (subst (λ (m : ℕ). get_or x i d < m) (sym (ap (λ (k : ℕ). get_or (x ++ attr ∷ []) k d) e ∙ get_or-append_seam x attr [] d)) (below i d il)))
    (λ (ne : j ≡ length x → ⊥).
    let inside : j < length x = omega (arith, ne) in
    subst (λ (m : ℕ). m < get_or (x ++ attr ∷ []) j d) (sym (here i (omega arith)))
    (subst (λ (m : ℕ). get_or x i d < m) (sym (here j inside)) (rising i j d lt inside)))
    (cases_eq j (length x))

longer_sized : (attrs size : ℕ) (x : List ℕ) → HasSize attrs size x → All (HasSize attrs (suc size)) (longer attrs x)
unfolding longer
longer_sized attrs size x is =
    gathered_all (HasSize attrs (suc size)) (λ attr. cond (list_all (λ before. nat_lt before attr) x) ((x ++ attr ∷ []) ∷ []) []) attrs (λ attr al.
    cond_both (list_all (λ before. nat_lt before attr) x) ((x ++ attr ∷ []) ∷ []) [] (All (HasSize attrs (suc size)))
    (λ below. All-cons (HasSize attrs (suc size)) (x ++ attr ∷ []) [] (record {
      rising = rises_on x attr is.rising (below_all x attr below);
      long = omega (arith, length-append x (attr ∷ []), is.long);
      within = All-append (λ (a : ℕ). a < attrs) x (attr ∷ []) is.within (All-cons (λ (a : ℕ). a < attrs) attr [] al (All-nil (λ (a : ℕ). a < attrs)));
    }) (All-nil (HasSize attrs (suc size))))
    (λ _. All-nil (HasSize attrs (suc size))))

sized : (attrs size : ℕ) → All (HasSize attrs size) (sides_of_size attrs size)
sized attrs zero = All-cons (HasSize attrs zero) [] [] (record { rising = λ i j d lt jl. absurd (omega arith); long = refl; within = All-nil (λ (a : ℕ). a < attrs) }) (All-nil (HasSize attrs zero))
sized attrs (suc size) =
    gathered_all (HasSize attrs (suc size)) (λ n. longer attrs (slice_index_or (sides_of_size attrs size) n [])) (length (sides_of_size attrs size)) (λ n nl.
    longer_sized attrs size (slice_index_or (sides_of_size attrs size) n []) (sized attrs size n [] nl))

pub sides_are : (attrs width : ℕ) → All (IsSide attrs width) (left_sides attrs width)
unfolding left_sides
sides_are attrs width =
    gathered_all (IsSide attrs width) (sides_of_size attrs) (width + 1) (λ size sl.
    All-weaker (HasSize attrs size) (IsSide attrs width) (λ x is. record { rising = is.rising; narrow = omega (arith, is.long, sl); within = is.within }) (sides_of_size attrs size) (sized attrs size))

-- ---- what is found

abbrev pub plain_of : ℕ → ℕ → Candidate
plain_of a side = record { a = a; side = side; row = None }

abbrev pub constant_of : ℕ → ℕ → ℕ → Candidate
constant_of a side r = record { a = a; side = side; row = Some r }

on_side : (rows : List Row) (support attrs : ℕ) (sides : List (List ℕ)) (side a : ℕ) (c : Candidate) → side < length sides → a < attrs → list_any (nat_eq a) (side_at sides side) ≡ false
    → Contains (plain_at rows side (side_at sides side) a ++ constants_at rows support side (side_at sides side) a) c → Contains (all_found rows support attrs sides) c
unfolding all_found found_on found_at
on_side rows support attrs sides side a c sl al outside among =
    gathered_has (λ side. found_on rows support attrs side (side_at sides side)) (length sides) side c sl
    (gathered_has (found_at rows support side (side_at sides side)) attrs a c al
    (subst (λ (xs : List Candidate). Contains xs c) (sym (cond-false (list_any (nat_eq a) (side_at sides side)) []
    (plain_at rows side (side_at sides side) a ++ constants_at rows support side (side_at sides side) a) outside)) among))

pub plain_found : (rows : List Row) (support attrs : ℕ) (sides : List (List ℕ)) (side a : ℕ) → side < length sides → a < attrs → list_any (nat_eq a) (side_at sides side) ≡ false
    → is_plain rows (side_at sides side) a ≡ true → Contains (all_found rows support attrs sides) (plain_of a side)
unfolding plain_at
plain_found rows support attrs sides side a sl al outside is =
    let x = side_at sides side in
    on_side rows support attrs sides side a (plain_of a side) sl al outside
    (Contains-append_left (plain_at rows side x a) (constants_at rows support side x a) (plain_of a side)
    (subst (λ (xs : List Candidate). Contains xs (plain_of a side)) (sym (cond-true (is_plain rows x a) (plain_of a side ∷ []) [] is)) (contains-here (plain_of a side) [])))

pub constant_found : (rows : List Row) (support attrs : ℕ) (sides : List (List ℕ)) (side a r : ℕ) → side < length sides → a < attrs → list_any (nat_eq a) (side_at sides side) ≡ false
    → r < length rows → is_constant rows support (side_at sides side) a r ≡ true → Contains (all_found rows support attrs sides) (constant_of a side r)
unfolding constant_at
constant_found rows support attrs sides side a r sl al outside rl is =
    let x = side_at sides side in
    on_side rows support attrs sides side a (constant_of a side r) sl al outside
    (Contains-append_right (plain_at rows side x a) (constants_at rows support side x a) (constant_of a side r)
    (gathered_has (constant_at rows support side x a) (length rows) r (constant_of a side r) rl
    (subst (λ (xs : List Candidate). Contains xs (constant_of a side r)) (sym (cond-true (is_constant rows support x a r) (constant_of a side r ∷ []) [] is)) (contains-here (constant_of a side r) []))))

-- ---- and nothing else is

-- what is so of each one that is found is so of all
pub found_each : (P : Candidate → Type 0) (rows : List Row) (support attrs : ℕ) (sides : List (List ℕ))
    → ((side a : ℕ) → side < length sides → a < attrs → list_any (nat_eq a) (side_at sides side) ≡ false → is_plain rows (side_at sides side) a ≡ true → P (plain_of a side))
    → ((side a r : ℕ) → side < length sides → a < attrs → list_any (nat_eq a) (side_at sides side) ≡ false → r < length rows
    → is_constant rows support (side_at sides side) a r ≡ true → P (constant_of a side r))
    → All P (all_found rows support attrs sides)
unfolding all_found found_on found_at plain_at constant_at
found_each P rows support attrs sides plain constant =
    gathered_all P (λ side. found_on rows support attrs side (side_at sides side)) (length sides) (λ side sl.
    gathered_all P (found_at rows support side (side_at sides side)) attrs (λ a al.
    let x = side_at sides side in
    cond_both (list_any (nat_eq a) x) [] (plain_at rows side x a ++ constants_at rows support side x a) (All P) (λ _. All-nil P) (λ outside.
    All-append P (plain_at rows side x a) (constants_at rows support side x a)
    (cond_both (is_plain rows x a) (plain_of a side ∷ []) [] (All P) (λ is. All-cons P _ [] (plain side a sl al outside is) (All-nil P)) (λ _. All-nil P))
    (gathered_all P (constant_at rows support side x a) (length rows) (λ r rl.
    cond_both (is_constant rows support x a r) (constant_of a side r ∷ []) [] (All P) (λ is. All-cons P _ [] (constant side a r sl al outside rl is) (All-nil P)) (λ _. All-nil P))))))
