-- Taking attributes away: by a test of which are kept, and by the lists that are left.
use Rattle.std.proofs.Common.{◌≡◌, ℕ, zero, suc, ◌+◌, ◌<◌, ◌≤◌, Bool, true, false, not, ◌&&◌, ◌||◌, cond, List, [], ◌∷◌, ◌++◌, map, filter, length, All, get_or, refl, sym, ap, subst, ◌∙◌, arith, ⊎_elim, eqb}
use Rattle.std.specs.Prelude.{AllPairs, nat_eq}
use Rattle.std.specs.List.{Contains, list_all}
use Rattle.std.proofs.lemmas.Bool.{and_parts, and_left, cases_Bool, cond-true, cond-false, eq-eqb, ne_eqb, true≢false}
use Rattle.std.proofs.lemmas.List.Elements.{All-head, All-tail, Contains-append_cases, Contains-append_left, Contains-append_right}
use Rattle.cfd_semantics.specs.declared.pattern.Pattern.{Pattern}
use Rattle.cfd_semantics.proofs.Members.{contains-here, contains-map, contains_cases, contains_from_map, contains_nothing}
use Rattle.dep_search.specs.Found.{proper_parts}
use Rattle.dep_finder.specs.Minimal.{kept_cells}

-- numbers that rise
abbrev pub IsRising : List ℕ → Type 0
IsRising x = AllPairs ◌<◌ x

pub rising_tail : (attr : ℕ) (x : List ℕ) → IsRising (attr ∷ x) → IsRising x
rising_tail attr x rising = λ i j d lt within. rising (suc i) (suc j) d (omega arith) (omega arith)

-- the first is below the others
pub rising_head : (attr : ℕ) (x : List ℕ) → IsRising (attr ∷ x) → All (λ other. attr < other) x
rising_head attr x rising = λ k d within. rising zero (suc k) d (omega arith) (omega arith)

-- ---- what tests keep

pub filter_all : (kept : ℕ → Bool) (x : List ℕ) → list_all kept x ≡ true → filter kept x ≡ x
filter_all kept [] e = refl
filter_all kept (attr ∷ x) e =
    let parts = and_parts (kept attr) (list_all kept x) e in
    cond-true (kept attr) (attr ∷ filter kept x) (filter kept x) parts.0 ∙ ap (λ (y : List ℕ). attr ∷ y) (filter_all kept x parts.1)

pub filter_same : (p q : ℕ → Bool) (x : List ℕ) → All (λ attr. p attr ≡ q attr) x → filter p x ≡ filter q x
filter_same p q [] same = refl
filter_same p q (attr ∷ x) same =
    let here = All-head (λ (attr : ℕ). p attr ≡ q attr) attr x same in
    let rest = filter_same p q x (All-tail (λ (attr : ℕ). p attr ≡ q attr) attr x same) in
    λ i. cond (here i) (attr ∷ rest i) (rest i)

pub all_same : (p q : ℕ → Bool) (x : List ℕ) → All (λ attr. p attr ≡ q attr) x → list_all p x ≡ list_all q x
all_same p q [] same = refl
all_same p q (attr ∷ x) same =
    let here = All-head (λ (attr : ℕ). p attr ≡ q attr) attr x same in
    let rest = all_same p q x (All-tail (λ (attr : ℕ). p attr ≡ q attr) attr x same) in
    λ i. here i && rest i

pub filter_filter : (p q : ℕ → Bool) (x : List ℕ) → filter q (filter p x) ≡ filter (λ attr. p attr && q attr) x
filter_filter p q [] = refl
filter_filter p q (attr ∷ x) =
    let rest = filter_filter p q x in
    elim (p attr) as (λ b. filter q (cond b (attr ∷ filter p x) (filter p x)) ≡ cond (b && q attr) (attr ∷ filter (λ attr. p attr && q attr) x) (filter (λ attr. p attr && q attr) x)) [
      | true ↦ ap (λ (y : List ℕ). cond (q attr) (attr ∷ y) y) rest
      | false ↦ rest
    ]

pub filter_shorter : (kept : ℕ → Bool) (x : List ℕ) → length (filter kept x) ≤ length x
filter_shorter kept [] = omega arith
filter_shorter kept (attr ∷ x) =
    let rest = filter_shorter kept x in
    elim (kept attr) as (λ b. length (cond b (attr ∷ filter kept x) (filter kept x)) ≤ suc (length x)) [ true ↦ omega arith | false ↦ omega arith ]

-- something is taken away
pub filter_less : (kept : ℕ → Bool) (x : List ℕ) → list_all kept x ≡ false → length (filter kept x) < length x
filter_less kept [] e = absurd (true≢false e)
filter_less kept (attr ∷ x) e =
    let rest = filter_less kept x in
    let shorter = filter_shorter kept x in
    let by = elim (kept attr) as (λ b. (b && list_all kept x) ≡ false → length (cond b (attr ∷ filter kept x) (filter kept x)) < suc (length x)) [
      | true ↦ λ f. omega (arith, rest f)
      | false ↦ λ f. omega arith
    ] in
    by e

-- the cells of what is kept
pub kept_cells_of : (f : ℕ → Pattern (List ℕ)) (kept : ℕ → Bool) (x : List ℕ) → kept_cells kept x (map f x) ≡ map f (filter kept x)
kept_cells_of f kept [] = refl
kept_cells_of f kept (attr ∷ x) =
    let rest = kept_cells_of f kept x in
    elim (kept attr) as (λ b. cond b (f attr ∷ kept_cells kept x (map f x)) (kept_cells kept x (map f x)) ≡ map f (cond b (attr ∷ filter kept x) (filter kept x))) [
      | true ↦ ap (λ (cells : List (Pattern (List ℕ))). f attr ∷ cells) rest
      | false ↦ rest
    ]

-- ---- the lists that are left where one or more are taken away

-- the parts of X, each with one more in front
abbrev with_first : ℕ → List ℕ → List (List ℕ)
with_first attr x = map (λ (part : List ℕ). attr ∷ part) (proper_parts x)

pub kept_is_part : (kept : ℕ → Bool) (x : List ℕ) → list_all kept x ≡ false → Contains (proper_parts x) (filter kept x)
kept_is_part kept [] e = absurd (true≢false e)
kept_is_part kept (attr ∷ x) e =
    let rest = kept_is_part kept x in
    let whole = filter_all kept x in
    let with_it = λ (f : list_all kept x ≡ false). Contains-append_right (proper_parts x) (with_first attr x ++ x ∷ []) (attr ∷ filter kept x)
    (Contains-append_left (with_first attr x) (x ∷ []) (attr ∷ filter kept x) (contains-map (λ (part : List ℕ). attr ∷ part) (proper_parts x) (filter kept x) (rest f))) in
    let without : Contains (proper_parts x ++ (with_first attr x ++ x ∷ [])) (filter kept x) =
    ⊎_elim
    (λ (all : list_all kept x ≡ true). Contains-append_right (proper_parts x) (with_first attr x ++ x ∷ []) (filter kept x)
    (Contains-append_right (with_first attr x) (x ∷ []) (filter kept x) (subst (Contains (x ∷ [])) (sym (whole all)) (contains-here x []))))
    (λ (some : list_all kept x ≡ false). Contains-append_left (proper_parts x) (with_first attr x ++ x ∷ []) (filter kept x) (rest some))
    (cases_Bool (list_all kept x)) in
    let by = elim (kept attr) as (λ b. (b && list_all kept x) ≡ false → Contains (proper_parts x ++ (with_first attr x ++ x ∷ [])) (cond b (attr ∷ filter kept x) (filter kept x))) [
      | true ↦ λ f. with_it f
      | false ↦ λ f. without
    ] in
    by e

-- which of them are kept, where attributes rise
pub record IsKept (x part : List ℕ) : Type 0 where
  pub kept : ℕ → Bool
  pub less : list_all kept x ≡ false
  pub is : filter kept x ≡ part

apart : (attr : ℕ) (x : List ℕ) → IsRising (attr ∷ x) → All (λ other. nat_eq attr other ≡ false) x
apart attr x rising = λ k d kl. let below = rising_head attr x rising k d kl in ne_eqb _ _ (λ e. omega (arith, below, e))

pub part_is_kept : (x part : List ℕ) → IsRising x → Contains (proper_parts x) part → IsKept x part
part_is_kept [] part rising among = absurd (contains_nothing part among)
part_is_kept (attr ∷ x) part rising among =
    ⊎_elim (λ (less : Contains (proper_parts x) part). without part (part_is_kept x part (rising_tail attr x rising) less))
    (λ (more : Contains (with_first attr x ++ x ∷ []) part).
    ⊎_elim
    (λ (among : Contains (with_first attr x) part).
    let (rest, less, is) = contains_from_map (λ (part : List ℕ). attr ∷ part) (proper_parts x) part among in
    subst (IsKept (attr ∷ x)) is (with_it rest (part_is_kept x rest (rising_tail attr x rising) less)))
    (λ (last : Contains (x ∷ []) part).
    ⊎_elim (λ (is : x ≡ part). subst (IsKept (attr ∷ x)) is all_but) (λ (no : Contains [] part). absurd (contains_nothing part no)) (contains_cases part x [] last))
    (Contains-append_cases (with_first attr x) (x ∷ []) part more))
    (Contains-append_cases (proper_parts x) (with_first attr x ++ x ∷ []) part among)
  where
    away : All (λ other. nat_eq attr other ≡ false) x
    away = apart attr x rising

    -- the first is taken away, and so are others
    without : (part : List ℕ) → IsKept x part → IsKept (attr ∷ x) part
    without part is =
        let kept = λ (other : ℕ). not (nat_eq attr other) && is.kept other in
        let here : kept attr ≡ false = and_left (not (nat_eq attr attr)) (is.kept attr) (ap not (eq-eqb attr attr refl)) in
        let same : All (λ other. kept other ≡ is.kept other) x = λ k d kl. λ i. not (away k d kl i) && is.kept (get_or x k d) in
        record {
          kept = kept;
          less = and_left (kept attr) (list_all kept x) here;
          is = cond-false (kept attr) (attr ∷ filter kept x) (filter kept x) here ∙ filter_same kept is.kept x same ∙ is.is;
        }

    -- the first stays, and others are taken away
    with_it : (rest : List ℕ) → IsKept x rest → IsKept (attr ∷ x) (attr ∷ rest)
    with_it rest is =
        let kept = λ (other : ℕ). nat_eq attr other || is.kept other in
        let here : kept attr ≡ true = ap (λ (b : Bool). b || is.kept attr) (eq-eqb attr attr refl) in
        let same : All (λ other. kept other ≡ is.kept other) x = λ k d kl. λ i. away k d kl i || is.kept (get_or x k d) in
        record {
          kept = kept;
          less = ap (λ (b : Bool). b && list_all kept x) here ∙ all_same kept is.kept x same ∙ is.less;
          is = cond-true (kept attr) (attr ∷ filter kept x) (filter kept x) here ∙ ap (λ (y : List ℕ). attr ∷ y) (filter_same kept is.kept x same ∙ is.is);
        }

    -- the first alone is taken away
    all_but : IsKept (attr ∷ x) x
    all_but =
        let kept = λ (other : ℕ). not (nat_eq attr other) in
        let here : kept attr ≡ false = ap not (eq-eqb attr attr refl) in
        let same : All (λ other. kept other ≡ true) x = λ k d kl. ap not (away k d kl) in
        record {
          kept = kept;
          less = and_left (kept attr) (list_all kept x) here;
          is = cond-false (kept attr) (attr ∷ filter kept x) (filter kept x) here ∙ filter_same kept (λ other. true) x same ∙ filter_all (λ other. true) x (all_true x);
        }
      where
        all_true : (x : List ℕ) → list_all (λ (other : ℕ). true) x ≡ true
        all_true [] = refl
        all_true (attr ∷ x) = all_true x
