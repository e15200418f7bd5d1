-- What cells give, gathered one after the other.
use Rattle.std.proofs.Common.{⊎_elim, ◌≡◌, ℕ, ◌+◌, ◌<◌, get_or, drop, Bool, true, false, ◌||◌, cond, List, [], ◌∷◌, ◌++◌, length, refl, sym, ap, ◌∙◌, arith}
use Rattle.std.specs.Prelude.{map, filter, ◌==◌, Contains, if◌then◌else◌}
use Rattle.std.specs.List.{flat_map, list_any, range_with_len}
use Rattle.std.specs.Str.{bytes_eq}
use Rattle.std.proofs.lemmas.List.{append-nil, append_assoc, drop_more, length-append, get_or_append_left, get_or_at, map-id, map-append}
use Rattle.std.proofs.lemmas.List.FromFn.{map-range_with_len_more}
use Rattle.std.proofs.lemmas.List.Elements.{filter-append}
use Rattle.text_lists.specs.Repeats.{AreDistinct, is_among}
use Rattle.cfd_semantics.specs.declared.pattern.Pattern.{Pattern}
use Rattle.cfd_semantics.specs.Pattern.{is_set}
use Rattle.rule_model.specs.Declarations.{constants_of}
use Rattle.value_pool.specs.Pool.{Interns}
use Rattle.cell_values.specs.declared.values.Gathered.{Gathered}
use Rattle.cell_values.specs.TableRules.{cells_for}
use Rattle.cell_values.specs.Values.{gather, with_cell, with_text, once_after}
use Rattle.cell_values.proofs.Among.{among_if_Contains, Contains_if_HasId, absent_if_IsNew, not_among}

-- a text that was interned
pub interned_is : (old : List (List ℕ)) (text : List ℕ) (new : List (List ℕ)) → Interns old text new → new ≡ with_text old text
interned_is old text new interned =
    ⊎_elim
    (λ held. let there = among_if_Contains old text (Contains_if_HasId old text held.0 held.1) in rw there held.2)
    (λ new. let absent = not_among old text (absent_if_IsNew old text new.0) in rw absent new.1)
    interned

pub once_after-append : (before xs ys : List (List ℕ)) → once_after before (xs ++ ys) ≡ once_after (once_after before xs) ys
once_after-append before [] ys = refl
once_after-append before (x ∷ xs) ys = once_after-append (with_text before x) xs ys

pub gather-append : (found : Gathered) (xs ys : List (Pattern (List ℕ))) → gather found (xs ++ ys) ≡ gather (gather found xs) ys
gather-append found [] ys = refl
gather-append found (x ∷ xs) ys = gather-append (with_cell found x) xs ys

or-false : (b : Bool) → (b || false) ≡ b
or-false true = refl
or-false false = refl

or-assoc : (a b c : Bool) → ((a || b) || c) ≡ (a || (b || c))
or-assoc true b c = refl
or-assoc false b c = refl

-- the gathered texts are the constants of the cells, each once, and there is an other-value where a cell is a set
pub gather_is : (found : Gathered) (cells : List (Pattern (List ℕ))) → gather found cells ≡ record { values = once_after found.values (flat_map constants_of cells); other = found.other || list_any is_set cells }
gather_is found [] = ap (λ (other : Bool). record { values = found.values; other = other }) (sym (or-false found.other))
gather_is found (cell ∷ cells) =
    gather_is (with_cell found cell) cells
    ∙ ap (λ (values : List (List ℕ)). record { values = values; other = (found.other || is_set cell) || list_any is_set cells }) (sym (once_after-append found.values (constants_of cell) (flat_map constants_of cells)))
    ∙ ap (λ (other : Bool). record { values = once_after found.values (constants_of cell ++ flat_map constants_of cells); other = other }) (or-assoc found.other (is_set cell) (list_any is_set cells))

-- ---- steps of a loop

pub once_after_step : (before after all : List (List ℕ)) (texts : List (List ℕ)) (i : ℕ) (text : List ℕ) → i < length texts → text ≡ get_or texts i text → after ≡ with_text before text
    → once_after before (drop i texts) ≡ all → once_after after (drop (i + 1) texts) ≡ all
once_after_step before after all texts i text within is next left =
    ap (λ (values : List (List ℕ)). once_after values (drop (i + 1) texts)) next
    ∙ ap (λ (value : List ℕ). once_after (with_text before value) (drop (i + 1) texts)) is
    ∙ sym (ap (once_after before) (drop_more texts i text within))
    ∙ left

pub gather_step : {X : Type 0} (f : X → List (Pattern (List ℕ))) (before after all : Gathered) (xs : List X) (i : ℕ) (x : X) → i < length xs → x ≡ get_or xs i x → after ≡ gather before (f x)
    → gather before (flat_map f (drop i xs)) ≡ all → gather after (flat_map f (drop (i + 1) xs)) ≡ all
gather_step {X} f before after all xs i x within is next left =
    ap (λ (found : Gathered). gather found (flat_map f (drop (i + 1) xs))) next
    ∙ sym (gather-append before (f x) (flat_map f (drop (i + 1) xs)))
    ∙ ap (λ (y : X). gather before (f y ++ flat_map f (drop (i + 1) xs))) is
    ∙ sym (ap (λ (ys : List X). gather before (flat_map f ys)) (drop_more xs i x within))
    ∙ left

cells_where : ℕ → ℕ → Pattern (List ℕ) → List (ℕ × Pattern (List ℕ)) → Bool → List (Pattern (List ℕ))
cells_where attr at cell rest b = map (λ (c : ℕ × Pattern (List ℕ)). c.1) (cond b ((at, cell) ∷ filter (λ (c : ℕ × Pattern (List ℕ)). c.0 == attr) rest) (filter (λ (c : ℕ × Pattern (List ℕ)). c.0 == attr) rest))

-- one cell more, where it is one of the attribute
cells_for-append_at : (attr at : ℕ) (cell : Pattern (List ℕ)) (xs ys : List (ℕ × Pattern (List ℕ))) (b : Bool) → cells_for attr (xs ++ ys) ≡ cells_for attr xs ++ cells_for attr ys → cells_where attr at cell (xs ++ ys) b ≡ cells_where attr at cell xs b ++ cells_for attr ys
unfolding cells_where
cells_for-append_at attr at cell xs ys true rest = ap (λ (more : List (Pattern (List ℕ))). cell ∷ more) rest
cells_for-append_at attr at cell xs ys false rest = rest

pub cells_for-append : (attr : ℕ) (xs ys : List (ℕ × Pattern (List ℕ))) → cells_for attr (xs ++ ys) ≡ cells_for attr xs ++ cells_for attr ys
unfolding cells_where
cells_for-append attr [] ys = refl
cells_for-append attr ((at, cell) ∷ xs) ys = cells_for-append_at attr at cell xs ys (at == attr) (cells_for-append attr xs ys)

pub gather_cell : (attr at : ℕ) (cell : Pattern (List ℕ)) (rest : List (ℕ × Pattern (List ℕ))) (before after all : Gathered) → after ≡ gather before (cells_for attr ((at, cell) ∷ []))
    → gather before (cells_for attr ((at, cell) ∷ rest)) ≡ all → gather after (cells_for attr rest) ≡ all
gather_cell attr at cell rest before after all next left =
    ap (λ (found : Gathered). gather found (cells_for attr rest)) next
    ∙ sym (gather-append before (cells_for attr ((at, cell) ∷ [])) (cells_for attr rest))
    ∙ sym (ap (gather before) (cells_for-append attr ((at, cell) ∷ []) rest))
    ∙ left

-- the cells of a row: those on the left, and then the one on the right
pub gather_row : (attr : ℕ) (lefts : List (ℕ × Pattern (List ℕ))) (at : ℕ) (cell : Pattern (List ℕ)) (first before after : Gathered) → before ≡ gather first (cells_for attr lefts) → after ≡ gather before (cells_for attr ((at, cell) ∷ []))
    → after ≡ gather first (cells_for attr (lefts ++ (at, cell) ∷ []))
gather_row attr lefts at cell first before after front next =
    next
    ∙ ap (λ (found : Gathered). gather found (cells_for attr ((at, cell) ∷ []))) front
    ∙ sym (gather-append first (cells_for attr lefts) (cells_for attr ((at, cell) ∷ [])))
    ∙ sym (ap (gather first) (cells_for-append attr lefts ((at, cell) ∷ [])))

-- ---- distinct texts

distinct_front : (before : List (List ℕ)) (text : List ℕ) (texts : List (List ℕ)) → AreDistinct (before ++ text ∷ texts) → ¬ Contains before text
distinct_front before text texts distinct (k, within, is) =
    distinct k (length before) text within (omega (arith, length-append before (text ∷ texts)))
    (get_or_append_left before (text ∷ texts) text k within ∙ is ∙ sym (get_or_at before text texts text (length before) refl))

pub once_distinct : (before texts : List (List ℕ)) → AreDistinct (before ++ texts) → once_after before texts ≡ before ++ texts
once_distinct before [] distinct = sym (append-nil before)
once_distinct before (text ∷ texts) distinct =
    let new : is_among bytes_eq before text ≡ false = not_among before text (distinct_front before text texts distinct) in
    let added : with_text before text ≡ before ++ text ∷ [] = rw new refl in
    ap (λ (values : List (List ℕ)). once_after values texts) added
    ∙ once_distinct (before ++ text ∷ []) texts (rw append_assoc distinct)
    ∙ append_assoc before (text ∷ []) texts

-- ---- the attributes that occur

one_more : {X : Type 0} (f : ℕ → X) (n : ℕ) (b : Bool) → map f (cond b (n ∷ []) []) ≡ (if b then f n ∷ [] else [])
one_more f n true = refl
one_more f n false = refl

pub occurring_more : {X : Type 0} (f : ℕ → X) (p : ℕ → Bool) (n : ℕ) → map f (filter p (range_with_len 0 (n + 1))) ≡ map f (filter p (range_with_len 0 n)) ++ (if p n then f n ∷ [] else [])
occurring_more {X} f p n =
    let range : range_with_len 0 (n + 1) ≡ range_with_len 0 n ++ n ∷ [] = sym (map-id (range_with_len 0 (n + 1))) ∙ map-range_with_len_more (λ (k : ℕ). k) 0 n n (omega arith) ∙ ap (λ (ks : List ℕ). ks ++ n ∷ []) (map-id (range_with_len 0 n)) in
    ap (λ (ks : List ℕ). map f (filter p ks)) range
    ∙ ap (map f) (filter-append p (range_with_len 0 n) (n ∷ []))
    ∙ map-append f (filter p (range_with_len 0 n)) (filter p (n ∷ []))
    ∙ ap (λ (xs : List X). map f (filter p (range_with_len 0 n)) ++ xs) (one_more f n (p n))
