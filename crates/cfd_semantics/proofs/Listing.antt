-- Steps of the scan: what one more row adds to what is listed.
use Rattle.std.proofs.Common.{◌≡◌, ℕ, ◌+◌, ◌<◌, Bool, true, false, cond, min, ◌||◌, List, [], ◌∷◌, ◌++◌, map, filter, length, take, drop, get_or, Option, None, Some, refl, sym, ap, ◌∙◌, arith}
use Rattle.std.specs.Option.{option_map, option_map_or, option_and_then}
use Rattle.std.proofs.lemmas.List.{map-append, append-nil, take_more, drop_more}
use Rattle.std.specs.List.{filter_map, cons_option, list_any}
use Rattle.std.proofs.lemmas.List.Elements.{filter-append, filter_map-append}
use Rattle.cfd_semantics.specs.declared.dependency.TableauRow.{TableauRow}
use Rattle.cfd_semantics.specs.declared.dependency.Dependency.{Dependency}
use Rattle.cfd_semantics.specs.Violation.{Sides, sides_of, Entry, entry_of, entries, is_pair, least, least_partner}

-- ---- what a list of rows gives, and what one more row gives

module _ {X Y : Type 0} (h : X → Option Y) where
  pub given-more : (xs : List X) (i : ℕ) (x : X) → i < length xs → x ≡ get_or xs i x → filter_map h (take (i + 1) xs) ≡ filter_map h (take i xs) ++ cons_option (h x) []
  given-more xs i x within is =
      ap (filter_map h) (take_more xs i x within) ∙ filter_map-append h (take i xs) (get_or xs i x ∷ [])
      ∙ ap (λ y. filter_map h (take i xs) ++ cons_option (h y) []) (sym is)

  -- what is listed of what the rows give
  pub listed-more : {Z : Type 0} (k : Y → Option Z) (xs : List X) (i : ℕ) (x : X) → i < length xs → x ≡ get_or xs i x
      → filter_map k (filter_map h (take (i + 1) xs)) ≡ filter_map k (filter_map h (take i xs)) ++ cons_option (option_and_then k (h x)) []
  listed-more k xs i x within is =
      ap (filter_map k) (given-more xs i x within is) ∙ filter_map-append k (filter_map h (take i xs)) (cons_option (h x) [])
      ∙ ap (λ ys. filter_map k (filter_map h (take i xs)) ++ ys) (one (h x))
    where
      one : (o : Option Y) → filter_map k (cons_option o []) ≡ cons_option (option_and_then k o) []
      one None = refl
      one (Some y) = refl

  -- of what the rows give, the numbers of those that pass
  pub passing-more : (p : Y → Bool) (f : Y → ℕ) (xs : List X) (i : ℕ) (x : X) (n : ℕ) → ((y : Y) → h x ≡ Some y → f y ≡ n) → i < length xs → x ≡ get_or xs i x
      → map f (filter p (filter_map h (take (i + 1) xs))) ≡ map f (filter p (filter_map h (take i xs))) ++ cond (option_map_or p (h x) false) (n ∷ []) []
  passing-more p f xs i x n named within is =
      ap (λ ys. map f (filter p ys)) (given-more xs i x within is) ∙ ap (map f) (filter-append p (filter_map h (take i xs)) (cons_option (h x) []))
      ∙ map-append f (filter p (filter_map h (take i xs))) (filter p (cons_option (h x) []))
      ∙ ap (λ ns. map f (filter p (filter_map h (take i xs))) ++ ns) (one (h x) named)
    where
      passes : (b : Bool) (y : Y) → f y ≡ n → map f (cond b (y ∷ []) []) ≡ cond b (n ∷ []) []
      passes true y e = ap (λ m. m ∷ []) e
      passes false y e = refl

      one : (o : Option Y) → ((y : Y) → o ≡ Some y → f y ≡ n) → map f (filter p (cons_option o [])) ≡ cond (option_map_or p o false) (n ∷ []) []
      one None e = refl
      one (Some y) e = passes (p y) y (e y refl)

  -- whether something of what is left passes
  pub any-left : (p : Y → Bool) (xs : List X) (i : ℕ) (x : X) → i < length xs → x ≡ get_or xs i x → list_any p (filter_map h (drop i xs)) ≡ (option_map_or p (h x) false || list_any p (filter_map h (drop (i + 1) xs)))
  any-left p xs i x within is =
      ap (λ ys. list_any p (filter_map h ys)) (drop_more xs i x within) ∙ ap (λ y. list_any p (cons_option (h y) (filter_map h (drop (i + 1) xs)))) (sym is) ∙ one (h x)
    where
      one : (o : Option Y) → list_any p (cons_option o (filter_map h (drop (i + 1) xs))) ≡ (option_map_or p o false || list_any p (filter_map h (drop (i + 1) xs)))
      one None = refl
      one (Some y) = refl

-- ---- the least partner

row_of_entry : {V : Type 0} (row : ℕ) (o : Option (Sides V)) (e : Entry V) → option_map (λ sides. record { x = sides.x; a = sides.a; row = row }) o ≡ Some e → e.row ≡ row
row_of_entry row None e is = absurd (cc)
row_of_entry row (Some sides) e is = cc

-- the entry of a row has its id
pub row_of_its_entry : {V : Type 0} (d : Dependency V) (row : ℕ × List V) (e : Entry V) → entry_of d row ≡ Some e → e.row ≡ row.0
row_of_its_entry d row e is = row_of_entry row.0 (sides_of d row.1) e is

least-both : (m n : ℕ) (o : Option ℕ) → ◌≡◌ {A = Option ℕ} (Some (min m (option_map_or (min n) o n))) (Some (min n (option_map_or (min m) o m)))
least-both m n None = ap (λ k. Some k) (grind arith)
least-both m n (Some k) = ap (λ k. Some k) (grind arith)

-- one more number, at the end, is taken with the least of those before it
least-push : (ns : List ℕ) (n : ℕ) → least (ns ++ n ∷ []) ≡ Some (option_map_or (min n) (least ns) n)
least-push [] n = refl
least-push (m ∷ ns) n = ap (λ o. Some (option_map_or (min m) o m)) (least-push ns n) ∙ least-both m n (least ns)

pub least-more : (ns : List ℕ) (b : Bool) (n : ℕ) → least (ns ++ cond b (n ∷ []) []) ≡ cond b (Some (option_map_or (min n) (least ns) n)) (least ns)
least-more ns true n = least-push ns n
least-more ns false n = ap least (append-nil ns)

-- one more row is taken with the least partner before it, if it is a partner
pub least_partner-more : {V : Type 0} (eq : V → V → Bool) (d : Dependency V) (t : TableauRow V) (rows : List (ℕ × List V)) (i : ℕ) (other : ℕ × List V) (own : Option (Entry V)) → i < length rows → other ≡ get_or rows i other
    → option_and_then (least_partner eq t (entries d (take (i + 1) rows))) own
    ≡ cond (option_map_or (λ e. option_map_or (is_pair eq t e) (entry_of d other) false) own false)
    (Some (option_map_or (min other.0) (option_and_then (least_partner eq t (entries d (take i rows))) own) other.0))
    (option_and_then (least_partner eq t (entries d (take i rows))) own)
least_partner-more eq d t rows i other None within is = refl
least_partner-more {V} eq d t rows i other (Some e) within is =
    ap least (passing-more (entry_of d) (is_pair eq t e) (λ (o : Entry V). o.row) rows i other other.0 (λ o there. row_of_its_entry d other o there) within is)
    ∙ least-more (map (λ (o : Entry V). o.row) (filter (is_pair eq t e) (entries d (take i rows)))) (option_map_or (is_pair eq t e) (entry_of d other) false) other.0
