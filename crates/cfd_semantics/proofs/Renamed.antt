-- A map that keeps the known values apart changes no test and no violation.
use Rattle.std.proofs.Common.{◌≡◌, ℕ, Bool, true, false, cond, not, List, [], ◌∷◌, map, filter, Option, None, Some, refl, ap, ◌∙◌, subst}
use Rattle.std.specs.Option.{option_map}
use Rattle.std.specs.List.{All, list_any, filter_map, cons_option, slice_get}
use Rattle.std.proofs.lemmas.Option.{slice_get-map, slice_get_within, get_or_from_slice_get}
use Rattle.std.proofs.lemmas.List.Elements.{All-head, All-tail, All-nil, All-cons, All-weaker}
use Rattle.cfd_semantics.specs.declared.pattern.Pattern.{Pattern}
use Rattle.cfd_semantics.specs.declared.pattern.Pattern.TheVariants.{Any, Is, In, NotIn}
use Rattle.cfd_semantics.specs.declared.dependency.TableauRow.{TableauRow}
use Rattle.cfd_semantics.specs.declared.dependency.Dependency.{Dependency}
use Rattle.cfd_semantics.specs.Pattern.{matches, all_match}
use Rattle.cfd_semantics.specs.Tuple.{with_both, values_at, same_values}
use Rattle.cfd_semantics.specs.Violation.{Sides, sides_of, Entry, entry_of, entries, is_single, is_pair, least, least_partner, violation_of, violating, violations}
use Rattle.cfd_semantics.specs.Renaming.{KeepsApart, renamed_cell, renamed_tableau_row, renamed_dependency, renamed_rows, HasKnownCell, HasKnownCells, HasKnownTuples}
use Rattle.cfd_semantics.proofs.EntryFacts.{sides_in, entry_parts}
use Rattle.cfd_semantics.proofs.Numbers.{numbered-same}

-- an entry with other names, and one all of whose values are known
abbrev pub renamed_entry : {V W : Type 0} → (V → W) → Entry V → Entry W
renamed_entry name e = record { x = map name e.x; a = name e.a; row = e.row }

pub record HasKnownValues {V : Type 0} (Known : V → Type 0) (e : Entry V) : Type 0 where
  pub x : All Known e.x
  pub a : Known e.a

any-renamed : {V W : Type 0} {Known : V → Type 0} {name : V → W} {eq : V → V → Bool} {named_eq : W → W → Bool} (apart : KeepsApart Known name eq named_eq) (members : List V) (value : V) → All Known members → Known value → list_any (λ member. named_eq member (name value)) (map name members) ≡ list_any (λ member. eq member value) members
any-renamed apart [] value known here = refl
any-renamed {Known = Known} apart (member ∷ rest) value known here =
    rw (apart.same member value (All-head Known member rest known) here, any-renamed apart rest value (All-tail Known member rest known) here)

pub matches-renamed : {V W : Type 0} {Known : V → Type 0} {name : V → W} {eq : V → V → Bool} {named_eq : W → W → Bool} (apart : KeepsApart Known name eq named_eq) (cell : Pattern V) (value : V) → HasKnownCell Known cell → Known value → matches named_eq (renamed_cell name cell) (name value) ≡ matches eq cell value
matches-renamed apart Any value known here = refl
matches-renamed apart (Is constant) value known here = apart.same constant value known here
matches-renamed apart (In members) value known here = any-renamed apart members value known here
matches-renamed apart (NotIn members) value known here = ap not (any-renamed apart members value known here)

pub all_match-renamed : {V W : Type 0} {Known : V → Type 0} {name : V → W} {eq : V → V → Bool} {named_eq : W → W → Bool} (apart : KeepsApart Known name eq named_eq) (cells : List (Pattern V)) (xs : List V) → All (HasKnownCell Known) cells → All Known xs → all_match named_eq (map (renamed_cell name) cells) (map name xs) ≡ all_match eq cells xs
all_match-renamed apart [] [] cells_known known = refl
all_match-renamed apart [] (x ∷ xs) cells_known known = refl
all_match-renamed apart (cell ∷ cells) [] cells_known known = refl
all_match-renamed {Known = Known} apart (cell ∷ cells) (x ∷ xs) cells_known known =
    rw (matches-renamed apart cell x (All-head (HasKnownCell Known) cell cells cells_known) (All-head Known x xs known), all_match-renamed apart cells xs (All-tail (HasKnownCell Known) cell cells cells_known) (All-tail Known x xs known))

pub same_values-renamed : {V W : Type 0} {Known : V → Type 0} {name : V → W} {eq : V → V → Bool} {named_eq : W → W → Bool} (apart : KeepsApart Known name eq named_eq) (xs ys : List V) → All Known xs → All Known ys → same_values named_eq (map name xs) (map name ys) ≡ same_values eq xs ys
same_values-renamed apart [] [] known others = refl
same_values-renamed apart [] (y ∷ ys) known others = refl
same_values-renamed apart (x ∷ xs) [] known others = refl
same_values-renamed {Known = Known} apart (x ∷ xs) (y ∷ ys) known others =
    rw (apart.same x y (All-head Known x xs known) (All-head Known y ys others), same_values-renamed apart xs ys (All-tail Known x xs known) (All-tail Known y ys others))

pub is_single-renamed : {V W : Type 0} {Known : V → Type 0} {name : V → W} {eq : V → V → Bool} {named_eq : W → W → Bool} (apart : KeepsApart Known name eq named_eq) (t : TableauRow V) (e : Entry V) → HasKnownCells Known t → HasKnownValues Known e → is_single named_eq (renamed_tableau_row name t) (renamed_entry name e) ≡ is_single eq t e
is_single-renamed apart t e cells known =
    rw (all_match-renamed apart t.x e.x cells.x known.x, matches-renamed apart t.a e.a cells.a known.a)

pub is_pair-renamed : {V W : Type 0} {Known : V → Type 0} {name : V → W} {eq : V → V → Bool} {named_eq : W → W → Bool} (apart : KeepsApart Known name eq named_eq) (t : TableauRow V) (e other : Entry V) → HasKnownCells Known t → HasKnownValues Known e → HasKnownValues Known other → is_pair named_eq (renamed_tableau_row name t) (renamed_entry name e) (renamed_entry name other) ≡ is_pair eq t e other
is_pair-renamed apart t e other cells known beside =
    rw (same_values-renamed apart e.x other.x known.x beside.x, all_match-renamed apart t.x e.x cells.x known.x, all_match-renamed apart t.x other.x cells.x beside.x, matches-renamed apart t.a e.a cells.a known.a, matches-renamed apart t.a other.a cells.a beside.a, apart.same e.a other.a known.a beside.a)

kept-rows : {V W : Type 0} (name : V → W) (e : Entry V) (ws : List (Entry W)) (vs : List (Entry V)) (b : Bool) → map (λ other. other.row) ws ≡ map (λ other. other.row) vs → map (λ other. other.row) (cond b (renamed_entry name e ∷ ws) ws) ≡ map (λ other. other.row) (cond b (e ∷ vs) vs)
kept-rows name e ws vs true h = ap (λ rows. e.row ∷ rows) h
kept-rows name e ws vs false h = h

-- where the same entries pass, before the map and after it, what passes has the same rows
rows-filtered : {V W : Type 0} (name : V → W) (p : Entry V → Bool) (q : Entry W → Bool) (all : List (Entry V)) → All (λ other. q (renamed_entry name other) ≡ p other) all → map (λ other. other.row) (filter q (map (renamed_entry name) all)) ≡ map (λ other. other.row) (filter p all)
rows-filtered name p q [] same = refl
rows-filtered name p q (e ∷ es) same =
    rw (All-head (λ other. q (renamed_entry name other) ≡ p other) e es same)
    (kept-rows name e (filter q (map (renamed_entry name) es)) (filter p es) (p e) (rows-filtered name p q es (All-tail (λ other. q (renamed_entry name other) ≡ p other) e es same)))

listed-same : {V W X : Type 0} (name : V → W) (h : Entry V → Option X) (k : Entry W → Option X) (all : List (Entry V)) → All (λ e. k (renamed_entry name e) ≡ h e) all → filter_map k (map (renamed_entry name) all) ≡ filter_map h all
listed-same name h k [] same = refl
listed-same name h k (e ∷ es) same =
    rw (All-head (λ e. k (renamed_entry name e) ≡ h e) e es same, listed-same name h k es (All-tail (λ e. k (renamed_entry name e) ≡ h e) e es same))

pub least_partner-renamed : {V W : Type 0} {Known : V → Type 0} {name : V → W} {eq : V → V → Bool} {named_eq : W → W → Bool} (apart : KeepsApart Known name eq named_eq) (t : TableauRow V) (all : List (Entry V)) (e : Entry V) → HasKnownCells Known t → All (HasKnownValues Known) all → HasKnownValues Known e → least_partner named_eq (renamed_tableau_row name t) (map (renamed_entry name) all) (renamed_entry name e) ≡ least_partner eq t all e
least_partner-renamed {Known = Known} {name} {eq} {named_eq} apart t all e cells values known =
    ap least (rows-filtered name (is_pair eq t e) (is_pair named_eq (renamed_tableau_row name t) (renamed_entry name e)) all (All-weaker (HasKnownValues Known) _ (λ other beside. is_pair-renamed apart t e other cells known beside) all values))

pub violation_of-renamed : {V W : Type 0} {Known : V → Type 0} {name : V → W} {eq : V → V → Bool} {named_eq : W → W → Bool} (apart : KeepsApart Known name eq named_eq) (t : TableauRow V) (all : List (Entry V)) (e : Entry V) → HasKnownCells Known t → All (HasKnownValues Known) all → HasKnownValues Known e → violation_of named_eq (renamed_tableau_row name t) (map (renamed_entry name) all) (renamed_entry name e) ≡ violation_of eq t all e
violation_of-renamed apart t all e cells values known =
    rw (is_single-renamed apart t e cells known, least_partner-renamed apart t all e cells values known)

-- the violations of a tableau row stay the same
pub violating-renamed : {V W : Type 0} {Known : V → Type 0} {name : V → W} {eq : V → V → Bool} {named_eq : W → W → Bool} (apart : KeepsApart Known name eq named_eq) (t : TableauRow V) (all : List (Entry V)) → HasKnownCells Known t → All (HasKnownValues Known) all → violating named_eq (renamed_tableau_row name t) (map (renamed_entry name) all) ≡ violating eq t all
violating-renamed {Known = Known} {name} {eq} {named_eq} apart t all cells values =
    listed-same name (violation_of eq t all) (violation_of named_eq (renamed_tableau_row name t) (map (renamed_entry name) all)) all (All-weaker (HasKnownValues Known) _ (λ e known. violation_of-renamed apart t all e cells values known) all values)

-- the violations of a dependency stay the same
pub violations-renamed : {V W : Type 0} {Known : V → Type 0} {name : V → W} {eq : V → V → Bool} {named_eq : W → W → Bool} (apart : KeepsApart Known name eq named_eq) (d : Dependency V) (all : List (Entry V)) → All (HasKnownCells Known) d.rows → All (HasKnownValues Known) all → violations named_eq (renamed_dependency name d) (map (renamed_entry name) all) ≡ violations eq d all
violations-renamed {Known = Known} {name} {eq} {named_eq} apart d all cells values =
    numbered-same (λ t. violating eq t all) (λ t. violating named_eq t (map (renamed_entry name) all)) (renamed_tableau_row name) d.rows
    (All-weaker (HasKnownCells Known) (λ t. violating named_eq (renamed_tableau_row name t) (map (renamed_entry name) all) ≡ violating eq t all) (λ t here. violating-renamed apart t all here values) d.rows cells)

-- ---- from the rows of a table

consed-renamed : {V W : Type 0} (name : V → W) (one : Option V) (more : Option (List V)) → with_both (λ v vs. v ∷ vs) (option_map name one) (option_map (map name) more) ≡ option_map (map name) (with_both (λ v vs. v ∷ vs) one more)
consed-renamed name None more = refl
consed-renamed name (Some v) None = refl
consed-renamed name (Some v) (Some vs) = refl

pub values_at-renamed : {V W : Type 0} (name : V → W) (tuple : List V) (x : List ℕ) → values_at (map name tuple) x ≡ option_map (map name) (values_at tuple x)
values_at-renamed name tuple [] = refl
values_at-renamed name tuple (attribute ∷ rest) =
    rw (slice_get-map name tuple attribute, values_at-renamed name tuple rest) (consed-renamed name (slice_get tuple attribute) (values_at tuple rest))

both-renamed : {V W : Type 0} (name : V → W) (row : ℕ) (x : Option (List V)) (a : Option V)
    → option_map (λ (sides : Sides W). record { x = sides.x; a = sides.a; row = row }) (with_both (λ x a. record { x = x; a = a }) (option_map (map name) x) (option_map name a))
    ≡ option_map (renamed_entry name) (option_map (λ (sides : Sides V). record { x = sides.x; a = sides.a; row = row }) (with_both (λ x a. record { x = x; a = a }) x a))
both-renamed name row None a = refl
both-renamed name row (Some x) None = refl
both-renamed name row (Some x) (Some a) = refl

-- the entry of a renamed row is the renamed entry of the row
pub entry_of-renamed : {V W : Type 0} (name : V → W) (d : Dependency V) (row : ℕ × List V) → entry_of (renamed_dependency name d) (row.0, map name row.1) ≡ option_map (renamed_entry name) (entry_of d row)
entry_of-renamed name d row =
    rw (values_at-renamed name row.1 d.x, slice_get-map name row.1 d.a) (both-renamed name row.0 (values_at row.1 d.x) (slice_get row.1 d.a))

pub given-renamed : {X Y V W : Type 0} (h : X → Option V) (k : Y → Option W) (f : X → Y) (g : V → W) (xs : List X) → ((x : X) → k (f x) ≡ option_map g (h x)) → filter_map k (map f xs) ≡ map g (filter_map h xs)
given-renamed h k f g [] same = refl
given-renamed {V = V} {W} h k f g (x ∷ xs) same =
    ap (λ o. cons_option o (filter_map k (map f xs))) (same x) ∙ one (h x) (given-renamed h k f g xs same)
  where
    one : (o : Option V) → filter_map k (map f xs) ≡ map g (filter_map h xs) → cons_option (option_map g o) (filter_map k (map f xs)) ≡ map g (cons_option o (filter_map h xs))
    one None rest = rest
    one (Some v) rest = ap (λ ws. g v ∷ ws) rest

pub entries-renamed : {V W : Type 0} (name : V → W) (d : Dependency V) (rows : List (ℕ × List V)) → entries (renamed_dependency name d) (renamed_rows name rows) ≡ map (renamed_entry name) (entries d rows)
entries-renamed {V} name d rows = given-renamed (entry_of d) (entry_of (renamed_dependency name d)) (λ (row : ℕ × List V). (row.0, map name row.1)) (renamed_entry name) rows (entry_of-renamed name d)

-- ---- known values

known_at : {V : Type 0} (Known : V → Type 0) (tuple : List V) (a : ℕ) (v : V) → All Known tuple → slice_get tuple a ≡ Some v → Known v
known_at Known tuple a v known is = subst Known (get_or_from_slice_get tuple a v v is) (known a v (slice_get_within tuple a v is))

pub values_at-known : {V : Type 0} (Known : V → Type 0) (tuple : List V) (x : List ℕ) (values : List V) → All Known tuple → values_at tuple x ≡ Some values → All Known values
values_at-known Known tuple [] values known is = let none : [] ≡ values = cc in subst (All Known) none (All-nil Known)
values_at-known {V} Known tuple (attribute ∷ rest) values known is =
    parts (slice_get tuple attribute) (values_at tuple rest) refl refl is (λ vs. values_at-known Known tuple rest vs known)
  where
    parts : (one : Option V) (more : Option (List V)) → slice_get tuple attribute ≡ one → values_at tuple rest ≡ more → with_both (λ v vs. v ∷ vs) one more ≡ Some values → ((vs : List V) → values_at tuple rest ≡ Some vs → All Known vs) → All Known values
    parts None more has has_more is later = absurd (cc)
    parts (Some v) None has has_more is later = absurd (cc)
    parts (Some v) (Some vs) has has_more is later =
        let same : v ∷ vs ≡ values = cc in
        subst (All Known) same (All-cons Known v vs (known_at Known tuple attribute v known has) (later vs has_more))

-- what is given of each member has a property that follows from the member's
pub All-given : {X Y : Type 0} (P : X → Type 0) (Q : Y → Type 0) (h : X → Option Y) → ((x : X) (y : Y) → P x → h x ≡ Some y → Q y) → (xs : List X) → All P xs → All Q (filter_map h xs)
All-given P Q h step [] all = All-nil Q
All-given {Y = Y} P Q h step (x ∷ xs) all = one (h x) refl (All-given P Q h step xs (All-tail P x xs all))
  where
    one : (o : Option Y) → h x ≡ o → All Q (filter_map h xs) → All Q (cons_option o (filter_map h xs))
    one None is rest = rest
    one (Some y) is rest = All-cons Q y (filter_map h xs) (step x y (All-head P x xs all) is) rest

sides_known : {V : Type 0} (Known : V → Type 0) (d : Dependency V) (tuple : List V) (sides : Sides V) → All Known tuple → sides_of d tuple ≡ Some sides → All Known sides.x × Known sides.a
sides_known {V} Known d tuple sides known is = parts (values_at tuple d.x) (slice_get tuple d.a) refl refl is
  where
    parts : (x : Option (List V)) (a : Option V) → values_at tuple d.x ≡ x → slice_get tuple d.a ≡ a → with_both (λ x a. record { x = x; a = a }) x a ≡ Some sides → All Known sides.x × Known sides.a
    parts None a has_x has_a is = absurd (cc)
    parts (Some x) None has_x has_a is = absurd (cc)
    parts (Some x) (Some a) has_x has_a is =
        let same : record { x = x; a = a } ≡ sides = cc in
        subst (λ (s : Sides V). All Known s.x × Known s.a) same (values_at-known Known tuple d.x x known has_x, known_at Known tuple d.a a known has_a)

-- the entries of rows of known values have known values
pub entries-known : {V : Type 0} (Known : V → Type 0) (d : Dependency V) (rows : List (ℕ × List V)) → HasKnownTuples Known rows → All (HasKnownValues Known) (entries d rows)
entries-known {V} Known d rows known =
    All-given (λ (row : ℕ × List V). All Known row.1) (HasKnownValues Known) (entry_of d)
    (λ row e here is. let parts = sides_known Known d row.1 (sides_in e) here (entry_parts d row e is).sides in record { x = parts.0; a = parts.1 }) rows known

-- the violations of a dependency over rows stay the same
pub listing-renamed : {V W : Type 0} {Known : V → Type 0} {name : V → W} {eq : V → V → Bool} {named_eq : W → W → Bool} (apart : KeepsApart Known name eq named_eq) (d : Dependency V) (rows : List (ℕ × List V)) → All (HasKnownCells Known) d.rows → HasKnownTuples Known rows
    → violations named_eq (renamed_dependency name d) (entries (renamed_dependency name d) (renamed_rows name rows)) ≡ violations eq d (entries d rows)
listing-renamed {Known = Known} {name} {eq} {named_eq} apart d rows cells tuples =
    ap (violations named_eq (renamed_dependency name d)) (entries-renamed name d rows) ∙ violations-renamed apart d (entries d rows) cells (entries-known Known d rows tuples)
