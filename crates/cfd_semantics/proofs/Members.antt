-- Members of a list, and lists that are empty since nothing in them passes.
use Rattle.std.proofs.Common.{◌≡◌, zero, suc, ◌⊎◌, Bool, true, false, cond, List, [], ◌∷◌, ◌++◌, map, filter, Option, None, Some, refl, ap, ◌∙◌, subst, inl, inr, arith}
use Rattle.std.specs.List.{Contains, filter_map, cons_option}

pub contains-here : {X : Type 0} (x : X) (xs : List X) → Contains (x ∷ xs) x
contains-here x xs = (0, omega arith, refl)

pub contains-there : {X : Type 0} (x y : X) (xs : List X) → Contains xs x → Contains (y ∷ xs) x
contains-there x y xs (k, below, is) = (suc k, omega arith, is)

pub contains_nothing : {X : Type 0} (x : X) → Contains [] x → ⊥
contains_nothing x (k, below, is) = omega arith

-- a member is the first element, or a member of the rest
pub contains_cases : {X : Type 0} (x y : X) (xs : List X) → Contains (y ∷ xs) x → (y ≡ x) ⊎ Contains xs x
contains_cases x y xs (zero, below, is) = inl is
contains_cases x y xs (suc k, below, is) = inr (k, omega arith, is)

pub contains-map : {X Y : Type 0} (f : X → Y) (xs : List X) (x : X) → Contains xs x → Contains (map f xs) (f x)
contains-map f [] x h = absurd (contains_nothing x h)
contains-map f (y ∷ ys) x h = elim (contains_cases x y ys h) [
  | inl is ↦ rw (← is) (contains-here (f y) (map f ys))
  | inr later ↦ contains-there (f x) (f y) (map f ys) (contains-map f ys x later)
]

-- each member of a map's list comes from a member
pub contains_from_map : {X Y : Type 0} (f : X → Y) (xs : List X) (y : Y) → Contains (map f xs) y → (x : X) × Contains xs x × (f x ≡ y)
contains_from_map f [] y h = absurd (contains_nothing y h)
contains_from_map f (x ∷ xs) y h = elim (contains_cases y (f x) (map f xs) h) [
  | inl is ↦ (x, contains-here x xs, is)
  | inr later ↦ let found = contains_from_map f xs y later in (found.0, contains-there found.0 x xs found.1, found.2)
]

cons_option-empty : {X : Type 0} (o : Option X) (xs : List X) → cons_option o xs ≡ [] → (o ≡ None) × (xs ≡ [])
cons_option-empty None xs h = (refl, h)
cons_option-empty (Some x) xs h = absurd (cc)

-- `filter_map` gives the empty list exactly where it gives nothing of each member
pub nothing_from_empty : {X Y : Type 0} (h : X → Option Y) (xs : List X) → filter_map h xs ≡ [] → (x : X) → Contains xs x → h x ≡ None
nothing_from_empty h [] empty x member = absurd (contains_nothing x member)
nothing_from_empty h (y ∷ ys) empty x member =
    let parts = cons_option-empty (h y) (filter_map h ys) empty in
    elim (contains_cases x y ys member) [
      | inl is ↦ rw (← is) parts.0
      | inr later ↦ nothing_from_empty h ys parts.1 x later
    ]

pub empty_from_nothing : {X Y : Type 0} (h : X → Option Y) (xs : List X) → ((x : X) → Contains xs x → h x ≡ None) → filter_map h xs ≡ []
empty_from_nothing h [] nothing = refl
empty_from_nothing h (y ∷ ys) nothing =
    rw (nothing y (contains-here y ys)) (empty_from_nothing h ys (λ x member. nothing x (contains-there x y ys member)))

-- `filter` gives the empty list exactly where no member passes
pub none_pass_from_empty : {X : Type 0} (p : X → Bool) (xs : List X) → filter p xs ≡ [] → (x : X) → Contains xs x → p x ≡ false
none_pass_from_empty p [] empty x member = absurd (contains_nothing x member)
none_pass_from_empty p (y ∷ ys) empty x member =
    let parts = cond-empty (p y) y (filter p ys) empty in
    elim (contains_cases x y ys member) [
      | inl is ↦ rw (← is) parts.0
      | inr later ↦ none_pass_from_empty p ys parts.1 x later
    ]
  where
    cond-empty : {X : Type 0} (b : Bool) (y : X) (ys : List X) → cond b (y ∷ ys) ys ≡ [] → (b ≡ false) × (ys ≡ [])
    cond-empty true y ys h = absurd (cc)
    cond-empty false y ys h = (refl, h)

pub empty_from_none_pass : {X : Type 0} (p : X → Bool) (xs : List X) → ((x : X) → Contains xs x → p x ≡ false) → filter p xs ≡ []
empty_from_none_pass p [] none = refl
empty_from_none_pass p (y ∷ ys) none =
    rw (none y (contains-here y ys)) (empty_from_none_pass p ys (λ x member. none x (contains-there x y ys member)))

-- nothing is in a list that is empty when it is joined with another
pub append-empty : {X : Type 0} (xs ys : List X) → xs ++ ys ≡ [] → (xs ≡ []) × (ys ≡ [])
append-empty [] ys h = (refl, h)
append-empty (x ∷ xs) ys h = absurd (cc)

pub map-empty : {X Y : Type 0} (f : X → Y) (xs : List X) → map f xs ≡ [] → xs ≡ []
map-empty f [] h = refl
map-empty f (x ∷ xs) h = absurd (cc)

-- a fact of two members of a map's list, from the members that they come from
pub two_from_map : {X Y : Type 0} (f : X → Y) (xs : List X) (P : Y → Y → Type 0) → ((x z : X) → Contains xs x → Contains xs z → P (f x) (f z)) → (t u : Y) → Contains (map f xs) t → Contains (map f xs) u → P t u
two_from_map f xs P h t u first second =
    let one = contains_from_map f xs t first in
    let two = contains_from_map f xs u second in
    subst (λ y. P y u) one.2 (subst (λ y. P (f one.0) y) two.2 (h one.0 two.0 one.1 two.1))

-- what is given of a member is in the list of all that is given
pub contains-filter_map : {X Y : Type 0} (h : X → Option Y) (xs : List X) (x : X) (y : Y) → Contains xs x → h x ≡ Some y → Contains (filter_map h xs) y
contains-filter_map h [] x y member is = absurd (contains_nothing x member)
contains-filter_map h (z ∷ zs) x y member is = elim (contains_cases x z zs member) [
  | inl same ↦ given (h z) (ap h same ∙ is)
  | inr later ↦ kept (h z) (contains-filter_map h zs x y later is)
]
  where
    given : (o : Option _) → o ≡ Some y → Contains (cons_option o (filter_map h zs)) y
    given None e = absurd (cc)
    given (Some w) e = let same : w ≡ y = cc in rw (← same) (contains-here w (filter_map h zs))

    kept : (o : Option _) → Contains (filter_map h zs) y → Contains (cons_option o (filter_map h zs)) y
    kept None inside = inside
    kept (Some z) inside = contains-there y z (filter_map h zs) inside

-- some member gives this
abbrev GivenBy : {X Y : Type 0} → (X → Option Y) → Y → List X → Type 0
GivenBy {X} h y xs = (x : X) × Contains xs x × (h x ≡ Some y)

-- and comes from a member
pub contains_from_filter_map : {X Y : Type 0} (h : X → Option Y) (xs : List X) (y : Y) → Contains (filter_map h xs) y → (x : X) × Contains xs x × (h x ≡ Some y)
contains_from_filter_map h [] y inside = absurd (contains_nothing y inside)
contains_from_filter_map {X} {Y} h (z ∷ zs) y inside = found (λ rest. contains_from_filter_map h zs y rest) (h z) refl inside
  where
    later : GivenBy h y zs → GivenBy h y (z ∷ zs)
    later one = (one.0, contains-there one.0 z zs one.1, one.2)

    found : (Contains (filter_map h zs) y → GivenBy h y zs) → (o : Option Y) → h z ≡ o → Contains (cons_option o (filter_map h zs)) y → GivenBy h y (z ∷ zs)
    found further None is rest = later (further rest)
    found further (Some w) is rest = elim (contains_cases y w (filter_map h zs) rest) [
      | inl same ↦ (z, contains-here z zs, is ∙ ap (λ v. Some v) same)
      | inr more ↦ later (further more)
    ]
