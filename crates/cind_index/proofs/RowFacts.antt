-- Some row has pattern values exactly where a row is held with them; and what that makes of dirty keys.
use Rattle.std.proofs.Common.{◌≡◌, ℕ, ◌↔◌, ◌⊎◌, true, false, not, ◌&&◌, ◌||◌, List, [], ◌∷◌, ◌++◌, length, Option, Some, None, refl, sym, ap, ◌∙◌, subst, inl, inr, arith}
use Rattle.std.specs.Prelude.{◌==◌, IsTrue, IsSome, IfNone, nat_lt}
use Rattle.std.specs.List.{list_any, Contains}
use Rattle.std.specs.Option.{option_map_or}
use Rattle.std.specs.Ordering.{nat_cmp, is_eq}
use Rattle.std.specs.BTreeSet as treeset
use Rattle.std.specs.Str.{bytes_eq}
use Rattle.std.proofs.lemmas.Bool.Decides.{nat_tests}
use Rattle.cfd_semantics.specs.declared.inclusion.InclusionRow.{InclusionRow}
use Rattle.cfd_semantics.proofs.Members.{contains-here, contains-there, contains_nothing, contains_cases}
use Rattle.cfd_semantics.proofs.InclusionLaw.{found_by_any, any_from_found, both_true}
use Rattle.cind_index.specs.declared.side.Side.{Side}
use Rattle.cind_index.specs.declared.side.Side.TheVariants.{Left, Right}
use Rattle.cind_index.specs.declared.row_set.RowSet.{RowSet}
use Rattle.cind_index.specs.declared.row_set.RowSet.TheVariants.{One, More}
use Rattle.cind_index.specs.declared.side_rows.SideRows.{SideRows}
use Rattle.cind_index.specs.declared.side_rows.SideRows.TheVariants.{Empty, Lone, LoneWith, Rows}
use Rattle.cind_index.specs.declared.pattern_rows.PatternRows.{PatternRows}
use Rattle.cind_index.specs.declared.pattern_rows.PatternRows.TheVariants.{Nothing, Single, Several}
use Rattle.cind_index.specs.declared.both_sides.BothSides.{BothSides}
use Rattle.cind_index.specs.declared.key_rows.KeyRows.{KeyRows}
use Rattle.cind_index.specs.declared.key_rows.KeyRows.TheVariants.{NoRows, LoneLeft, LoneRight, LeftWith, RightWith, OneEach, Boxed}
use Rattle.cind_index.specs.RowsHeld.{side_of, both_sides, is_boxed, across, is_few, IsLeftOf, is_in, is_filled, rows_for, has_by, has_some_by, has, has_some, rows_on, lacks_answer, is_dirty, HaveTheSame, ChangesOn}
use Rattle.cind_index.proofs.PairFacts.{same_truth}

-- ---- lists of row ids

pub append_members : {X : Type 0} (xs ys : List X) (x : X) → Contains (xs ++ ys) x ↔ (Contains xs x ⊎ Contains ys x)
append_members [] ys x = ((λ inside. inr inside), (λ either. elim either [ inl none ↦ absurd (contains_nothing x none) | inr inside ↦ inside ]))
append_members (y ∷ xs) ys x = (
  (λ inside. elim (contains_cases x y (xs ++ ys) inside) [
    | inl is ↦ inl (subst (Contains (y ∷ xs)) is (contains-here y xs))
    | inr later ↦ elim ((append_members xs ys x).0 later) [ inl first ↦ inl (contains-there x y xs first) | inr second ↦ inr second ]
  ]),
  (λ either. elim either [
    | inl first ↦ elim (contains_cases x y xs first) [
      | inl is ↦ subst (Contains (y ∷ (xs ++ ys))) is (contains-here y (xs ++ ys))
      | inr later ↦ contains-there x y (xs ++ ys) ((append_members xs ys x).1 (inl later))
    ]
    | inr second ↦ contains-there x y (xs ++ ys) ((append_members xs ys x).1 (inr second))
  ]),
)

ties : (m n : ℕ) → is_eq (nat_cmp m n) ≡ true → m ≡ n
ties m n is = grind (arith, nat_tests)

tied : (m n : ℕ) → m ≡ n → is_eq (nat_cmp m n) ≡ true
tied m n is = grind (arith, nat_tests)

pub same_number : (m n : ℕ) → (m == n) ≡ true → m ≡ n
same_number m n is = grind (arith, nat_tests)

pub number_itself : (n : ℕ) → (n == n) ≡ true
number_itself n = grind (arith, nat_tests)

pub set_members : (keys : List ℕ) (row : ℕ) → (list_any (λ k. is_eq (nat_cmp row k)) keys ≡ true) ↔ Contains keys row
set_members keys row = (
  (λ some. let found = found_by_any (λ k. is_eq (nat_cmp row k)) keys some in subst (Contains keys) (sym (ties row found.0 found.2)) found.1),
  (λ inside. any_from_found (λ k. is_eq (nat_cmp row k)) keys row inside (tied row row refl)),
)

-- ---- some row

some_in : (rows : RowSet) → (is_filled rows ≡ true) ↔ ((row : ℕ) × (is_in rows row ≡ true))
some_in (One held) = ((λ some. (held, number_itself held)), (λ one. refl))
some_in (More rows) = (first rows.keys, last rows.keys)
  where
    first : (keys : List ℕ) → nat_lt 0 (length keys) ≡ true → (row : ℕ) × (list_any (λ k. is_eq (nat_cmp row k)) keys ≡ true)
    first [] some = absurd (cc)
    first (k ∷ ks) some = (k, (set_members (k ∷ ks) k).1 (contains-here k ks))

    last : (keys : List ℕ) → (row : ℕ) × (list_any (λ k. is_eq (nat_cmp row k)) keys ≡ true) → nat_lt 0 (length keys) ≡ true
    last [] (row, some) = absurd (cc)
    last (k ∷ ks) (row, some) = grind (arith, nat_tests)

among_some : (found : Option RowSet) → (option_map_or is_filled found false ≡ true) ↔ ((row : ℕ) × (option_map_or (λ rows. is_in rows row) found false ≡ true))
among_some None = ((λ some. absurd (cc)), (λ one. absurd (let no = one.1 in cc)))
among_some (Some rows) = some_in rows

some_by : (rows : PatternRows) (pattern : List ℕ) → (has_some_by rows pattern ≡ true) ↔ ((row : ℕ) × (has_by rows pattern row ≡ true))
some_by Nothing pattern = ((λ some. absurd (cc)), (λ one. absurd (let no = one.1 in cc)))
some_by (Single held rows) pattern = (
  (λ some.
      let both = both_true (bytes_eq pattern held.items) (is_filled rows) some in
      let one = (some_in rows).0 both.1 in
      (one.0, ap (λ b. b && is_in rows one.0) both.0 ∙ one.1)),
  (λ one.
      let both = both_true (bytes_eq pattern held.items) (is_in rows one.0) one.1 in
      ap (λ b. b && is_filled rows) both.0 ∙ (some_in rows).1 (one.0, both.1)),
)
some_by (Several patterns) pattern = among_some (rows_for patterns pattern)

pub some_row : (rows : SideRows) (pattern : List ℕ) → (has_some rows pattern ≡ true) ↔ ((row : ℕ) × (has rows pattern row ≡ true))
some_row Empty pattern = ((λ some. absurd (cc)), (λ one. absurd (let no = one.1 in cc)))
some_row (Lone own) pattern = (
  (λ some. (own, ap (λ b. b && own == own) some ∙ number_itself own)),
  (λ one. (both_true (bytes_eq pattern []) (one.0 == own) one.1).0),
)
some_row (LoneWith value own) pattern = (
  (λ some. (own, ap (λ b. b && own == own) some ∙ number_itself own)),
  (λ one. (both_true (bytes_eq pattern (value ∷ [])) (one.0 == own) one.1).0),
)
some_row (Rows rows) pattern = some_by rows.value pattern

pub same_some : (old new : SideRows) → HaveTheSame old new → (pattern : List ℕ) → has_some new pattern ≡ has_some old pattern
same_some old new same pattern =
    same_truth (has_some new pattern) (has_some old pattern)
    (λ some. let one = (some_row new pattern).0 some in (some_row old pattern).1 (one.0, sym (same pattern one.0) ∙ one.1))
    (λ some. let one = (some_row old pattern).0 some in (some_row new pattern).1 (one.0, same pattern one.0 ∙ one.1))

-- ---- dirty keys

same_dirty : (tableau : List (InclusionRow ℕ)) (old new : KeyRows) → HaveTheSame (rows_on old Left) (rows_on new Left) → HaveTheSame (rows_on old Right) (rows_on new Right) → is_dirty tableau new ≡ is_dirty tableau old
same_dirty [] old new lefts rights = refl
same_dirty (t ∷ ts) old new lefts rights =
    ap (λ b. b || is_dirty ts new) (ap (λ b. b && not (has_some (rows_on new Right) t.yp)) (same_some (rows_on old Left) (rows_on new Left) lefts t.xp) ∙ ap (λ b. has_some (rows_on old Left) t.xp && not b) (same_some (rows_on old Right) (rows_on new Right) rights t.yp))
    ∙ ap (λ b. lacks_answer old t || b) (same_dirty ts old new lefts rights)

pub same_sides_dirty : (tableau : List (InclusionRow ℕ)) (side : Side) (old new : KeyRows) → ChangesOn side HaveTheSame old new → is_dirty tableau new ≡ is_dirty tableau old
same_sides_dirty tableau Left old new same = same_dirty tableau old new same.here same.beside
same_sides_dirty tableau Right old new same = same_dirty tableau old new same.beside same.here

-- ---- rows that are appended

pub appended_rows : (old new : List ℕ) (self : RowSet) (rows : treeset.BTreeSet ℕ) (row : ℕ) → self ≡ More rows → new ≡ old ++ rows.keys → Contains new row ↔ (Contains old row ⊎ IsTrue (is_in self row))
appended_rows old new self rows row which is =
    let by_append = append_members old rows.keys row in
    let by_test = set_members rows.keys row in
    let test : is_in self row ≡ is_in (More rows) row = ap (λ set. is_in set row) which in (
      (λ inside. elim (by_append.0 (subst (λ xs. Contains xs row) is inside)) [ inl first ↦ inl first | inr second ↦ inr (test ∙ by_test.1 second) ]),
      (λ either. subst (λ xs. Contains xs row) (sym is) (by_append.1 (elim either [ inl first ↦ inl first | inr second ↦ inr (by_test.0 (sym test ∙ second)) ]))),
    )

-- ---- rows in place

-- two sides that are these
sides_are : (sides : BothSides) (lefts rights : SideRows) → sides.lefts ≡ lefts → sides.rights ≡ rights → ◌≡◌ {A = BothSides} (record { lefts = lefts; rights = rights }) sides
sides_are sides lefts rights left right = λ i. record { lefts = sym left i; rights = sym right i }

abbrev StandInPlace : BothSides → Type 0
StandInPlace sides = (rows : KeyRows) × (is_boxed rows ≡ false) × (both_sides rows ≡ sides)

-- what isn't a box stands in place
pub placed_unless : (rows : KeyRows) → ((sides : _) → rows ≡ Boxed sides → ⊥) → is_boxed rows ≡ false
placed_unless NoRows never = refl
placed_unless (LoneLeft l) never = refl
placed_unless (LoneRight r) never = refl
placed_unless (LeftWith v l) never = refl
placed_unless (RightWith v r) never = refl
placed_unless (OneEach l r) never = refl
placed_unless (Boxed sides) never = absurd (never sides refl)

-- what stands in place still does when a row goes
pub left_in_place : (rows : KeyRows) (side : Side) (new : BothSides) → is_boxed rows ≡ false → (is_few (rows_on rows side) ≡ true → IsLeftOf (rows_on rows side) (side_of new side)) → side_of new (across side) ≡ rows_on rows (across side) → StandInPlace new
left_in_place NoRows Left new placed here beside = elim (here refl) [ inl same ↦ (NoRows, refl, sides_are new Empty Empty same beside) | inr gone ↦ (NoRows, refl, sides_are new Empty Empty gone beside) ]
left_in_place NoRows Right new placed here beside = elim (here refl) [ inl same ↦ (NoRows, refl, sides_are new Empty Empty beside same) | inr gone ↦ (NoRows, refl, sides_are new Empty Empty beside gone) ]
left_in_place (LoneLeft l) Left new placed here beside = elim (here refl) [ inl same ↦ (LoneLeft l, refl, sides_are new (Lone l) Empty same beside) | inr gone ↦ (NoRows, refl, sides_are new Empty Empty gone beside) ]
left_in_place (LoneLeft l) Right new placed here beside = elim (here refl) [ inl same ↦ (LoneLeft l, refl, sides_are new (Lone l) Empty beside same) | inr gone ↦ (LoneLeft l, refl, sides_are new (Lone l) Empty beside gone) ]
left_in_place (LoneRight r) Left new placed here beside = elim (here refl) [ inl same ↦ (LoneRight r, refl, sides_are new Empty (Lone r) same beside) | inr gone ↦ (LoneRight r, refl, sides_are new Empty (Lone r) gone beside) ]
left_in_place (LoneRight r) Right new placed here beside = elim (here refl) [ inl same ↦ (LoneRight r, refl, sides_are new Empty (Lone r) beside same) | inr gone ↦ (NoRows, refl, sides_are new Empty Empty beside gone) ]
left_in_place (LeftWith v l) Left new placed here beside = elim (here refl) [ inl same ↦ (LeftWith v l, refl, sides_are new (LoneWith v l) Empty same beside) | inr gone ↦ (NoRows, refl, sides_are new Empty Empty gone beside) ]
left_in_place (LeftWith v l) Right new placed here beside = elim (here refl) [ inl same ↦ (LeftWith v l, refl, sides_are new (LoneWith v l) Empty beside same) | inr gone ↦ (LeftWith v l, refl, sides_are new (LoneWith v l) Empty beside gone) ]
left_in_place (RightWith v r) Left new placed here beside = elim (here refl) [ inl same ↦ (RightWith v r, refl, sides_are new Empty (LoneWith v r) same beside) | inr gone ↦ (RightWith v r, refl, sides_are new Empty (LoneWith v r) gone beside) ]
left_in_place (RightWith v r) Right new placed here beside = elim (here refl) [ inl same ↦ (RightWith v r, refl, sides_are new Empty (LoneWith v r) beside same) | inr gone ↦ (NoRows, refl, sides_are new Empty Empty beside gone) ]
left_in_place (OneEach l r) Left new placed here beside = elim (here refl) [ inl same ↦ (OneEach l r, refl, sides_are new (Lone l) (Lone r) same beside) | inr gone ↦ (LoneRight r, refl, sides_are new Empty (Lone r) gone beside) ]
left_in_place (OneEach l r) Right new placed here beside = elim (here refl) [ inl same ↦ (OneEach l r, refl, sides_are new (Lone l) (Lone r) beside same) | inr gone ↦ (LoneLeft l, refl, sides_are new (Lone l) Empty beside gone) ]
left_in_place (Boxed sides) side new placed here beside = absurd (cc)

-- so they are found in place
pub found_in_place : (found : Option KeyRows) (sides : BothSides) → IfNone found ((rows : KeyRows) → is_boxed rows ≡ false → both_sides rows ≡ sides → ⊥) → StandInPlace sides → IsSome found
found_in_place None sides none stand = absurd (none stand.0 stand.1 stand.2)
found_in_place (Some rows) sides none stand = refl
