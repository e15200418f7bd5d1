-- What is found is satisfied and has no part that is, and from each satisfied candidate one that is found is left.
use Rattle.std.proofs.Common.{◌≡◌, ℕ, ◌<◌, ◌≤◌, Bool, true, false, not, ◌&&◌, List, [], ◌∷◌, map, filter, length, All, get_or, refl, sym, ap, subst, ◌∙◌, arith}
use Rattle.std.specs.Prelude.{AllPairs, nat_eq, slice_index_or}
use Rattle.std.specs.List.{Contains, count_by, list_any}
use Rattle.std.specs.Cmp.Lexicographic.{pointwise, pointwise_decides}
use Rattle.std.specs.Str.{bytes_eq}
use Rattle.std.proofs.lemmas.Bool.{and_from, and_parts, both_ways, eq-eqb, eqb-true, false_from_ne_true, le-leb, leb-true, not-true, not_from_false}
use Rattle.std.proofs.lemmas.List.Elements.{All-cons, All-filter, All-nil}
use Rattle.std.proofs.lemmas.List.Folds.{list_any_at}
use Rattle.std.proofs.lemmas.List.Kept.{AllPairs-filter}
use Rattle.std.proofs.lemmas.Map.Views.{Contains-from_any}
use Rattle.std.proofs.lemmas.Slice.Eq.{bytes_eq-Decides}
use Rattle.cfd_semantics.specs.declared.pattern.Pattern.{Pattern}
use Rattle.cfd_semantics.specs.declared.pattern.Pattern.TheVariants.{Any, Is}
use Rattle.cfd_semantics.specs.declared.dependency.Dependency.{Dependency}
use Rattle.cfd_semantics.proofs.SetFacts.{contains_from_filter}
use Rattle.dep_search.specs.Counting.{tally}
use Rattle.dep_search.specs.Found.{all_found, determines, has_support, is_constant, is_first, is_plain, is_short, left_sides, proper_parts, settles, side_at}
use Rattle.dep_search.specs.Rows.{Row, agree, row_at, texts}
use Rattle.dep_finder.specs.Minimal.{AreConstants, AreSides, Hold, IsMinimal, constant, kept_cells, part, plain}
use Rattle.dep_finder.proofs.Meaning.{AreWide, AreWithin, agree_decides, constant_held, constant_holds, determines_from, determines_true, plain_held, plain_holds, settles_from, settles_true, text_at, texts_at}
use Rattle.dep_finder.proofs.KeptParts.{filter_shorter, kept_cells_of, kept_is_part, part_is_kept}
use Rattle.dep_finder.proofs.LeastParts.{any_found, least_within}
use Rattle.dep_finder.proofs.FoundLists.{IsSide, constant_found, constant_of, left_side, plain_found, plain_of}
use Rattle.dep_finder.proofs.SameTexts.{count_rows, first_of, same_on_kept, short_on_kept, short_test, short_texts, tally_some, tally_wider}

-- ---- parts of the two kinds

is_cells : (row : Row) (x : List ℕ) → map Is (texts row x) ≡ map (λ attr. Is (slice_index_or row attr [])) x
is_cells row [] = refl
is_cells row (attr ∷ x) = ap (λ (cells : List (Pattern (List ℕ))). Is (slice_index_or row attr []) ∷ cells) (is_cells row x)

with_cells : List ℕ → ℕ → List (Pattern (List ℕ)) → Pattern (List ℕ) → Dependency (List ℕ)
with_cells x a cells cell = record { x = x; a = a; rows = record { x = cells; a = cell } ∷ [] }

pub part_plain : (kept : ℕ → Bool) (x : List ℕ) (a : ℕ) → part kept (plain x a) ≡ plain (filter kept x) a
unfolding with_cells
part_plain kept x a = ap (λ (cells : List (Pattern (List ℕ))). with_cells (filter kept x) a cells Any) (kept_cells_of (λ attr. Any) kept x)

pub part_constant : (kept : ℕ → Bool) (row : Row) (x : List ℕ) (a : ℕ) (value : List ℕ) → part kept (constant x a (texts row x) value) ≡ constant (filter kept x) a (texts row (filter kept x)) value
unfolding with_cells
part_constant kept row x a value =
    ap (λ (cells : List (Pattern (List ℕ))). with_cells (filter kept x) a cells (Is value))
    (ap (kept_cells kept x) (is_cells row x) ∙ kept_cells_of (λ attr. Is (slice_index_or row attr [])) kept x ∙ sym (is_cells row (filter kept x)))

-- the constants of a row, as they are looked up
pub constant_cells : (row : Row) (x : List ℕ) (a : ℕ) (value : List ℕ)
    → constant x a (texts row x) value ≡ record { x = x; a = a; rows = record { x = map (λ attr. Is (slice_index_or row attr [])) x; a = Is value } ∷ [] }
unfolding with_cells
constant_cells row x a value = ap (λ (cells : List (Pattern (List ℕ))). with_cells x a cells (Is value)) (is_cells row x)

-- ---- each that is found is minimal

any_from : (p : List ℕ → Bool) (xs : List (List ℕ)) (x : List ℕ) → Contains xs x → p x ≡ true → list_any p xs ≡ true
any_from p xs x (k, kl, e) passes = list_any_at p xs k x kl (ap p e ∙ passes)

pub plain_minimal : (rows : List Row) (attrs : ℕ) (x : List ℕ) (a : ℕ) → AreWide attrs rows → AreWithin attrs x → a < attrs → is_plain rows x a ≡ true → IsMinimal rows (plain x a)
unfolding is_plain
plain_minimal rows attrs x a wide within al is =
    let less = λ (part : List ℕ). determines rows part a in
    let tests = and_parts (determines rows x a) (not (list_any less (proper_parts x))) is in
    record {
      holds = plain_holds rows attrs x a wide within al (determines_true rows x a tests.0);
      least = λ kept away held.
          let still = plain_held rows attrs (filter kept x) a wide (All-filter kept (λ attr. attr < attrs) x within) al (subst (Hold rows) (part_plain kept x a) held) in
          both_ways (list_any less (proper_parts x)) (not-true (list_any less (proper_parts x)) tests.1)
          (any_from less (proper_parts x) (filter kept x) (kept_is_part kept x away) (determines_from rows (filter kept x) a still));
    }

-- what is tested of constants
pub record IsTested (rows : List Row) (support : ℕ) (x : List ℕ) (a r : ℕ) : Type 0 where
  pub first : is_first rows x r ≡ true
  pub many : has_support rows support x r ≡ true
  pub short_a : is_short rows (a ∷ []) r ≡ true
  pub short : is_short rows x r ≡ true
  pub settled : settles rows x a r ≡ true
  pub least : list_any (λ part. settles rows part a r) (proper_parts x) ≡ false

pub tests_of : (rows : List Row) (support : ℕ) (x : List ℕ) (a r : ℕ) → is_constant rows support x a r ≡ true → IsTested rows support x a r
unfolding is_constant
tests_of rows support x a r is =
    let less = list_any (λ part. settles rows part a r) (proper_parts x) in
    let one = and_parts (is_first rows x r && has_support rows support x r && is_short rows (a ∷ []) r && is_short rows x r && settles rows x a r) (not less) is in
    let two = and_parts (is_first rows x r && has_support rows support x r && is_short rows (a ∷ []) r && is_short rows x r) (settles rows x a r) one.0 in
    let three = and_parts (is_first rows x r && has_support rows support x r && is_short rows (a ∷ []) r) (is_short rows x r) two.0 in
    let four = and_parts (is_first rows x r && has_support rows support x r) (is_short rows (a ∷ []) r) three.0 in
    let five = and_parts (is_first rows x r) (has_support rows support x r) four.0 in
    record { first = five.0; many = five.1; short_a = four.1; short = three.1; settled = two.1; least = not-true less one.1 }

pub from_tests : (rows : List Row) (support : ℕ) (x : List ℕ) (a r : ℕ) → IsTested rows support x a r → is_constant rows support x a r ≡ true
unfolding is_constant
from_tests rows support x a r is =
    and_from _ _ (and_from _ _ (and_from _ _ (and_from _ _ (and_from _ _ is.first is.many) is.short_a) is.short) is.settled)
    (not_from_false (list_any (λ part. settles rows part a r) (proper_parts x)) is.least)

pub constant_minimal : (rows : List Row) (attrs support : ℕ) (x : List ℕ) (a r : ℕ) → AreWide attrs rows → AreWithin attrs x → a < attrs
    → is_constant rows support x a r ≡ true → IsMinimal rows (constant x a (texts_at rows r x) (text_at rows r a))
constant_minimal rows attrs support x a r wide within al is =
    let less = λ (part : List ℕ). settles rows part a r in
    let tests = tests_of rows support x a r is in
    record {
      holds = constant_holds rows attrs x a (texts_at rows r x) (text_at rows r a) wide within al (settles_true rows x a r tests.settled);
      least = λ kept away held.
          let z = filter kept x in
          let still = constant_held rows attrs z a (texts_at rows r z) (text_at rows r a) wide (All-filter kept (λ attr. attr < attrs) x within) al
          (subst (Hold rows) (part_constant kept (row_at rows r) x a (text_at rows r a)) held) in
          both_ways (list_any less (proper_parts x)) tests.least (any_from less (proper_parts x) z (kept_is_part kept x away) (settles_from rows z a r still));
    }

-- ---- each that is found is a candidate

outside_of : (a : ℕ) (x : List ℕ) → list_any (nat_eq a) x ≡ false → Contains x a → ⊥
outside_of a x none (k, kl, e) = both_ways (list_any (nat_eq a) x) none (list_any_at (nat_eq a) x k a kl (eq-eqb a (get_or x k a) (sym e)))

pub sides_of : (attrs width : ℕ) (x : List ℕ) (a : ℕ) → IsSide attrs width x → a < attrs → list_any (nat_eq a) x ≡ false → AreSides attrs width x a
sides_of attrs width x a is al none = record { rising = is.rising; narrow = is.narrow; x_within = is.within; a_within = al; outside = outside_of a x none }

pub constants_of : (rows : List Row) (support : ℕ) (x : List ℕ) (a r : ℕ) → IsTested rows support x a r → AreConstants rows support x (texts_at rows r x) (text_at rows r a)
unfolding has_support
constants_of rows support x a r is = record {
  short = short_texts rows r x is.short;
  short_a = short_texts rows r (a ∷ []) is.short_a 0 [] (omega arith);
  many = omega (
    arith,
    leb-true support (tally (λ s. agree rows x r s) (length rows)) is.many,
    count_rows (λ (row : Row). pointwise bytes_eq (texts_at rows r x) (texts row x)) rows,
  );
}

-- ---- one that is found is left of each candidate

still_outside : (a : ℕ) (kept : ℕ → Bool) (x : List ℕ) → (Contains x a → ⊥) → list_any (nat_eq a) (filter kept x) ≡ false
still_outside a kept x outside =
    false_from_ne_true (list_any (nat_eq a) (filter kept x)) (λ e.
    outside (contains_from_filter kept x a (Contains-from_any (λ p q same. eqb-true p q same) a (filter kept x) e)).0)

-- one that is found has the attributes that are kept, and is of this kind
pub record LeavesPlain (rows : List Row) (attrs width support : ℕ) (x : List ℕ) (a : ℕ) : Type 0 where
  pub kept : ℕ → Bool
  pub side : ℕ
  pub is : side_at (left_sides attrs width) side ≡ filter kept x
  pub found : Contains (all_found rows support attrs (left_sides attrs width)) (plain_of a side)

pub plain_left : (rows : List Row) (attrs width support : ℕ) (x : List ℕ) (a : ℕ) → AreWide attrs rows → AreSides attrs width x a → Hold rows (plain x a)
    → LeavesPlain rows attrs width support x a
unfolding is_plain
plain_left rows attrs width support x a wide are holds =
    let test = λ (y : List ℕ). determines rows y a in
    let passes = determines_from rows x a (plain_held rows attrs x a wide are.x_within are.a_within holds) in
    let least = least_within test (length x) x (omega arith) are.rising passes in
    let z = filter least.kept x in
    let (side, sl, is) = left_side attrs width z (AllPairs-filter ◌<◌ least.kept x are.rising) (omega (arith, filter_shorter least.kept x, are.narrow)) (All-filter least.kept (λ attr. attr < attrs) x are.x_within) in
    let sides = left_sides attrs width in
    record {
      kept = least.kept;
      side = side;
      is = is;
      found = plain_found rows support attrs sides side a sl are.a_within
          (subst (λ (y : List ℕ). list_any (nat_eq a) y ≡ false) (sym is) (still_outside a least.kept x are.outside))
          (subst (λ (y : List ℕ). is_plain rows y a ≡ true) (sym is)
          (and_from (determines rows z a) (not (list_any test (proper_parts z))) least.passes (not_from_false (list_any test (proper_parts z)) least.least)));
    }

-- the same of a row that has the constants
pub record LeavesConstant (rows : List Row) (attrs width support : ℕ) (x : List ℕ) (a : ℕ) (values : List (List ℕ)) (value : List ℕ) : Type 0 where
  pub kept : ℕ → Bool
  pub side : ℕ
  pub r : ℕ
  pub is : side_at (left_sides attrs width) side ≡ filter kept x
  pub found : Contains (all_found rows support attrs (left_sides attrs width)) (constant_of a side r)
  pub same : part kept (constant x a values value) ≡ constant (filter kept x) a (texts_at rows r (filter kept x)) (text_at rows r a)

-- a row that has the constants at X, and their number
some_row : (rows : List Row) (support : ℕ) (x : List ℕ) (values : List (List ℕ)) → 1 ≤ support
    → support ≤ count_by (λ (row : Row). pointwise bytes_eq values (texts row x)) rows → (r : ℕ) × (r < length rows) × (values ≡ texts_at rows r x)
some_row rows support x values some many =
    let test = λ (row : Row). pointwise bytes_eq values (texts row x) in
    let counted = count_rows test rows in
    let (r, rl, e) = tally_some (λ s. test (row_at rows s)) (length rows) (omega (arith, some, many, counted)) in
    (r, rl, (pointwise_decides bytes_eq-Decides values (texts_at rows r x)).0 e)

-- where a row has the texts of another at X, and X settles A for the other
same_a : (rows : List Row) (z : List ℕ) (a r other : ℕ) → r < length rows → texts_at rows r z ≡ texts_at rows other z → settles rows z a other ≡ true → text_at rows other a ≡ text_at rows r a
same_a rows z a r other rl same settled = settles_true rows z a other settled r rl (sym same)

settles_too : (rows : List Row) (y : List ℕ) (a r other : ℕ) → texts_at rows r y ≡ texts_at rows other y → text_at rows r a ≡ text_at rows other a → settles rows y a r ≡ true → settles rows y a other ≡ true
settles_too rows y a r other same here settled =
    settles_from rows y a other (λ s sl e. sym here ∙ settles_true rows y a r settled s sl (same ∙ e))

-- rows with the constants at X have the texts of the row at fewer attributes
support_too : (rows : List Row) (support : ℕ) (x : List ℕ) (values : List (List ℕ)) (kept : ℕ → Bool) (r other : ℕ)
    → support ≤ count_by (λ (row : Row). pointwise bytes_eq values (texts row x)) rows → values ≡ texts_at rows other x
    → texts_at rows r (filter kept x) ≡ texts_at rows other (filter kept x) → has_support rows support (filter kept x) r ≡ true
unfolding has_support
support_too rows support x values kept r other many has same =
    let test = λ (row : Row). pointwise bytes_eq values (texts row x) in
    let z = filter kept x in
    let wider = tally_wider (λ s. test (row_at rows s)) (λ s. agree rows z r s) (length rows) (λ s sl e.
    let equal = (pointwise_decides bytes_eq-Decides values (texts_at rows s x)).0 e in
    (agree_decides rows z r s).1 (same ∙ same_on_kept (row_at rows other) (row_at rows s) kept x (sym has ∙ equal))) in
    le-leb support (tally (λ s. agree rows z r s) (length rows)) (omega (arith, many, count_rows test rows, wider))

-- no part settles A for the one row, since none does for the other
none_settles : (rows : List Row) (z : List ℕ) (a r other : ℕ) → AllPairs ◌<◌ z → texts_at rows r z ≡ texts_at rows other z → text_at rows r a ≡ text_at rows other a
    → list_any (λ part. settles rows part a other) (proper_parts z) ≡ false → list_any (λ part. settles rows part a r) (proper_parts z) ≡ false
none_settles rows z a r other rising same here none =
    let by_row = λ (part : List ℕ). settles rows part a r in
    let by_other = λ (part : List ℕ). settles rows part a other in
    false_from_ne_true (list_any by_row (proper_parts z)) (λ e.
    let (y, among, settled) = any_found by_row (proper_parts z) e in
    let is = part_is_kept z y rising among in
    let same_y = subst (λ (y : List ℕ). texts_at rows r y ≡ texts_at rows other y) is.is (same_on_kept (row_at rows r) (row_at rows other) is.kept z same) in
    both_ways (list_any by_other (proper_parts z)) none (any_from by_other (proper_parts z) y among (settles_too rows y a r other same_y here settled)))

pub constant_left : (rows : List Row) (attrs width support : ℕ) (x : List ℕ) (a : ℕ) (values : List (List ℕ)) (value : List ℕ) → AreWide attrs rows → 1 ≤ support
    → AreSides attrs width x a → AreConstants rows support x values value → Hold rows (constant x a values value) → LeavesConstant rows attrs width support x a values value
constant_left rows attrs width support x a values value wide some are constants holds =
    let fixed = constant_held rows attrs x a values value wide are.x_within are.a_within holds in
    let (other, ol, has) = some_row rows support x values some constants.many in
    let has_a = fixed other ol has in
    let passes = settles_from rows x a other (λ s sl same. sym has_a ∙ fixed s sl (has ∙ same)) in
    let least = least_within (λ y. settles rows y a other) (length x) x (omega arith) are.rising passes in
    let z = filter least.kept x in
    let rising = AllPairs-filter ◌<◌ least.kept x are.rising in
    let first = first_of rows z other other (omega arith) in
    let r = first.r in
    let rl : r < length rows = omega (arith, first.above, ol) in
    let same_at_a = same_a rows z a r other rl first.same least.passes in
    let (side, sl, is) = left_side attrs width z rising (omega (arith, filter_shorter least.kept x, are.narrow)) (All-filter least.kept (λ attr. attr < attrs) x are.x_within) in
    let short = subst (All (λ (text : List ℕ). length text ≤ 1024)) (sym first.same)
    (short_on_kept (row_at rows other) least.kept x (subst (All (λ (text : List ℕ). length text ≤ 1024)) has constants.short)) in
    let short_a = subst (λ (text : List ℕ). length text ≤ 1024) (has_a ∙ same_at_a) constants.short_a in
    let Short = λ (text : List ℕ). length text ≤ 1024 in
    let tested : IsTested rows support z a r = record {
      first = first.first;
      many = support_too rows support x values least.kept r other constants.many has first.same;
      short_a = short_test rows r (a ∷ []) (All-cons Short (text_at rows r a) [] short_a (All-nil Short));
      short = short_test rows r z short;
      settled = settles_too rows z a other r (sym first.same) same_at_a least.passes;
      least = none_settles rows z a r other rising first.same (sym same_at_a) least.least;
    } in
    record {
      kept = least.kept;
      side = side;
      r = r;
      is = is;
      found = constant_found rows support attrs (left_sides attrs width) side a r sl are.a_within
          (subst (λ (y : List ℕ). list_any (nat_eq a) y ≡ false) (sym is) (still_outside a least.kept x are.outside)) rl
          (subst (λ (y : List ℕ). is_constant rows support y a r ≡ true) (sym is) (from_tests rows support z a r tested));
      same =
          ap (λ (vs : List (List ℕ)). part least.kept (constant x a vs value)) has
          ∙ part_constant least.kept (row_at rows other) x a value
          ∙ (λ i. constant z a (sym first.same i) ((has_a ∙ same_at_a) i));
    }
