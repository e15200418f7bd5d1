-- The cells that change, one attribute after the other.
use Rattle.std.proofs.Common.{◌≡◌, ℕ, zero, suc, ◌+◌, ◌<◌, Bool, true, false, cond, List, [], ◌∷◌, ◌++◌, length, filter, get_or, take, refl, sym, ap, ◌∙◌, arith}
use Rattle.std.specs.Prelude.{not}
use Rattle.std.specs.List.{flat_map}
use Rattle.std.specs.Str.{bytes_eq}
use Rattle.std.proofs.lemmas.List.{append-nil, append_assoc, length-append, take_all}
use Rattle.std.proofs.lemmas.List.Elements.{filter_more}
use Rattle.std.proofs.lemmas.Grind.{flat_map-append}
use Rattle.schema_core.specs.declared.schema.Attr.{Attr}
use Rattle.edit_replies.specs.Fixing.{Cell, cell_text, cells, changed_cells, differs}

long : (attrs : List Attr) (old new : List (List ℕ)) → length old ≡ length attrs → length new ≡ length attrs → length (cells attrs old new) ≡ length attrs
long [] old new same alike = refl
long (a ∷ attrs) [] new same alike = absurd (cc)
long (a ∷ attrs) (o ∷ old) [] same alike = absurd (cc)
long (a ∷ attrs) (o ∷ old) (n ∷ new) same alike = ap suc (long attrs old new (omega (arith, same)) (omega (arith, alike)))

at : (attrs : List Attr) (old new : List (List ℕ)) (i : ℕ) (a : Attr) (o n : List ℕ) → length old ≡ length attrs → length new ≡ length attrs → i < length attrs → get_or (cells attrs old new) i (a, (o, n)) ≡ (get_or attrs i a, (get_or old i o, get_or new i n))
at [] old new i a o n same alike within = absurd (omega arith)
at (x ∷ attrs) [] new i a o n same alike within = absurd (cc)
at (x ∷ attrs) (y ∷ old) [] i a o n same alike within = absurd (cc)
at (x ∷ attrs) (y ∷ old) (z ∷ new) zero a o n same alike within = refl
at (x ∷ attrs) (y ∷ old) (z ∷ new) (suc i) a o n same alike within = at attrs old new i a o n (omega (arith, same)) (omega (arith, alike)) (omega (arith, within))

module _ (attrs : List Attr) (old new : List (List ℕ)) (same : length old ≡ length attrs) (alike : length new ≡ length attrs) where
  -- the cells that change among the first attributes
  abbrev pub changed : ℕ → List Cell
  changed i = filter differs (take i (cells attrs old new))

  pub all-changed : changed (length attrs) ≡ changed_cells attrs old new
  all-changed = ap (filter differs) (take_all (length attrs) (cells attrs old new) (omega (arith, long attrs old new same alike)))

  module _ (i : ℕ) (within : i < length attrs) (a : Attr) (o n : List ℕ) (a-is : a ≡ get_or attrs i a) (o-is : o ≡ get_or old i o) (n-is : n ≡ get_or new i n) where
    here : get_or (cells attrs old new) i (a, (o, n)) ≡ (a, (o, n))
    here = at attrs old new i a o n same alike within ∙ λ j. (sym a-is j, (sym o-is j, sym n-is j))

    more : changed (i + 1) ≡ changed i ++ cond (differs (a, (o, n))) ((a, (o, n)) ∷ []) []
    more =
        let lt : i < length (cells attrs old new) = omega (arith, within, long attrs old new same alike) in
        filter_more differs (cells attrs old new) i (a, (o, n)) lt ∙ ap (λ (c : Cell). changed i ++ cond (differs c) (c ∷ []) []) here

    pub one-more : bytes_eq o n ≡ false → changed (i + 1) ≡ changed i ++ (a, (o, n)) ∷ []
    one-more apart = more ∙ ap (λ b. changed i ++ cond (not b) ((a, (o, n)) ∷ []) []) apart

    pub no-more : bytes_eq o n ≡ true → changed (i + 1) ≡ changed i
    no-more equal = more ∙ ap (λ b. changed i ++ cond (not b) ((a, (o, n)) ∷ []) []) equal ∙ append-nil (changed i)

    pub text-more : (before out later : List ℕ) → bytes_eq o n ≡ false → out ≡ before ++ flat_map cell_text (changed i) → later ≡ out ++ cell_text (a, (o, n)) → later ≡ before ++ flat_map cell_text (changed (i + 1))
    text-more before out later apart so_far is =
        is ∙ ap (λ t. t ++ cell_text (a, (o, n))) so_far ∙ append_assoc before (flat_map cell_text (changed i)) (cell_text (a, (o, n)))
        ∙ ap (λ t. before ++ t) (sym (ap (flat_map cell_text) (one-more apart) ∙ flat_map-append cell_text (changed i) ((a, (o, n)) ∷ []) ∙ ap (λ t. flat_map cell_text (changed i) ++ t) (append-nil (cell_text (a, (o, n))))))

    pub long-more : (count later : ℕ) → bytes_eq o n ≡ false → count ≡ length (changed i) → later ≡ count + 1 → later ≡ length (changed (i + 1))
    long-more count later apart so_far is =
        let more : length (changed (i + 1)) ≡ length (changed i) + 1 = ap (λ (cs : List Cell). length cs) (one-more apart) ∙ length-append (changed i) ((a, (o, n)) ∷ []) in
        omega (arith, is, so_far, more)

-- what a negation tells
pub flipped : (b : Bool) → not b ≡ true → b ≡ false
flipped true is = absurd (cc)
flipped false is = refl

pub flipped-back : (b : Bool) → not b ≡ false → b ≡ true
flipped-back true is = refl
flipped-back false is = absurd (cc)
