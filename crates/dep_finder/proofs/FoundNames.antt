-- The names of what is found are names, and no two are the same.
use Rattle.std.proofs.Common.{◌≡◌, ℕ, zero, suc, ◌+◌, ◌<◌, ◌^◌, ◌||◌, true, List, [], ◌∷◌, drop, length, get_or, refl, sym, ap, subst, ◌∙◌, arith, lit<}
use Rattle.std.specs.Prelude.{◌==◌, decimal, nat_le}
use Rattle.std.specs.List.{list_all}
use Rattle.std.specs.Char.{digit_value, is_ascii_alphabetic, is_ascii_digit}
use Rattle.std.specs.Str.Parse.{AllDigits}
use Rattle.std.proofs.lemmas.Bool.{and_from, le-leb, or_left, or_right}
use Rattle.std.proofs.lemmas.Fmt.{decimal_injective, decimal_is_IsNumeral, length-decimal-le}
use Rattle.std.proofs.lemmas.List.{get_or-map, length-map}
use Rattle.std.proofs.lemmas.Str.Parse.{digit_from_value}
use Rattle.text_lists.specs.Names.{IsName, is_name_byte}
use Rattle.rule_model.specs.declared.dep.Dep.{Dep}
use Rattle.dep_search.specs.Rows.{Row}
use Rattle.dep_search.specs.declared.candidate.Candidate.{Candidate}
use Rattle.dep_finder.specs.Deps.{deps_from, found_name}
use Rattle.dep_finder.specs.Valid.{HaveNames}
use Rattle.dep_finder.proofs.Numbered.{deps_long}

-- ---- one name

digit_is_name_byte : (d : ℕ) → digit_value d < 10 → is_name_byte d ≡ true
digit_is_name_byte d low =
    let range = digit_from_value d low in
    or_left (is_ascii_alphabetic d || is_ascii_digit d) (d == 95) (or_right (is_ascii_alphabetic d) (is_ascii_digit d) (and_from _ _ (le-leb 48 d range.0) (le-leb d 57 range.1)))

digits_are_name_bytes : (ds : List ℕ) → AllDigits 10 ds → list_all is_name_byte ds ≡ true
digits_are_name_bytes [] all = refl
digits_are_name_bytes (d ∷ ds) all = and_from (is_name_byte d) (list_all is_name_byte ds) (digit_is_name_byte d all.0) (digits_are_name_bytes ds all.1)

name_is : (place : ℕ) → place + 1 < 2 ^ 64 → IsName (found_name place)
name_is place fits =
    let digits = decimal (place + 1) in
    let short = length-decimal-le 20 (place + 1) (lit< tt) (omega (arith, fits)) fits in
    and_from (list_all is_name_byte digits) (nat_le (suc (length digits)) 64) (digits_are_name_bytes digits (decimal_is_IsNumeral (place + 1) fits).0.1) (le-leb (suc (length digits)) 64 (omega (arith, short)))

same_place : (one other : ℕ) → one + 1 < 2 ^ 64 → other + 1 < 2 ^ 64 → found_name one ≡ found_name other → one ≡ other
same_place one other fits other_fits same = omega (arith, decimal_injective (one + 1) (other + 1) fits other_fits (ap (drop 1) same))

-- ---- all of them

name_at : (number : ℕ) (rows : List Row) (sides : List (List ℕ)) (start : ℕ) (found : List Candidate) (k : ℕ) (d : Dep) → k < length found
    → (get_or (deps_from number rows sides start found) k d).name ≡ found_name (start + k)
name_at number rows sides start [] k d kl = absurd (omega arith)
name_at number rows sides start (c ∷ found) zero d kl =
    let place : start ≡ start + zero = omega arith in
    ap found_name place
name_at number rows sides start (c ∷ found) (suc k) d kl =
    let place : suc start + k ≡ start + suc k = omega arith in
    name_at number rows sides (suc start) found k d (omega arith) ∙ ap found_name place

name_of : (number : ℕ) (rows : List Row) (sides : List (List ℕ)) (found : List Candidate) (k : ℕ) (d : Dep) → k < length found → (get_or (deps_from number rows sides 0 found) k d).name ≡ found_name k
name_of number rows sides found k d kl =
    let place : 0 + k ≡ k = omega arith in
    name_at number rows sides 0 found k d kl ∙ ap found_name place

pub have_names : (number : ℕ) (rows : List Row) (sides : List (List ℕ)) (found : List Candidate) → length found < 2 ^ 64 → HaveNames (deps_from number rows sides 0 found)
have_names number rows sides found fits =
    let deps = deps_from number rows sides 0 found in
    let long : length deps ≡ length found = deps_long number rows sides 0 found in
    let name = λ (dep : Dep). dep.name in
    record {
      each = λ k d kl. subst IsName (sym (name_of number rows sides found k d (omega (arith, kl, long)))) (name_is k (omega (arith, kl, long, fits)));
      distinct = λ i j d lt within same.
          let jl : j < length deps = omega (arith, within, length-map deps name) in
          let il : i < length deps = omega (arith, lt, jl) in
          let at = λ (k : ℕ) (kl : k < length deps). get_or-map name deps k nobody d kl ∙ name_of number rows sides found k nobody (omega (arith, kl, long)) in
          let equal = same_place i j (omega (arith, il, long, fits)) (omega (arith, jl, long, fits)) (sym (at i il) ∙ same ∙ at j jl) in
          omega (arith, lt, equal);
    }
  where
    nobody : Dep
    nobody = record { name = []; table = 0; rule = record { x = []; a = 0; rows = [] } }
