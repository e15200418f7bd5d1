-- The shortest text of tildes that isn't among others.
use Rattle.std.proofs.Common.{◌≡◌, ℕ, zero, suc, ◌+◌, ◌-◌, ◌<◌, ◌≤◌, Bool, true, false, not, List, [], ◌∷◌, length, get_or, Option, Contains, sym, ap, ◌∙◌, arith}
use Rattle.std.specs.Prelude.{unwrap_or}
use Rattle.std.specs.List.{range_with_len}
use Rattle.std.specs.Option.{option_map}
use Rattle.std.specs.Str.{bytes_eq}
use Rattle.text_lists.specs.Repeats.{is_among}
use Rattle.cell_values.specs.Fresh.{tildes, longest, fresh_past, IsFreshPast}
use Rattle.cell_values.proofs.Lists.{find-map, find_range_first}
use Rattle.cell_values.proofs.Among.{among_if_Contains, not_among}

longest_at : (texts : List (List ℕ)) (text : List ℕ) (k : ℕ) → k < length texts → get_or texts k text ≡ text → length text ≤ longest texts
longest_at [] text k within is = absurd (omega arith)
longest_at (t ∷ texts) text zero within is = let same = ap length is in omega arith
longest_at (t ∷ texts) text (suc k) within is = let rest = longest_at texts text k (omega arith) is in omega arith

-- no text is longer than the longest
pub longest_bounds : (texts : List (List ℕ)) (text : List ℕ) → Contains texts text → length text ≤ longest texts
longest_bounds texts text (k, within, is) = longest_at texts text k within is

-- what the relation says of a text is what the function gives
pub fresh_is : (count : ℕ) (texts : List (List ℕ)) (text : List ℕ) → IsFreshPast count texts text → text ≡ fresh_past count texts
fresh_is count texts text fresh =
    let p : List ℕ → Bool = λ t. not (is_among bytes_eq texts t) in
    let k = fresh.length - (count + 1) in
    let at : count + 1 + k ≡ fresh.length = omega arith in
    let here : p (tildes (count + 1 + k)) ≡ true = rw (at, ← fresh.is_tildes) (ap not (not_among texts text fresh.new)) in
    let before : (j : ℕ) → j < k → p (tildes (count + 1 + j)) ≡ false = λ j less. ap not (among_if_Contains texts (tildes (count + 1 + j)) (fresh.shortest (count + 1 + j) (omega arith) (omega arith))) in
    let found = find_range_first (λ n. p (tildes n)) (count + 1) (longest texts + 1) k (omega (arith, fresh.few)) here before in
    fresh.is_tildes ∙ ap tildes (sym at)
    ∙ sym (ap (λ (o : Option (List ℕ)). unwrap_or o []) (find-map p tildes (range_with_len (count + 1) (longest texts + 1)) ∙ ap (option_map tildes) found))
