-- A list of lists, with one of them changed.
use Rattle.std.proofs.Common.{◌≡◌, ◌≢◌, ℕ, ◌+◌, ◌<◌, Option, Some, None, refl, List, [], ◌∷◌, ◌++◌, length, get_or, set, sym, ap, ◌∙◌, arith, get_or-set_same, get_or-set_other}
use Rattle.std.specs.Prelude.{MatchOption}
use Rattle.std.specs.Option.{option_to_list}
use Rattle.std.proofs.lemmas.List.{append-nil, get_or-map, length-map, map-set}
use Rattle.std.specs.declared.vec.Vec.{Vec}
use Rattle.std.specs.declared.alloc.Global.{Global}
use Rattle.case_search.specs.Places.{list_at, lists_of}

-- the list that was changed
pub list_after : (lists : List (Vec ℕ Global)) (var : ℕ) (list : Vec ℕ Global) → var < length lists → list_at (lists_of (set lists var list)) var ≡ list.items
list_after lists var list in_range =
    ap (λ (ls : List (List ℕ)). get_or ls var []) (map-set (λ (l : Vec ℕ Global). l.items) lists var list)
    ∙ get_or-set_same (lists_of lists) var list.items [] (omega (arith, length-map lists (λ (l : Vec ℕ Global). l.items)))

-- any other
pub list_other : (lists : List (Vec ℕ Global)) (var v : ℕ) (list : Vec ℕ Global) → v ≢ var → list_at (lists_of (set lists var list)) v ≡ list_at (lists_of lists) v
list_other lists var v list other =
    ap (λ (ls : List (List ℕ)). get_or ls v []) (map-set (λ (l : Vec ℕ Global). l.items) lists var list)
    ∙ get_or-set_other (lists_of lists) var v list.items [] other

-- the list before
pub list_before : (lists : List (Vec ℕ Global)) (var : ℕ) (list : Vec ℕ Global) → var < length lists → list ≡ get_or lists var list → list_at (lists_of lists) var ≡ list.items
list_before lists var list in_range is =
    get_or-map (λ (l : Vec ℕ Global). l.items) lists var list [] in_range ∙ sym (ap (λ (l : Vec ℕ Global). l.items) is)

-- how many there are
pub lists_count : (lists : List (Vec ℕ Global)) → length (lists_of lists) ≡ length lists
lists_count lists = length-map lists (λ (l : Vec ℕ Global). l.items)

-- what a pop says, by cases: nothing was there, or one more element
empty : (xs : List ℕ) → length xs ≡ 0 → xs ≡ []
empty [] none = refl
empty (x ∷ xs) none = absurd (omega arith)

pub popped : (result : Option ℕ) (old new : List ℕ) (count rest : ℕ) → count ≡ length old → MatchOption result ((count ≡ 0) × (rest ≡ 0)) (λ _. rest + 1 ≡ count) → old ≡ new ++ option_to_list result → MatchOption result ((old ≡ []) × (new ≡ [])) (λ at. old ≡ new ++ at ∷ [])
popped None old new count rest counted (none, _) are =
    let nothing = empty old (omega arith) in
    (nothing, sym (append-nil new) ∙ sym are ∙ nothing)
popped (Some at) old new count rest counted cases are = are
