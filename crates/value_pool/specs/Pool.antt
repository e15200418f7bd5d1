-- What a pool holds: a list of texts, each the list of its bytes. The id of a text is its place in it.
use Rattle.std.specs.Prelude.{◌≡◌, ◌≤◌, ℕ, List, [], ◌∷◌, ◌++◌, ◌⊎◌, Some, length, slice_get}

-- the text has this id
abbrev pub HasId : List (List ℕ) → List ℕ → ℕ → Type 0
HasId texts text id = slice_get texts id ≡ Some text

-- the text has no id
abbrev pub IsNew : List (List ℕ) → List ℕ → Type 0
IsNew texts text = (id : ℕ) → ¬ HasId texts text id

-- no text has two ids
abbrev pub HaveOneId : List (List ℕ) → Type 0
HaveOneId texts = (text : List ℕ) (one other : ℕ) → HasId texts text one → HasId texts text other → one ≡ other

-- how many texts may have an id
abbrev pub most_ids : ℕ
most_ids = 4294967296

-- what a pool holds: no text has two ids, and each has one
pub record IsPool (texts : List (List ℕ)) : Type 0 where
  pub distinct : HaveOneId texts
  pub few : length texts ≤ most_ids

-- each text that had an id has it still
abbrev pub KeepsIds : List (List ℕ) → List (List ℕ) → Type 0
KeepsIds old new = (text : List ℕ) (id : ℕ) → HasId old text id → HasId new text id

-- old with the text: a text that is there changes nothing, and a new one goes last
abbrev pub Interns : List (List ℕ) → List ℕ → List (List ℕ) → Type 0
Interns old text new = ((id : ℕ) × HasId old text id × (new ≡ old)) ⊎ (IsNew old text × (new ≡ old ++ text ∷ []))
