-- What is drawn off a word: numbers, one after the other, and what is made of them.
use Rattle.std.specs.Prelude.{ℕ, zero, suc, ◌+◌, ◌*◌, ◌/◌, ◌%◌, ◌^◌, List, [], ◌∷◌}

-- what is drawn off a word, and the word that this leaves
abbrev pub Drawn : Type 0 → Type 0
Drawn X = ℕ → X × ℕ

-- no number is drawn for this
abbrev pub given : {X : Type 0} → X → Drawn X
given x word = (x, word)

-- one after the other
infixl 10 ◌>>=◌
abbrev pub ◌>>=◌ : {X Y : Type 0} → Drawn X → (X → Drawn Y) → Drawn Y
(first >>= further) word = let drawn = first word in further drawn.0 drawn.1

-- ---- numbers

-- the word after a word
unfoldable pub next_word : ℕ → ℕ
next_word word = (word * 6364136223846793005 + 1442695040888963407) % 2 ^ 64

-- a number below the bound: the next word gives it, by its upper 31 bits
abbrev pub draw : ℕ → Drawn ℕ
draw bound word = (next_word word / 2 ^ 33 % bound, next_word word)

-- ---- lists

-- one for each of so many numbers, from the first on
unfoldable pub for_each : {X : Type 0} → (ℕ → Drawn X) → ℕ → ℕ → Drawn (List X)
for_each one first zero = given []
for_each one first (suc more) = do
  x ← one first
  others ← for_each one (first + 1) more
  given (x ∷ others)
