-- The edit of a number, by what it leaves when it is divided by five.
use Rattle.std.proofs.Common.{◌≡◌, ◌≢◌, ℕ, ◌%◌, codes, refl}
use Rattle.std.proofs.lemmas.Bool.{ne_eqb}
use Rattle.script_lines.specs.declared.command.Command.TheVariants.{Undo}
use Rattle.drawn_project.specs.Draws.{given}
use Rattle.drawn_project.specs.Edits.{deletion, edit_at, fifth, fixing, insertion, setting}

pub at_one : (n : ℕ) → n % 5 ≡ 1 → edit_at n ≡ insertion
unfolding edit_at
at_one n is = rw is refl

pub at_two : (n : ℕ) → n % 5 ≡ 2 → edit_at n ≡ setting (codes "a") 7
unfolding edit_at
at_two n is = rw is refl

pub at_three : (n : ℕ) → n % 5 ≡ 3 → edit_at n ≡ fixing
unfolding edit_at
at_three n is = rw is refl

pub at_four : (n : ℕ) → n % 5 ≡ 4 → edit_at n ≡ given (deletion n)
unfolding edit_at
at_four n is = rw is refl

pub at_rest : (n : ℕ) → n % 5 ≢ 1 → n % 5 ≢ 2 → n % 5 ≢ 3 → n % 5 ≢ 4 → edit_at n ≡ fifth n
unfolding edit_at
at_rest n one two three four = rw (ne_eqb (n % 5) 1 one, ne_eqb (n % 5) 2 two, ne_eqb (n % 5) 3 three, ne_eqb (n % 5) 4 four) refl

pub undo_at : (n : ℕ) → n % 10 ≡ 5 → fifth n ≡ given Undo
unfolding fifth
undo_at n is = rw is refl

pub set_at : (n : ℕ) → n % 10 ≢ 5 → fifth n ≡ setting (codes "b") 3
unfolding fifth
set_at n other = rw (ne_eqb (n % 10) 5 other) refl
