-- What reading gives: a value, or a line of the file with what is wrong there. Want of memory is no case of it: that a
-- call may also run out of memory is said in one place, by `UnlessMemory`.
use Rattle.std.specs.Prelude.{◌≡◌, ℕ, Option, Some, None, Result, Ok, Err, IfSome}
use Rattle.std.specs.declared.alloc.AllocError.{AllocError}
use Rattle.line_grammar.specs.declared.fault.LineFault.{LineFault}
use Rattle.line_grammar.specs.declared.fault.LineFault.TheVariants.{At, Memory}

-- where a file is faulty, and why
pub record Faulty (C : Type 0) : Type 0 where
  pub line : ℕ
  pub cause : C

-- what bytes spell, or where they are faulty
abbrev pub Reading : Type 0 → Type 0 → Type 0
Reading X C = Result X (Faulty C)

abbrev pub faulty : {X C : Type 0} → ℕ → C → Reading X C
faulty number cause = Err (record { line = number; cause = cause })

infixl 10 ◌>>=◌
abbrev pub ◌>>=◌ : {A B C : Type 0} → Reading A C → (A → Reading B C) → Reading B C
(Ok x) >>= f = f x
(Err fault) >>= f = Err fault

-- the causes that lines of every kind of file have
pub record Causes (C : Type 0) : Type 0 where
  pub not_utf8 : C
  pub bad_line : C

-- What a call returned: `ok` holds of a value, and `err` of what a fault tells. A fault that tells nothing is want of
-- memory, which may come in place of any answer.
abbrev pub UnlessMemory : {X E C : Type 0} → (E → Option C) → (X → Type 0) → (C → Type 0) → Result X E → Type 0
UnlessMemory tells ok err (Ok x) = ok x
UnlessMemory tells ok err (Err fault) = IfSome (tells fault) err

-- what a call returned, seen by `view`, is exactly that, unless memory ran out
abbrev pub GivesUnlessMemory : {X Y E C : Type 0} → (E → Option C) → Result Y C → (X → Y) → Result X E → Type 0
GivesUnlessMemory tells said view result = UnlessMemory tells (λ x. said ≡ Ok (view x)) (λ cause. said ≡ Err cause) result

-- what a call returned is exactly that, unless memory ran out
abbrev pub IsUnlessMemory : {X E C : Type 0} → (E → Option C) → Result X C → Result X E → Type 0
IsUnlessMemory tells said result = GivesUnlessMemory tells said (λ x. x) result

-- what the fault of a file tells
abbrev pub line_tells : {C : Type 0} → LineFault C → Option (Faulty C)
line_tells (At number cause) = Some (record { line = number; cause = cause })
line_tells Memory = None

-- a call that can fail by want of memory alone tells nothing
abbrev pub nothing_tells : {C : Type 0} → AllocError → Option C
nothing_tells fault = None
