-- What is so of the table of a name.
use Rattle.std.proofs.Common.{ℕ, Option, None, Some}
use Rattle.std.specs.Prelude.{IfSome, IsSome, unwrap_or}

pub of_known : (P : ℕ → Type 0) (place : Option ℕ) → IsSome place → IfSome place P → P (unwrap_or place 0)
of_known P None known is = absurd (cc)
of_known P (Some table) known is = is
