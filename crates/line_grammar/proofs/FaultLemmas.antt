-- What a fault tells, carried on from a call to its caller.
use Rattle.std.proofs.Common.{Option, Some, None}
use Rattle.std.specs.Prelude.{IfSome}

-- what follows of what a fault tells
pub told_on : {C : Type 0} (told : Option C) (P Q : C → Type 0) → ((cause : C) → P cause → Q cause) → IfSome told P → IfSome told Q
told_on None P Q further holds = tt
told_on (Some cause) P Q further holds = further cause holds
