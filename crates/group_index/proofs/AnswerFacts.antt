-- What follows where a call was answered by Ok, and where by an error.
use Rattle.std.specs.Bool.{OnFalse}
use Rattle.std.proofs.Common.{◌≡◌, Bool, true, false, Result, Ok, Err, OnOk, OnErr}

pub put_answer : {A E : Type 0} (r : Result A E) {P R : Type 0} → OnOk r P → (P → R) → OnOk r R
put_answer (Ok a) p so = so p
put_answer (Err e) p so = tt

pub refused_answer : {A E : Type 0} (r : Result A E) {P R : Type 0} → OnErr r P → (P → R) → OnErr r R
refused_answer (Ok a) p so = tt
refused_answer (Err e) p so = so p

pub kept_answer : (b : Bool) (P : Type 0) → OnFalse b P → b ≡ false → P
kept_answer true P p is = absurd (cc)
kept_answer false P p is = p

pub own_answer : {A E : Type 0} (r : Result A E) (a : A) {P : Type 0} → r ≡ Ok a → OnOk r P → P
own_answer (Ok b) a is p = p
own_answer (Err e) a is p = absurd (cc)
