use Rattle.std.proofs.Common.{ℕ, ◌<◌, List, get_or}
use Rattle.std.specs.Str.{IsUtf8}
use Rattle.cert_text.proofs.print.see_texts.Given as goal

abbrev pub invariant-loop-text : goal.invariant-loop-text
invariant-loop-text l = (k : ℕ) (d : List ℕ) → k < l.text-index → IsUtf8 (get_or l.texts k d)
