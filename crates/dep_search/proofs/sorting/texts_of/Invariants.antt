use Rattle.std.proofs.Common.{◌≡◌, take}
use Rattle.dep_search.specs.Rows.{texts}
use Rattle.dep_search.specs.Keys.{kept_texts}
use Rattle.dep_search.proofs.sorting.texts_of.Given as goal

abbrev pub invariant-loop-attr : goal.invariant-loop-attr
invariant-loop-attr l = kept_texts l.texts ≡ texts l.row (take l.attr-index l.x)
