use Rattle.std.proofs.Common.{◌≡◌, ◌++◌, ◌∷◌, take}
use Rattle.std.specs.List.{flat_map}
use Rattle.line_grammar.specs.Tokens.{piece}
use Rattle.line_grammar.proofs.quoting.push_quoted.Given as goal

abbrev pub invariant-loop-byte : goal.invariant-loop-byte
invariant-loop-byte l = l.out.items ≡ l.fn.out.items ++ 39 ∷ flat_map piece (take l.byte-index l.byte-items)
