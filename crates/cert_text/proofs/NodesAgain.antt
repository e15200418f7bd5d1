-- Cells, variables and nodes that are written so are read again.
use Rattle.std.proofs.Common.{◌≡◌, ℕ, List, [], ◌∷◌, ◌++◌, Some, None, refl, arith}
use Rattle.std.proofs.lemmas.Bool.{le-leb}
use Rattle.line_grammar.specs.declared.tokens.Mark.TheVariants.{Equals}
use Rattle.line_grammar.specs.declared.tokens.Token.{Token}
use Rattle.line_grammar.specs.declared.writing.Part.{Part}
use Rattle.line_grammar.specs.declared.writing.Part.TheVariants.{Space}
use Rattle.text_lists.specs.Names.{IsName}
use Rattle.line_grammar.specs.Spelling.{tokens_in, AreApart, IsReadable, name, text, mark}
use Rattle.line_grammar.proofs.PartLemmas.{tokens_then, AreGood, AreGood-append, AreApart-append, IsLoose-space}
use Rattle.cert_text.specs.declared.answers.Kind.{Kind}
use Rattle.cert_text.specs.declared.answers.Kind.TheVariants.{Consistency, Implication}
use Rattle.cell_values.specs.declared.which.Which.{Which}
use Rattle.cell_values.specs.declared.which.Which.TheVariants.{Only, First, Second}
use Rattle.cert_text.specs.declared.names.VarName.{VarName}
use Rattle.cert_text.specs.declared.names.VarName.TheVariants.{Value, Equal}
use Rattle.cert_text.specs.declared.names.ReasonName.{ReasonName}
use Rattle.cert_text.specs.declared.names.ReasonName.TheVariants.{Clause, Two, NoneOf}
use Rattle.cert_text.specs.declared.names.NodeName.{NodeName}
use Rattle.cert_text.specs.declared.names.NodeName.TheVariants.{Split, Leaf, Open}
use Rattle.cert_text.specs.CertLines.{cell_at, value_at, var_at, reason_at, node_at}
use Rattle.cert_text.specs.CertText.{tuple_parts, cell_name_parts, var_parts, reason_parts, node_parts}
use Rattle.cert_text.specs.Written.{IsOfKind, IsVarOf, IsReasonOf, IsNodeOf}

-- ---- they are read

cell_again : (kind : Kind) (tuple : Which) (attr : List ℕ) (rest : List Token) → IsOfKind kind tuple
    → cell_at kind (tokens_in (tuple_parts tuple ++ name attr ∷ []) ++ rest) ≡ Some (record { tuple = tuple; attr = attr }, rest)
unfolding cell_at
cell_again Consistency Only attr rest is = refl
cell_again Consistency First attr rest is = absurd is
cell_again Consistency Second attr rest is = absurd is
cell_again Implication Only attr rest is = absurd is
cell_again Implication First attr rest is = refl
cell_again Implication Second attr rest is = refl

value_again : (kind : Kind) (tuple : Which) (attr value : List ℕ) (rest : List Token) → IsOfKind kind tuple
    → var_at kind (tokens_in ((tuple_parts tuple ++ name attr ∷ []) ++ mark Equals ∷ text value ∷ []) ++ rest) ≡ Some (Value (record { tuple = tuple; attr = attr }) value, rest)
unfolding cell_at value_at var_at
value_again Consistency Only attr value rest is = refl
value_again Consistency First attr value rest is = absurd is
value_again Consistency Second attr value rest is = absurd is
value_again Implication Only attr value rest is = absurd is
value_again Implication First attr value rest is = refl
value_again Implication Second attr value rest is = refl

var_again : (kind : Kind) (v : VarName) (rest : List Token) → IsVarOf kind v → var_at kind (tokens_in (var_parts v) ++ rest) ≡ Some (v, rest)
unfolding var_at
var_again kind (Value cell value) rest is = value_again kind cell.tuple cell.attr value rest is.0.tuple
var_again Consistency (Equal attr) rest is = (let e : Consistency ≡ Implication = is.0 in absurd cc)
var_again Implication (Equal attr) rest is = refl

reason_again : (kind : Kind) (reason : ReasonName) (rest : List Token) → IsReasonOf kind reason → reason_at kind (tokens_in (reason_parts reason) ++ rest) ≡ Some (reason, rest)
reason_again kind (Clause n) rest is = rw (le-leb 1 n is.0, le-leb n 999999999999 is.1) refl
reason_again kind (Two one other) rest is =
    rw (tokens_then (var_parts one) (Space ∷ var_parts other) rest, var_again kind one (tokens_in (var_parts other) ++ rest) is.0, var_again kind other rest is.1) refl
reason_again kind (NoneOf cell) rest is = rw (cell_again kind cell.tuple cell.attr rest is.tuple) refl

pub node_again : (kind : Kind) (node : NodeName) → IsNodeOf kind node → node_at kind (tokens_in (node_parts node) ++ []) ≡ Some (node, [])
unfolding node_at
node_again kind (Split v) is = rw (var_again kind v [] is) refl
node_again kind (Leaf reason) is = rw (reason_again kind reason [] is) refl
node_again kind Open is = refl

-- ---- they can be read

cell_good : (tuple : Which) (attr : List ℕ) → IsName attr → AreGood (tuple_parts tuple ++ name attr ∷ [])
cell_good Only attr is = (is, tt)
cell_good First attr is = (omega arith, (tt, (is, tt)))
cell_good Second attr is = (omega arith, (tt, (is, tt)))

cell_apart : (tuple : Which) (attr : List ℕ) (more : List Part) → AreApart None (mark Equals ∷ more) → AreApart None ((tuple_parts tuple ++ name attr ∷ []) ++ mark Equals ∷ more)
cell_apart Only attr more apart = (refl, (refl, apart.1))
cell_apart First attr more apart = (refl, (refl, (refl, (refl, apart.1))))
cell_apart Second attr more apart = (refl, (refl, (refl, (refl, apart.1))))

cell_alone : (tuple : Which) (attr : List ℕ) → AreApart None (tuple_parts tuple ++ name attr ∷ [])
cell_alone Only attr = (refl, tt)
cell_alone First attr = (refl, (refl, (refl, tt)))
cell_alone Second attr = (refl, (refl, (refl, tt)))

var_good : (kind : Kind) (v : VarName) → IsVarOf kind v → AreGood (var_parts v)
var_good kind (Value cell value) is = AreGood-append (cell_name_parts cell) (mark Equals ∷ text value ∷ []) (cell_good cell.tuple cell.attr is.0.attr) (tt, (is.1, tt))
var_good kind (Equal attr) is = (tt, (is.1, tt))

var_apart : (v : VarName) → AreApart None (var_parts v)
var_apart (Value cell value) = cell_apart cell.tuple cell.attr (text value ∷ []) (refl, (refl, tt))
var_apart (Equal attr) = (refl, (refl, tt))

reason_good : (kind : Kind) (reason : ReasonName) → IsReasonOf kind reason → AreGood (reason_parts reason)
reason_good kind (Clause n) is = (refl, (omega (arith, is.1), tt))
reason_good kind (Two one other) is = (refl, AreGood-append (var_parts one) (Space ∷ var_parts other) (var_good kind one is.0) (var_good kind other is.1))
reason_good kind (NoneOf cell) is = (refl, cell_good cell.tuple cell.attr is.attr)

reason_apart : (reason : ReasonName) → AreApart None (reason_parts reason)
reason_apart (Clause n) = (refl, (refl, tt))
reason_apart (Two one other) = (refl, AreApart-append None (var_parts one) (Space ∷ var_parts other) (var_apart one) (IsLoose-space (var_parts other) (var_apart other)))
reason_apart (NoneOf cell) = (refl, cell_alone cell.tuple cell.attr)

pub node_readable : (kind : Kind) (node : NodeName) → IsNodeOf kind node → IsReadable (node_parts node)
node_readable kind (Split v) is = record { some = omega arith; good = (refl, var_good kind v is); apart = (refl, var_apart v) }
node_readable kind (Leaf reason) is = record { some = omega arith; good = (refl, reason_good kind reason is); apart = (refl, reason_apart reason) }
node_readable kind Open is = record { some = omega arith; good = (refl, tt); apart = (refl, tt) }
