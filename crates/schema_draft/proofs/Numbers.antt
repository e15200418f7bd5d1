-- What a schema file spells doesn't rest on the numbers of its lines.
use Rattle.std.proofs.Common.{◌≡◌, ℕ, Bool, true, false, eqb, leb, List, [], ◌∷◌, length, Option, Some, None, refl, ap, sym, subst, ◌∙◌, arith}
use Rattle.std.specs.Prelude.{Ok, Err, codes, map, is_some, option_and_then}
use Rattle.std.specs.List.{AllZip}
use Rattle.text_lists.specs.declared.limits.Limits.{Limits}
use Rattle.text_lists.specs.declared.limits.Limit.TheVariants as limit
use Rattle.text_lists.specs.Firsts.{first_of}
use Rattle.line_grammar.specs.Faults.{Reading, ◌>>=◌}
use Rattle.line_grammar.specs.FileLines.{begins_with, content_begins, file_lines, found_at, no_lines, read_content, read_line}
use Rattle.line_grammar.specs.Groups.{Cut, cut, in_front, in_turn, read_cut, read_groups}
use Rattle.line_grammar.specs.TokenLists.{none_after}
use Rattle.line_grammar.specs.Contents.{Content, NotUtf8, BadTokens, Tokens}
use Rattle.line_grammar.specs.declared.line.Line.{Line}
use Rattle.line_grammar.specs.declared.group.Group.{Group}
use Rattle.line_grammar.specs.declared.tokens.Token.{Token}
use Rattle.schema_core.specs.SchemaFiles.{add_attr, add_file, add_group, add_head, add_table, attr_fault, cause_if, empty_schema, has_table, reads, schema_causes, table_fault, unless, with_attr, with_table}
use Rattle.schema_core.specs.SchemaLines.{attr_at, head_at}
use Rattle.schema_core.specs.declared.schema.Schema.{Schema}
use Rattle.schema_core.specs.declared.schema.SchemaCause.{SchemaCause}
use Rattle.schema_core.specs.declared.schema.SchemaCause.TheVariants as cause
use Rattle.schema_core.specs.declared.schema.Table.{Table}
use Rattle.schema_core.specs.declared.schema_lines.SchemaHead.{SchemaHead}
use Rattle.schema_core.specs.declared.schema_lines.SchemaHead.TheVariants as head

-- ---- what was read, whatever is told of a fault

abbrev value_of : {X C : Type 0} → Reading X C → Option X
value_of (Ok x) = Some x
value_of (Err fault) = None

then_same : {A B C : Type 0} (r s : Reading A C) (f g : A → Reading B C) → value_of r ≡ value_of s → ((x : A) → value_of (f x) ≡ value_of (g x)) → value_of (r >>= f) ≡ value_of (s >>= g)
then_same (Ok x) (Ok y) f g same each = each x ∙ ap (option_and_then (λ z. value_of (g z))) same
then_same (Ok x) (Err fault) f g same each = cc same
then_same (Err fault) (Ok y) f g same each = cc same
then_same (Err fault) (Err other) f g same each = refl

-- ---- lines that say the same

abbrev SameLine : Line → Line → Type 0
SameLine one other = one.content ≡ other.content

abbrev SameLines : List Line → List Line → Type 0
SameLines = AllZip SameLine

pub same_lines : (ones others : List Line) → map (λ (line : Line). line.content) ones ≡ map (λ (line : Line). line.content) others → SameLines ones others
same_lines [] [] same = tt
same_lines [] (other ∷ others) same = cc same
same_lines (one ∷ ones) [] same = cc same
same_lines (one ∷ ones) (other ∷ others) same =
    let both : one.content ∷ map (λ (line : Line). line.content) ones ≡ other.content ∷ map (λ (line : Line). line.content) others = same in
    let first : one.content ≡ other.content = cc both in
    let rest : map (λ (line : Line). line.content) ones ≡ map (λ (line : Line). line.content) others = cc both in (first, same_lines ones others rest)

same_count : {X Y : Type 0} (R : X → Y → Type 0) (xs : List X) (ys : List Y) → AllZip R xs ys → length xs ≡ length ys
same_count R [] [] all = refl
same_count R [] (y ∷ ys) all = absurd all
same_count R (x ∷ xs) [] all = absurd all
same_count R (x ∷ xs) (y ∷ ys) all = omega (arith, same_count R xs ys all.1)

found_same : {X : Type 0} (number other : ℕ) (o : Option X) → value_of (found_at schema_causes number o) ≡ value_of (found_at schema_causes other o)
found_same number other None = refl
found_same number other (Some x) = refl

content_same : {X : Type 0} (rule : List Token → Option X) (number other : ℕ) (content : Content) → value_of (read_content schema_causes rule number content) ≡ value_of (read_content schema_causes rule other content)
content_same rule number other NotUtf8 = refl
content_same rule number other (BadTokens tokens) = refl
content_same rule number other (Tokens tokens) = found_same number other (rule tokens)

line_same : {X : Type 0} (rule : List Token → Option X) (one other : Line) → SameLine one other → value_of (read_line schema_causes rule one) ≡ value_of (read_line schema_causes rule other)
line_same rule one other same = content_same rule one.number other.number one.content ∙ ap (λ c. value_of (read_content schema_causes rule other.number c)) same

unless_same : {X : Type 0} (fault : Option SchemaCause) (number other : ℕ) (x : X) → value_of (unless fault number x) ≡ value_of (unless fault other x)
unless_same None number other x = refl
unless_same (Some why) number other x = refl

none_same : {X : Type 0} (ones others : List Line) (x : X) → SameLines ones others → value_of (no_lines schema_causes ones x) ≡ value_of (no_lines schema_causes others x)
none_same [] [] x same = refl
none_same [] (other ∷ others) x same = absurd same
none_same (one ∷ ones) [] x same = absurd same
none_same (one ∷ ones) (other ∷ others) x same = refl

turn_same : {S X C : Type 0} (add : S → X → Reading S C) (R : X → X → Type 0) → ((state : S) (x y : X) → R x y → value_of (add state x) ≡ value_of (add state y)) → (state : S) (xs ys : List X) → AllZip R xs ys
    → value_of (in_turn add state xs) ≡ value_of (in_turn add state ys)
turn_same add R each state [] [] all = refl
turn_same add R each state [] (y ∷ ys) all = absurd all
turn_same add R each state (x ∷ xs) [] all = absurd all
turn_same add R each state (x ∷ xs) (y ∷ ys) all =
    then_same (add state x) (add state y) (λ next. in_turn add next xs) (λ next. in_turn add next ys) (each state x y all.0) (λ next. turn_same add R each next xs ys all.1)

-- ---- groups that say the same

abbrev SameGroup : Group → Group → Type 0
SameGroup one other = SameLine one.head other.head × SameLines one.members other.members

abbrev SameCut : Cut → Cut → Type 0
SameCut one other = SameLines one.0 other.0 × AllZip SameGroup one.1 other.1

front_same : (belongs : Bool) (one other : Line) (cut_one cut_other : Cut) → SameLine one other → SameCut cut_one cut_other → SameCut (in_front belongs one cut_one) (in_front belongs other cut_other)
front_same true one other cut_one cut_other line later = ((line, later.0), later.1)
front_same false one other cut_one cut_other line later = (tt, ((line, later.0), later.1))

cut_same : (word : List ℕ) (ones others : List Line) → SameLines ones others → SameCut (cut (begins_with word) ones) (cut (begins_with word) others)
cut_same word [] [] same = (tt, tt)
cut_same word [] (other ∷ others) same = absurd same
cut_same word (one ∷ ones) [] same = absurd same
cut_same word (one ∷ ones) (other ∷ others) same =
    subst (λ b. SameCut (in_front b one (cut (begins_with word) ones)) (in_front (content_begins word other.content) other (cut (begins_with word) others))) (sym (ap (content_begins word) same.0))
    (front_same (content_begins word other.content) one other (cut (begins_with word) ones) (cut (begins_with word) others) same.0 (cut_same word ones others same.1))

attr_same : (limits : Limits) (table : Table) (one other : Line) → SameLine one other → value_of (add_attr limits table one) ≡ value_of (add_attr limits table other)
unfolding add_attr
attr_same limits table one other same =
    then_same (read_line schema_causes (λ tokens. none_after (attr_at tokens)) one) (read_line schema_causes (λ tokens. none_after (attr_at tokens)) other) (λ attr. unless (attr_fault limits table.attrs attr) one.number (with_attr table attr)) (λ attr. unless (attr_fault limits table.attrs attr) other.number (with_attr table attr))
    (line_same (λ tokens. none_after (attr_at tokens)) one other same) (λ attr. unless_same (attr_fault limits table.attrs attr) one.number other.number (with_attr table attr))

-- the fault of a table rests on the number of its members alone
fault_at : Limits → List Table → List ℕ → ℕ → Option SchemaCause
fault_at limits tables name count = first_of (
    cause_if (eqb count 0) cause.BadLine
    ∷ cause_if (has_table tables name) cause.DuplicateName
    ∷ cause_if (leb limits.tables (length tables)) (cause.TooMany limit.Tables)
    ∷ []
    )

fault_same : (limits : Limits) (tables : List Table) (name : List ℕ) (ones others : List Line) → SameLines ones others → table_fault limits tables name ones ≡ table_fault limits tables name others
unfolding fault_at
fault_same limits tables name ones others same = ap (fault_at limits tables name) (same_count SameLine ones others same)

table_same : (limits : Limits) (schema : Schema) (number other : ℕ) (table : Table) (ones others : List Line) → SameLines ones others → value_of (add_table limits schema number table ones) ≡ value_of (add_table limits schema other table others)
table_same limits schema number other table ones others same =
    let before : value_of (unless (table_fault limits schema.tables table.name ones) number table) ≡ value_of (unless (table_fault limits schema.tables table.name others) other table) =
    unless_same (table_fault limits schema.tables table.name ones) number other table ∙ ap (λ fault. value_of (unless fault other table)) (fault_same limits schema.tables table.name ones others same) in
    then_same (unless (table_fault limits schema.tables table.name ones) number table) (unless (table_fault limits schema.tables table.name others) other table) (λ start. in_turn (add_attr limits) start ones >>= λ whole. Ok (with_table schema whole)) (λ start. in_turn (add_attr limits) start others >>= λ whole. Ok (with_table schema whole)) before
    (λ start. then_same (in_turn (add_attr limits) start ones) (in_turn (add_attr limits) start others) (λ whole. Ok (with_table schema whole)) (λ whole. Ok (with_table schema whole)) (turn_same (add_attr limits) SameLine (attr_same limits) start ones others same) (λ whole. refl))

file_same : (named : Option (List ℕ)) (number other : ℕ) (schema : Schema) (ones others : List Line) → SameLines ones others → value_of (add_file named number schema ones) ≡ value_of (add_file named other schema others)
file_same named number other schema ones others same =
    then_same (unless (cause_if (is_some named) cause.DuplicateName) number schema) (unless (cause_if (is_some named) cause.DuplicateName) other schema) (λ with_file. no_lines schema_causes ones with_file) (λ with_file. no_lines schema_causes others with_file)
    (unless_same (cause_if (is_some named) cause.DuplicateName) number other schema) (λ with_file. none_same ones others with_file same)

head_same : (limits : Limits) (schema : Schema) (number other : ℕ) (ones others : List Line) → SameLines ones others → (says : SchemaHead) → value_of (add_head limits schema number ones says) ≡ value_of (add_head limits schema other others says)
head_same limits schema number other ones others same (head.Table master name file) = table_same limits schema number other (record { name = name; file = file; master = master; attrs = [] }) ones others same
head_same limits schema number other ones others same (head.Rules file) = file_same schema.rules number other (record schema { rules = Some file }) ones others same
head_same limits schema number other ones others same (head.Script file) = file_same schema.script number other (record schema { script = Some file }) ones others same

group_same : (limits : Limits) (schema : Schema) (one other : Group) → SameGroup one other → value_of (add_group limits schema one) ≡ value_of (add_group limits schema other)
unfolding add_group
group_same limits schema one other same =
    then_same (read_line schema_causes (λ tokens. none_after (head_at tokens)) one.head) (read_line schema_causes (λ tokens. none_after (head_at tokens)) other.head) (add_head limits schema one.head.number one.members) (add_head limits schema other.head.number other.members)
    (line_same (λ tokens. none_after (head_at tokens)) one.head other.head same.0) (head_same limits schema one.head.number other.head.number one.members other.members same.1)

cut_read : (limits : Limits) (one other : Cut) → SameCut one other → value_of (read_cut schema_causes (add_group limits) empty_schema one) ≡ value_of (read_cut schema_causes (add_group limits) empty_schema other)
cut_read limits one other same =
    then_same (no_lines schema_causes one.0 empty_schema) (no_lines schema_causes other.0 empty_schema) (λ start. in_turn (add_group limits) start one.1) (λ start. in_turn (add_group limits) start other.1)
    (none_same one.0 other.0 empty_schema same.0) (λ start. turn_same (add_group limits) SameGroup (group_same limits) start one.1 other.1 same.1)

read_value : {X C : Type 0} (r s : Reading X C) (x : X) → value_of r ≡ value_of s → r ≡ Ok x → s ≡ Ok x
read_value (Ok y) (Ok z) x same is = cc (same, is)
read_value (Ok y) (Err fault) x same is = cc same
read_value (Err fault) s x same is = cc is

-- a file with the same lines, but for those that are passed over, spells the same schema
pub reads-same : (limits : Limits) (bytes others : List ℕ) (schema : Schema) → SameLines (file_lines bytes) (file_lines others) → reads limits bytes ≡ Ok schema → reads limits others ≡ Ok schema
unfolding reads read_groups
reads-same limits bytes others schema same read =
    read_value (read_cut schema_causes (add_group limits) empty_schema (cut (begins_with (codes "attr")) (file_lines bytes))) (read_cut schema_causes (add_group limits) empty_schema (cut (begins_with (codes "attr")) (file_lines others))) schema
    (cut_read limits (cut (begins_with (codes "attr")) (file_lines bytes)) (cut (begins_with (codes "attr")) (file_lines others)) (cut_same (codes "attr") (file_lines bytes) (file_lines others) same)) read
