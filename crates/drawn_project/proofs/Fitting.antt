-- The rows that are drawn are rows of the generated tables.
use Rattle.std.proofs.Common.{◌≡◌, ℕ, zero, suc, ◌%◌, ◌<◌, ◌≤◌, List, [], ◌∷◌, length, map, All, Contains, codes, decimal, refl, ap, sym, ◌∙◌, subst, add-one, zero-add, mod-lt, length-append, arith, lit<}
use Rattle.std.specs.Fmt.{digits}
use Rattle.std.specs.List.{range_with_len}
use Rattle.std.proofs.lemmas.Fmt.{length-decimal-le_succ}
use Rattle.std.proofs.lemmas.List.Elements.{All-cons, All-nil, All-push}
use Rattle.std.proofs.lemmas.List.FromFn.{map-range_with_len_more}
use Rattle.schema_core.specs.Rows.{IsRowOf}
use Rattle.schema_core.specs.declared.schema.Schema.{Schema}
use Rattle.bench_core.specs.Loading.{AreTables}
use Rattle.drawn_project.specs.Project.{lettered, master_row, master_rows, row, rows}
use Rattle.drawn_project.proofs.Known.{g_attrs, generated_schema, m_attrs}
use Rattle.drawn_project.proofs.Lists.{All-drawn}

abbrev IsShort : List ℕ → Type 0
IsShort text = length text ≤ 65535

short : (letter : List ℕ) (n : ℕ) → length letter ≤ 1 → n < 5000 → IsShort (lettered letter n)
short letter n one low = omega (arith, length-append letter (decimal n), length-decimal-le_succ n (omega arith))

-- the digits of a number below 3 are a value of f
three : (n : ℕ) → n < 3 → Contains (codes "0" ∷ codes "1" ∷ codes "2" ∷ []) (decimal n)
unfolding digits
three zero low = (0, lit< tt, refl)
three (suc zero) low = (1, lit< tt, refl)
three (suc (suc zero)) low = (2, lit< tt, refl)
three (suc (suc (suc n))) low = absurd (omega arith)

g_fits : (k a b f : ℕ) → k < 5000 → a < 7 → b < 3 → f < 3 → IsRowOf g_attrs 65535 (lettered (codes "k") k ∷ lettered (codes "a") a ∷ lettered (codes "b") b ∷ decimal f ∷ [])
g_fits k a b f k_low a_low b_low f_low = record {
  domains = (tt, (tt, (tt, (three f f_low, tt))));
  short = All-cons IsShort (lettered (codes "k") k) (lettered (codes "a") a ∷ lettered (codes "b") b ∷ decimal f ∷ []) (short (codes "k") k (omega arith) k_low)
      (All-cons IsShort (lettered (codes "a") a) (lettered (codes "b") b ∷ decimal f ∷ []) (short (codes "a") a (omega arith) (omega arith))
      (All-cons IsShort (lettered (codes "b") b) (decimal f ∷ []) (short (codes "b") b (omega arith) (omega arith))
      (All-cons IsShort (decimal f) [] (short [] f (omega arith) (omega arith)) (All-nil IsShort))));
}

m_fits : (k a : ℕ) → k < 5000 → a < 7 → IsRowOf m_attrs 65535 (lettered (codes "k") k ∷ lettered (codes "a") a ∷ [])
m_fits k a k_low a_low = record {
  domains = (tt, (tt, tt));
  short = All-cons IsShort (lettered (codes "k") k) (lettered (codes "a") a ∷ []) (short (codes "k") k (omega arith) k_low) (All-cons IsShort (lettered (codes "a") a) [] (short (codes "a") a (omega arith) (omega arith)) (All-nil IsShort));
}

row_fits : (word : ℕ) → IsRowOf g_attrs 65535 (row word).0
unfolding row
row_fits word = g_fits _ _ _ _ (mod-lt _ (lit< tt)) (mod-lt _ (lit< tt)) (mod-lt _ (lit< tt)) (mod-lt _ (lit< tt))

rows_fit : (word : ℕ) → All (IsRowOf g_attrs 65535) (rows word).0
unfolding rows
rows_fit word = All-drawn (IsRowOf g_attrs 65535) (λ place. row) (λ place w. row_fits w) 0 20000 word

masters_fit : (count : ℕ) → count ≤ 5000 → All (IsRowOf m_attrs 65535) (master_rows count)
unfolding master_rows
masters_fit zero few = All-nil (IsRowOf m_attrs 65535)
masters_fit (suc n) few =
    let next = ap (λ k. map master_row (range_with_len 0 k)) (sym (add-one n)) ∙ map-range_with_len_more master_row 0 n n (zero-add n) in
    subst (All (IsRowOf m_attrs 65535)) (sym next)
    (All-push (IsRowOf m_attrs 65535) (map master_row (range_with_len 0 n)) (master_row n) (masters_fit n (omega arith)) (m_fits n (n % 7) (omega arith) (mod-lt n (lit< tt))))

pub tables_fit : (schema : Schema) (word : ℕ) → schema ≡ generated_schema → AreTables schema 65535 ((rows word).0 ∷ master_rows 4500 ∷ [])
tables_fit schema word is = subst (λ (s : Schema). AreTables s 65535 ((rows word).0 ∷ master_rows 4500 ∷ [])) (sym is) (rows_fit word, (masters_fit 4500 (omega arith), tt))
