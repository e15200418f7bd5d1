-- What is kept beside the entries, once the editor's last live entry is taken back, on which nobody built.
use Rattle.std.proofs.Common.{◌≡◌, ℕ, suc, ◌≤◌, ◌⊎◌, inl, inr, ◌&&◌, ◌||◌, not, Bool, true, false, List, length, Some, option_map, if◌then◌else◌, slice_get, refl, sym, ◌∙◌, ap, arith, true≢false}
use Rattle.std.proofs.lemmas.Option.{slice_get-map, slice_get_within}
use Rattle.std.proofs.Math.Bool.{and-false, and-true}
use Rattle.std.proofs.lemmas.Bool.{ne_eqb, eq-eqb, cases_eq, ltb-false}
use Rattle.std.proofs.lemmas.Slice.Eq.{bytes_eq-Decides}
use Rattle.std.specs.Option.{option_map_or}
use Rattle.std.specs.Str.{bytes_eq}
use Rattle.desk_entries.specs.declared.entries.Kept.{Kept}
use Rattle.desk_entries.specs.declared.entries.RowTops.{RowTops}
use Rattle.desk_entries.specs.Numbers.{last_up_to}
use Rattle.desk_entries.specs.Entries.{Entry, entry_is, is_by, is_deletion, is_firm_on, is_live, is_live_of, is_on, is_overtaken, last_live}
use Rattle.desk_entries.specs.Kept.{AreRowsTied, IsChain, IsTied, RowKey, by_editor, entries_kept, entry_kept, firm_below, is_held, is_live_but, live_below, on_row, same_row}
use Rattle.desk_entries.proofs.Numbers.{last-passes, last-reaches}
use Rattle.desk_entries.proofs.Chains.{chain-retired, chain-same}
use Rattle.desk_entries.proofs.Tied.{entry_is-at, same-bytes, same-pair}

both : (a b : Bool) → (a && b) ≡ true → (a ≡ true) × (b ≡ true)
both true b h = (refl, h)
both false b h = absurd (true≢false (sym h))

module _ (list : List Kept) (editor : List ℕ) (k : ℕ) (tk : Kept) (live live1 : List ℕ → ℕ) (rows rows1 : RowKey → RowTops)
    (tied : IsTied (is_live (entries_kept list)) list live rows)
    (last : suc k ≡ last_live (entries_kept list) editor)
    (at : slice_get list k ≡ Some tk)
    (firm-ground : is_overtaken (entries_kept list) (suc k) (entry_kept tk) ≡ false)
    (of_editor : (q : List ℕ) → live1 q ≡ (if bytes_eq editor q then tk.live_below else live q))
    (of_row : (q : RowKey) → rows1 q ≡ (if not (is_deletion (entry_kept tk)) && same_row (tk.entry.table, tk.entry.row) q then record { version = (rows q).version; firm = tk.firm_below } else rows q)) where
  abbrev es : List Entry
  es = entries_kept list

  abbrev len : ℕ
  len = length (entries_kept list)

  abbrev alive : ℕ → Bool
  alive = is_live_but (entries_kept list) (suc k)

  abbrev te : Entry
  te = entry_kept tk

  abbrev on : RowKey
  on = (tk.entry.table, tk.entry.row)

  there : slice_get es k ≡ Some te
  there = slice_get-map entry_kept list k ∙ ap (option_map entry_kept) at

  within : suc k ≤ len
  within = let w = slice_get_within es k te there in omega arith

  passes : (entry_is (is_by editor) es (suc k) ≡ true) × (is_live es (suc k) ≡ true)
  passes = both (entry_is (is_by editor) es (suc k)) (is_live es (suc k)) (last-passes (is_live_of es editor) len k (sym last))

  own-editor : tk.entry.editor ≡ editor
  own-editor = same-bytes tk.entry.editor editor (sym (entry_is-at (is_by editor) es k te there) ∙ passes.0)

  gone : alive (suc k) ≡ false
  gone = ap (λ b. is_live es (suc k) && not b) (eq-eqb (suc k) (suc k) refl) ∙ and-false (is_live es (suc k))

  same : (m : ℕ) → suc m ≤ len → (m ≡ k → ⊥) → alive (suc m) ≡ is_live es (suc m)
  same m w ne = ap (λ b. is_live es (suc m) && not b) (ne_eqb (suc k) (suc m) (λ x. ne (omega arith))) ∙ and-true (is_live es (suc m))

  -- ---- its editor

  editor-own : (q : List ℕ) → by_editor es q (suc k) ≡ true → (live q ≡ suc k) × (live1 q ≡ live_below list k)
  editor-own q mem =
      let e : editor ≡ q = sym own-editor ∙ same-bytes tk.entry.editor q (sym (entry_is-at (is_by q) es k te there) ∙ mem) in (
        ap live (sym e) ∙ tied.live.tops editor ∙ sym last,
        of_editor q ∙ ap (λ (b : Bool). if b then tk.live_below else live q) ((bytes_eq-Decides editor q).1 e) ∙ sym (ap (λ o. option_map_or (λ (x : Kept). x.live_below) o 0) at),
      )

  editor-other : (q : List ℕ) → by_editor es q (suc k) ≡ false → (b : Bool) → bytes_eq editor q ≡ b → live1 q ≡ live q
  editor-other q out true h =
      let e : tk.entry.editor ≡ q = own-editor ∙ same-bytes editor q h in
      absurd (true≢false (sym ((bytes_eq-Decides tk.entry.editor q).1 e) ∙ (sym (entry_is-at (is_by q) es k te there) ∙ out)))
  editor-other q out false h = of_editor q ∙ ap (λ (b : Bool). if b then tk.live_below else live q) h

  live-retired : IsChain (by_editor es) alive len live1 (live_below list)
  live-retired = chain-retired (by_editor es) len live (live_below list) (is_live es) tied.live alive live1 k within passes.1 gone same editor-own (λ q out. editor-other q out (bytes_eq editor q) refl)

  -- ---- its row, where it is a deletion

  module _ (deletes : is_deletion te ≡ true) where
    row-stays : (q : RowKey) → rows1 q ≡ rows q
    row-stays q = of_row q ∙ ap (λ (b : Bool). if not b && same_row on q then record { version = (rows q).version; firm = tk.firm_below } else rows q) deletes

    held-same : (m : ℕ) → suc m ≤ len → (m ≡ k) ⊎ (m ≡ k → ⊥) → is_held es alive (suc m) ≡ is_held es (is_live es) (suc m)
    held-same m w (inl e) =
        let d : entry_is is_deletion es (suc m) ≡ true = rw e (entry_is-at is_deletion es k te there ∙ deletes) in
        ap (λ b. b || alive (suc m)) d ∙ sym (ap (λ b. b || is_live es (suc m)) d)
    held-same m w (inr ne) = ap (λ b. entry_is is_deletion es (suc m) || b) (same m w ne)

    rows-kept : AreRowsTied alive list rows1
    rows-kept = record {
      firm = chain-same (on_row es) len (λ q. (rows q).firm) (firm_below list) (is_held es (is_live es)) tied.rows.firm (is_held es alive) (λ q. (rows1 q).firm) (λ m w. held-same m w (cases_eq m k)) (λ q. ap (λ (t : RowTops). t.firm) (row-stays q));
      version = λ q. ap (λ (t : RowTops). t.version) (row-stays q) ∙ tied.rows.version q;
    }

  -- ---- its row, where it isn't one

  module _ (keeps : is_deletion te ≡ false) where
    next : (q : RowKey) → rows1 q ≡ (if same_row on q then record { version = (rows q).version; firm = tk.firm_below } else rows q)
    next q = of_row q ∙ ap (λ (b : Bool). if not b && same_row on q then record { version = (rows q).version; firm = tk.firm_below } else rows q) keeps

    no-deletion : entry_is is_deletion es (suc k) ≡ false
    no-deletion = entry_is-at is_deletion es k te there ∙ keeps

    was-held : is_held es (is_live es) (suc k) ≡ true
    was-held = ap (λ b. b || is_live es (suc k)) no-deletion ∙ passes.1

    not-held : is_held es alive (suc k) ≡ false
    not-held = ap (λ b. b || alive (suc k)) no-deletion ∙ gone

    on-own : entry_is (is_on tk.entry.table tk.entry.row) es (suc k) ≡ true
    on-own = entry_is-at (is_on tk.entry.table tk.entry.row) es k te there ∙ (let a = eq-eqb tk.entry.table tk.entry.table refl in let b = eq-eqb tk.entry.row tk.entry.row refl in λ i. a i && b i)

    firm-last : last_up_to (is_firm_on es tk.entry.table tk.entry.row) len ≡ suc k
    firm-last =
        let low = ltb-false (suc k) (last_up_to (is_firm_on es tk.entry.table tk.entry.row) len) firm-ground in
        let pass : is_firm_on es tk.entry.table tk.entry.row (suc k) ≡ true = (λ i. on-own i && was-held i) in
        let reach = last-reaches (is_firm_on es tk.entry.table tk.entry.row) len k pass within in omega arith

    row-own : (q : RowKey) → on_row es q (suc k) ≡ true → ((rows q).firm ≡ suc k) × ((rows1 q).firm ≡ firm_below list k)
    row-own q mem =
        let s : same_row on q ≡ true = sym (entry_is-at (is_on q.0 q.1) es k te there) ∙ mem in
        let p = same-pair on q s in (
          sym (λ i. (rows (p.0 i, p.1 i)).firm) ∙ tied.rows.firm.tops on ∙ firm-last,
          ap (λ (t : RowTops). t.firm) (next q ∙ ap (λ (b : Bool). if b then record { version = (rows q).version; firm = tk.firm_below } else rows q) s) ∙ sym (ap (λ o. option_map_or (λ (x : Kept). x.firm_below) o 0) at),
        )

    row-other : (q : RowKey) → on_row es q (suc k) ≡ false → (rows1 q).firm ≡ (rows q).firm
    row-other q out =
        let s : same_row on q ≡ false = sym (entry_is-at (is_on q.0 q.1) es k te there) ∙ out in
        ap (λ (t : RowTops). t.firm) (next q ∙ ap (λ (b : Bool). if b then record { version = (rows q).version; firm = tk.firm_below } else rows q) s)

    version-stays : (q : RowKey) (b : Bool) → same_row on q ≡ b → (rows1 q).version ≡ (rows q).version
    version-stays q true s = ap (λ (t : RowTops). t.version) (next q ∙ ap (λ (b : Bool). if b then record { version = (rows q).version; firm = tk.firm_below } else rows q) s)
    version-stays q false s = ap (λ (t : RowTops). t.version) (next q ∙ ap (λ (b : Bool). if b then record { version = (rows q).version; firm = tk.firm_below } else rows q) s)

    rows-freed : AreRowsTied alive list rows1
    rows-freed = record {
      firm = chain-retired (on_row es) len (λ q. (rows q).firm) (firm_below list) (is_held es (is_live es)) tied.rows.firm (is_held es alive) (λ q. (rows1 q).firm) k within was-held not-held
          (λ m w ne. ap (λ b. entry_is is_deletion es (suc m) || b) (same m w ne)) row-own row-other;
      version = λ q. version-stays q (same_row on q) refl ∙ tied.rows.version q;
    }

  rows-retired : (b : Bool) → is_deletion te ≡ b → AreRowsTied alive list rows1
  rows-retired true deletes = rows-kept deletes
  rows-retired false keeps = rows-freed keeps

  pub retired : IsTied alive list live1 rows1
  retired = record { live = live-retired; rows = rows-retired (is_deletion te) refl }
