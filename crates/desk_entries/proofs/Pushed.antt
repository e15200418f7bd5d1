-- What is kept beside the entries is right again, once one is taken back and another one is appended.
use Rattle.std.proofs.Common.{◌≡◌, ℕ, zero, suc, ◌-◌, ◌<◌, ◌≤◌, ◌==◌, ◌&&◌, not, Bool, true, false, List, [], ◌∷◌, ◌++◌, length, Some, None, option_map, is_none, if◌then◌else◌, slice_get, get_or, refl, sym, ◌∙◌, ap, subst, arith, true≢false}
use Rattle.std.proofs.lemmas.Option.{none-some, same_Some, slice_get-get_or, slice_get_within}
use Rattle.std.proofs.Math.Bool.{and-true}
use Rattle.std.specs.Option.{option_map_or, IfSome}
use Rattle.std.specs.Str.{bytes_eq}
use Rattle.desk_entries.specs.declared.entries.Kept.{Kept}
use Rattle.desk_entries.specs.declared.entries.NewEntry.{NewEntry}
use Rattle.desk_entries.specs.declared.entries.RowTops.{RowTops}
use Rattle.desk_entries.specs.Entries.{Entry, is_by, is_deletion, is_live, is_overtaken, last_live}
use Rattle.desk_entries.specs.Kept.{AreRowsTied, IsChain, IsTied, MayTake, RowKey, TakeWithin, by_editor, entries_kept, entry_kept, entry_new, is_live_but, kept_new, live_below, same_row, tops_noted}
use Rattle.desk_entries.proofs.Chains.{chain-pushed}
use Rattle.desk_entries.proofs.Tied.{below-new, below-old, entries-length, entry-kept, entries-push, entry_is-new, entry_is-old, length-snoc, live-new, live-old, rows-noted, same-bytes, take-within}
use Rattle.desk_entries.proofs.Retired.{retired}

-- ---- another entry is appended

-- which entries are live, by those that were live before it
record LiveAfter (es : List Entry) (alive : ℕ → Bool) (fresh : Bool) (all : List Entry) : Type 0 where
  same : (m : ℕ) → suc m ≤ length es → is_live all (suc m) ≡ alive (suc m)
  newest : is_live all (suc (length es)) ≡ fresh

module _ (list : List Kept) (new : NewEntry) (alive : ℕ → Bool) (live next : List ℕ → ℕ) (rows rows1 : RowKey → RowTops) (lb : ℕ)
    (chain : IsChain (by_editor (entries_kept list)) alive (length (entries_kept list)) live (live_below list))
    (tied : AreRowsTied alive list rows)
    (within : TakeWithin (entries_kept list))
    (own : IfSome new.takes (λ n. n ≤ length (entries_kept list)))
    (old : (m : ℕ) → suc m ≤ length (entries_kept list) → is_live (entries_kept list ++ entry_new new ∷ []) (suc m) ≡ alive (suc m))
    (hit : (editor : List ℕ) → bytes_eq new.editor editor ≡ true → is_none new.takes ≡ true → (next editor ≡ suc (length (entries_kept list))) × (lb ≡ live editor))
    (miss : (editor : List ℕ) → (bytes_eq new.editor editor && is_none new.takes) ≡ false → next editor ≡ live editor)
    (is : (key : RowKey) → rows1 key ≡ (if same_row (new.table, new.row) key then tops_noted new (suc (length list)) (rows key) else rows key)) where
  abbrev es : List Entry
  es = entries_kept list

  abbrev e : Entry
  e = entry_new new

  abbrev k : Kept
  k = kept_new new lb (rows (new.table, new.row)).firm

  abbrev Kept-so : List Entry → Type 0
  Kept-so all = IsChain (by_editor all) (is_live all) (length all) next (live_below (list ++ k ∷ [])) × TakeWithin all × LiveAfter es alive (is_none new.takes) all

  live-pushed : IsChain (by_editor (es ++ e ∷ [])) (is_live (es ++ e ∷ [])) (suc (length es)) next (live_below (list ++ k ∷ []))
  live-pushed = chain-pushed (by_editor es) (length es) live (live_below list) alive chain
      (by_editor (es ++ e ∷ [])) (is_live (es ++ e ∷ [])) next (live_below (list ++ k ∷ []))
      (λ q m w. entry_is-old (is_by q) es e m w)
      old
      (λ m w. below-old list k (λ (x : Kept). x.live_below) m w)
      (λ q mem cnt. let h = hit q (sym (entry_is-new (is_by q) es e) ∙ mem) (sym (live-new es e within own) ∙ cnt) in (h.0, below-new list k (λ (x : Kept). x.live_below) ∙ h.1))
      (λ q gone. miss q (rw (entry_is-new (is_by q) es e, live-new es e within own) at gone))

  abbrev ChainTo : ℕ → Type 0
  ChainTo n = IsChain (by_editor (es ++ e ∷ [])) (is_live (es ++ e ∷ [])) n next (live_below (list ++ k ∷ []))

  kept-so : Kept-so (entries_kept (list ++ k ∷ []))
  kept-so = subst Kept-so (sym (entries-push list k)) (
    subst ChainTo (sym (length-snoc es e)) live-pushed,
    take-within es e within own,
    record { same = old; newest = live-new es e within own },
  )

  pub pushed : IsTied (is_live (entries_kept (list ++ k ∷ []))) (list ++ k ∷ []) next rows1 × TakeWithin (entries_kept (list ++ k ∷ []))
  pushed = (
    record { live = kept-so.0; rows = rows-noted list alive (is_live (entries_kept (list ++ k ∷ []))) rows tied new lb rows1 kept-so.2.same kept-so.2.newest is },
    kept-so.1,
  )

-- ---- an entry that takes none back

module _ (list : List Kept) (new : NewEntry) (live next : List ℕ → ℕ) (rows rows1 : RowKey → RowTops) (lb number : ℕ)
    (tied : IsTied (is_live (entries_kept list)) list live rows) (within : TakeWithin (entries_kept list)) (none : new.takes ≡ None)
    (is-number : number ≡ suc (length list))
    (of_editor : (q : List ℕ) → next q ≡ (if bytes_eq new.editor q then number else live q))
    (below : lb ≡ live new.editor)
    (is : (key : RowKey) → rows1 key ≡ (if same_row (new.table, new.row) key then tops_noted new (suc (length list)) (rows key) else rows key)) where
  none-old : (m : ℕ) → suc m ≤ length (entries_kept list) → is_live (entries_kept list ++ entry_new new ∷ []) (suc m) ≡ is_live (entries_kept list) (suc m)
  none-old m w =
      live-old (entries_kept list) (entry_new new) m w
      ∙ ap (λ t. is_live (entries_kept list) (suc m) && not (option_map_or (λ n. n == suc m) t false)) none
      ∙ and-true (is_live (entries_kept list) (suc m))

  none-hit : (q : List ℕ) → bytes_eq new.editor q ≡ true → is_none new.takes ≡ true → (next q ≡ suc (length (entries_kept list))) × (lb ≡ live q)
  none-hit q same t = (
    of_editor q ∙ ap (λ (b : Bool). if b then number else live q) same ∙ is-number ∙ ap suc (sym (entries-length list)),
    below ∙ ap live (same-bytes new.editor q same),
  )

  none-miss-by : (q : List ℕ) (b : Bool) → bytes_eq new.editor q ≡ b → (bytes_eq new.editor q && is_none new.takes) ≡ false → next q ≡ live q
  none-miss-by q true same gone =
      let t : (bytes_eq new.editor q && is_none new.takes) ≡ true = (λ i. same i && is_none (none i)) in
      absurd (true≢false (sym t ∙ gone))
  none-miss-by q false same gone = of_editor q ∙ ap (λ (b : Bool). if b then number else live q) same

  own-none : IfSome new.takes (λ n. n ≤ length (entries_kept list))
  own-none = subst (λ t. IfSome t (λ n. n ≤ length (entries_kept list))) (sym none) tt

  pub pushed-none : IsTied (is_live (entries_kept (list ++ kept_new new lb (rows (new.table, new.row)).firm ∷ []))) (list ++ kept_new new lb (rows (new.table, new.row)).firm ∷ []) next rows1 × TakeWithin (entries_kept (list ++ kept_new new lb (rows (new.table, new.row)).firm ∷ []))
  pushed-none = pushed list new (is_live (entries_kept list)) live next rows rows1 lb tied.live tied.rows within own-none none-old none-hit (λ q gone. none-miss-by q (bytes_eq new.editor q) refl gone) is

-- ---- an entry that takes one back

module _ (list : List Kept) (new : NewEntry) (k : ℕ) (tk : Kept) (live next : List ℕ → ℕ) (rows rows1 rows2 : RowKey → RowTops) (lb : ℕ)
    (tied : IsTied (is_live (entries_kept list)) list live rows) (within : TakeWithin (entries_kept list)) (takes : new.takes ≡ Some (suc k))
    (last : suc k ≡ last_live (entries_kept list) new.editor)
    (at : slice_get list k ≡ Some tk)
    (free : is_overtaken (entries_kept list) (suc k) (entry_kept tk) ≡ false)
    (of_editor : (q : List ℕ) → next q ≡ (if bytes_eq new.editor q then tk.live_below else live q))
    (of_row : (q : RowKey) → rows1 q ≡ (if not (is_deletion (entry_kept tk)) && same_row (tk.entry.table, tk.entry.row) q then record { version = (rows q).version; firm = tk.firm_below } else rows q))
    (is : (key : RowKey) → rows2 key ≡ (if same_row (new.table, new.row) key then tops_noted new (suc (length list)) (rows1 key) else rows1 key)) where
  some-tied : IsTied (is_live_but (entries_kept list) (suc k)) list next rows1
  some-tied = retired list new.editor k tk live next rows rows1 tied last at free of_editor of_row

  some-old : (m : ℕ) → suc m ≤ length (entries_kept list) → is_live (entries_kept list ++ entry_new new ∷ []) (suc m) ≡ is_live_but (entries_kept list) (suc k) (suc m)
  some-old m w = live-old (entries_kept list) (entry_new new) m w ∙ ap (λ t. is_live (entries_kept list) (suc m) && not (option_map_or (λ n. n == suc m) t false)) takes

  own-some : IfSome new.takes (λ n. n ≤ length (entries_kept list))
  own-some =
      let w = slice_get_within list k tk at in
      let long = entries-length list in
      let low : suc k ≤ length (entries_kept list) = omega arith in
      subst (λ t. IfSome t (λ n. n ≤ length (entries_kept list))) (sym takes) low

  some-takes : is_none new.takes ≡ false
  some-takes = ap is_none takes

  pub pushed-some : IsTied (is_live (entries_kept (list ++ kept_new new lb (rows1 (new.table, new.row)).firm ∷ []))) (list ++ kept_new new lb (rows1 (new.table, new.row)).firm ∷ []) next rows2 × TakeWithin (entries_kept (list ++ kept_new new lb (rows1 (new.table, new.row)).firm ∷ []))
  pushed-some = pushed list new (is_live_but (entries_kept list) (suc k)) next next rows1 rows2 lb some-tied.live some-tied.rows within own-some some-old
      (λ q same t. absurd (true≢false (sym t ∙ some-takes))) (λ q gone. refl) is

-- ---- the two, as they are read off a call

abbrev IsKeptBy : (List ℕ → ℕ) → (RowKey → RowTops) → List Kept → Type 0
IsKeptBy next rows list = IsTied (is_live (entries_kept list)) list next rows × TakeWithin (entries_kept list)

module _ (list after : List Kept) (new : NewEntry) (editor : List ℕ) (live next : List ℕ → ℕ) (rows rows1 rows2 : RowKey → RowTops) (lb : ℕ)
    (tied : IsTied (is_live (entries_kept list)) list live rows) (within : TakeWithin (entries_kept list)) (same-editor : editor ≡ new.editor) (below : lb ≡ live editor)
    (is : (key : RowKey) → rows2 key ≡ (if same_row (new.table, new.row) key then tops_noted new (suc (length list)) (rows1 key) else rows1 key))
    (is-after : after ≡ list ++ kept_new new lb (rows1 (new.table, new.row)).firm ∷ []) where
  pub after-none : (number : ℕ) → new.takes ≡ None → number ≡ suc (length list) → ((q : List ℕ) → next q ≡ (if bytes_eq editor q then number else live q)) → rows1 ≡ rows → IsKeptBy next rows2 after
  after-none number none is-number of_editor same-rows =
      subst (IsKeptBy next rows2) (sym is-after)
      (pushed-none list new live next rows1 rows2 lb number (subst (λ r. IsTied (is_live (entries_kept list)) list live r) (sym same-rows) tied) within none is-number
      (λ q. of_editor q ∙ ap (λ e. if bytes_eq e q then number else live q) same-editor) (below ∙ ap live same-editor) is)

  some-at : (k : ℕ) (tk : Kept) → new.takes ≡ Some (suc k) → suc k ≡ last_live (entries_kept list) new.editor → slice_get list k ≡ Some tk → is_overtaken (entries_kept list) (suc k) (entry_kept tk) ≡ false
      → ((q : List ℕ) → next q ≡ (if bytes_eq editor q then tk.live_below else live q))
      → ((q : RowKey) → rows1 q ≡ (if not (is_deletion (entry_kept tk)) && same_row (tk.entry.table, tk.entry.row) q then record { version = (rows q).version; firm = tk.firm_below } else rows q))
      → IsKeptBy next rows2 after
  some-at k tk takes last at free of_editor of_row =
      subst (IsKeptBy next rows2) (sym is-after)
      (pushed-some list new k tk live next rows rows1 rows2 lb tied within takes last at free
      (λ q. of_editor q ∙ ap (λ e. if bytes_eq e q then tk.live_below else live q) same-editor) of_row is)

  pub after-some : (taken : ℕ) (tk : Kept) → new.takes ≡ Some taken → MayTake (entries_kept list) new.editor (Some taken) → tk ≡ get_or list (taken - 1) tk
      → ((q : List ℕ) → next q ≡ (if bytes_eq editor q then tk.live_below else live q))
      → ((q : RowKey) → rows1 q ≡ (if not (is_deletion (entry_kept tk)) && same_row (tk.entry.table, tk.entry.row) q then record { version = (rows q).version; firm = tk.firm_below } else rows q))
      → IsKeptBy next rows2 after
  after-some zero tk takes may read of_editor of_row = absurd (none-some may.1 may.2)
  after-some (suc k) tk takes may read of_editor of_row =
      let short : k < length list = subst (λ n. k < n) (entries-length list) (slice_get_within (entries_kept list) k may.1 may.2) in
      let one : suc k - 1 ≡ k = omega arith in
      let at : slice_get list k ≡ Some tk = slice_get-get_or list k tk short ∙ ap Some (sym (subst (λ n. tk ≡ get_or list n tk) one read)) in
      let there : Some may.1 ≡ Some (entry_kept tk) = sym may.2 ∙ entry-kept list k (suc k) refl ∙ ap (option_map entry_kept) at in
      let free : is_overtaken (entries_kept list) (suc k) (entry_kept tk) ≡ false = subst (λ e. is_overtaken (entries_kept list) (suc k) e ≡ false) (same_Some may.1 (entry_kept tk) there) may.3 in
      some-at k tk takes may.0 at free of_editor of_row
