-- Looking a name up in the list that a shelf in memory keeps.
use Rattle.std.proofs.Common.{◌≡◌, ℕ, ◌+◌, ◌<◌, Bool, true, false, List, [], ◌∷◌, ◌++◌, map, length, drop, get_or, cond, Some, None, Option, is_some, option_copied, Bor, string_bytes, ap, sym, ◌∙◌}
use Rattle.std.specs.Str.{bytes_eq}
use Rattle.std.specs.Cmp.Lexicographic.{nat_list_cmp_total}
use Rattle.std.specs.FinMap.{get-insert, get-from_entries, from_entries, from_entries_push, insert, slice_cmp-IsAntisymmetric, nat_cmp-IsAntisymmetric}
use Rattle.std.proofs.lemmas.Map.Text.{is_eq-slice_cmp}
use Rattle.std.proofs.lemmas.List.{at_drop_more, map-append}
use Rattle.shelf_io.specs.declared.files.HeldFile.{HeldFile}
use Rattle.shelf_io.specs.Files.{file_at, with_file}
use Rattle.shelf_io.specs.Held.{entry_of, files_of}

-- the first file, where it has the name, and else what the others give
pub file_at-first : (file : HeldFile) (files : List HeldFile) (name : List ℕ) → file_at (files_of (file ∷ files)) name ≡ cond (bytes_eq name (string_bytes file.name)) (Some file.bytes.items) (file_at (files_of files) name)
file_at-first file files name =
    get-insert nat_list_cmp_total (files_of files) (string_bytes file.name) file.bytes.items name
    ∙ ap (λ b. cond b (Some file.bytes.items) (file_at (files_of files) name)) (is_eq-slice_cmp name (string_bytes file.name))

-- the same at a place in the list, where the name was compared with that file's text
pub file_at-drop : (files : List HeldFile) (place : ℕ) (file : HeldFile) (name text : List ℕ) (same : Bool) → place < length files → file ≡ get_or files place file → text ≡ string_bytes file.name → same ≡ bytes_eq name text → file_at (files_of (drop place files)) name ≡ cond same (Some file.bytes.items) (file_at (files_of (drop (place + 1) files)) name)
file_at-drop files place file name text same within is named tested =
    at_drop_more (λ rest. file_at (files_of rest) name) files place file within
    ∙ ap (λ f. file_at (files_of (f ∷ drop (place + 1) files)) name) (sym is)
    ∙ file_at-first file (drop (place + 1) files) name
    ∙ ap (λ b. cond b (Some file.bytes.items) (file_at (files_of (drop (place + 1) files)) name)) (sym (tested ∙ ap (bytes_eq name) named))

pub file_at-named : (files : List HeldFile) (place : ℕ) (file : HeldFile) (name text : List ℕ) (same : Bool) → place < length files → file ≡ get_or files place file → text ≡ string_bytes file.name → same ≡ bytes_eq name text → same ≡ true → file_at (files_of (drop place files)) name ≡ Some file.bytes.items
file_at-named files place file name text same within is named tested is_same =
    file_at-drop files place file name text same within is named tested
    ∙ ap (λ b. cond b (Some file.bytes.items) (file_at (files_of (drop (place + 1) files)) name)) is_same

pub file_at-not_named : (files : List HeldFile) (place : ℕ) (file : HeldFile) (name text : List ℕ) (same : Bool) → place < length files → file ≡ get_or files place file → text ≡ string_bytes file.name → same ≡ bytes_eq name text → same ≡ false → file_at (files_of (drop place files)) name ≡ file_at (files_of (drop (place + 1) files)) name
file_at-not_named files place file name text same within is named tested differs =
    file_at-drop files place file name text same within is named tested
    ∙ ap (λ b. cond b (Some file.bytes.items) (file_at (files_of (drop (place + 1) files)) name)) differs

-- a file whose name is new, put behind the others
pub files_of-push : (files : List HeldFile) (file : HeldFile) (name bytes : List ℕ) → string_bytes file.name ≡ name → file.bytes.items ≡ bytes → file_at (files_of files) name ≡ None → files_of (files ++ file ∷ []) ≡ with_file (files_of files) name bytes
files_of-push files file name bytes named holds none =
    ap from_entries (map-append entry_of files (file ∷ []))
    ∙ from_entries_push nat_list_cmp_total (slice_cmp-IsAntisymmetric nat_cmp-IsAntisymmetric) (map entry_of files) (string_bytes file.name) file.bytes.items
    (sym (get-from_entries nat_list_cmp_total (map entry_of files) (string_bytes file.name)) ∙ ap (file_at (files_of files)) named ∙ none)
    ∙ ap (λ n. insert (files_of files) n file.bytes.items) named
    ∙ ap (insert (files_of files) name) holds
    ∙ sym (ap (λ found. cond (is_some found) (files_of files) (insert (files_of files) name bytes)) none)

-- a look-up that finds nothing
pub none_there : (found : Option (Bor (List ℕ))) (file : Option (List ℕ)) → option_copied found ≡ file → is_some found ≡ false → file ≡ None
none_there None file is empty = sym is
none_there (Some bytes) file is empty = cc
