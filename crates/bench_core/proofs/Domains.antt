-- Texts against the domains of their attributes, one after the other.
use Rattle.std.proofs.Common.{◌≡◌, ℕ, ◌+◌, ◌<◌, true, false, List, length, drop, get_or, Some}
use Rattle.std.proofs.lemmas.List.{drop_more}
use Rattle.schema_core.specs.Schemas.{admits}
use Rattle.schema_core.specs.declared.schema.Attr.{Attr}
use Rattle.bench_core.specs.Edited.{outside_domain}
use Rattle.bench_core.specs.declared.edit.EditFault.TheVariants.{NotInDomain}

-- where the next text is in its domain, what is found is found after it
pub outside_domain-admitted : (attrs : List Attr) (texts : List (List ℕ)) (i : ℕ) (a : Attr) (t : List ℕ) → i < length attrs → i < length texts → a ≡ get_or attrs i a → t ≡ get_or texts i t → admits a.domain t ≡ true
    → outside_domain (drop i attrs) (drop i texts) ≡ outside_domain (drop (i + 1) attrs) (drop (i + 1) texts)
outside_domain-admitted attrs texts i a t in_attrs in_texts a-is t-is admitted =
    rw (drop_more attrs i a in_attrs, drop_more texts i t in_texts, ← a-is, ← t-is, admitted)

-- where it isn't, it is the first
pub outside_domain-outside : (attrs : List Attr) (texts : List (List ℕ)) (i : ℕ) (a : Attr) (t : List ℕ) → i < length attrs → i < length texts → a ≡ get_or attrs i a → t ≡ get_or texts i t → admits a.domain t ≡ false
    → outside_domain (drop i attrs) (drop i texts) ≡ Some (NotInDomain a.name)
outside_domain-outside attrs texts i a t in_attrs in_texts a-is t-is outside =
    rw (drop_more attrs i a in_attrs, drop_more texts i t in_texts, ← a-is, ← t-is, outside)
