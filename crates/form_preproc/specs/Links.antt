-- Where blocks end and go on, by places in a list of lines.
use Rattle.std.specs.Prelude.{◌≡◌, ℕ, suc, ◌+◌, ◌<◌, if◌then◌else◌, List, [], ◌∷◌, length, drop, slice_index_or}
use Rattle.form_preproc.specs.Block.{to_closer, to_end, is_opening, is_end, is_closer}
use Rattle.form_preproc.specs.declared.key.Key.{Key}
use Rattle.form_preproc.specs.declared.links.Link.{Link}

-- no line
abbrev pub no_link : ℕ → Link
no_link size = record { closer = size; close = size }

-- behind a place, the block that is open there goes on or ends at the closer, and ends at the close
pub record IsLink {A : Type 0} (key : A → Key) (lines : List A) (depth place : ℕ) (link : Link) : Type 0 where
  pub goes_on : drop link.closer lines ≡ to_closer key depth (drop place lines)
  pub ends : drop link.close lines ≡ to_end key depth (drop place lines)

-- each of these links is that of the line at its place
abbrev pub AreLinks : {A : Type 0} → (A → Key) → List A → List Link → Type 0
AreLinks key lines links = (k : ℕ) → k < length lines → IsLink key lines 0 (suc k) (slice_index_or links k (no_link (length lines)))

abbrev pub below : List Link → List Link
below [] = []
below (link ∷ links) = links

-- The links of the blocks that are open before a line, the innermost first, where these are those behind it and this is the first of them.
abbrev pub open_before : Key → ℕ → Link → List Link → List Link
open_before key place link blocks =
    if is_end key then record { closer = place; close = place } ∷ blocks
    else if is_closer key then record { closer = place; close = link.close } ∷ below blocks
    else if is_opening key then below blocks
    else blocks
