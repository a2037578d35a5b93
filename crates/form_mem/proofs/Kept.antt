-- A map from names to bytes, seen as a finite map.
use Rattle.std.proofs.Common.{◌≡◌, ℕ, List, [], ◌∷◌, Bool, true, false, cond, Option, Some, String, Vec, string_bytes, Bor, refl, sym, ap, ◌∙◌}
use Rattle.std.specs.BTreeMap.{BTreeMap, Updates, is_at, get_by_text}
use Rattle.std.specs.Map.{lookup}
use Rattle.std.specs.Option.{option_map, option_copied}
use Rattle.std.specs.Ordering.{nat_cmp, is_eq, eq_by_cmp}
use Rattle.std.specs.Cmp.{eq_by_cmp_equiv}
use Rattle.std.specs.Cmp.Lexicographic.{slice_cmp, nat_list_cmp_total}
use Rattle.std.specs.String.{string_cmp}
use Rattle.std.specs.Str.{bytes_eq}
use Rattle.std.specs.FinMap as map
use Rattle.std.specs.FinMap.{get-empty, get-insert, same_map, nat_cmp-IsAntisymmetric, slice_cmp-IsAntisymmetric}
use Rattle.std.proofs.lemmas.Map.Text.{btree_map_updates_text, is_eq-slice_cmp}
use Rattle.form_mem.specs.TextMap.{texts_of}

-- the bytes of a choice are a choice of bytes
items_of-cond : {B : Type 0} (b : Bool) (text : Vec ℕ B) (rest : Option (Vec ℕ B)) →
    option_map (λ v. v.items) (cond b (Some text) rest) ≡ cond b (Some text.items) (option_map (λ v. v.items) rest)
items_of-cond true text rest = refl
items_of-cond false text rest = refl

-- the text under a name, in the finite map and in the map that is searched
pub get-texts_of : {A B : Type 0} (entries : List (String A × Vec ℕ B)) (name : List ℕ) →
    map.get (texts_of entries) name ≡ option_map (λ v. v.items) (lookup (is_at (λ key. slice_cmp nat_cmp name (string_bytes key))) entries)
get-texts_of [] name = get-empty (slice_cmp nat_cmp) name
get-texts_of (entry ∷ entries) name =
    get-insert nat_list_cmp_total (texts_of entries) (string_bytes entry.0) entry.1.items name
    ∙ ap (cond (is_eq (slice_cmp nat_cmp name (string_bytes entry.0))) (Some entry.1.items)) (get-texts_of entries name)
    ∙ sym (items_of-cond (is_eq (slice_cmp nat_cmp name (string_bytes entry.0))) entry.1 _)

-- an insertion into the one is an insertion into the other
pub texts_of-insert : {A B : Type 0} (old new : BTreeMap (String A) (Vec ℕ B)) (name : String A) (text : Vec ℕ B) →
    Updates string_cmp old new name (Some text) → texts_of new.entries ≡ map.insert (texts_of old.entries) (string_bytes name) text.items
texts_of-insert old new name text updates =
    same_map nat_list_cmp_total (slice_cmp-IsAntisymmetric nat_cmp-IsAntisymmetric) _ _ (λ query.
    get-texts_of new.entries query
    ∙ ap (option_map (λ v. v.items)) (btree_map_updates_text (string_bytes name) old new (Some text) updates query)
    ∙ items_of-cond (bytes_eq (string_bytes name) query) text _
    ∙ ap (λ b. cond b (Some text.items) (option_map (λ v. v.items) (get_by_text old query)))
    (sym (is_eq-slice_cmp (string_bytes name) query) ∙ (eq_by_cmp_equiv nat_list_cmp_total).symm (string_bytes name) query)
    ∙ ap (cond (eq_by_cmp (slice_cmp nat_cmp) query (string_bytes name)) (Some text.items)) (sym (get-texts_of old.entries query))
    ∙ sym (get-insert nat_list_cmp_total (texts_of old.entries) (string_bytes name) text.items query))

-- what a search found is the text
pub text_of_found : {A B : Type 0} (texts : BTreeMap (String A) (Vec ℕ B)) (name : List ℕ) (found : Option (Bor (Vec ℕ B))) →
    option_copied found ≡ get_by_text texts name → map.get (texts_of texts.entries) name ≡ option_map (λ v. v.items) (option_copied found)
text_of_found texts name found is = get-texts_of texts.entries name ∙ ap (option_map (λ v. v.items)) (sym is)
