-- The entries of a map with one more stand for their list with one more.
use Rattle.std.proofs.Common.{◌≡◌, ℕ, ◌+◌, ◌<◌, Bool, true, false, not, if◌then◌else◌, List, [], ◌∷◌, length, map, take, fold, get_or, Option, Some, None, refl, sym, ap, ◌∙◌}
use Rattle.std.specs.Prelude.{slice_get}
use Rattle.std.specs.List.{list_any}
use Rattle.std.specs.Ordering.{nat_cmp, match_ordering}
use Rattle.std.specs.declared.cmp.Ordering.{Ordering}
use Rattle.std.specs.declared.cmp.Ordering.TheVariants.{Less, Equal, Greater}
use Rattle.std.specs.BTreeMap.{insert_entry}
use Rattle.std.proofs.lemmas.List.{take_more}
use Rattle.std.proofs.lemmas.List.Sums.{fold-append}
use Rattle.std.proofs.lemmas.Option.{slice_get-get_or}
use Rattle.form_check.specs.declared.checked.Checked.{Checked}
use Rattle.form_check.specs.declared.checked.Checked.TheVariants.{Drop, Skip, Local, Print}
use Rattle.form_term.specs.declared.monomial.Monomial.{Monomial}
use Rattle.form_expand.specs.declared.stored.Stored.{Stored}
use Rattle.form_module.specs.Kept.{as_stored}
use Rattle.form_module.specs.Module.{with_expression}
use Rattle.form_module.specs.Places.{work_at, right_side_of, with_place, with_standing}
use Rattle.form_module.specs.Sets.{has, is_held}
use Rattle.form_module.specs.Works.{Work, and_definition, and_standing, goes_through, with_work, works_of}
use Rattle.form_module.specs.declared.expression_set.ExpressionSet.{ExpressionSet}
use Rattle.form_module.proofs.Stays.{going}

map-match_ordering : {A B : Type 0} (f : A → B) (o : Ordering) (less equal greater : List A) → map f (match_ordering o less equal greater) ≡ match_ordering o (map f less) (map f equal) (map f greater)
map-match_ordering f Less less equal greater = refl
map-match_ordering f Equal less equal greater = refl
map-match_ordering f Greater less equal greater = refl

-- ---- expressions with their terms

pub stored : (entries : List (ℕ × List Monomial)) (id : ℕ) (terms : List Monomial) →
    map as_stored (insert_entry nat_cmp entries id terms) ≡ with_expression (map as_stored entries) (record { expression = id; terms = terms })
stored [] id terms = refl
stored (e ∷ es) id terms =
    map-match_ordering as_stored (nat_cmp id e.0) ((id, terms) ∷ e ∷ es) ((e.0, terms) ∷ es) (e ∷ insert_entry nat_cmp es id terms)
    ∙ ap (λ later. match_ordering (nat_cmp id e.0) (as_stored (id, terms) ∷ as_stored e ∷ map as_stored es) (as_stored (e.0, terms) ∷ map as_stored es) (as_stored e ∷ later)) (stored es id terms)

-- ---- what is carried out

module _ (s : List Checked) where
  put : (entries : List (ℕ × Option ℕ)) (id : ℕ) (place : Option ℕ) →
      map (work_at s) (insert_entry nat_cmp entries id place) ≡ with_work (map (work_at s) entries) (work_at s (id, place))
  put [] id place = refl
  put (e ∷ es) id place =
      map-match_ordering (work_at s) (nat_cmp id e.0) ((id, place) ∷ e ∷ es) ((e.0, place) ∷ es) (e ∷ insert_entry nat_cmp es id place)
      ∙ ap (λ later. match_ordering (nat_cmp id e.0) (work_at s (id, place) ∷ work_at s e ∷ map (work_at s) es) (work_at s (e.0, place) ∷ map (work_at s) es) (work_at s e ∷ later)) (put es id place)

  -- with the place of a statement, its definition is there
  placed : (entries : List (ℕ × Option ℕ)) (place : ℕ) (statement : Checked) → slice_get s place ≡ Some statement →
      map (work_at s) (with_place entries place statement) ≡ and_definition (map (work_at s) entries) statement
  placed entries place (Drop which) here = refl
  placed entries place (Skip which) here = refl
  placed entries place (Local id right) here =
      put entries id (Some place) ∙ ap (λ o. with_work (map (work_at s) entries) (record { expression = id; right_side = Some (right_side_of o) })) here
  placed entries place (Print which) here = refl

  -- one statement further
  pub definition_more : (first : List Work) (entries new : List (ℕ × Option ℕ)) (place : ℕ) (statement : Checked) → place < length s → statement ≡ get_or s place statement →
      map (work_at s) entries ≡ fold and_definition first (take place s) → new ≡ with_place entries place statement →
      map (work_at s) new ≡ fold and_definition first (take (place + 1) s)
  definition_more first entries new place statement below here so_far with_it =
      ap (map (work_at s)) with_it
      ∙ placed entries place statement (slice_get-get_or s place statement below ∙ ap Some (sym here))
      ∙ ap (λ ws. and_definition ws statement) so_far
      ∙ ap (λ x. and_definition (fold and_definition first (take place s)) x) here
      ∙ sym (ap (fold and_definition first) (take_more s place statement below) ∙ fold-append and_definition first (take place s) (get_or s place statement ∷ []))

  -- with an expression that stands, its work is there where it goes through
  stood : (entries : List (ℕ × Option ℕ)) (goes : Bool) (id : ℕ) →
      map (work_at s) (with_standing entries goes id) ≡ (if goes then with_work (map (work_at s) entries) (record { expression = id; right_side = None }) else map (work_at s) entries)
  stood entries true id = put entries id None
  stood entries false id = refl

  -- one expression further
  pub standing_more : (all : List Stored) (first : List Work) (entries new : List (ℕ × Option ℕ)) (place : ℕ) (e : Stored) (goes : Bool) → place < length all → e ≡ get_or all place e →
      goes_through s e.expression ≡ goes → map (work_at s) entries ≡ fold (and_standing s) first (take place all) → new ≡ with_standing entries goes e.expression →
      map (work_at s) new ≡ fold (and_standing s) first (take (place + 1) all)
  standing_more all first entries new place e goes below here same so_far with_it =
      ap (map (work_at s)) with_it
      ∙ stood entries goes e.expression
      ∙ ap (λ (b : Bool). if b then with_work (map (work_at s) entries) (record { expression = e.expression; right_side = None }) else map (work_at s) entries) (sym same)
      ∙ ap (λ ws. and_standing s ws e) so_far
      ∙ ap (λ x. and_standing s (fold (and_standing s) first (take place all)) x) here
      ∙ sym (ap (fold (and_standing s) first) (take_more all place e below) ∙ fold-append (and_standing s) first (take place all) (get_or all place e ∷ []))

  -- all that is carried out
  pub all_works : (standing : List Stored) (none some all : List (ℕ × Option ℕ)) (held : ExpressionSet) → ((e : ℕ) → has held e ≡ list_any (is_held e) s) → none ≡ [] →
      ((t : List Checked) → ((e : ℕ) → goes_through t e ≡ not (has held e)) → map (work_at t) some ≡ fold (and_standing t) (map (work_at t) none) standing) →
      map (work_at s) all ≡ fold and_definition (map (work_at s) some) s → map (work_at s) all ≡ works_of s standing
  all_works standing none some all held are empty stands defined =
      defined
      ∙ ap (λ ws. fold and_definition ws s)
      (stands s (going s held are) ∙ ap (λ entries. fold (and_standing s) (map (work_at s) entries) standing) empty)
