-- What a set leaves that is declared.
use Rattle.std.proofs.Common.{◌≡◌, ℕ, ◌+◌, ◌<◌, ◌≤◌, Bool, true, false, List, [], ◌∷◌, ◌++◌, length, Option, Some, None, subst, arith, if◌then◌else◌}
use Rattle.std.proofs.lemmas.Bool.{leb-false}
use Rattle.std.proofs.lemmas.List.{length-append}
use Rattle.form_names.specs.declared.elements.Elements.{Elements}
use Rattle.form_names.specs.declared.kind.Kind.TheVariants.{Set}
use Rattle.form_names.specs.Names.{Entry, lookup, kind_at, elements_at, has_elements, set_declared_at, declare_set}
use Rattle.form_check.specs.Checker.{Keeps, KeepsDimensions}
use Rattle.form_check.specs.Checking.{is_past_limit, most_names}
use Rattle.form_check.proofs.Growing.{grows-append, dimension-kept}

some_same : {A : Type 0} {x y : A} → Some x ≡ Some y → x ≡ y
some_same is = cc

-- a set that is declared: where its name stands already, nothing changes
at_set : (place : Option ℕ) (names new : List Entry) (name : List ℕ) (es : Elements) (id : ℕ) → set_declared_at place names name es ≡ Some (id, new) → Keeps names new
at_set None names new name es id is =
    let e : Entry = record { name = name; kind = Set; elements = Some es } in
    let pair : (length names, names ++ e ∷ []) ≡ (id, new) = some_same is in
    λ i k h. subst (λ (p : ℕ × List Entry). kind_at p.1 i ≡ Some k) pair (grows-append names (e ∷ []) i k h)
at_set (Some place) names new name es id is = by (has_elements (elements_at names place) es) is
  where
    found : Option (ℕ × List Entry)
    found = Some (place, names)

    by : (b : Bool) → (if b then found else None) ≡ Some (id, new) → Keeps names new
    by true is = let pair : (place, names) ≡ (id, new) = some_same is in λ i k h. subst (λ (p : ℕ × List Entry). kind_at p.1 i ≡ Some k) pair h
    by false is = cc

pub set_keeps : (names new : List Entry) (name : List ℕ) (es : Elements) (id : ℕ) → declare_set names name es ≡ Some (id, new) → KeepsDimensions names new
set_keeps names new name es id is = λ d h. dimension-kept names new d (at_set (lookup names name) names new name es id is) h

-- there is room for one more, where there has to be
set_fits : (place : Option ℕ) (names new : List Entry) (name : List ℕ) (es : Elements) (id : ℕ) → length names ≤ most_names → is_past_limit names place ≡ false → set_declared_at place names name es ≡ Some (id, new) → length new ≤ most_names
set_fits None names new name es id room below is =
    let e : Entry = record { name = name; kind = Set; elements = Some es } in
    let pair : (length names, names ++ e ∷ []) ≡ (id, new) = some_same is in
    let less : length names < most_names = leb-false most_names (length names) below in
    let long : length (names ++ e ∷ []) ≡ length names + 1 = length-append names (e ∷ []) in
    subst (λ (p : ℕ × List Entry). length p.1 ≤ most_names) pair (rw long (omega arith))
set_fits (Some place) names new name es id room below is = by (has_elements (elements_at names place) es) is
  where
    found : Option (ℕ × List Entry)
    found = Some (place, names)

    by : (b : Bool) → (if b then found else None) ≡ Some (id, new) → length new ≤ most_names
    by true is = let pair : (place, names) ≡ (id, new) = some_same is in subst (λ (p : ℕ × List Entry). length p.1 ≤ most_names) pair room
    by false is = cc

pub set_room : (names new : List Entry) (name : List ℕ) (es : Elements) (id : ℕ) → length names ≤ most_names → is_past_limit names (lookup names name) ≡ false → declare_set names name es ≡ Some (id, new) → length new ≤ most_names
set_room names new name es id room below is = set_fits (lookup names name) names new name es id room below is
