-- What elements are that aren't refused.
use Rattle.std.proofs.Common.{◌≡◌, ℕ, Bool, true, false, List, [], ◌∷◌, All, Option, Some, None, Ok, Err, refl, subst, if◌then◌else◌}
use Rattle.std.proofs.lemmas.List.Elements.{All-nil, All-cons}
use Rattle.form_names.specs.declared.elements.Elements.TheVariants.{Names}
use Rattle.form_names.specs.declared.kind.Kind.{Kind}
use Rattle.form_names.specs.declared.kind.Kind.TheVariants.{Symbol, Vector, Index, Function, CommutingFunction, Expression, Set}
use Rattle.form_names.specs.Names.{Entry, lookup, kind_at, is_alike, is_element_kind, IsNameAlike, AreElements}
use Rattle.form_ast.specs.declared.expr.Spelled.{Spelled}
use Rattle.form_right_side.specs.declared.resolved.Found.{Found}
use Rattle.form_right_side.specs.Refusal.{◌>>=◌, listed}
use Rattle.form_right_side.specs.RightSide.{wrong, found, found_as, found_at}
use Rattle.form_pattern.specs.Sets.{first_element, further_element, name_elements}
use Rattle.form_right_side.proofs.Binding.{bind-Ok, ok_same}

found-kind : (names : List Entry) (s : Spelled) (f : Found) → found names s ≡ Ok f → kind_at names f.id ≡ Some f.kind
found-kind names s f is = at_place (lookup names s.name) is
  where
    at_kind : (id : ℕ) (kind : Option Kind) → kind_at names id ≡ kind → found_as s id kind ≡ Ok f → kind_at names f.id ≡ Some f.kind
    at_kind id None at is = cc
    at_kind id (Some kind) at is = subst (λ (g : Found). kind_at names g.id ≡ Some g.kind) (ok_same is) at

    at_place : (place : Option ℕ) → found_at names s place ≡ Ok f → kind_at names f.id ≡ Some f.kind
    at_place None is = cc
    at_place (Some id) is = at_kind id (kind_at names id) refl is

alike-self : (kind : Kind) → is_alike kind kind ≡ true
alike-self Symbol = refl
alike-self Vector = refl
alike-self (Index d) = refl
alike-self Function = refl
alike-self CommutingFunction = refl
alike-self Expression = refl
alike-self Set = refl

further-alike : (names : List Entry) (kind : Kind) (s : Spelled) (id : ℕ) → further_element names kind s ≡ Ok id → IsNameAlike names kind id
further-alike names kind s id is =
    let made = bind-Ok (found names s) (λ f. if is_alike kind f.kind then Ok f.id else Err (wrong s)) id is in by made.0 (found-kind names s made.0 made.1) (is_alike kind made.0.kind) refl made.2
  where
    by : (f : Found) → kind_at names f.id ≡ Some f.kind → (b : Bool) → is_alike kind f.kind ≡ b → (if b then Ok f.id else Err (wrong s)) ≡ Ok id → IsNameAlike names kind id
    by f at true alike is = subst (IsNameAlike names kind) (ok_same is) (f.kind, at, alike)
    by f at false alike is = cc

all-alike : (names : List Entry) (kind : Kind) (list : List Spelled) (ids : List ℕ) → listed (further_element names kind) list ≡ Ok ids → All (IsNameAlike names kind) ids
all-alike names kind [] ids is = subst (All (IsNameAlike names kind)) (ok_same is) (All-nil (IsNameAlike names kind))
all-alike names kind (s ∷ list) ids is =
    let one = bind-Ok (further_element names kind s) (λ y. listed (further_element names kind) list >>= (λ ys. Ok (y ∷ ys))) ids is in
    let more = bind-Ok (listed (further_element names kind) list) (λ ys. Ok (one.0 ∷ ys)) ids one.2 in
    subst (All (IsNameAlike names kind)) (ok_same more.2) (All-cons (IsNameAlike names kind) one.0 more.0 (further-alike names kind s one.0 one.1) (all-alike names kind list more.0 more.1))

-- names of one kind
pub names-lawful : (names : List Entry) (list : List Spelled) (ids : List ℕ) → name_elements names list ≡ Ok ids → AreElements names (Names ids)
names-lawful names [] ids is = subst (λ (l : List ℕ). AreElements names (Names l)) (ok_same is) (Symbol, refl, All-nil (IsNameAlike names Symbol))
names-lawful names (s ∷ list) ids is =
    let one = bind-Ok (first_element names s) (λ f. listed (further_element names f.kind) list >>= (λ more. Ok (f.id ∷ more))) ids is in
    let f = one.0 in
    let more = bind-Ok (listed (further_element names f.kind) list) (λ l. Ok (f.id ∷ l)) ids one.2 in
    let seen = bind-Ok (found names s) (λ g. if is_element_kind g.kind then Ok g else Err (wrong s)) f one.1 in
    let first = by seen.0 f (found-kind names s seen.0 seen.1) (is_element_kind seen.0.kind) refl seen.2 in
    subst (λ (l : List ℕ). AreElements names (Names l)) (ok_same more.2) (f.kind, first.0, All-cons (IsNameAlike names f.kind) f.id more.0 (f.kind, first.1, alike-self f.kind) (all-alike names f.kind list more.0 more.1))
  where
    by : (g f : Found) → kind_at names g.id ≡ Some g.kind → (b : Bool) → is_element_kind g.kind ≡ b → (if b then Ok g else Err (wrong s)) ≡ Ok f → (is_element_kind f.kind ≡ true) × (kind_at names f.id ≡ Some f.kind)
    by g f at true fits is = subst (λ (h : Found). (is_element_kind h.kind ≡ true) × (kind_at names h.id ≡ Some h.kind)) (ok_same is) (fits, at)
    by g f at false fits is = cc
