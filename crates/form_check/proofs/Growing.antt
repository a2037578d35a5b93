-- Names are only added: what stands keeps its kind.
use Rattle.std.proofs.Common.{◌≡◌, ℕ, zero, suc, Bool, true, false, List, [], ◌∷◌, ◌++◌, length, take, Option, Some, None, Result, Ok, Err, refl, sym, ap, subst, ◌∙◌, if◌then◌else◌, ◌==◌}
use Rattle.std.proofs.lemmas.Bool.{eqb-true}
use Rattle.form_names.specs.declared.kind.Kind.{Kind}
use Rattle.form_names.specs.declared.kind.Kind.TheVariants.{Symbol, Vector, Index, Function, CommutingFunction, Expression, Set}
use Rattle.form_names.specs.declared.kind.Dimension.{Dimension}
use Rattle.form_names.specs.declared.kind.Dimension.TheVariants as dimensions
use Rattle.form_names.specs.Names.{Entry, lookup, kind_at, declare, is_same_kind, declared_at, declared_alike, elements_at, has_elements, set_declared_at, IsDimension}
use Rattle.form_names.specs.declared.elements.Elements.{Elements}
use Rattle.form_ast.specs.declared.expr.Spelled.{Spelled}
use Rattle.form_ast.specs.declared.statement.WrittenElements.{WrittenElements}
use Rattle.form_ast.specs.declared.index_list.SpelledIndex.{SpelledIndex}
use Rattle.form_right_side.proofs.Binding.{bind-Ok, else-Ok, ok_same}
use Rattle.form_check.specs.Checker.{Keeps, KeepsDimensions, AreLeftByFront}
use Rattle.form_check.specs.Checking.{declared, declared_once, named, dimension_or, is_past_limit, index_with, index, set_once, set_with, set}
use Rattle.form_pattern.specs.Sets.{elements as checked_elements}
use Rattle.form_right_side.specs.Refusal.{Refusal, each}

-- ---- names

pub grows-append : (old more : List Entry) → Keeps old (old ++ more)
grows-append [] more id kind is = cc
grows-append (e ∷ es) more zero kind is = is
grows-append (e ∷ es) more (suc id) kind is = grows-append es more id kind is

kind_at-last : (names : List Entry) (e : Entry) → kind_at (names ++ e ∷ []) (length names) ≡ Some e.kind
kind_at-last [] e = refl
kind_at-last (first ∷ rest) e = kind_at-last rest e

eqb_same : (m n : ℕ) → (m == n) ≡ true → m ≡ n
eqb_same m n is = eqb-true m n is

same_dimension : (a b : Dimension) → is_same_kind (Index a) (Index b) ≡ true → a ≡ b
same_dimension (dimensions.Number m) (dimensions.Number n) is = ap dimensions.Number (eqb_same m n is)
same_dimension (dimensions.Symbol m) (dimensions.Symbol n) is = ap dimensions.Symbol (eqb_same m n is)
same_dimension (dimensions.Number m) (dimensions.Symbol n) is = cc
same_dimension (dimensions.Symbol m) (dimensions.Number n) is = cc

same_kind : (a b : Kind) → is_same_kind a b ≡ true → a ≡ b
same_kind Symbol Symbol is = refl
same_kind Symbol Vector is = cc
same_kind Symbol (Index e) is = cc
same_kind Symbol Function is = cc
same_kind Symbol CommutingFunction is = cc
same_kind Symbol Expression is = cc
same_kind Symbol Set is = cc
same_kind Vector Symbol is = cc
same_kind Vector Vector is = refl
same_kind Vector (Index e) is = cc
same_kind Vector Function is = cc
same_kind Vector CommutingFunction is = cc
same_kind Vector Expression is = cc
same_kind Vector Set is = cc
same_kind (Index d) Symbol is = cc
same_kind (Index d) Vector is = cc
same_kind (Index d) (Index e) is = ap Index (same_dimension d e is)
same_kind (Index d) Function is = cc
same_kind (Index d) CommutingFunction is = cc
same_kind (Index d) Expression is = cc
same_kind (Index d) Set is = cc
same_kind Function Symbol is = cc
same_kind Function Vector is = cc
same_kind Function (Index e) is = cc
same_kind Function Function is = refl
same_kind Function CommutingFunction is = cc
same_kind Function Expression is = cc
same_kind Function Set is = cc
same_kind CommutingFunction Symbol is = cc
same_kind CommutingFunction Vector is = cc
same_kind CommutingFunction (Index e) is = cc
same_kind CommutingFunction Function is = cc
same_kind CommutingFunction CommutingFunction is = refl
same_kind CommutingFunction Expression is = cc
same_kind CommutingFunction Set is = cc
same_kind Expression Symbol is = cc
same_kind Expression Vector is = cc
same_kind Expression (Index e) is = cc
same_kind Expression Function is = cc
same_kind Expression CommutingFunction is = cc
same_kind Expression Expression is = refl
same_kind Expression Set is = cc
same_kind Set Symbol is = cc
same_kind Set Vector is = cc
same_kind Set (Index e) is = cc
same_kind Set Function is = cc
same_kind Set CommutingFunction is = cc
same_kind Set Expression is = cc
same_kind Set Set is = refl

-- what a declaration leaves
pub record Declares (old : List Entry) (kind : Kind) (id : ℕ) (new : List Entry) : Type 0 where
  pub grows : Keeps old new
  pub stands : kind_at new id ≡ Some kind

some_same : {A : Type 0} {x y : A} → Some x ≡ Some y → x ≡ y
some_same is = cc

alike : (other : Option Kind) (kind : Kind) (place id : ℕ) (names new : List Entry) → kind_at names place ≡ other → declared_alike other kind place names ≡ Some (id, new) → Declares names kind id new
alike None kind place id names new at is = cc
alike (Some other) kind place id names new at is = by (is_same_kind other kind) refl is
  where
    found : Option (ℕ × List Entry)
    found = Some (place, names)

    by : (b : Bool) → is_same_kind other kind ≡ b → (if b then found else None) ≡ Some (id, new) → Declares names kind id new
    by true same is =
        let pair : (place, names) ≡ (id, new) = some_same is in
        let at_id : kind_at names place ≡ Some kind = at ∙ ap Some (same_kind other kind same) in
        record {
          grows = λ i k h. subst (λ (p : ℕ × List Entry). kind_at p.1 i ≡ Some k) pair h;
          stands = subst (λ (p : ℕ × List Entry). kind_at p.1 p.0 ≡ Some kind) pair at_id;
        }
    by false same is = cc

at_place : (place : Option ℕ) (names new : List Entry) (name : List ℕ) (kind : Kind) (id : ℕ) → declared_at place names name kind ≡ Some (id, new) → Declares names kind id new
at_place None names new name kind id is =
    let e : Entry = record { name = name; kind = kind; elements = None } in
    let pair : (length names, names ++ e ∷ []) ≡ (id, new) = some_same is in
    record {
      grows = λ i k h. subst (λ (p : ℕ × List Entry). kind_at p.1 i ≡ Some k) pair (grows-append names (e ∷ []) i k h);
      stands = subst (λ (p : ℕ × List Entry). kind_at p.1 p.0 ≡ Some kind) pair (kind_at-last names e);
    }
at_place (Some place) names new name kind id is = alike (kind_at names place) kind place id names new refl is

once : (o : Option (ℕ × List Entry)) (spelled : Spelled) (d : ℕ × List Entry) → declared_once o spelled ≡ Ok d → o ≡ Some d
once None spelled d is = cc
once (Some found) spelled d is = cc

pub declared-Ok : (names : List Entry) (spelled : Spelled) (kind : Kind) (d : ℕ × List Entry) → declared names spelled kind ≡ Ok d → Declares names kind d.0 d.1
declared-Ok names spelled kind d is =
    let fits = else-Ok _ _ _ _ d is in
    at_place (lookup names spelled.name) names d.1 spelled.name kind d.0 (once _ spelled d fits.1)

pub keeps-both : (a b c : List Entry) → Keeps a b → Keeps b c → Keeps a c
keeps-both a b c h k = λ i kind is. k i kind (h i kind is)

pub named-keeps : (kind : Kind) (names new : List Entry) (s : Spelled) → named kind names s ≡ Ok new → Keeps names new
named-keeps kind names new s is =
    let made = bind-Ok (declared names s kind) (λ d. Ok d.1) new is in
    let next_is : made.0.1 ≡ new = ok_same made.2 in
    λ i k h. subst (λ (n : List Entry). kind_at n i ≡ Some k) next_is ((declared-Ok names s kind made.0 made.1).grows i k h)

index-with : (names new : List Entry) (s : Spelled) (place : Option ℕ) (d : Result Dimension Refusal) → index_with names s place d ≡ Ok new → Keeps names new
index-with names new s place (Ok d) is = named-keeps (Index d) names new s is
index-with names new s None (Err e) is = cc
index-with names new s (Some id) (Err e) is = cc

pub index-keeps : (default : Dimension) (names new : List Entry) (i : SpelledIndex) → index default names i ≡ Ok new → Keeps names new
index-keeps default names new i is =
    let fits = else-Ok (is_past_limit names (lookup names i.name.name)) (index_with names i.name (lookup names i.name.name) (dimension_or default names i.dimension)) _ _ new is in
    index-with names new i.name (lookup names i.name.name) (dimension_or default names i.dimension) fits.1

set-placed : (names new : List Entry) (s : Spelled) (es : Elements) (place : Option ℕ) → set_once (set_declared_at place names s.name es) s ≡ Ok new → Keeps names new
set-placed names new s es None is =
    let e : Entry = record { name = s.name; kind = Set; elements = Some es } in
    let same : names ++ e ∷ [] ≡ new = ok_same is in
    λ i k h. subst (λ (n : List Entry). kind_at n i ≡ Some k) same (grows-append names (e ∷ []) i k h)
set-placed names new s es (Some id) is = by (has_elements (elements_at names id) es) is
  where
    found : Option (ℕ × List Entry)
    found = Some (id, names)

    by : (b : Bool) → set_once (if b then found else None) s ≡ Ok new → Keeps names new
    by true is = let same : names ≡ new = ok_same is in λ i k h. subst (λ (n : List Entry). kind_at n i ≡ Some k) same h
    by false is = cc

set-with : (names new : List Entry) (s : Spelled) (place : Option ℕ) (es : Result Elements Refusal) → set_with names s place es ≡ Ok new → Keeps names new
set-with names new s place (Ok es) is = set-placed names new s es (lookup names s.name) is
set-with names new s None (Err e) is = cc
set-with names new s (Some id) (Err e) is = cc

pub set-keeps : (names new : List Entry) (s : Spelled) (es : WrittenElements) → set names s es ≡ Ok new → Keeps names new
set-keeps names new s es is =
    let fits = else-Ok (is_past_limit names (lookup names s.name)) (set_with names s (lookup names s.name) (checked_elements names es)) _ _ new is in
    set-with names new s (lookup names s.name) (checked_elements names es) fits.1

-- what each step keeps is kept by all
pub all-keep : {X : Type 0} (step : List Entry → X → Result (List Entry) Refusal) → ((names new : List Entry) (x : X) → step names x ≡ Ok new → Keeps names new)
    → (list : List X) (names new : List Entry) → each step names list ≡ Ok new → Keeps names new
all-keep step keeps [] names new is = λ i k h. subst (λ (n : List Entry). kind_at n i ≡ Some k) (ok_same is) h
all-keep step keeps (x ∷ rest) names new is =
    let first = bind-Ok (step names x) (λ next. each step next rest) new is in
    keeps-both names first.0 new (keeps names first.0 x first.1) (all-keep step keeps rest first.0 new first.2)

-- a dimension stays one
pub dimension-kept : (old new : List Entry) (d : Dimension) → Keeps old new → IsDimension old d → IsDimension new d
dimension-kept old new (dimensions.Number n) keeps h = h
dimension-kept old new (dimensions.Symbol id) keeps h = keeps id Symbol h

-- a declaration keeps what are dimensions
pub declare_keeps : (names new : List Entry) (name : List ℕ) (kind : Kind) (id : ℕ) → declare names name kind ≡ Some (id, new) → KeepsDimensions names new
declare_keeps names new name kind id is = λ d h. dimension-kept names new d (at_place (lookup names name) names new name kind id is).grows h

-- a step that changes nothing leaves what the steps before it left
pub left-by-front : {X : Type 0} (step : List Entry → X → Result (List Entry) Refusal) (old now new : List Entry) (items : List X) (count : ℕ) → each step old (take count items) ≡ Ok now → new ≡ now → AreLeftByFront X step old items new
left-by-front step old now new items count is unchanged = record { count = count; left = is ∙ ap Ok (sym unchanged) }
