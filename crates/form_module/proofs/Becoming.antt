-- What a module comes to is what becomes of each expression.
use Rattle.std.proofs.Common.{◌≡◌, ◌<◌, ◌≤◌, ◌==◌, ℕ, Bool, true, false, not, ◌&&◌, ◌||◌, List, [], ◌∷◌, ◌++◌, cond, filter, fold, Option, Some, None, Result, Ok, Err, refl, sym, subst, ap, ◌∙◌, arith}
use Rattle.std.specs.Prelude.{if◌then◌else◌, is_some, option_map}
use Rattle.std.specs.FinMap.{nat_cmp-IsAntisymmetric}
use Rattle.std.specs.List.{AllByRecursion}
use Rattle.std.specs.List.Sorted.{IsStrictlySortedBy}
use Rattle.std.specs.Ordering.{nat_cmp, match_ordering}
use Rattle.std.specs.declared.cmp.Ordering.{Ordering}
use Rattle.std.specs.declared.cmp.Ordering.TheVariants.{Less, Equal, Greater}
use Rattle.std.proofs.lemmas.Bool.{eq-eqb, eqb-true, lt-ltb, ne_eqb}
use Rattle.std.proofs.lemmas.Cmp.{ranked}
use Rattle.std.proofs.lemmas.List.Sums.{fold-append}
use Rattle.form_base.specs.declared.cause.Cause.{Cause}
use Rattle.form_base.specs.declared.settings.Settings.{Settings}
use Rattle.form_term.specs.declared.monomial.Monomial.{Monomial}
use Rattle.form_tree.specs.declared.tree.Piece.{Piece}
use Rattle.form_expand.specs.Meanings.{Meanings, of_stored}
use Rattle.form_expand.specs.declared.stored.Stored.{Stored}
use Rattle.form_check.specs.declared.checked.Checked.{Checked}
use Rattle.form_check.specs.declared.checked.Checked.TheVariants.{Drop, Skip, Local, Print}
use Rattle.form_check.specs.Program.{Module}
use Rattle.form_check.specs.Standing.{defines, drops, is_definition, stands_after}
use Rattle.form_flow.specs.Making.{compiled}
use Rattle.form_flow.specs.Statement.{Compiled}
use Rattle.form_module.specs.Becoming.{IsNotRefused, IsOutcomeOfEach, becomes, becomes_by, definition, defined_by, found, is_standing, or_else, result_by}
use Rattle.form_module.specs.Module.{Refusal, inputs_by, module_outcome, result_of, results, standing_after, stays, with_expression, with_result}
use Rattle.form_module.specs.Settled.{Ascend, id_order}
use Rattle.form_module.specs.Works.{Work, and_definition, and_standing, goes_through, is_left, skips, with_work, works_of}
use Rattle.form_module.proofs.Fitting.{is_among}
use Rattle.form_module.proofs.Settling.{less}

-- ---- tests one after the other

if_again : {X : Type 0} (a b : Bool) (x y z : X) → a ≡ b → (if b then x else z) ≡ (if a then x else (if b then y else z))
if_again true true x y z e = refl
if_again false false x y z e = refl
if_again true false x y z e = cc
if_again false true x y z e = cc

if_first : {X : Type 0} (a b : Bool) (x y z : X) → (a ≡ true → b ≡ true → ⊥) → (if b then y else (if a then x else z)) ≡ (if a then x else (if b then y else z))
if_first true true x y z never = absurd (never refl refl)
if_first true false x y z never = refl
if_first false true x y z never = refl
if_first false false x y z never = refl

-- two Ids can't both be one
never_both : (m n e : ℕ) → nat_cmp m n ≡ Greater → (m == e) ≡ true → (n == e) ≡ true → ⊥
never_both m n e above one other = let less = ranked m n Greater (sym above) in omega (arith, less, eqb-true m e one, eqb-true n e other)

-- ---- works by their Ids

abbrev looked : List Work → ℕ → Option (Option (List Piece))
looked [] e = None
looked (w ∷ ws) e = if w.expression == e then Some w.right_side else looked ws e

looked_with : (ws : List Work) (w : Work) (e : ℕ) → looked (with_work ws w) e ≡ (if w.expression == e then Some w.right_side else looked ws e)
looked_with [] w e = refl
looked_with (v ∷ vs) w e = by (nat_cmp w.expression v.expression) refl (looked_with vs w e)
  where
    by : (o : Ordering) → nat_cmp w.expression v.expression ≡ o → looked (with_work vs w) e ≡ (if w.expression == e then Some w.right_side else looked vs e) →
        looked (match_ordering o (w ∷ v ∷ vs) (record { expression = v.expression; right_side = w.right_side } ∷ vs) (v ∷ with_work vs w)) e
        ≡ (if w.expression == e then Some w.right_side else (if v.expression == e then Some v.right_side else looked vs e))
    by Less d later = refl
    by Equal d later =
        if_again (w.expression == e) (v.expression == e) (Some w.right_side) (Some v.right_side) (looked vs e) (ap (λ n. n == e) (nat_cmp-IsAntisymmetric w.expression v.expression d))
    by Greater d later =
        ap (λ x. if v.expression == e then Some v.right_side else x) later
        ∙ if_first (w.expression == e) (v.expression == e) (Some w.right_side) (Some v.right_side) (looked vs e) (never_both w.expression v.expression e d)

-- ---- what is carried out

and_false : (a b : Bool) → (a && false) ≡ (b && false)
and_false true true = refl
and_false true false = refl
and_false false true = refl
and_false false false = refl

either_if : {X : Type 0} (g a b : Bool) (x y : X) → (if g && b then x else (if g && a then x else y)) ≡ (if g && (a || b) then x else y)
either_if true true true x y = refl
either_if true true false x y = refl
either_if true false true x y = refl
either_if true false false x y = refl
either_if false a b x y = refl

never_if : {X : Type 0} (g : Bool) (x y : X) → y ≡ (if g && false then x else y)
never_if true x y = refl
never_if false x y = refl

if_some : {X : Type 0} (b : Bool) (r : X) (x : Option (Option X)) → (if b then Some (Some r) else x) ≡ or_else (option_map Some (if b then Some r else None)) x
if_some true r x = refl
if_some false r x = refl

or_again : {X : Type 0} (late early : Option X) (x : Option (Option X)) → or_else (option_map Some late) (or_else (option_map Some early) x) ≡ or_else (option_map Some (or_else late early)) x
or_again (Some r) early x = refl
or_again None early x = refl

or_none : {X : Type 0} (x : Option X) → or_else x None ≡ x
or_none (Some y) = refl
or_none None = refl

module _ (s : List Checked) (e : ℕ) where
  abbrev own : Bool → Option (Option (List Piece)) → Option (Option (List Piece))
  own there x = if goes_through s e && there then Some None else x

  looked_standing : (ws : List Work) (x : Stored) → looked (and_standing s ws x) e ≡ own (x.expression == e) (looked ws e)
  looked_standing ws x = put (goes_through s x.expression) ∙ ap (λ (b : Bool). if b then Some None else looked ws e) (there (x.expression == e) refl)
    where
      put : (g : Bool) → looked (cond g (with_work ws (record { expression = x.expression; right_side = None })) ws) e ≡ (if g && (x.expression == e) then Some None else looked ws e)
      put true = looked_with ws (record { expression = x.expression; right_side = None }) e
      put false = refl

      there : (b : Bool) → (x.expression == e) ≡ b → (goes_through s x.expression && b) ≡ (goes_through s e && b)
      there true same = ap (λ n. goes_through s n && true) (eqb-true x.expression e same)
      there false same = and_false (goes_through s x.expression) (goes_through s e)

  looked_all : (all : List Stored) (ws : List Work) → looked (fold (and_standing s) ws all) e ≡ own (is_among all e) (looked ws e)
  looked_all [] ws = never_if (goes_through s e) (Some None) (looked ws e)
  looked_all (x ∷ xs) ws =
      looked_all xs (and_standing s ws x)
      ∙ ap (own (is_among xs e)) (looked_standing ws x)
      ∙ either_if (goes_through s e) (x.expression == e) (is_among xs e) (Some None) (looked ws e)

looked_definition : (e : ℕ) (ws : List Work) (t : Checked) → looked (and_definition ws t) e ≡ or_else (option_map Some (defined_by t e)) (looked ws e)
looked_definition e ws (Drop which) = refl
looked_definition e ws (Skip which) = refl
looked_definition e ws (Local id right) = looked_with ws (record { expression = id; right_side = Some right }) e ∙ if_some (id == e) right (looked ws e)
looked_definition e ws (Print which) = refl

looked_definitions : (e : ℕ) (ts : List Checked) (ws : List Work) → looked (fold and_definition ws ts) e ≡ or_else (option_map Some (definition ts e)) (looked ws e)
looked_definitions e [] ws = refl
looked_definitions e (t ∷ ts) ws =
    looked_definitions e ts (and_definition ws t)
    ∙ ap (or_else (option_map Some (definition ts e))) (looked_definition e ws t)
    ∙ or_again (definition ts e) (defined_by t e) (looked ws e)

looked_works : (s : List Checked) (standing : List Stored) (e : ℕ) →
    looked (works_of s standing) e ≡ or_else (option_map Some (definition s e)) (own s e (is_among standing e) None)
looked_works s standing e =
    looked_definitions e s (fold (and_standing s) [] standing) ∙ ap (or_else (option_map Some (definition s e))) (looked_all s e standing [])

-- ---- what rises by a key

abbrev AboveBy : {X : Type 0} → (X → ℕ) → ℕ → List X → Type 0
AboveBy key n xs = AllByRecursion (λ x. n < key x) xs

abbrev RisesBy : {X : Type 0} → (X → ℕ) → List X → Type 0
RisesBy key [] = Unit {0}
RisesBy key (x ∷ xs) = AboveBy key (key x) xs × RisesBy key xs

abbrev of_work : Work → ℕ
of_work w = w.expression

abbrev of_one : Stored → ℕ
of_one x = x.expression

lower : {X : Type 0} (key : X → ℕ) (m n : ℕ) (xs : List X) → m < n → AboveBy key n xs → AboveBy key m xs
lower key m n [] below h = tt
lower key m n (x ∷ xs) below h = (omega (arith, below, h.0), lower key m n xs below h.1)

work_above : (n : ℕ) (ws : List Work) (w : Work) → AboveBy of_work n ws → n < w.expression → AboveBy of_work n (with_work ws w)
work_above n [] w h below = (below, tt)
work_above n (v ∷ vs) w h below = by (nat_cmp w.expression v.expression) (work_above n vs w h.1 below)
  where
    by : (o : Ordering) → AboveBy of_work n (with_work vs w) →
        AboveBy of_work n (match_ordering o (w ∷ v ∷ vs) (record { expression = v.expression; right_side = w.right_side } ∷ vs) (v ∷ with_work vs w))
    by Less later = (below, h)
    by Equal later = h
    by Greater later = (h.0, later)

work_rises : (ws : List Work) (w : Work) → RisesBy of_work ws → RisesBy of_work (with_work ws w)
work_rises [] w h = (tt, tt)
work_rises (v ∷ vs) w h = by (nat_cmp w.expression v.expression) refl (work_rises vs w h.1)
  where
    by : (o : Ordering) → nat_cmp w.expression v.expression ≡ o → RisesBy of_work (with_work vs w) →
        RisesBy of_work (match_ordering o (w ∷ v ∷ vs) (record { expression = v.expression; right_side = w.right_side } ∷ vs) (v ∷ with_work vs w))
    by Less d later =
        let less : w.expression < v.expression = ranked w.expression v.expression Less (sym d) in
        ((less, lower of_work w.expression v.expression vs less h.0), h)
    by Equal d later = h
    by Greater d later =
        let less : v.expression < w.expression = ranked w.expression v.expression Greater (sym d) in
        (work_above v.expression vs w h.0 less, later)

standing_rises : (s : List Checked) (all : List Stored) (ws : List Work) → RisesBy of_work ws → RisesBy of_work (fold (and_standing s) ws all)
standing_rises s [] ws h = h
standing_rises s (x ∷ xs) ws h = standing_rises s xs (and_standing s ws x) (by (goes_through s x.expression))
  where
    by : (g : Bool) → RisesBy of_work (cond g (with_work ws (record { expression = x.expression; right_side = None })) ws)
    by true = work_rises ws (record { expression = x.expression; right_side = None }) h
    by false = h

definition_rises : (ws : List Work) (t : Checked) → RisesBy of_work ws → RisesBy of_work (and_definition ws t)
definition_rises ws (Drop which) h = h
definition_rises ws (Skip which) h = h
definition_rises ws (Local id right) h = work_rises ws (record { expression = id; right_side = Some right }) h
definition_rises ws (Print which) h = h

definitions_rise : (ts : List Checked) (ws : List Work) → RisesBy of_work ws → RisesBy of_work (fold and_definition ws ts)
definitions_rise [] ws h = h
definitions_rise (t ∷ ts) ws h = definitions_rise ts (and_definition ws t) (definition_rises ws t h)

works_rise : (s : List Checked) (standing : List Stored) → RisesBy of_work (works_of s standing)
works_rise s standing = definitions_rise s (fold (and_standing s) [] standing) (standing_rises s standing [] tt)

one_above : (n : ℕ) (l : List Stored) (x : Stored) → AboveBy of_one n l → n < x.expression → AboveBy of_one n (with_expression l x)
one_above n [] x h below = (below, tt)
one_above n (f ∷ fs) x h below = by (nat_cmp x.expression f.expression) (one_above n fs x h.1 below)
  where
    by : (o : Ordering) → AboveBy of_one n (with_expression fs x) →
        AboveBy of_one n (match_ordering o (x ∷ f ∷ fs) (record { expression = f.expression; terms = x.terms } ∷ fs) (f ∷ with_expression fs x))
    by Less later = (below, h)
    by Equal later = h
    by Greater later = (h.0, later)

one_rises : (l : List Stored) (x : Stored) → RisesBy of_one l → RisesBy of_one (with_expression l x)
one_rises [] x h = (tt, tt)
one_rises (f ∷ fs) x h = by (nat_cmp x.expression f.expression) refl (one_rises fs x h.1)
  where
    by : (o : Ordering) → nat_cmp x.expression f.expression ≡ o → RisesBy of_one (with_expression fs x) →
        RisesBy of_one (match_ordering o (x ∷ f ∷ fs) (record { expression = f.expression; terms = x.terms } ∷ fs) (f ∷ with_expression fs x))
    by Less d later =
        let less : x.expression < f.expression = ranked x.expression f.expression Less (sym d) in
        ((less, lower of_one x.expression f.expression fs less h.0), h)
    by Equal d later = h
    by Greater d later =
        let less : f.expression < x.expression = ranked x.expression f.expression Greater (sym d) in
        (one_above f.expression fs x h.0 less, later)

all_rise : (xs l : List Stored) → RisesBy of_one l → RisesBy of_one (fold with_expression l xs)
all_rise [] l h = h
all_rise (x ∷ xs) l h = all_rise xs (with_expression l x) (one_rises l x h)

ascend_of : (l : List Stored) → RisesBy of_one l → Ascend l
unfolding IsStrictlySortedBy
ascend_of [] h = tt
ascend_of (x ∷ xs) h = (above xs h.0, ascend_of xs h.1)
  where
    above : (ys : List Stored) → AboveBy of_one x.expression ys → AllByRecursion (λ y. id_order x y ≡ Less) ys
    above [] a = tt
    above (y ∷ ys) a = (less x.expression y.expression (lt-ltb x.expression y.expression a.0), above ys a.1)

looked_below : (e n : ℕ) (ws : List Work) → e ≤ n → AboveBy of_work n ws → looked ws e ≡ None
looked_below e n [] below h = refl
looked_below e n (w ∷ ws) below h =
    ap (λ (b : Bool). if b then Some w.right_side else looked ws e) (ne_eqb w.expression e (λ same. omega (arith, same, below, h.0))) ∙ looked_below e n ws below h.1

-- ---- what stands, by its Ids

found_with : (l : List Stored) (x : Stored) (e : ℕ) → found (with_expression l x) e ≡ (if x.expression == e then Some x.terms else found l e)
found_with [] x e = refl
found_with (f ∷ fs) x e = by (nat_cmp x.expression f.expression) refl (found_with fs x e)
  where
    by : (o : Ordering) → nat_cmp x.expression f.expression ≡ o → found (with_expression fs x) e ≡ (if x.expression == e then Some x.terms else found fs e) →
        found (match_ordering o (x ∷ f ∷ fs) (record { expression = f.expression; terms = x.terms } ∷ fs) (f ∷ with_expression fs x)) e
        ≡ (if x.expression == e then Some x.terms else (if f.expression == e then Some f.terms else found fs e))
    by Less d later = refl
    by Equal d later =
        if_again (x.expression == e) (f.expression == e) (Some x.terms) (Some f.terms) (found fs e) (ap (λ n. n == e) (nat_cmp-IsAntisymmetric x.expression f.expression d))
    by Greater d later =
        ap (λ y. if f.expression == e then Some f.terms else y) later
        ∙ if_first (x.expression == e) (f.expression == e) (Some x.terms) (Some f.terms) (found fs e) (never_both x.expression f.expression e d)

found_below : (e n : ℕ) (xs : List Stored) → e ≤ n → AboveBy of_one n xs → found xs e ≡ None
found_below e n [] below h = refl
found_below e n (x ∷ xs) below h =
    ap (λ (b : Bool). if b then Some x.terms else found xs e) (ne_eqb x.expression e (λ same. omega (arith, same, below, h.0))) ∙ found_below e n xs below h.1

found_fold : (xs l : List Stored) (e : ℕ) → RisesBy of_one xs → found (fold with_expression l xs) e ≡ or_else (found xs e) (found l e)
found_fold [] l e h = refl
found_fold (x ∷ xs) l e h =
    found_fold xs (with_expression l x) e h.1 ∙ ap (or_else (found xs e)) (found_with l x e) ∙ by (x.expression == e) refl
  where
    not_above : (x.expression == e) ≡ true → e ≤ x.expression
    not_above same = let is : x.expression ≡ e = eqb-true x.expression e same in omega (arith, is)

    by : (b : Bool) → (x.expression == e) ≡ b → or_else (found xs e) (if b then Some x.terms else found l e) ≡ or_else (if b then Some x.terms else found xs e) (found l e)
    by true same = ap (λ y. or_else y (Some x.terms)) (found_below e x.expression xs (not_above same) h.0)
    by false same = refl

module _ (s : List Checked) where
  nothing_stays : (b : Bool) → ◌≡◌ {A = Option (List Monomial)} None (if b then None else None)
  nothing_stays true = refl
  nothing_stays false = refl

  found_stays : (xs : List Stored) (e : ℕ) → found (filter (stays s) xs) e ≡ (if is_left s e then found xs e else None)
  found_stays [] e = nothing_stays (is_left s e)
  found_stays (x ∷ xs) e = put (is_left s x.expression) ∙ by (x.expression == e) refl (is_left s x.expression) refl (found_stays xs e)
    where
      put : (g : Bool) → found (cond g (x ∷ filter (stays s) xs) (filter (stays s) xs)) e ≡ (if g then (if x.expression == e then Some x.terms else found (filter (stays s) xs) e) else found (filter (stays s) xs) e)
      put true = refl
      put false = refl

      by : (b : Bool) → (x.expression == e) ≡ b → (g : Bool) → is_left s x.expression ≡ g → found (filter (stays s) xs) e ≡ (if is_left s e then found xs e else None) →
          (if g then (if b then Some x.terms else found (filter (stays s) xs) e) else found (filter (stays s) xs) e) ≡ (if is_left s e then (if b then Some x.terms else found xs e) else None)
      by true same true left later =
          let here : is_left s e ≡ true = ap (is_left s) (sym (eqb-true x.expression e same)) ∙ left in
          sym (ap (λ (g : Bool). if g then Some x.terms else None) here)
      by true same false left later =
          let here : is_left s e ≡ false = ap (is_left s) (sym (eqb-true x.expression e same)) ∙ left in
          later ∙ ap (λ (g : Bool). if g then found xs e else None) here ∙ sym (ap (λ (g : Bool). if g then Some x.terms else None) here)
      by false same true left later = later
      by false same false left later = later

among_found : (xs : List Stored) (e : ℕ) → is_among xs e ≡ is_some (found xs e)
among_found [] e = refl
among_found (x ∷ xs) e = by (x.expression == e) (among_found xs e)
  where
    by : (b : Bool) → is_among xs e ≡ is_some (found xs e) → (b || is_among xs e) ≡ is_some (if b then Some x.terms else found xs e)
    by true later = refl
    by false later = later

stored_rises : (p : Stored → Bool) (xs : List Stored) → Ascend xs → RisesBy of_one (filter p xs)
unfolding IsStrictlySortedBy
stored_rises p [] h = tt
stored_rises p (x ∷ xs) h = by (p x) (above xs h.0) (stored_rises p xs h.1)
  where
    above : (ys : List Stored) → AllByRecursion (λ y. id_order x y ≡ Less) ys → AboveBy of_one x.expression (filter p ys)
    above [] a = tt
    above (y ∷ ys) a = put (p y) (above ys a.1)
      where
        put : (b : Bool) → AboveBy of_one x.expression (filter p ys) → AboveBy of_one x.expression (cond b (y ∷ filter p ys) (filter p ys))
        put true later = (ranked x.expression y.expression Less (sym a.0), later)
        put false later = later

    by : (b : Bool) → AboveBy of_one x.expression (filter p xs) → RisesBy of_one (filter p xs) → RisesBy of_one (cond b (x ∷ filter p xs) (filter p xs))
    by true a later = (a, later)
    by false a later = later

-- ---- definitions

some_or : {X : Type 0} (late early : Option X) → (is_some early || is_some late) ≡ is_some (or_else late early)
some_or (Some x) (Some y) = refl
some_or (Some x) None = refl
some_or None (Some y) = refl
some_or None None = refl

if_is_some : (b : Bool) (right : List Piece) → b ≡ is_some (if b then Some right else None)
if_is_some true right = refl
if_is_some false right = refl

defined_found : (t : Checked) (e : ℕ) → is_definition e t ≡ is_some (defined_by t e)
defined_found (Drop which) e = refl
defined_found (Skip which) e = refl
defined_found (Local id right) e = if_is_some (id == e) right
defined_found (Print which) e = refl

pub defines_found : (s : List Checked) (e : ℕ) → defines s e ≡ is_some (definition s e)
defines_found [] e = refl
defines_found (t ∷ ts) e =
    ap (λ b. b || defines ts e) (defined_found t e) ∙ ap (λ b. is_some (defined_by t e) || b) (defines_found ts e) ∙ some_or (definition ts e) (defined_by t e)

-- ---- results

same_ok : {X Y : Type 0} (x y : X) → ◌≡◌ {A = Result X Y} (Ok x) (Ok y) → x ≡ y
same_ok x y e = cc

same_err : {X Y : Type 0} (x y : Y) → ◌≡◌ {A = Result X Y} (Err x) (Err y) → x ≡ y
same_err x y e = cc

none_some : {X : Type 0} (x : X) → None ≡ Some x → ⊥
none_some x e = cc

ok_refused : {X Y : Type 0} (x : X) (y : Y) → ◌≡◌ {A = Option (Result X Y)} (Some (Ok x)) (Some (Err y)) → ⊥
ok_refused x y e = cc

module _ (settings : Settings) (ready : Compiled) (names : Meanings) where
  abbrev Res : ℕ → Option (List Piece) → Result (List Monomial) Cause
  Res e right = result_of settings.max_terms ready (inputs_by settings.max_expand names e right)

  abbrev Results : List Work → Result (List Stored) Refusal
  Results ws = results settings ready names ws

  found_made : (ws : List Work) (made : List Stored) → Results ws ≡ Ok made → (e : ℕ) → option_map (Res e) (looked ws e) ≡ option_map Ok (found made e)
  found_made [] made is e = ap (λ l. option_map Ok (found l e)) (same_ok {Y = Refusal} [] made is)
  found_made (w ∷ ws) made is e = by (Res w.expression w.right_side) refl (Results ws) refl is (λ rest d. found_made ws rest d e)
    where
      here : (b : Bool) → (w.expression == e) ≡ b → (terms : List Monomial) (rest : List Stored) → Res w.expression w.right_side ≡ Ok terms →
          option_map (Res e) (looked ws e) ≡ option_map Ok (found rest e) →
          option_map (Res e) (if b then Some w.right_side else looked ws e) ≡ option_map Ok (if b then Some terms else found rest e)
      here true same terms rest d later = ap (λ n. Some (Res n w.right_side)) (sym (eqb-true w.expression e same)) ∙ ap Some d
      here false same terms rest d later = later

      by : (r : Result (List Monomial) Cause) → Res w.expression w.right_side ≡ r → (all : Result (List Stored) Refusal) → Results ws ≡ all → with_result w.expression r all ≡ Ok made →
          ((rest : List Stored) → Results ws ≡ Ok rest → option_map (Res e) (looked ws e) ≡ option_map Ok (found rest e)) →
          option_map (Res e) (looked (w ∷ ws) e) ≡ option_map Ok (found made e)
      by (Err cause) d all d' is later = absurd (cc)
      by (Ok terms) d (Err refusal) d' is later = absurd (cc)
      by (Ok terms) d (Ok rest) d' is later =
          here (w.expression == e) refl terms rest d (later rest d')
          ∙ ap (λ l. option_map Ok (found l e)) (same_ok {Y = Refusal} (record { expression = w.expression; terms = terms } ∷ rest) made is)

  -- what is made is of the works, one by one
  made_above : (n : ℕ) (ws : List Work) (made : List Stored) → Results ws ≡ Ok made → AboveBy of_work n ws → AboveBy of_one n made
  made_above n [] made is h = subst (AboveBy of_one n) (same_ok {Y = Refusal} [] made is) tt
  made_above n (w ∷ ws) made is h = by (Res w.expression w.right_side) (Results ws) refl is (λ rest d. made_above n ws rest d h.1)
    where
      by : (r : Result (List Monomial) Cause) (all : Result (List Stored) Refusal) → Results ws ≡ all → with_result w.expression r all ≡ Ok made →
          ((rest : List Stored) → Results ws ≡ Ok rest → AboveBy of_one n rest) → AboveBy of_one n made
      by (Err cause) all d is later = absurd (cc)
      by (Ok terms) (Err refusal) d is later = absurd (cc)
      by (Ok terms) (Ok rest) d is later =
          subst (AboveBy of_one n) (same_ok {Y = Refusal} (record { expression = w.expression; terms = terms } ∷ rest) made is) (h.0, later rest d)

  made_rises : (ws : List Work) (made : List Stored) → Results ws ≡ Ok made → RisesBy of_work ws → RisesBy of_one made
  made_rises [] made is h = subst (RisesBy of_one) (same_ok {Y = Refusal} [] made is) tt
  made_rises (w ∷ ws) made is h = by (Res w.expression w.right_side) (Results ws) refl is (λ rest d. made_rises ws rest d h.1)
    where
      by : (r : Result (List Monomial) Cause) (all : Result (List Stored) Refusal) → Results ws ≡ all → with_result w.expression r all ≡ Ok made →
          ((rest : List Stored) → Results ws ≡ Ok rest → RisesBy of_one rest) → RisesBy of_one made
      by (Err cause) all d is later = absurd (cc)
      by (Ok terms) (Err refusal) d is later = absurd (cc)
      by (Ok terms) (Ok rest) d is later =
          subst (RisesBy of_one) (same_ok {Y = Refusal} (record { expression = w.expression; terms = terms } ∷ rest) made is)
          (made_above w.expression ws rest d h.0, later rest d)

  -- the refusal is that of the lowest Id that is refused
  abbrev IsFirst : List Work → Refusal → Type 0
  IsFirst ws refusal = (option_map (Res refusal.expression) (looked ws refusal.expression) ≡ Some (Err refusal.cause)) × ((e : ℕ) → e < refusal.expression → IsNotRefused (option_map (Res e) (looked ws e)))

  module _ (w : Work) (ws : List Work) (above : AboveBy of_work w.expression ws) where
    -- at its own Id and at another
    at_own : (e : ℕ) → (w.expression == e) ≡ true → option_map (Res e) (looked (w ∷ ws) e) ≡ Some (Res w.expression w.right_side)
    at_own e same =
        ap (λ (b : Bool). option_map (Res e) (if b then Some w.right_side else looked ws e)) same
        ∙ ap (λ n. Some (Res n w.right_side)) (sym (eqb-true w.expression e same))

    at_other : (e : ℕ) → (w.expression == e) ≡ false → option_map (Res e) (looked (w ∷ ws) e) ≡ option_map (Res e) (looked ws e)
    at_other e apart = ap (λ (b : Bool). option_map (Res e) (if b then Some w.right_side else looked ws e)) apart

    none_behind : (e : ℕ) → e ≤ w.expression → option_map (Res e) (looked ws e) ≡ None
    none_behind e below = ap (option_map (Res e)) (looked_below e w.expression ws below above)

    refused_here : (cause : Cause) → Res w.expression w.right_side ≡ Err cause → IsFirst (w ∷ ws) (record { cause = cause; expression = w.expression })
    refused_here cause is = (
      at_own w.expression (eq-eqb w.expression w.expression refl) ∙ ap Some is,
      λ e below other refused. none_some (Err other) (sym (at_other e (ne_eqb w.expression e (λ same. omega (arith, same, below))) ∙ none_behind e (omega (arith, below))) ∙ refused),
    )

    apart_from : (bad : Refusal) → IsFirst ws bad → w.expression ≡ bad.expression → ⊥
    apart_from bad first same = none_some (Err bad.cause) (sym (none_behind bad.expression (omega (arith, same))) ∙ first.0)

    refused_later : (terms : List Monomial) (bad : Refusal) → Res w.expression w.right_side ≡ Ok terms → IsFirst ws bad → IsFirst (w ∷ ws) bad
    refused_later terms bad is first = (
      at_other bad.expression (ne_eqb w.expression bad.expression (apart_from bad first)) ∙ first.0,
      λ e below. by e below (w.expression == e) refl,
    )
      where
        by : (e : ℕ) → e < bad.expression → (b : Bool) → (w.expression == e) ≡ b → IsNotRefused (option_map (Res e) (looked (w ∷ ws) e))
        by e below true same = λ other refused. ok_refused terms other (sym (at_own e same ∙ ap Some is) ∙ refused)
        by e below false same = λ other refused. first.1 e below other (sym (at_other e same) ∙ refused)

  first_refused : (ws : List Work) (refusal : Refusal) → RisesBy of_work ws → Results ws ≡ Err refusal → IsFirst ws refusal
  first_refused [] refusal h is = absurd (cc)
  first_refused (w ∷ ws) refusal h is = by (Res w.expression w.right_side) refl (Results ws) refl is (λ later d. first_refused ws later h.1 d)
    where
      by : (r : Result (List Monomial) Cause) → Res w.expression w.right_side ≡ r → (all : Result (List Stored) Refusal) → Results ws ≡ all → with_result w.expression r all ≡ Err refusal →
          ((later : Refusal) → Results ws ≡ Err later → IsFirst ws later) → IsFirst (w ∷ ws) refusal
      by (Err cause) d all e is later =
          subst (IsFirst (w ∷ ws)) (same_err {X = List Stored} (record { cause = cause; expression = w.expression }) refusal is) (refused_here w ws h.0 cause d)
      by (Ok terms) d (Ok rest) e is later = absurd (cc)
      by (Ok terms) d (Err bad) e is later =
          subst (IsFirst (w ∷ ws)) (same_err {X = List Stored} bad refusal is) (refused_later w ws h.0 terms bad d (later bad e))

-- ---- what becomes of each

module _ (settings : Settings) (m : Module) (standing : List Stored) where
  abbrev s : List Checked
  s = m.statements

  abbrev By : ℕ → Option (List Piece) → Result (List Monomial) Cause
  By e right = result_by settings m standing e right

  by_cases : (e : ℕ) (d : Option (List Piece)) (f : Option (List Monomial)) (is_dropped is_skipped : Bool) →
      becomes_by settings m standing e d f is_dropped is_skipped
      ≡ or_else (option_map (By e) (or_else (option_map Some d) (if ((not is_dropped && not (is_some d)) && not is_skipped) && is_some f then Some None else None)))
      (option_map Ok (if not is_dropped && not (is_some d) then f else None))
  by_cases e (Some right) f is_dropped is_skipped = refl
  by_cases e None None true is_skipped = refl
  by_cases e None None false true = refl
  by_cases e None None false false = refl
  by_cases e None (Some terms) true is_skipped = refl
  by_cases e None (Some terms) false true = refl
  by_cases e None (Some terms) false false = refl

  becomes_looked : (e : ℕ) → becomes settings m standing e ≡ or_else (option_map (By e) (looked (works_of s standing) e)) (option_map Ok (found (filter (stays s) standing) e))
  becomes_looked e =
      let d = definition s e in
      let f = found standing e in
      let stay = option_map Ok (if not (drops s e) && not (is_some d) then f else None) in
      by_cases e d f (drops s e) (skips s e)
      ∙ ap (λ x. or_else (option_map (By e) x) stay)
      (ap (λ b. or_else (option_map Some d) (if ((not (drops s e) && not b) && not (skips s e)) && is_some f then Some None else None)) (sym (defines_found s e))
      ∙ ap (λ b. or_else (option_map Some d) (own s e b None)) (sym (among_found standing e))
      ∙ sym (looked_works s standing e))
      ∙ ap (λ x. or_else (option_map (By e) (looked (works_of s standing) e)) (option_map Ok x))
      (ap (λ b. if not (drops s e) && not b then f else None) (sym (defines_found s e)) ∙ sym (found_stays s standing e))

  abbrev Ready : Compiled
  Ready = compiled settings.max_expand settings.max_repeat m.actions

  both_ok : (x y : Option (List Monomial)) → ◌≡◌ {A = Option (Result (List Monomial) Cause)} (or_else (option_map Ok x) (option_map Ok y)) (option_map Ok (or_else x y))
  both_ok (Some x) y = refl
  both_ok None y = refl

  carried : Ascend standing → (made : List Stored) → results settings Ready (of_stored standing) (works_of s standing) ≡ Ok made →
      IsOutcomeOfEach settings m standing (Ok (fold with_expression [] (filter (stays s) standing ++ made)))
  carried ascends made is e =
      let stay = filter (stays s) standing in
      becomes_looked e
      ∙ ap (λ x. or_else x (option_map Ok (found stay e))) (found_made settings Ready (of_stored standing) (works_of s standing) made is e)
      ∙ both_ok (found made e) (found stay e)
      ∙ ap (option_map Ok)
      (ap (or_else (found made e)) (sym (or_none (found stay e)) ∙ sym (found_fold stay [] e (stored_rises (stays s) standing ascends)))
      ∙ sym (found_fold made (fold with_expression [] stay) e (made_rises settings Ready (of_stored standing) (works_of s standing) made is (works_rise s standing)))
      ∙ ap (λ l. found l e) (sym (fold-append with_expression [] stay made)))

  refused : (refusal : Refusal) → results settings Ready (of_stored standing) (works_of s standing) ≡ Err refusal → IsOutcomeOfEach settings m standing (Err refusal)
  refused refusal is =
      let first = first_refused settings Ready (of_stored standing) (works_of s standing) refusal (works_rise s standing) is in (
        becomes_looked refusal.expression ∙ ap (λ x. or_else x (option_map Ok (found (filter (stays s) standing) refusal.expression))) first.0,
        λ e below cause becomes_refused.
            never (option_map (By e) (looked (works_of s standing) e)) (found (filter (stays s) standing) e) cause (first.1 e below cause) (sym (becomes_looked e) ∙ becomes_refused),
      )
    where
      never : (x : Option (Result (List Monomial) Cause)) (y : Option (List Monomial)) (cause : Cause) → (x ≡ Some (Err cause) → ⊥) → or_else x (option_map Ok y) ≡ Some (Err cause) → ⊥
      never (Some x) y cause no_refusal h = no_refusal h
      never None None cause no_refusal h = none_some (Err cause) h
      never None (Some terms) cause no_refusal h = ok_refused terms cause h

  pub each_becomes : Ascend standing → IsOutcomeOfEach settings m standing (module_outcome settings m standing)
  each_becomes ascends = by (results settings Ready (of_stored standing) (works_of s standing)) refl
    where
      by : (r : Result (List Stored) Refusal) → results settings Ready (of_stored standing) (works_of s standing) ≡ r → IsOutcomeOfEach settings m standing (standing_after s standing r)
      by (Ok made) is = carried ascends made is
      by (Err refusal) is = refused refusal is

  -- those that stand at the end stand once, in order
  pub after_ascends : (after : List Stored) → module_outcome settings m standing ≡ Ok after → Ascend after
  after_ascends after is = by (results settings Ready (of_stored standing) (works_of s standing)) is
    where
      by : (r : Result (List Stored) Refusal) → standing_after s standing r ≡ Ok after → Ascend after
      by (Ok made) e =
          let all = filter (stays s) standing ++ made in
          subst Ascend (same_ok {Y = Refusal} (fold with_expression [] all) after e) (ascend_of (fold with_expression [] all) (all_rise all [] tt))
      by (Err refusal) e = absurd (cc)

  -- ---- which expressions stand at the end

  some_again : {X Y : Type 0} (f : X → Y) (x : Option X) → is_some (option_map f x) ≡ is_some x
  some_again f (Some x) = refl
  some_again f None = refl

  some_becomes : (e : ℕ) (d : Option (List Piece)) (f : Option (List Monomial)) (is_dropped is_skipped : Bool) →
      is_some (becomes_by settings m standing e d f is_dropped is_skipped) ≡ (is_some d || (is_some f && not is_dropped))
  some_becomes e (Some right) f is_dropped is_skipped = refl
  some_becomes e None None is_dropped is_skipped = refl
  some_becomes e None (Some terms) true is_skipped = refl
  some_becomes e None (Some terms) false true = refl
  some_becomes e None (Some terms) false false = refl

  -- what is defined, and what stood and isn't dropped
  pub stands_then : (after : List Stored) → Ascend standing → module_outcome settings m standing ≡ Ok after → (e : ℕ) → is_standing after e ≡ stands_after e (is_standing standing e) m
  stands_then after ascends is e =
      let each : IsOutcomeOfEach settings m standing (Ok after) = subst (IsOutcomeOfEach settings m standing) is (each_becomes ascends) in
      sym (some_again {Y = Result (List Monomial) Cause} Ok (found after e))
      ∙ ap is_some (sym (each e))
      ∙ some_becomes e (definition s e) (found standing e) (drops s e) (skips s e)
      ∙ ap (λ b. b || (is_standing standing e && not (drops s e))) (sym (defines_found s e))
