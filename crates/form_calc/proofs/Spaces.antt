-- Blanks before what is read.
use Rattle.std.proofs.Common.{◌≡◌, ◌⊎◌, inl, inr, ℕ, Bool, true, false, if◌then◌else◌, List, [], ◌∷◌, ◌++◌, append-nil, Option, Some, refl, sym, ap, subst, ◌∙◌}
use Rattle.std.specs.Prelude.{◌==◌, ◌&&◌, ◌||◌}
use Rattle.std.specs.List.{list_all}
use Rattle.std.proofs.lemmas.Bool.{and_parts, eqb-true}
use Rattle.std.proofs.lemmas.Option.{same_Some, option_and_then_some}
use Rattle.form_calc.specs.Reading.{is_blank, after_blanks, before, looked_up, first_in}

-- what is read, and what stands behind
abbrev pub read_as : {X : Type 0} → X → List ℕ → Option (X × List ℕ)
read_as x rest = Some (x, rest)

pub either_is : (c a b : ℕ) → ((c == a) || (c == b)) ≡ true → (c ≡ a) ⊎ (c ≡ b)
either_is c a b h = by (c == a) refl h
  where
    by : (q : Bool) → (c == a) ≡ q → (q || (c == b)) ≡ true → (c ≡ a) ⊎ (c ≡ b)
    by true e f = inl (eqb-true c a e)
    by false e f = inr (eqb-true c b f)

pub over_blanks : (bs t : List ℕ) → list_all is_blank bs ≡ true → after_blanks (bs ++ t) ≡ after_blanks t
over_blanks [] t h = refl
over_blanks (b ∷ bs) t h =
    let p = and_parts (is_blank b) (list_all is_blank bs) h in
    ap (λ (q : Bool). if q then after_blanks (bs ++ t) else b ∷ (bs ++ t)) p.0 ∙ over_blanks bs t p.1

pub all_blank : (t : List ℕ) → list_all is_blank t ≡ true → after_blanks t ≡ []
all_blank t h = ap after_blanks (sym (append-nil t)) ∙ over_blanks t [] h

-- the blanks at the front
pub record Front (text : List ℕ) : Type 0 where
  pub blanks : List ℕ
  pub text_is : text ≡ blanks ++ after_blanks text
  pub only_blanks : list_all is_blank blanks ≡ true

pub front_of : (text : List ℕ) → Front text
front_of [] = record { blanks = []; text_is = refl; only_blanks = refl }
front_of (c ∷ cs) = by (is_blank c) refl (front_of cs)
  where
    by : (q : Bool) → is_blank c ≡ q → Front cs → Front (c ∷ cs)
    by true e again = record {
      blanks = c ∷ again.blanks;
      text_is = ap (λ t. c ∷ t) again.text_is ∙ sym (ap (λ (q : Bool). c ∷ (again.blanks ++ (if q then after_blanks cs else c ∷ cs))) e);
      only_blanks = ap (λ (q : Bool). q && list_all is_blank again.blanks) e ∙ again.only_blanks;
    }
    by false e again = record { blanks = []; text_is = sym (ap (λ (q : Bool). if q then after_blanks cs else c ∷ cs) e); only_blanks = refl }

-- a text with nothing behind its blanks is all blank
pub nothing_behind : (t : List ℕ) → after_blanks t ≡ [] → list_all is_blank t ≡ true
nothing_behind t e =
    let f = front_of t in
    ap (list_all is_blank) (f.text_is ∙ ap (λ u. f.blanks ++ u) e ∙ append-nil f.blanks) ∙ f.only_blanks

-- ---- what does not go on

-- a text is empty, or begins with what does not pass
abbrev pub StopsAt : (ℕ → Bool) → List ℕ → Type 0
StopsAt passes [] = Unit {0}
StopsAt passes (c ∷ cs) = passes c ≡ false

pub blank_stops : (passes : ℕ → Bool) (b : ℕ) → passes 32 ≡ false → passes 9 ≡ false → is_blank b ≡ true → passes b ≡ false
blank_stops passes b s t h = by (either_is b 32 9 h)
  where
    by : (b ≡ 32) ⊎ (b ≡ 9) → passes b ≡ false
    by (inl e) = ap passes e ∙ s
    by (inr e) = ap passes e ∙ t

pub blanks_stop : (passes : ℕ → Bool) (text : List ℕ) → passes 32 ≡ false → passes 9 ≡ false → list_all is_blank text ≡ true → StopsAt passes text
blanks_stop passes [] s t h = tt
blanks_stop passes (b ∷ bs) s t h = blank_stops passes b s t (and_parts (is_blank b) (list_all is_blank bs) h).0

pub behind_blanks : (passes : ℕ → Bool) (blanks text : List ℕ) → passes 32 ≡ false → passes 9 ≡ false → list_all is_blank blanks ≡ true → StopsAt passes text → StopsAt passes (blanks ++ text)
behind_blanks passes [] text s t h k = k
behind_blanks passes (b ∷ bs) text s t h k = blank_stops passes b s t (and_parts (is_blank b) (list_all is_blank bs) h).0

-- what passes is not what does not
pub unlike : (passes : ℕ → Bool) (c d : ℕ) → passes c ≡ true → passes d ≡ false → (c == d) ≡ false
unlike passes c d h k = by (c == d) refl
  where
    by : (is : Bool) → (c == d) ≡ is → (c == d) ≡ false
    by true e = let f : true ≡ false = sym h ∙ ap passes (eqb-true c d e) ∙ k in absurd cc
    by false e = e

-- ---- tables

abbrev pub IsTable : {X : Type 0} → (ℕ → X → Type 0) → List (ℕ × X) → Type 0
IsTable P [] = Unit {0}
IsTable P (entry ∷ table) = P entry.0 entry.1 × IsTable P table

pub looked_up_is : {X : Type 0} (P : ℕ → X → Type 0) (table : List (ℕ × X)) (c : ℕ) (x : X) → IsTable P table → looked_up table c ≡ Some x → P c x
looked_up_is P [] c x h e = absurd cc
looked_up_is P (entry ∷ table) c x h e = by (c == entry.0) refl (looked_up_is P table c x h.1) e
  where
    by : (q : Bool) → (c == entry.0) ≡ q → (looked_up table c ≡ Some x → P c x) → (if q then Some entry.1 else looked_up table c) ≡ Some x → P c x
    by true f again k = subst (P c) (same_Some entry.1 x k) (subst (λ d. P d entry.1) (sym (eqb-true c entry.0 f)) h.0)
    by false f again k = again k

pub before_is : {X : Type 0} (o : Option X) (t : List ℕ) (x : X) (rest : List ℕ) → before o t ≡ Some (x, rest) → (o ≡ Some x) × (t ≡ rest)
before_is {X} o t x rest h = option_and_then_some (λ y. read_as y t) o (x, rest) h (λ y e k. (e ∙ ap (λ (p : X × List ℕ). Some p.0) (same_Some _ _ k), ap (λ (p : X × List ℕ). p.1) (same_Some _ _ k)))

pub first_is : {X : Type 0} (code : X → ℕ) (table : List (ℕ × X)) (t rest : List ℕ) (x : X) → IsTable (λ c y. c ≡ code y) table → first_in table t ≡ Some (x, rest) → t ≡ code x ∷ rest
first_is code table [] rest x h e = absurd cc
first_is code table (c ∷ cs) rest x h e =
    let p = before_is (looked_up table c) cs x rest e in
    ap (λ b. b ∷ cs) (looked_up_is (λ c y. c ≡ code y) table c x h p.0) ∙ ap (λ r. code x ∷ r) p.1
