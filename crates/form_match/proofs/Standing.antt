-- Where the search stands, by the frame that is innermost; and once something is taken of a term.
use Rattle.std.proofs.Common.{◌≡◌, ℕ, zero, suc, ◌-◌, ◌<◌, ◌≤◌, ◌==◌, Bool, true, false, not, ◌&&◌, ◌||◌, IsTrue, List, [], ◌∷◌, ◌++◌, length, if◌then◌else◌, Option, Some, None, option_to_list, refl, sym, ap, subst, ◌∙◌, append-nil, arith, eqb-true, eq-eqb}
use Rattle.std.specs.List.{list_any, cons_option}
use Rattle.std.proofs.lemmas.Bool.{ne_eqb}
use Rattle.form_match.specs.declared.places.Frame.{Frame}
use Rattle.form_match.specs.declared.places.Frame.TheVariants as frames
use Rattle.form_match.specs.declared.trail.Taken.{Taken}
use Rattle.form_match.specs.declared.uses.Use.{Use}
use Rattle.form_match.specs.declared.uses.Use.TheVariants as uses
use Rattle.form_match.specs.Factors.{IsLawfulUse, frame_of_use, opened}
use Rattle.form_match.specs.Matching.{are_apart, clashes}
use Rattle.form_match.specs.Places.{AreOpen, AreTaken, Ground, IsAround, IsLawfulFrame, IsOpenOf, Stands, begins_around, frame_around, host_at, host_of_frame, latest_around, open_of, use_of, uses_at}
use Rattle.form_match.specs.States.{Open, factors, taken_in}
use Rattle.form_match.proofs.Portions.{apart_is, both_true, both_false, not_true}

-- ---- what is innermost

-- What a frame stands for, and what is around it.
pub record Shown (g : Ground) (ts : List Taken) (latest : ℕ) (f : Frame) (os : List Open) : Type 0 where
  pub rest : List Open
  pub is : os ≡ open_of g ts f ∷ rest
  pub lawful : IsLawfulFrame g f
  pub host : host_of_frame f ≤ latest
  pub around : IsAround f rest (AreOpen g ts (latest_around f) (begins_around f) (frame_around g f) rest)

pub shown : (g : Ground) (ts : List Taken) (latest : ℕ) (f : Frame) (os : List Open) → AreOpen g ts latest false f os → Shown g ts latest f os
shown g ts latest f [] holds = absurd holds
shown g ts latest f (o ∷ os) holds = record { rest = os; is = ap (λ (x : Open). x ∷ os) holds.0; lawful = holds.1; host = holds.2; around = holds.3 }

pub earlier : (f : Frame) (latest : ℕ) → host_of_frame f ≤ latest → latest_around f ≤ latest
earlier (frames.Factors n) latest within = omega arith
earlier (frames.Arguments span) latest within = within
earlier (frames.Calls n from) latest within = within

pub around_map : (f : Frame) (os : List Open) (P Q : Type 0) → (P → Q) → IsAround f os P → IsAround f os Q
around_map (frames.Factors zero) os P Q go holds = holds
around_map (frames.Factors (suc n)) os P Q go holds = go holds
around_map (frames.Arguments span) os P Q go holds = go holds
around_map (frames.Calls n from) os P Q go holds = go holds

-- what is taken of the term itself is what is open last
pub taken_is : (g : Ground) (ts : List Taken) (latest : ℕ) (b : Bool) (f : Frame) (os : List Open) → AreOpen g ts latest b f os → taken_in os ≡ uses_at ts 0
taken_is g ts latest b f [] h = absurd h
taken_is g ts latest b f (o ∷ []) h = by b f h.0 h.3
  where
    by : (b : Bool) (f : Frame) → IsOpenOf g ts b f o → IsAround f [] ⊥ → taken_in (o ∷ []) ≡ uses_at ts 0
    by true (frames.Factors zero) is around = ap (λ (p : Open). taken_in (p ∷ [])) is
    by false (frames.Factors zero) is around = ap (λ (p : Open). taken_in (p ∷ [])) is
    by b (frames.Factors (suc n)) is around = absurd around
    by b (frames.Arguments span) is around = absurd around
    by b (frames.Calls n from) is around = absurd around
taken_is g ts latest b f (o ∷ p ∷ os) h = by f h.3 (λ before c e. taken_is g ts before c e (p ∷ os))
  where
    by : (f : Frame) → IsAround f (p ∷ os) (AreOpen g ts (latest_around f) (begins_around f) (frame_around g f) (p ∷ os))
        → ((before : ℕ) (c : Bool) (e : Frame) → AreOpen g ts before c e (p ∷ os) → taken_in (p ∷ os) ≡ uses_at ts 0) → taken_in (p ∷ os) ≡ uses_at ts 0
    by (frames.Factors zero) around rest = cc
    by (frames.Factors (suc n)) around rest = rest (suc n - 1) true (frame_around g (frames.Factors (suc n))) around
    by (frames.Arguments span) around rest = rest span.host false (frame_around g (frames.Arguments span)) around
    by (frames.Calls n from) around rest = rest n false (frames.Factors n) around

-- ---- what is taken

more_first : (o : Option Use) (us vs : List Use) → cons_option o (us ++ vs) ≡ cons_option o us ++ vs
more_first None us vs = refl
more_first (Some u) us vs = refl

last_use : (o : Option Use) → cons_option o [] ≡ option_to_list o
last_use None = refl
last_use (Some u) = refl

-- what is taken of a term with one use more
uses_pushed : (ts : List Taken) (t : Taken) (n : ℕ) → uses_at (ts ++ t ∷ []) n ≡ uses_at ts n ++ option_to_list (use_of n t)
uses_pushed [] t n = last_use (use_of n t)
uses_pushed (s ∷ ts) t n =
    ap (cons_option (use_of n s)) (uses_pushed ts t n)
    ∙ more_first (use_of n s) (uses_at ts n) (option_to_list (use_of n t))

is_true : (b : Bool) → b ≡ true → IsTrue b
is_true true is = refl
is_true false is = cc

free_more : (p : Use → Bool) (us : List Use) (u : Use) → list_any p us ≡ false → p u ≡ false → list_any p (us ++ u ∷ []) ≡ false
free_more p [] u none e = ap (λ (b : Bool). b || false) e
free_more p (v ∷ us) u none e =
    let parts = both_false (p v) (list_any p us) none in
    ap (λ (b : Bool). b || list_any p (us ++ u ∷ [])) parts.0 ∙ free_more p us u parts.1 e

apart_more : (us : List Use) (u : Use) → are_apart us ≡ true → list_any (λ v. clashes v u) us ≡ false → are_apart (us ++ u ∷ []) ≡ true
apart_more [] u apart free = refl
apart_more (v ∷ us) u apart free =
    let parts = both_true (not (list_any (clashes v) us)) (are_apart us) apart in
    let frees = both_false (clashes v u) (list_any (λ w. clashes w u) us) free in
    ap (λ (b : Bool). not b && are_apart (us ++ u ∷ [])) (free_more (clashes v) us u (not_true (list_any (clashes v) us) parts.0) frees.0)
    ∙ apart_more us u parts.1 frees.1

module _ (g : Ground) (ts : List Taken) (host : ℕ) (u : Use) where
  abbrev pub taking : List Taken
  taking = ts ++ record { host = host; made = u } ∷ []

  touched : uses_at taking host ≡ uses_at ts host ++ u ∷ []
  touched = uses_pushed ts (record { host = host; made = u }) host ∙ ap (λ (b : Bool). uses_at ts host ++ option_to_list (if b then Some u else None)) (eq-eqb host host refl)

  untouched : (n : ℕ) → (host == n) ≡ false → uses_at taking n ≡ uses_at ts n
  untouched n other =
      uses_pushed ts (record { host = host; made = u }) n
      ∙ ap (λ (b : Bool). uses_at ts n ++ option_to_list (if b then Some u else None)) other
      ∙ append-nil (uses_at ts n)

  still_taken : host ≤ length g.inners → list_any (λ v. clashes v u) (uses_at ts host) ≡ false → AreTaken g ts → AreTaken g taking
  still_taken within free taken n = by (host == n) refl
    where
      by : (b : Bool) → (host == n) ≡ b → IsTrue (are_apart (uses_at taking n)) × (length g.inners < n → uses_at taking n ≡ [])
      by true e =
          let same : host ≡ n = eqb-true host n e in
          let apart = apart_more (uses_at ts host) u (apart_is (taken host).0) free in (
            subst (λ (k : ℕ). IsTrue (are_apart (uses_at taking k))) same (subst (λ (us : List Use). IsTrue (are_apart us)) (sym touched) (is_true (are_apart (uses_at ts host ++ u ∷ [])) apart)),
            λ later. absurd (omega (arith, later, within, same)),
          )
      by false e =
          let same = untouched n e in
          (subst (λ (us : List Use). IsTrue (are_apart us)) (sym same) (taken n).0, λ later. same ∙ (taken n).1 later)

  still_shown : (b : Bool) (f : Frame) (o : Open) → host_of_frame f < host → IsOpenOf g ts b f o → IsOpenOf g taking b f o
  still_shown true (frames.Factors n) o before is = is ∙ ap (factors (host_at g n)) (sym (untouched n (ne_eqb host n (λ e. omega (arith, e, before)))))
  still_shown true (frames.Arguments span) o before is = is
  still_shown true (frames.Calls n from) o before is = is
  still_shown false (frames.Factors n) o before is = is ∙ ap (factors (host_at g n)) (sym (untouched n (ne_eqb host n (λ e. omega (arith, e, before)))))
  still_shown false (frames.Arguments span) o before is = is
  still_shown false (frames.Calls n from) o before is = is

  -- what is of earlier terms is open as it was
  still_open : (latest : ℕ) (b : Bool) (f : Frame) (os : List Open) → latest < host → AreOpen g ts latest b f os → AreOpen g taking latest b f os
  still_open latest b f [] before holds = holds
  still_open latest b f (o ∷ os) before holds =
      let less = earlier f latest holds.2 in (
        still_shown b f o (omega (arith, before, holds.2)) holds.0,
        holds.1,
        holds.2,
        around_map f os (AreOpen g ts (latest_around f) (begins_around f) (frame_around g f) os) (AreOpen g taking (latest_around f) (begins_around f) (frame_around g f) os)
            (still_open (latest_around f) (begins_around f) (frame_around g f) os (omega (arith, before, less))) holds.3,
      )

  -- what is around the factors of that term stays
  still_around : (n : ℕ) (os : List Open) → n ≡ host → IsAround (frames.Factors n) os (AreOpen g ts (n - 1) true (frame_around g (frames.Factors n)) os)
      → IsAround (frames.Factors n) os (AreOpen g taking (n - 1) true (frame_around g (frames.Factors n)) os)
  still_around zero os same holds = holds
  still_around (suc n) os same holds = still_open (suc n - 1) true (frame_around g (frames.Factors (suc n))) os (omega (arith, same)) holds

  module _ (os : List Open) (holds : Shown g ts (length g.inners) (frames.Factors host) os) where
    abbrev with_more : Open
    with_more = factors (host_at g host) (uses_at ts host ++ u ∷ [])

    more_open : (latest : ℕ) → host ≤ latest → AreOpen g taking latest false (frames.Factors host) (with_more ∷ holds.rest)
    more_open latest within = (ap (factors (host_at g host)) (sym touched), tt, within, still_around host holds.rest refl holds.around)

  -- what is open once this is taken
  use_opens : (v : Use) → v ≡ u → (os : List Open) (holds : Shown g ts (length g.inners) (frames.Factors host) os) → IsLawfulUse (host_at g host) v
      → AreOpen g taking (length g.inners) false (frame_of_use host v) (opened (host_at g host) (uses_at ts host) holds.rest v)
  use_opens (uses.Symbol s k) same os holds lawful = subst (λ (w : Use). AreOpen g taking (length g.inners) false (frames.Factors host) (factors (host_at g host) (uses_at ts host ++ w ∷ []) ∷ holds.rest)) (sym same) (more_open os holds (length g.inners) holds.host)
  use_opens (uses.Dot m k) same os holds lawful = subst (λ (w : Use). AreOpen g taking (length g.inners) false (frames.Factors host) (factors (host_at g host) (uses_at ts host ++ w ∷ []) ∷ holds.rest)) (sym same) (more_open os holds (length g.inners) holds.host)
  use_opens (uses.Component m) same os holds lawful = subst (λ (w : Use). AreOpen g taking (length g.inners) false (frames.Factors host) (factors (host_at g host) (uses_at ts host ++ w ∷ []) ∷ holds.rest)) (sym same) (more_open os holds (length g.inners) holds.host)
  use_opens (uses.Delta m) same os holds lawful = subst (λ (w : Use). AreOpen g taking (length g.inners) false (frames.Factors host) (factors (host_at g host) (uses_at ts host ++ w ∷ []) ∷ holds.rest)) (sym same) (more_open os holds (length g.inners) holds.host)
  use_opens (uses.Function m) same os holds lawful =
      (refl, lawful, holds.host, subst (λ (w : Use). AreOpen g taking host false (frames.Factors host) (factors (host_at g host) (uses_at ts host ++ w ∷ []) ∷ holds.rest)) (sym same) (more_open os holds host (omega arith)))
  use_opens (uses.Stretch start n) same os holds lawful =
      (refl, tt, holds.host, subst (λ (w : Use). AreOpen g taking host false (frames.Factors host) (factors (host_at g host) (uses_at ts host ++ w ∷ []) ∷ holds.rest)) (sym same) (more_open os holds host (omega arith)))

  -- the search stands there, once something is taken that is free
  pub stands_taking : (os : List Open) (holds : Shown g ts (length g.inners) (frames.Factors host) os) → AreTaken g ts → list_any (λ v. clashes v u) (uses_at ts host) ≡ false
      → IsLawfulUse (host_at g host) u → Stands g taking (frame_of_use host u) (opened (host_at g host) (uses_at ts host) holds.rest u)
  stands_taking os holds taken free lawful = (use_opens u refl os holds lawful, still_taken holds.host free taken)
