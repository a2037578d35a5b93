-- Heights before changes.
use Rattle.std.proofs.Common.{◌≡◌, ◌≢◌, ℕ, zero, suc, ◌-◌, ◌<◌, ◌≤◌, Bool, true, false, cond, eqb, List, [], ◌∷◌, ◌++◌, length, drop, set, get_or, refl, sym, ap, subst, ◌∙◌, arith, get_or-set_same, get_or-set_other}
use Rattle.std.proofs.Math.ListN.{length-set}
use Rattle.std.proofs.Math.Seq.{drop-length, drop-cons}
use Rattle.std.proofs.lemmas.Bool.{eqb-true, eq-eqb}
use Rattle.std.proofs.lemmas.List.{drop-append-le, get_or-drop, length-drop}
use Rattle.form_preproc.specs.Journal.{height_before, AreMarks, AreBelow, IsFixed, AreNoted, AreFirsts}
use Rattle.form_preproc.specs.declared.journal.Change.{Change}

-- ---- heights before lists of changes

pub before_cons : (c : Change) (changes : List Change) (place height : ℕ) → height_before (c ∷ changes) place height ≡ cond (eqb c.place place) c.height (height_before changes place height)
unfolding height_before
before_cons c changes place height = refl

pub before_nil : (place height : ℕ) → height_before [] place height ≡ height
unfolding height_before
before_nil place height = refl

pub before-append : (xs ys : List Change) (place height : ℕ) → height_before (xs ++ ys) place height ≡ height_before xs place (height_before ys place height)
before-append [] ys place height = sym (before_nil place (height_before ys place height))
before-append (x ∷ xs) ys place height =
    before_cons x (xs ++ ys) place height ∙ ap (cond (eqb x.place place) x.height) (before-append xs ys place height) ∙ sym (before_cons x xs place (height_before ys place height))

-- a place that a list holds has the same height before it, whatever stands behind it
fixed_in : (xs : List Change) (i : ℕ) (c : Change) → i < length xs → c ≡ get_or xs i c → (height other : ℕ) → height_before xs c.place height ≡ height_before xs c.place other
fixed_in [] i c lt is height other = absurd (omega arith)
fixed_in (x ∷ xs) zero c lt is height other = before_cons x xs c.place height ∙ ap (λ b. cond b x.height (height_before xs c.place height)) yes ∙ ap (λ b. cond b x.height (height_before xs c.place other)) (sym yes) ∙ sym (before_cons x xs c.place other)
  where
    yes : eqb x.place c.place ≡ true
    yes = eq-eqb x.place c.place (ap (λ (y : Change). y.place) (sym is))
fixed_in (x ∷ xs) (suc i) c lt is height other =
    before_cons x xs c.place height ∙ ap (cond (eqb x.place c.place) x.height) (fixed_in xs i c (omega (arith, lt)) is height other) ∙ sym (before_cons x xs c.place other)

pub fixed_at : (changes : List Change) (mark at : ℕ) (c : Change) (place : ℕ) → mark ≤ at → at < length changes → c ≡ get_or changes at c → c.place ≡ place → IsFixed changes mark place
fixed_at changes mark at c place le lt is same = λ m below height other.
    let size : length (drop m changes) ≡ length changes - m = length-drop m changes in
    let here : c ≡ get_or (drop m changes) (at - m) c = is ∙ ap (λ k. get_or changes k c) (omega (arith, le, below)) ∙ sym (get_or-drop m changes (at - m) c) in
    subst (λ p. height_before (drop m changes) p height ≡ height_before (drop m changes) p other) same (fixed_in (drop m changes) (at - m) c (omega (arith, size, lt, le, below)) here height other)

-- cutting a stack to the height before doesn't change that
pub before_cut : (changes : List Change) (place height cut before : ℕ) → before ≡ height_before changes place height → cut ≡ height - (height - before) → height_before changes place cut ≡ before
before_cut [] place height cut before is at = before_nil place cut ∙ omega (arith, at, is, before_nil place height)
before_cut (c ∷ changes) place height cut before is at = by_test (eqb c.place place) refl (λ e. before_cut changes place height cut before e at)
  where
    by_test : (b : Bool) → eqb c.place place ≡ b → (before ≡ height_before changes place height → height_before changes place cut ≡ before) → height_before (c ∷ changes) place cut ≡ before
    by_test true e further = before_cons c changes place cut ∙ ap (λ b. cond b c.height (height_before changes place cut)) e ∙ sym (is ∙ before_cons c changes place height ∙ ap (λ b. cond b c.height (height_before changes place height)) e)
    by_test false e further = before_cons c changes place cut ∙ ap (λ b. cond b c.height (height_before changes place cut)) e ∙ further (is ∙ before_cons c changes place height ∙ ap (λ b. cond b c.height (height_before changes place height)) e)

-- what is below a place stays so
pub below_drop : (changes : List Change) (place m : ℕ) → ((height : ℕ) → height_before changes place height ≡ height) → (height : ℕ) → height_before (drop m changes) place height ≡ height
below_drop [] place zero below height = before_nil place height
below_drop [] place (suc m) below height = before_nil place height
below_drop (c ∷ changes) place zero below height = below height
below_drop (c ∷ changes) place (suc m) below height = below_drop changes place m (further (eqb c.place place) refl) height
  where
    step : (b : Bool) → eqb c.place place ≡ b → (h : ℕ) → cond b c.height (height_before changes place h) ≡ h
    step b e h = ap (λ t. cond t c.height (height_before changes place h)) (sym e) ∙ sym (before_cons c changes place h) ∙ below h

    further : (b : Bool) → eqb c.place place ≡ b → (h : ℕ) → height_before changes place h ≡ h
    further true e h = absurd (omega (arith, step true e 0, step true e 1))
    further false e h = step false e h

pub below_more : (changes more : List Change) (c : Change) (size : ℕ) → more ≡ changes ++ c ∷ [] → c.place < size → AreBelow size changes → AreBelow size more
below_more changes more c size is lt h = λ place le height.
    ap (λ xs. height_before xs place height) is ∙ before-append changes (c ∷ []) place height ∙ h place le (height_before (c ∷ []) place height)
    ∙ before_cons c [] place height ∙ by_test place le height (eqb c.place place) refl
  where
    by_test : (place : ℕ) → size ≤ place → (height : ℕ) → (b : Bool) → eqb c.place place ≡ b → cond (eqb c.place place) c.height (height_before [] place height) ≡ height
    by_test place le height true e = absurd (omega (arith, eqb-true c.place place e, le, lt))
    by_test place le height false e = ap (λ b. cond b c.height (height_before [] place height)) e ∙ before_nil place height

pub below_none : (size : ℕ) (changes : List Change) → changes ≡ [] → AreBelow size changes
below_none size changes is = λ place le height. ap (λ xs. height_before xs place height) is ∙ before_nil place height

-- ---- marks

pub outer_marks : (size mark : ℕ) (marks others : List ℕ) → AreMarks size marks → marks ≡ mark ∷ others → (mark ≤ size) × AreMarks mark others
outer_marks size mark marks others h is =
    let all = subst (λ ms. AreMarks size ms) is h in (all 0 (omega arith), λ i lt. all (suc i) (omega (arith, lt)))

-- ---- a change is noted, or was

pub noted_as_it_is : (marks : List ℕ) (mark : ℕ) (others : List ℕ) (changes : List Change) (place height : ℕ) → marks ≡ mark ∷ others → IsFixed changes mark place → AreNoted marks changes changes place height
noted_as_it_is marks mark others changes place height is fixed = rw is (λ m le p now. by_test m le p now (eqb place p) refl)
  where
    by_test : (m : ℕ) → m ≤ mark → (p now : ℕ) → (b : Bool) → eqb place p ≡ b → height_before (drop m changes) p now ≡ height_before (drop m changes) p (cond b height now)
    by_test m le p now true e = subst (λ q. height_before (drop m changes) q now ≡ height_before (drop m changes) q height) (eqb-true place p e) (fixed m le now height)
    by_test m le p now false e = refl

pub noted_with : (marks : List ℕ) (mark : ℕ) (others : List ℕ) (changes more : List Change) (c : Change) → marks ≡ mark ∷ others → AreMarks (length changes) marks → more ≡ changes ++ c ∷ [] → AreNoted marks changes more c.place c.height
noted_with marks mark others changes more c is h longer = rw is (λ m le p now.
    let within : mark ≤ length changes = subst (λ ms. AreMarks (length changes) ms) is h 0 (omega arith) in
    ap (λ xs. height_before (drop m xs) p now) longer
    ∙ ap (λ xs. height_before xs p now) (drop-append-le m changes (c ∷ []) (omega (arith, within, le)))
    ∙ before-append (drop m changes) (c ∷ []) p now
    ∙ ap (height_before (drop m changes) p) (before_cons c [] p now ∙ ap (cond (eqb c.place p) c.height) (before_nil p now)))

-- ---- what the first changes found

pub record AreFilled (changes : List Change) (at : ℕ) (old new : List ℕ) : Type 0 where
  pub within : at ≤ length changes
  pub same : length new ≡ length old
  pub told : (place : ℕ) → place < length old → get_or new place 0 ≡ height_before (drop at changes) place (get_or old place 0)

pub filled_none : (changes : List Change) (firsts : List ℕ) → AreFilled changes (length changes) firsts firsts
filled_none changes firsts = record { within = omega arith; same = refl; told = λ place lt. sym (ap (λ xs. height_before xs place (get_or firsts place 0)) (drop-length changes) ∙ before_nil place (get_or firsts place 0)) }

before_step : (changes : List Change) (at : ℕ) (none : Change) → at < length changes → (place height : ℕ) → let c : Change = get_or changes at none in
    height_before (drop at changes) place height ≡ cond (eqb c.place place) c.height (height_before (drop (suc at) changes) place height)
before_step changes at none lt place height =
    ap (λ xs. height_before xs place height) (drop-cons changes at none lt) ∙ before_cons (get_or changes at none) (drop (suc at) changes) place height

pub filled_set : (changes : List Change) (at : ℕ) (none : Change) (old new : List ℕ) → at < length changes → (get_or changes at none).place < length new → AreFilled changes (suc at) old new
    → AreFilled changes at old (set new (get_or changes at none).place (get_or changes at none).height)
filled_set changes at none old new lt short h = record {
  within = omega (arith, lt);
  same = length-set new c.place c.height ∙ h.same;
  told = λ place less. by_test place less (eqb c.place place) refl ∙ sym (before_step changes at none lt place (get_or old place 0));
}
  where
    c : Change
    c = get_or changes at none

    by_test : (place : ℕ) → place < length old → (b : Bool) → eqb c.place place ≡ b → get_or (set new c.place c.height) place 0 ≡ cond b c.height (height_before (drop (suc at) changes) place (get_or old place 0))
    by_test place less true e =
        let same : c.place ≡ place = eqb-true c.place place e in
        ap (λ k. get_or (set new c.place c.height) k 0) (sym same) ∙ get_or-set_same new c.place c.height 0 short
    by_test place less false e =
        let apart : place ≢ c.place = λ q. (let yes : eqb c.place place ≡ true = eq-eqb c.place place (sym q) in
        let no_way : true ≡ false = sym yes ∙ e in cc) in
        get_or-set_other new c.place place c.height 0 apart ∙ h.told place less

pub filled_past : (changes : List Change) (at : ℕ) (none : Change) (old new : List ℕ) → at < length changes → length new ≤ (get_or changes at none).place → AreFilled changes (suc at) old new → AreFilled changes at old new
filled_past changes at none old new lt long h = record {
  within = omega (arith, lt);
  same = h.same;
  told = λ place less. by_test place less (eqb c.place place) refl ∙ sym (before_step changes at none lt place (get_or old place 0));
}
  where
    c : Change
    c = get_or changes at none

    by_test : (place : ℕ) → place < length old → (b : Bool) → eqb c.place place ≡ b → get_or new place 0 ≡ cond b c.height (height_before (drop (suc at) changes) place (get_or old place 0))
    by_test place less true e = absurd (omega (arith, eqb-true c.place place e, less, h.same, long))
    by_test place less false e = h.told place less

pub firsts_filled : (changes : List Change) (at : ℕ) (old new : List ℕ) → at ≡ 0 → AreFilled changes at old new → AreFirsts changes new
firsts_filled changes at old new none h = record { others = λ place. get_or old place 0; told = λ place lt. h.told place (omega (arith, h.same, lt)) ∙ ap (λ k. height_before (drop k changes) place (get_or old place 0)) none }
