-- Laws of lists of powers and the exponents that they stand for.
use Rattle.std.proofs.Common.{◌≡◌, ℕ, zero, suc, ◌+◌, ◌<◌, ◌≤◌, Bool, true, false, cond, List, [], ◌∷◌, refl, ap, sym, ◌∙◌, arith, ltb, eqb}
use Rattle.std.specs.Prelude.{All, ℤ, pos, negsuc, nat_abs}
use Rattle.std.specs.List.{range_with_len}
use Rattle.std.proofs.lemmas.Bool.{eqb-true, eqb-false, ne_eqb, ltb-true, ltb-false, lt-ltb}
use Rattle.std.proofs.lemmas.List.Elements.{All-nil, All-cons, All-head, All-tail}
use Rattle.form_term.specs.declared.power.Power.{Power}
use Rattle.form_term.specs.Term.{exponent_in, reach_of, powers_of, RiseFrom}

-- the powers of n symbols from a position on
abbrev pub powers_from : ℕ → ℕ → (ℕ → ℤ) → List Power
powers_from position n exponent = powers_of (range_with_len position n) exponent

-- a symbol before all of these is absent
pub absent_before : (position : ℕ) (ps : List Power) (symbol : ℕ) → RiseFrom position ps → symbol < position → exponent_in ps symbol ≡ pos 0
absent_before position [] symbol rise below = refl
absent_before position (p ∷ ps) symbol rise below =
    let other : eqb p.symbol symbol ≡ false = ne_eqb p.symbol symbol (λ e. omega arith) in
    rw other (absent_before (suc p.symbol) ps symbol rise.1 (omega arith))

-- a symbol past all of these is absent
pub absent_past : (ps : List Power) (symbol : ℕ) → reach_of ps ≤ symbol → exponent_in ps symbol ≡ pos 0
absent_past [] symbol past = refl
absent_past (p ∷ ps) symbol past =
    let other : eqb p.symbol symbol ≡ false = ne_eqb p.symbol symbol (λ e. omega arith) in
    rw other (absent_past ps symbol (omega arith))

-- the powers depend only on the exponents from the position on
pub powers_agree : (position n : ℕ) (f g : ℕ → ℤ) → ((symbol : ℕ) → position ≤ symbol → f symbol ≡ g symbol) → powers_from position n f ≡ powers_from position n g
powers_agree position zero f g agree = refl
powers_agree position (suc n) f g agree =
    let rest = powers_agree (position + 1) n f g (λ symbol from. agree symbol (omega arith)) in
    rw (agree position (omega arith), rest) refl

-- exponents that are all 0 have no powers
pub no_powers : (position n : ℕ) (f : ℕ → ℤ) → ((symbol : ℕ) → position ≤ symbol → f symbol ≡ pos 0) → powers_from position n f ≡ []
no_powers position zero f none = refl
no_powers position (suc n) f none =
    rw (none position (omega arith)) (no_powers (position + 1) n f (λ symbol from. none symbol (omega arith)))

-- powers that rise from a position rise from each before it
pub rise_lower : (position lower : ℕ) (ps : List Power) → RiseFrom position ps → lower ≤ position → RiseFrom lower ps
rise_lower position lower [] rise below = tt
rise_lower position lower (p ∷ ps) rise below = (omega arith, rise.1)

-- symbols past those of exponent 0 add no powers
pub powers_wider : (position n more : ℕ) (f : ℕ → ℤ) → ((symbol : ℕ) → position + n ≤ symbol → f symbol ≡ pos 0) → powers_from position (n + more) f ≡ powers_from position n f
powers_wider position zero more f none = let e : zero + more ≡ more = omega arith in rw e (no_powers position more f (λ symbol from. none symbol (omega arith)))
powers_wider position (suc n) more f none =
    let e : suc n + more ≡ suc (n + more) = omega arith in
    let rest = powers_wider (position + 1) n more f (λ symbol from. none symbol (omega arith)) in
    rw (e, rest) refl

-- rising powers are those of their own exponents
pub powers_again : (position n : ℕ) (ps : List Power) → RiseFrom position ps → All (λ p. 0 < nat_abs p.exponent) ps → reach_of ps ≤ position + n → powers_from position n (exponent_in ps) ≡ ps
powers_again position n [] rise present reach = no_powers position n (exponent_in []) (λ symbol from. refl)
powers_again position zero (p ∷ ps) rise present reach = absurd (omega arith)
powers_again position (suc n) (p ∷ ps) rise present reach = step (eqb p.symbol position) refl (powers_again (position + 1) n)
  where
    step : (b : Bool) → eqb p.symbol position ≡ b → ((qs : List Power) → RiseFrom (position + 1) qs → All (λ q. 0 < nat_abs q.exponent) qs → reach_of qs ≤ position + 1 + n → powers_from (position + 1) n (exponent_in qs) ≡ qs) → powers_from position (suc n) (exponent_in (p ∷ ps)) ≡ p ∷ ps
    step true e again =
        let same = eqb-true p.symbol position e in
        let there : ltb 0 (nat_abs p.exponent) ≡ true = lt-ltb 0 (nat_abs p.exponent) (All-head (λ (p : Power). 0 < nat_abs p.exponent) p ps present) in
        let others = powers_agree (position + 1) n (exponent_in (p ∷ ps)) (exponent_in ps) (λ symbol from. let other : eqb p.symbol symbol ≡ false = ne_eqb p.symbol symbol (λ e. omega arith) in rw other refl) in
        let rest = again ps (rise_lower (suc p.symbol) (position + 1) ps rise.1 (omega arith)) (All-tail (λ (p : Power). 0 < nat_abs p.exponent) p ps present) (omega arith) in
        rw (e, there, others, rest) (ap (λ (s : ℕ). record { symbol = s; exponent = p.exponent } ∷ ps) (sym same))
    step false e again =
        let absent : exponent_in ps position ≡ pos 0 = absent_before (suc p.symbol) ps position rise.1 (omega arith) in
        rw (e, absent) (again (p ∷ ps) (ne_rise e rise.0, rise.1) present (omega arith))
      where
        ne_rise : eqb p.symbol position ≡ false → position ≤ p.symbol → position + 1 ≤ p.symbol
        ne_rise f le = let ne = eqb-false p.symbol position f in omega arith

-- the powers of exponents rise
pub powers_rise : (position n : ℕ) (f : ℕ → ℤ) → RiseFrom position (powers_from position n f)
powers_rise position zero f = tt
powers_rise position (suc n) f = step (ltb 0 (nat_abs (f position))) (powers_rise (position + 1) n f)
  where
    step : (b : Bool) → RiseFrom (position + 1) (powers_from (position + 1) n f) → RiseFrom position (cond b (record { symbol = position; exponent = f position } ∷ powers_from (position + 1) n f) (powers_from (position + 1) n f))
    step true rise = (omega arith, rise_lower (position + 1) (suc position) (powers_from (position + 1) n f) rise (omega arith))
    step false rise = rise_lower (position + 1) position (powers_from (position + 1) n f) rise (omega arith)

-- a whole number of no size is 0
pub zero_from : (z : ℤ) → ltb 0 (nat_abs z) ≡ false → z ≡ pos 0
zero_from (pos zero) e = refl
zero_from (pos (suc n)) e = let none = ltb-false 0 (suc n) e in absurd (omega arith)
zero_from (negsuc n) e = let none = ltb-false 0 (suc n) e in absurd (omega arith)

-- the exponent of a symbol among the powers of exponents
pub exponent_again : (position n : ℕ) (f : ℕ → ℤ) (symbol : ℕ) → position ≤ symbol → symbol < position + n → exponent_in (powers_from position n f) symbol ≡ f symbol
exponent_again position zero f symbol from below = absurd (omega arith)
exponent_again position (suc n) f symbol from below = step (eqb position symbol) refl (ltb 0 (nat_abs (f position))) refl (λ h. exponent_again (position + 1) n f symbol h (omega arith))
  where
    step : (same : Bool) → eqb position symbol ≡ same → (there : Bool) → ltb 0 (nat_abs (f position)) ≡ there → (position + 1 ≤ symbol → exponent_in (powers_from (position + 1) n f) symbol ≡ f symbol)
        → exponent_in (cond there (record { symbol = position; exponent = f position } ∷ powers_from (position + 1) n f) (powers_from (position + 1) n f)) symbol ≡ f symbol
    step true e true t rest = rw e (ap f (eqb-true position symbol e))
    step true e false t rest =
        let same = eqb-true position symbol e in
        absent_before (position + 1) (powers_from (position + 1) n f) symbol (powers_rise (position + 1) n f) (omega arith) ∙ sym (ap f (sym same) ∙ zero_from (f position) t)
    step false e true t rest = rw e (rest (let ne = eqb-false position symbol e in omega arith))
    step false e false t rest = rest (let ne = eqb-false position symbol e in omega arith)

-- none of the powers of exponents is of exponent 0
pub powers_present : (symbols : List ℕ) (f : ℕ → ℤ) → All (λ p. 0 < nat_abs p.exponent) (powers_of symbols f)
powers_present [] f = All-nil (λ (p : Power). 0 < nat_abs p.exponent)
powers_present (s ∷ ss) f = step (ltb 0 (nat_abs (f s))) refl (powers_present ss f)
  where
    step : (b : Bool) → ltb 0 (nat_abs (f s)) ≡ b → All (λ (p : Power). 0 < nat_abs p.exponent) (powers_of ss f)
        → All (λ (p : Power). 0 < nat_abs p.exponent) (cond b (record { symbol = s; exponent = f s } ∷ powers_of ss f) (powers_of ss f))
    step true e rest = All-cons (λ (p : Power). 0 < nat_abs p.exponent) (record { symbol = s; exponent = f s }) (powers_of ss f) (ltb-true 0 (nat_abs (f s)) e) rest
    step false e rest = rest
