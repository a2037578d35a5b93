-- What a plain pattern takes fits at least once.
use Rattle.std.proofs.Common.{◌≡◌, ℕ, suc, zero, ◌<◌, ◌≤◌, ◌==◌, inl, inr, Bool, true, false, ◌&&◌, if◌then◌else◌, ℤ, pos, negsuc, nat_abs, int_lt, int_le, List, [], ◌∷◌, ◌++◌, map, Option, Some, None, IfSome, option_map, option_to_list, get_or, refl, sym, subst, arith}
use Rattle.std.specs.List.{AllByRecursion, enumerate_from, list_all}
use Rattle.std.specs.Option.{option_or}
use Rattle.std.proofs.lemmas.Bool.{and_parts, eqb-false}
use Rattle.std.proofs.lemmas.Bool.Decides.{nat_tests}
use Rattle.std.proofs.lemmas.Nat.{le-div}
use Rattle.std.proofs.lemmas.Option.{slice_get-get_or}
use Rattle.std.proofs.lemmas.List.Elements.{recursion_from_All}
use Rattle.form_term.specs.declared.power.Power.{Power}
use Rattle.form_term.specs.declared.power.DotPower.{DotPower}
use Rattle.form_term.specs.declared.piece.Piece.{Piece}
use Rattle.form_term.specs.Term.{Term, exponent_of}
use Rattle.form_term.proofs.Each.{each_append, each_always, each_flat, each_filter_map, each_map}
use Rattle.form_tree.specs.declared.pattern.Name.{Name}
use Rattle.form_tree.specs.Pattern.{Factors, none, more, Factor, symbol, dot, pieces_of_factors}
use Rattle.form_bindings.specs.Values.{Binding}
use Rattle.form_match.specs.declared.matching.Match.{Match}
use Rattle.form_match.specs.declared.uses.Use.{Use}
use Rattle.form_match.specs.declared.uses.Use.TheVariants as uses
use Rattle.form_match.specs.Fits.{Fits, FitsUse}
use Rattle.form_match.specs.Matching.{Host, Choice, fits, taking, asked_symbol, asked_vector, and_asked, symbol_choice, dot_choices, uses_of, asks_of, are_apart, outer, vectors, choices, bindings_of, match_of, first_some, first_of}
use Rattle.form_match.specs.Ready.{is_itself, is_plain_piece}
use Rattle.form_rewrite.specs.Taking.{times_in, dot_exponent, times_at, least, fits_times}

-- a power is taken, and not that of exponent 0
abbrev IsPower : Use → Type 0
IsPower (uses.Symbol s k) = 0 < nat_abs k
IsPower (uses.Dot m k) = 0 < nat_abs k
IsPower (uses.Component m) = ⊥
IsPower (uses.Delta m) = ⊥
IsPower (uses.Function m) = ⊥
IsPower (uses.Stretch start n) = ⊥

-- ---- what fits

fits_some : (is_exact : Bool) (e k : ℤ) → fits is_exact e k ≡ true → 0 < nat_abs k
fits_some is_exact e k h = by (nat_abs k == 0) refl h
  where
    by : (b : Bool) → (nat_abs k == 0) ≡ b → (if b then false else if is_exact then int_le e k && int_le k e else if int_lt (pos 0) k then int_le k e else int_le e k) ≡ true → 0 < nat_abs k
    by true i f = absurd (cc)
    by false i f = omega (arith, eqb-false (nat_abs k) 0 i)

size_fits : (e k : ℤ) → fits false e k ≡ true → nat_abs k ≤ nat_abs e
size_fits (pos a) (pos zero) h = omega arith
size_fits (pos a) (pos (suc m)) h = grind (arith, nat_tests)
size_fits (pos a) (negsuc m) h = absurd (grind (arith, nat_tests))
size_fits (negsuc b) (pos zero) h = omega arith
size_fits (negsuc b) (pos (suc m)) h = absurd (grind (arith, nat_tests))
size_fits (negsuc b) (negsuc m) h = let f : m ≤ b = grind (arith, nat_tests) in omega (arith, f)

once_in : (e k : ℤ) → fits false e k ≡ true → 0 < nat_abs k → 0 < times_in e k
once_in e k h some = le-div 1 (nat_abs e) (nat_abs k) some (omega (arith, size_fits e k h))

no_dot : DotPower
no_dot = record { left = 0; right = 0; exponent = pos 0 }

once_at : (t : Term) (u : Use) → FitsUse t u → IsPower u → 0 < times_at t u
once_at t (uses.Symbol s k) (inl z) p = absurd (omega (arith, z, p))
once_at t (uses.Symbol s k) (inr f) p = once_in (exponent_of t s) k f p
once_at t (uses.Dot m k) h p =
    let is = slice_get-get_or t.others.dots m no_dot h.0 in
    subst (λ (o : Option DotPower). 0 < times_in (dot_exponent o) k) (sym is)
    (once_in ((get_or t.others.dots m no_dot).exponent) k (subst (λ (o : Option DotPower). IfSome o (λ d. fits false d.exponent k ≡ true)) is h.1) p)
once_at t (uses.Component m) h p = absurd p
once_at t (uses.Delta m) h p = absurd p
once_at t (uses.Function m) h p = absurd p
once_at t (uses.Stretch start n) h p = absurd p

least_some : (n : ℕ) (ms : List ℕ) → 0 < n → AllByRecursion (λ (m : ℕ). 0 < m) ms → 0 < least n ms
least_some n [] some h = some
least_some n (m ∷ ms) some h = let rest = least_some m ms h.0 h.1 in omega (arith, rest, some)

each_once : (t : Term) (us : List Use) → AllByRecursion (FitsUse t) us → AllByRecursion IsPower us → AllByRecursion (λ (m : ℕ). 0 < m) (map (times_at t) us)
each_once t [] h k = tt
each_once t (u ∷ us) h k = (once_at t u h.0 k.0, each_once t us h.1 k.1)

some_times : (t : Term) (us : List Use) → AllByRecursion (FitsUse t) us → AllByRecursion IsPower us → 0 < fits_times t us
some_times t [] h k = omega arith
some_times t (u ∷ us) h k = least_some (times_at t u) (map (times_at t) us) (once_at t u h.0 k.0) (each_once t us h.1 k.1)

-- ---- what a plain pattern takes

abbrev TakesPower : Choice → Type 0
TakesPower c = IsPower c.takes

abbrev TakePowers : List Choice → Type 0
TakePowers v = AllByRecursion TakesPower v

taking_power : (u : Use) (o : Option (List Binding)) → IsPower u → IfSome (taking u o) TakesPower
taking_power u None h = tt
taking_power u (Some bs) h = h

one_held : (o : Option Choice) → IfSome o TakesPower → TakePowers (option_to_list o)
one_held None h = tt
one_held (Some c) h = (h, tt)

symbol_power : (is_exact : Bool) (n : Name) (k : ℤ) (p : Power) → IfSome (symbol_choice is_exact n k p) TakesPower
symbol_power is_exact n k p = by (fits is_exact p.exponent k) refl
  where
    by : (b : Bool) → fits is_exact p.exponent k ≡ b → IfSome (if b then taking (uses.Symbol p.symbol k) (asked_symbol n p.symbol) else None) TakesPower
    by true e = taking_power (uses.Symbol p.symbol k) (asked_symbol n p.symbol) (fits_some is_exact p.exponent k e)
    by false e = tt

dot_powers : (is_exact : Bool) (p q : Name) (k : ℤ) (e : ℕ × DotPower) → TakePowers (dot_choices is_exact p q k e)
dot_powers is_exact p q k e = by (fits is_exact e.1.exponent k) refl
  where
    one_way : (u v : ℕ) → 0 < nat_abs k → TakePowers (option_to_list (taking (uses.Dot e.0 k) (and_asked (asked_vector p u) (asked_vector q v))))
    one_way u v h = one_held (taking (uses.Dot e.0 k) (and_asked (asked_vector p u) (asked_vector q v))) (taking_power (uses.Dot e.0 k) (and_asked (asked_vector p u) (asked_vector q v)) h)

    by : (b : Bool) → fits is_exact e.1.exponent k ≡ b → TakePowers (if b
        then option_to_list (taking (uses.Dot e.0 k) (and_asked (asked_vector p e.1.left) (asked_vector q e.1.right))) ++ option_to_list (taking (uses.Dot e.0 k) (and_asked (asked_vector p e.1.right) (asked_vector q e.1.left)))
        else [])
    by true f =
        let some = fits_some is_exact e.1.exponent k f in
        each_append TakesPower (option_to_list (taking (uses.Dot e.0 k) (and_asked (asked_vector p e.1.left) (asked_vector q e.1.right))))
        (option_to_list (taking (uses.Dot e.0 k) (and_asked (asked_vector p e.1.right) (asked_vector q e.1.left)))) (one_way e.1.left e.1.right some) (one_way e.1.right e.1.left some)
    by false f = tt

module _ (table : List (Option (List Piece))) where
  -- each choice of a factor before each vector of the others
  first_and_rest : (f : Factor) (fs : Factors) (h : Host) → TakePowers (choices table f h) → AllByRecursion TakePowers (vectors table fs h) → AllByRecursion TakePowers (vectors table (more f fs) h)
  unfolding vectors
  first_and_rest f fs h first rest =
      each_flat TakesPower TakePowers (λ (c : Choice). map (λ (v : List Choice). c ∷ v) (vectors table fs h))
      (λ c g. each_map TakePowers TakePowers (λ (v : List Choice). c ∷ v) (λ v l. (g, l)) (vectors table fs h) rest) (choices table f h) first

  plain_vectors : (fs : Factors) (h : Host) → list_all is_plain_piece (pieces_of_factors fs) ≡ true → AllByRecursion TakePowers (vectors table fs h)
  unfolding vectors choices
  plain_vectors none h e = (tt, tt)
  plain_vectors (more (symbol n k) fs) h e =
      let rest = (and_parts (is_itself n) (list_all is_plain_piece (pieces_of_factors fs)) e).1 in
      first_and_rest (symbol n k) fs h
      (each_filter_map (λ (p : Power). Unit {0}) TakesPower (symbol_choice h.is_exact n k) (λ p g. symbol_power h.is_exact n k p) h.term.symbols (each_always (λ (p : Power). Unit {0}) (λ p. tt) h.term.symbols))
      (plain_vectors fs h rest)
  plain_vectors (more (dot p q k) fs) h e =
      let rest = (and_parts (is_itself p && is_itself q) (list_all is_plain_piece (pieces_of_factors fs)) e).1 in
      first_and_rest (dot p q k) fs h
      (each_flat (λ (x : ℕ × DotPower). Unit {0}) TakesPower (dot_choices h.is_exact p q k) (λ x g. dot_powers h.is_exact p q k x) (enumerate_from 0 h.term.others.dots)
      (each_always (λ (x : ℕ × DotPower). Unit {0}) (λ x. tt) (enumerate_from 0 h.term.others.dots)))
      (plain_vectors fs h rest)
  plain_vectors (more f fs) h e = absurd (cc)

abbrev HasPowers : Match → Type 0
HasPowers m = AllByRecursion IsPower m.takes

match_powers : (v : List Choice) → TakePowers v → IfSome (match_of v) HasPowers
match_powers v h = by (are_apart (uses_of v))
  where
    at : (o : Option (List Binding)) → IfSome (option_map (λ bs. record { takes = uses_of v; bindings = bs }) o) HasPowers
    at None = tt
    at (Some bs) = each_map TakesPower IsPower (λ (c : Choice). c.takes) (λ c k. k) v h

    by : (b : Bool) → IfSome (if b then option_map (λ bs. record { takes = uses_of v; bindings = bs }) (bindings_of (asks_of v)) else None) HasPowers
    by true = at (bindings_of (asks_of v))
    by false = tt

first_powers : (vs : List (List Choice)) → AllByRecursion TakePowers vs → IfSome (first_some match_of vs) HasPowers
first_powers [] h = tt
first_powers (v ∷ vs) h = by (match_of v) (match_powers v h.0) (first_powers vs h.1)
  where
    by : (o : Option Match) → IfSome o HasPowers → IfSome (first_some match_of vs) HasPowers → IfSome (option_or o (first_some match_of vs)) HasPowers
    by None g rest = rest
    by (Some m) g rest = g

-- Where a plain pattern matches, it fits at least once.
pub plain_fits : (table : List (Option (List Piece))) (fs : Factors) (t : Term) (cuts : List ℕ) (is_exact : Bool) (m : Match) → list_all is_plain_piece (pieces_of_factors fs) ≡ true
    → first_of table fs t cuts is_exact ≡ Some m → Fits m.takes t → 0 < fits_times t m.takes
unfolding first_of
plain_fits table fs t cuts is_exact m plain e f =
    let powers = subst (λ (o : Option Match). IfSome o HasPowers) e (first_powers (vectors table fs (outer t cuts is_exact)) (plain_vectors table fs (outer t cuts is_exact) plain)) in
    some_times t m.takes (recursion_from_All (FitsUse t) m.takes f.each) powers
