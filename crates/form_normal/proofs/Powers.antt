-- The powers of a product, made from those of its factors in one walk.
use Rattle.std.proofs.Common.{◌≡◌, ℕ, suc, ◌+◌, ◌<◌, ◌≤◌, Bool, true, false, ◌⊎◌, inl, inr, List, [], ◌∷◌, ◌++◌, append-nil, refl, ap, sym, ◌∙◌, arith, eqb}
use Rattle.std.specs.Prelude.{All, max, ℤ, pos, ◌+ℤ◌, nat_abs}
use Rattle.std.proofs.lemmas.Bool.{eqb-true}
use Rattle.std.proofs.lemmas.Int.{ints}
use Rattle.std.proofs.lemmas.List.Elements.{All-nil, All-cons, All-head, All-tail, All-append}
use Rattle.form_term.specs.declared.power.Power.{Power}
use Rattle.form_term.specs.Term.{Term, RiseFrom, of_symbols, exponent_in, reach_of}
use Rattle.form_term.specs.PowerLaws.{absent_before, absent_past, powers_agree, powers_wider, rise_lower, powers_again, exponent_again}
use Rattle.form_normal.specs.Factors.{IsPresent, IsInRange}
use Rattle.form_normal.specs.Product.{symbols_product, exponent_sum, reach_of_all}

pub zero_plus : (x : ℤ) → pos 0 +ℤ x ≡ x
zero_plus x = omega (arith, ints)

pub plus_zero : (x : ℤ) → x +ℤ pos 0 ≡ x
plus_zero x = omega (arith, ints)

-- the exponents of powers behind others that are before them
pub exponent_append : (out ps : List Power) (symbol : ℕ) → RiseFrom (reach_of out) ps → exponent_in (out ++ ps) symbol ≡ exponent_in out symbol +ℤ exponent_in ps symbol
exponent_append [] ps symbol rise = sym (zero_plus (exponent_in ps symbol))
exponent_append (p ∷ out) ps symbol rise = step (eqb p.symbol symbol) refl (exponent_append out ps symbol (rise_lower (reach_of (p ∷ out)) (reach_of out) ps rise (omega arith)))
  where
    step : (b : Bool) → eqb p.symbol symbol ≡ b → exponent_in (out ++ ps) symbol ≡ exponent_in out symbol +ℤ exponent_in ps symbol → exponent_in (p ∷ (out ++ ps)) symbol ≡ exponent_in (p ∷ out) symbol +ℤ exponent_in ps symbol
    step true e rest =
        let same = eqb-true p.symbol symbol e in
        let none = absent_before (reach_of (p ∷ out)) ps symbol rise (omega arith) in
        rw (e, none) (sym (plus_zero p.exponent))
    step false e rest = rw e rest

rise_append : (from : ℕ) (out ps : List Power) → RiseFrom from out → RiseFrom (max from (reach_of out)) ps → RiseFrom from (out ++ ps)
rise_append from [] ps left right = rise_lower (max from 0) from ps right (omega arith)
rise_append from (p ∷ out) ps left right = (left.0, rise_append (suc p.symbol) out ps left.1 (rise_lower (max from (reach_of (p ∷ out))) (max (suc p.symbol) (reach_of out)) ps right (omega arith)))

-- powers that rise behind others
pub rise_behind : (out ps : List Power) → RiseFrom 0 out → RiseFrom (reach_of out) ps → RiseFrom 0 (out ++ ps)
rise_behind out ps left right = rise_append 0 out ps left (rise_lower (reach_of out) (max 0 (reach_of out)) ps right (omega arith))

reach_push : (out : List Power) (p : Power) → reach_of out ≤ suc p.symbol → reach_of (out ++ p ∷ []) ≤ suc p.symbol
reach_push [] p h = omega arith
reach_push (q ∷ out) p h = let rest = reach_push out p (omega arith) in omega arith

-- the first of rising powers and the others
exponent_first : (p : Power) (ps : List Power) (symbol : ℕ) → RiseFrom (suc p.symbol) ps → exponent_in (p ∷ ps) symbol ≡ exponent_in (p ∷ []) symbol +ℤ exponent_in ps symbol
exponent_first p ps symbol rise = exponent_append (p ∷ []) ps symbol (rise_lower (suc p.symbol) (max (suc p.symbol) 0) ps rise (omega arith))

-- The walk: `out` is made, and `ls` and `rs` are left of the two factors' powers.
pub record Merging (left right out ls rs : List Power) : Type 0 where
  pub sums : (symbol : ℕ) → exponent_in out symbol +ℤ (exponent_in ls symbol +ℤ exponent_in rs symbol) ≡ exponent_in left symbol +ℤ exponent_in right symbol
  pub out_rise : RiseFrom 0 out
  pub left_rise : RiseFrom (reach_of out) ls
  pub right_rise : RiseFrom (reach_of out) rs
  pub out_present : All IsPresent out
  pub left_present : All IsPresent ls
  pub right_present : All IsPresent rs
  pub left_in_range : All IsInRange ls
  pub right_in_range : All IsInRange rs

-- the sides change places
swapped : (left right out ls rs : List Power) → Merging left right out ls rs → Merging right left out rs ls
swapped left right out ls rs m = record {
  sums = λ symbol. turn (exponent_in out symbol) (exponent_in ls symbol) (exponent_in rs symbol) (exponent_in left symbol) (exponent_in right symbol) (m.sums symbol);
  out_rise = m.out_rise;
  left_rise = m.right_rise;
  right_rise = m.left_rise;
  out_present = m.out_present;
  left_present = m.right_present;
  right_present = m.left_present;
  left_in_range = m.right_in_range;
  right_in_range = m.left_in_range;
}
  where
    turn : (o a b x y : ℤ) → o +ℤ (a +ℤ b) ≡ x +ℤ y → o +ℤ (b +ℤ a) ≡ y +ℤ x
    turn o a b x y e = omega (arith, ints)

-- a power of the left that comes first
pub merging_left : (left right out : List Power) (l : Power) (ls rs : List Power) → Merging left right out (l ∷ ls) rs → RiseFrom (suc l.symbol) rs → Merging left right (out ++ l ∷ []) ls rs
merging_left left right out l ls rs m above =
    let reach = reach_push out l (omega (arith, m.left_rise.0)) in
    record {
      sums = λ symbol. move (exponent_in out symbol) (exponent_in (l ∷ []) symbol) (exponent_in ls symbol) (exponent_in rs symbol) (exponent_in (l ∷ ls) symbol) (exponent_in (out ++ l ∷ []) symbol) (exponent_in left symbol +ℤ exponent_in right symbol)
          (exponent_first l ls symbol m.left_rise.1) (exponent_append out (l ∷ []) symbol (m.left_rise.0, tt)) (m.sums symbol);
      out_rise = rise_behind out (l ∷ []) m.out_rise (m.left_rise.0, tt);
      left_rise = rise_lower (suc l.symbol) (reach_of (out ++ l ∷ [])) ls m.left_rise.1 reach;
      right_rise = rise_lower (suc l.symbol) (reach_of (out ++ l ∷ [])) rs above reach;
      out_present = All-append IsPresent out (l ∷ []) m.out_present (All-cons IsPresent l [] (All-head IsPresent l ls m.left_present) (All-nil IsPresent));
      left_present = All-tail IsPresent l ls m.left_present;
      right_present = m.right_present;
      left_in_range = All-tail IsInRange l ls m.left_in_range;
      right_in_range = m.right_in_range;
    }
  where
    move : (o x a b c n t : ℤ) → c ≡ x +ℤ a → n ≡ o +ℤ x → o +ℤ (c +ℤ b) ≡ t → n +ℤ (a +ℤ b) ≡ t
    move o x a b c n t e f g = omega (arith, ints)

-- a power of the right that comes first
pub merging_right : (left right out ls : List Power) (r : Power) (rs : List Power) → Merging left right out ls (r ∷ rs) → RiseFrom (suc r.symbol) ls → Merging left right (out ++ r ∷ []) ls rs
merging_right left right out ls r rs m above = swapped right left (out ++ r ∷ []) rs ls (merging_left right left out r rs ls (swapped left right out ls (r ∷ rs) m) above)

module _ (left right out : List Power) (l : Power) (ls : List Power) (r : Power) (rs : List Power) (m : Merging left right out (l ∷ ls) (r ∷ rs)) (same : l.symbol ≡ r.symbol) where
  below_rest : suc l.symbol ≡ suc r.symbol
  below_rest = ap suc same

  rights_rise : RiseFrom (suc l.symbol) rs
  rights_rise = rise_lower (suc r.symbol) (suc l.symbol) rs m.right_rise.1 (omega (arith, below_rest))

  -- powers of one symbol on both sides, whose exponents don't add up to 0
  pub merging_both : (p : Power) → p ≡ record { symbol = l.symbol; exponent = l.exponent +ℤ r.exponent } → 0 < nat_abs p.exponent → Merging left right (out ++ p ∷ []) ls rs
  merging_both p e there =
      let at : p.symbol ≡ l.symbol = ap (λ (x : Power). x.symbol) e in
      let reach = reach_push out p (omega (arith, m.left_rise.0, at)) in
      let behind : reach_of out ≤ p.symbol = omega (arith, m.left_rise.0, at) in
      record {
        sums = λ symbol. move (exponent_in out symbol) (exponent_in (l ∷ []) symbol) (exponent_in (r ∷ []) symbol) (exponent_in ls symbol) (exponent_in rs symbol) (exponent_in (l ∷ ls) symbol) (exponent_in (r ∷ rs) symbol) (exponent_in (p ∷ []) symbol) (exponent_in (out ++ p ∷ []) symbol) (exponent_in left symbol +ℤ exponent_in right symbol)
            (exponent_first l ls symbol m.left_rise.1) (exponent_first r rs symbol m.right_rise.1) (together symbol (eqb l.symbol symbol) refl) (exponent_append out (p ∷ []) symbol (behind, tt)) (m.sums symbol);
        out_rise = rise_behind out (p ∷ []) m.out_rise (behind, tt);
        left_rise = rise_lower (suc l.symbol) (reach_of (out ++ p ∷ [])) ls m.left_rise.1 (omega (arith, reach, at));
        right_rise = rise_lower (suc l.symbol) (reach_of (out ++ p ∷ [])) rs rights_rise (omega (arith, reach, at));
        out_present = All-append IsPresent out (p ∷ []) m.out_present (All-cons IsPresent p [] there (All-nil IsPresent));
        left_present = All-tail IsPresent l ls m.left_present;
        right_present = All-tail IsPresent r rs m.right_present;
        left_in_range = All-tail IsInRange l ls m.left_in_range;
        right_in_range = All-tail IsInRange r rs m.right_in_range;
      }
    where
      move : (o x y a b c d z n t : ℤ) → c ≡ x +ℤ a → d ≡ y +ℤ b → z ≡ x +ℤ y → n ≡ o +ℤ z → o +ℤ (c +ℤ d) ≡ t → n +ℤ (a +ℤ b) ≡ t
      move o x y a b c d z n t e f g h k = omega (arith, ints)

      together : (symbol : ℕ) (b : Bool) → eqb l.symbol symbol ≡ b → exponent_in (p ∷ []) symbol ≡ exponent_in (l ∷ []) symbol +ℤ exponent_in (r ∷ []) symbol
      together symbol true h = rw (e, ← same, h) refl
      together symbol false h = rw (e, ← same, h) refl

  -- powers whose exponents add up to 0 vanish
  pub merging_none : l.exponent +ℤ r.exponent ≡ pos 0 → Merging left right out ls rs
  merging_none e = record {
    sums = λ symbol. move (exponent_in out symbol) (exponent_in (l ∷ []) symbol) (exponent_in (r ∷ []) symbol) (exponent_in ls symbol) (exponent_in rs symbol) (exponent_in (l ∷ ls) symbol) (exponent_in (r ∷ rs) symbol) (exponent_in left symbol +ℤ exponent_in right symbol)
        (exponent_first l ls symbol m.left_rise.1) (exponent_first r rs symbol m.right_rise.1) (together symbol (eqb l.symbol symbol) refl) (m.sums symbol);
    out_rise = m.out_rise;
    left_rise = rise_lower (suc l.symbol) (reach_of out) ls m.left_rise.1 (omega (arith, m.left_rise.0));
    right_rise = rise_lower (suc l.symbol) (reach_of out) rs rights_rise (omega (arith, m.left_rise.0));
    out_present = m.out_present;
    left_present = All-tail IsPresent l ls m.left_present;
    right_present = All-tail IsPresent r rs m.right_present;
    left_in_range = All-tail IsInRange l ls m.left_in_range;
    right_in_range = All-tail IsInRange r rs m.right_in_range;
  }
    where
      move : (o x y a b c d t : ℤ) → c ≡ x +ℤ a → d ≡ y +ℤ b → x +ℤ y ≡ pos 0 → o +ℤ (c +ℤ d) ≡ t → o +ℤ (a +ℤ b) ≡ t
      move o x y a b c d t e f g h = omega (arith, ints)

      together : (symbol : ℕ) (b : Bool) → eqb l.symbol symbol ≡ b → exponent_in (l ∷ []) symbol +ℤ exponent_in (r ∷ []) symbol ≡ pos 0
      together symbol true h = rw (← same, h) e
      together symbol false h = rw (← same, h) refl

-- the exponents of a product are 0 past all symbols of its factors
sum_past : (ts : List Term) (symbol : ℕ) → reach_of_all ts ≤ symbol → exponent_sum ts symbol ≡ pos 0
sum_past [] symbol past = refl
sum_past (t ∷ ts) symbol past = rw (absent_past t.symbols symbol (omega arith), sum_past ts symbol (omega arith)) refl

-- powers with the exponents of a product are its term
pub product_from : (ps : List Power) (ts : List Term) → RiseFrom 0 ps → All IsPresent ps → ((symbol : ℕ) → exponent_in ps symbol ≡ exponent_sum ts symbol) → ps ≡ symbols_product ts
unfolding symbols_product
product_from ps ts rise present same =
    let n = reach_of_all ts in
    let more = reach_of ps in
    sym (powers_again 0 (n + more) ps rise present (omega arith)) ∙ powers_agree 0 (n + more) (exponent_in ps) (exponent_sum ts) (λ symbol from. same symbol) ∙ powers_wider 0 n more (exponent_sum ts) (λ symbol from. sum_past ts symbol (omega arith))

-- where one side is used up, what is made and what is left of the other is the product
pub merging_ends : (left right out ls rs : List Power) → Merging left right out ls rs → (ls ≡ []) ⊎ (rs ≡ []) → (out ++ ls) ++ rs ≡ symbols_product (of_symbols left ∷ of_symbols right ∷ [])
merging_ends left right out ls rs m (inl e) =
    let h : Merging left right out [] rs = rw e at m in
    rw (e, append-nil out) (product_from (out ++ rs) (of_symbols left ∷ of_symbols right ∷ []) (rise_behind out rs h.out_rise h.right_rise) (All-append IsPresent out rs h.out_present h.right_present)
    (λ symbol. exponent_append out rs symbol h.right_rise ∙ count (exponent_in out symbol) (exponent_in rs symbol) (exponent_in left symbol) (exponent_in right symbol) (h.sums symbol)))
  where
    count : (o b x y : ℤ) → o +ℤ (pos 0 +ℤ b) ≡ x +ℤ y → o +ℤ b ≡ x +ℤ (y +ℤ pos 0)
    count o b x y e = omega (arith, ints)
merging_ends left right out ls rs m (inr e) =
    let h : Merging left right out ls [] = rw e at m in
    rw (e, append-nil (out ++ ls)) (product_from (out ++ ls) (of_symbols left ∷ of_symbols right ∷ []) (rise_behind out ls h.out_rise h.left_rise) (All-append IsPresent out ls h.out_present h.left_present)
    (λ symbol. exponent_append out ls symbol h.left_rise ∙ count (exponent_in out symbol) (exponent_in ls symbol) (exponent_in left symbol) (exponent_in right symbol) (h.sums symbol)))
  where
    count : (o a x y : ℤ) → o +ℤ (a +ℤ pos 0) ≡ x +ℤ y → o +ℤ a ≡ x +ℤ (y +ℤ pos 0)
    count o a x y e = omega (arith, ints)

-- the exponents of a product are the sums of its factors' exponents
pub exponent_of_product : (ts : List Term) (symbol : ℕ) → exponent_in (symbols_product ts) symbol ≡ exponent_sum ts symbol
unfolding symbols_product
exponent_of_product ts symbol =
    let n = reach_of_all ts in
    let more = suc symbol in
    ap (λ (ps : List Power). exponent_in ps symbol) (sym (powers_wider 0 n more (exponent_sum ts) (λ other from. sum_past ts other (omega arith)))) ∙ exponent_again 0 (n + more) (exponent_sum ts) symbol (omega arith) (omega arith)

-- powers and no others
pub none_merged : (ps qs : List Power) → RiseFrom 0 ps → All IsPresent ps → qs ≡ [] → ps ≡ symbols_product (of_symbols ps ∷ of_symbols qs ∷ [])
none_merged ps qs rise present none = rw none (product_from ps (of_symbols ps ∷ of_symbols [] ∷ []) rise present (λ symbol. add (exponent_in ps symbol)))
  where
    add : (x : ℤ) → x ≡ x +ℤ (pos 0 +ℤ pos 0)
    add x = omega (arith, ints)
