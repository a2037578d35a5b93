-- What is left of two terms' powers, after powers that both have.
use Rattle.std.proofs.Common.{◌≡◌, ◌≢◌, suc, ◌<◌, List, [], ◌∷◌, ap, sym, ◌∙◌, subst, inl, inr, arith}
use Rattle.std.specs.Prelude.{All, pos, nat_abs}
use Rattle.std.specs.Ordering.{int_cmp}
use Rattle.std.specs.declared.cmp.Ordering.TheVariants.{Equal}
use Rattle.std.proofs.lemmas.Bool.{cases_order}
use Rattle.std.proofs.lemmas.List.Elements.{All-head, All-tail}
use Rattle.std.proofs.lemmas.Cmp.{tied_itself}
use Rattle.std.proofs.lemmas.Map.Lookups.{exact_signed}
use Rattle.form_term.specs.declared.power.Power.{Power}
use Rattle.form_term.specs.Term.{symbols_order, RiseFrom}
use Rattle.form_term.specs.PowerLaws.{rise_lower}
use Rattle.form_term.specs.SymbolLaws.{symbols_order_total, differs, differs_back, first_left, first_right, first_both, first_equal, single_less, single_same, single_greater}

-- the powers of two terms are compared as these, which are left of them
pub record Decide (left right ps qs : List Power) : Type 0 where
  pub order : symbols_order left right ≡ symbols_order ps qs
  pub left_rise : RiseFrom 0 ps
  pub right_rise : RiseFrom 0 qs
  pub left_present : All (λ p. 0 < nat_abs p.exponent) ps
  pub right_present : All (λ q. 0 < nat_abs q.exponent) qs

module _ (left right : List Power) where
  pub decide_left : (p : Power) (ps : List Power) → Decide left right (p ∷ ps) [] → symbols_order left right ≡ int_cmp p.exponent (pos 0)
  decide_left p ps d = d.order ∙ first_left p ps [] (omega arith, d.left_rise.1) tt (All-head (λ (p : Power). 0 < nat_abs p.exponent) p ps d.left_present)

  pub decide_right : (q : Power) (qs : List Power) → Decide left right [] (q ∷ qs) → symbols_order left right ≡ int_cmp (pos 0) q.exponent
  decide_right q qs d = d.order ∙ first_right [] q qs tt (omega arith, d.right_rise.1) (All-head (λ (q : Power). 0 < nat_abs q.exponent) q qs d.right_present)

  pub decide_none : Decide left right [] [] → symbols_order left right ≡ Equal
  decide_none d = d.order ∙ tied_itself symbols_order_total []

  module _ (p : Power) (ps : List Power) (q : Power) (qs : List Power) (d : Decide left right (p ∷ ps) (q ∷ qs)) where
    left_there : 0 < nat_abs p.exponent
    left_there = All-head (λ (p : Power). 0 < nat_abs p.exponent) p ps d.left_present

    right_there : 0 < nat_abs q.exponent
    right_there = All-head (λ (q : Power). 0 < nat_abs q.exponent) q qs d.right_present

    pub decide_first : symbols_order (p ∷ []) (q ∷ []) ≢ Equal → symbols_order left right ≡ symbols_order (p ∷ []) (q ∷ [])
    decide_first differ = d.order ∙ elim (cases_order p.symbol q.symbol) [
      | inl same ↦ first_both p ps q qs same (omega arith, d.left_rise.1) (omega arith, d.right_rise.1) (λ e. differ (single_same p q same ∙ e)) ∙ sym (single_same p q same)
      | inr (inl below) ↦ first_left p ps (q ∷ qs) (omega arith, d.left_rise.1) (omega arith, d.right_rise.1) left_there ∙ sym (single_less p q below left_there)
      | inr (inr above) ↦ first_right (p ∷ ps) q qs (omega arith, d.left_rise.1) (omega arith, d.right_rise.1) right_there ∙ sym (single_greater p q above right_there)
    ]

    -- two powers that compare equal are one
    one_power : symbols_order (p ∷ []) (q ∷ []) ≡ Equal → p ≡ q
    one_power e = elim (cases_order p.symbol q.symbol) [
      | inl same ↦ (let exponents = exact_signed p.exponent q.exponent (sym (single_same p q same) ∙ e) in λ i. record { symbol = same i; exponent = exponents i })
      | inr (inl below) ↦ absurd (differs p.exponent left_there (sym (single_less p q below left_there) ∙ e))
      | inr (inr above) ↦ absurd (differs_back q.exponent right_there (sym (single_greater p q above right_there) ∙ e))
    ]

    pub decide_next : symbols_order (p ∷ []) (q ∷ []) ≡ Equal → Decide left right ps qs
    decide_next e =
        let same = one_power e in
        let right_rise : RiseFrom (suc p.symbol) qs = subst (λ (x : Power). RiseFrom (suc x.symbol) qs) (sym same) d.right_rise.1 in
        record {
          order = d.order ∙ ap (λ (x : Power). symbols_order (p ∷ ps) (x ∷ qs)) (sym same) ∙ first_equal p ps qs d.left_rise.1 right_rise;
          left_rise = rise_lower (suc p.symbol) 0 ps d.left_rise.1 (omega arith);
          right_rise = rise_lower (suc p.symbol) 0 qs right_rise (omega arith);
          left_present = All-tail (λ (p : Power). 0 < nat_abs p.exponent) p ps d.left_present;
          right_present = All-tail (λ (q : Power). 0 < nat_abs q.exponent) q qs d.right_present;
        }
