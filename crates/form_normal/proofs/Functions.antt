-- Multiplying by a function in place.
use Rattle.std.proofs.Common.{◌≡◌, ℕ, suc, ◌+◌, ◌<◌, ◌≤◌, Bool, true, false, not, cond, ◌&&◌, List, [], ◌∷◌, ◌++◌, map, append-nil, append_assoc, refl, ap, sym, subst, ◌∙◌, arith}
use Rattle.std.specs.Prelude.{Ok, Err, Some, None, ℤ, pos, ◌+ℤ◌, All, sum}
use Rattle.std.specs.List.{filter, insert, prefix_len}
use Rattle.std.specs.Ordering.{is_gt}
use Rattle.std.proofs.lemmas.Int.{ints}
use Rattle.form_base.specs.declared.cause.Cause.TheVariants.{Overflow}
use Rattle.form_frac.specs.Fraction.{Fraction, IsLowest, multiply}
use Rattle.form_term.specs.declared.index.Delta.{Delta}
use Rattle.form_term.specs.declared.monomial.Monomial.{Monomial}
use Rattle.form_term.specs.Factor.{function_factor, non_commuting_factor}
use Rattle.form_term.specs.FactorLaws.{function_lawful, non_commuting_lawful}
use Rattle.form_term.specs.Term.{Term, Others, Call, IsTerm, IsCall, RisesBy, exponent_of, component_order, delta_order, call_order, size_of_call, depth_of_others, largest_depth}
use Rattle.form_term.specs.Terms.{function_put, word_put}
use Rattle.form_term.specs.TermLaws.{call_order_total}
use Rattle.form_normal.specs.Factors.{HasRoom, is_upto}
use Rattle.form_normal.specs.Lists.{in_order, dots_product}
use Rattle.form_normal.specs.Product.{is_one, symbols_product, others_product, term_product, turned, limited, product, product_of, function_alone, word_alone, StandsAlone}
use Rattle.form_normal.proofs.Dots.{dots_same}
use Rattle.form_normal.proofs.Lasting.{multiply_one, odd, within, one_is_lowest, one_alone, all_kept, no_zeros_in}
use Rattle.form_normal.proofs.Order.{all_append, all_above, take_left, take_right, in_order_same, in_order_again, in_order_rises, sum_in_order, sum_first}
use Rattle.form_normal.proofs.Others.{joined_lawful, sizes_append}
use Rattle.form_normal.proofs.Parts.{product_made, product_overflows}
use Rattle.form_normal.proofs.Powers.{product_from}

-- a function put among others that rise, behind those that are no higher
placed : (fs : List Call) (c : Call) → RisesBy call_order fs → in_order call_order (fs ++ c ∷ []) ≡ insert fs (prefix_len (λ other. is_upto other c) fs) c
unfolding in_order
placed [] c rise = refl
placed (f ∷ fs) c rise = step (is_gt (call_order f c)) refl (placed fs c rise.1)
  where
    step : (b : Bool) → is_gt (call_order f c) ≡ b → in_order call_order (fs ++ c ∷ []) ≡ insert fs (prefix_len (λ other. is_upto other c) fs) c
        → in_order call_order ((f ∷ fs) ++ c ∷ []) ≡ insert (f ∷ fs) (cond (not b) (1 + prefix_len (λ other. is_upto other c) fs) 0) c
    step true e rest =
        take_right call_order (f ∷ fs) c [] (e, all_above call_order call_order_total f fs c rise.0 e) tt
        ∙ ap (λ xs. c ∷ in_order call_order xs) (append-nil (f ∷ fs))
        ∙ ap (λ xs. c ∷ xs) (in_order_same call_order (f ∷ fs) rise)
    step false e rest =
        let n : 1 + prefix_len (λ other. is_upto other c) fs ≡ suc (prefix_len (λ other. is_upto other c) fs) = omega arith in
        take_left call_order f (fs ++ c ∷ []) (all_append (λ y. is_gt (call_order f y) ≡ false) fs (c ∷ []) rise.0 (e, tt))
        ∙ ap (λ xs. f ∷ xs) rest
        ∙ ap (λ k. insert (f ∷ fs) k c) (sym n)

-- the first of several functions is put among others
pub placed_more : (fs : List Call) (c : Call) (rest whole gs : List Call) → RisesBy call_order fs → in_order call_order (fs ++ c ∷ rest) ≡ whole → gs ≡ insert fs (prefix_len (λ other. is_upto other c) fs) c
    → (in_order call_order (gs ++ rest) ≡ whole) × RisesBy call_order gs
placed_more fs c rest whole gs rise is e =
    let made : gs ≡ in_order call_order (fs ++ c ∷ []) = e ∙ sym (placed fs c rise) in (
      ap (λ (hs : List Call). in_order call_order (hs ++ rest)) made ∙ in_order_again call_order call_order_total (fs ++ c ∷ []) rest ∙ ap (in_order call_order) (append_assoc fs (c ∷ []) rest) ∙ is,
      subst (RisesBy call_order) (sym made) (in_order_rises call_order call_order_total (fs ++ c ∷ [])),
    )

-- where none are left, all are put
pub placed_all : (fs whole : List Call) → RisesBy call_order fs → in_order call_order (fs ++ []) ≡ whole → fs ≡ whole
placed_all fs whole rise is = sym (in_order_same call_order fs rise) ∙ ap (in_order call_order) (sym (append-nil fs)) ∙ is

pub put_at : (t : Term) (c : Call) (fs : List Call) (place : ℕ) → IsTerm t → fs ≡ t.others.functions → place ≡ prefix_len (λ other. is_upto other c) fs
    → in_order call_order (t.others.functions ++ c ∷ []) ≡ insert t.others.functions place c
put_at t c fs place lawful same at =
    placed t.others.functions c lawful.others.functions_rise
    ∙ ap (λ n. insert t.others.functions n c) (sym (at ∙ ap (prefix_len (λ other. is_upto other c)) same))

add_none : (x : ℤ) → x ≡ x +ℤ (pos 0 +ℤ pos 0)
add_none x = omega (arith, ints)

no_turn : (b : Bool) (c : Fraction) → c ≡ turned (b && false) c
no_turn true c = refl
no_turn false c = refl

-- A term times a function that it has room for.
module _ (t : Term) (c : Call) (lawful : IsTerm t) (is : IsCall c) (room : HasRoom t c) where
  small : size_of_call c ≤ 4096
  small = omega (arith, room.small)

  pub function_term : IsTerm (function_factor c)
  function_term = function_lawful c is small room.shallow

  pub word_term : IsTerm (non_commuting_factor c)
  word_term = non_commuting_lawful c is small room.shallow

  functions_made : (fs : List Call) → in_order call_order (t.others.functions ++ c ∷ []) ≡ fs → others_product (t ∷ function_factor c ∷ []) ≡ record t.others { functions = fs }
  unfolding others_product
  functions_made fs e =
      let o = t.others in
      let h = lawful.others in
      let imaginary = odd o.is_imaginary in
      let dots = ap dots_product (append-nil o.dots) ∙ dots_same o.dots h.dots_rise in
      let components = ap (in_order component_order) (append-nil o.components) ∙ in_order_same component_order o.components h.components_rise in
      let deltas = ap (λ ds. filter (λ (d : Delta). not (is_one d)) (in_order delta_order ds)) (append-nil o.deltas) ∙ ap (λ ds. filter (λ (d : Delta). not (is_one d)) ds) (in_order_same delta_order o.deltas h.deltas_rise) ∙ all_kept o.deltas room.unfixed in
      let word = append-nil o.word in
      λ i. record { is_imaginary = imaginary i; dots = dots i; components = components i; deltas = deltas i; functions = e i; word = word i }

  words_made : others_product (t ∷ non_commuting_factor c ∷ []) ≡ record t.others { word = t.others.word ++ c ∷ [] }
  unfolding others_product
  words_made =
      let o = t.others in
      let h = lawful.others in
      let imaginary = odd o.is_imaginary in
      let dots = ap dots_product (append-nil o.dots) ∙ dots_same o.dots h.dots_rise in
      let components = ap (in_order component_order) (append-nil o.components) ∙ in_order_same component_order o.components h.components_rise in
      let deltas = ap (λ ds. filter (λ (d : Delta). not (is_one d)) (in_order delta_order ds)) (append-nil o.deltas) ∙ ap (λ ds. filter (λ (d : Delta). not (is_one d)) ds) (in_order_same delta_order o.deltas h.deltas_rise) ∙ all_kept o.deltas room.unfixed in
      let functions = ap (in_order call_order) (append-nil o.functions) ∙ in_order_same call_order o.functions h.functions_rise in
      λ i. record { is_imaginary = imaginary i; dots = dots i; components = components i; deltas = deltas i; functions = functions i; word = o.word ++ c ∷ [] }

  sizes : (cs : List Call) → sum (map size_of_call (cs ++ c ∷ [])) ≡ sum (map size_of_call cs) + size_of_call c
  sizes cs = let e = sizes_append cs (c ∷ []) in let f = sum_first (size_of_call c) [] in omega (arith, e, f)

  module _ (place : ℕ) (e : in_order call_order (t.others.functions ++ c ∷ []) ≡ insert t.others.functions place c) where
    pub function_put_lawful : IsTerm (function_put place c t)
    function_put_lawful =
        let fs = insert t.others.functions place c in
        let joined = joined_lawful t (function_factor c) lawful function_term in
        let others : others_product (t ∷ function_factor c ∷ []) ≡ record t.others { functions = fs } = functions_made fs e in
        let large : sum (map size_of_call fs) ≡ sum (map size_of_call t.others.functions) + size_of_call c =
        ap (λ cs. sum (map size_of_call cs)) (sym e) ∙ sum_in_order call_order size_of_call (t.others.functions ++ c ∷ []) ∙ sizes t.others.functions in
        let deep = subst (λ (o : Others). depth_of_others o < largest_depth) others joined.shallow in
        record {
          rising = lawful.rising;
          present = lawful.present;
          in_range = lawful.in_range;
          others = record {
            dots_rise = lawful.others.dots_rise;
            dots_present = lawful.others.dots_present;
            dots_in_range = lawful.others.dots_in_range;
            dots_turned = lawful.others.dots_turned;
            components_rise = lawful.others.components_rise;
            deltas_rise = lawful.others.deltas_rise;
            deltas_turned = lawful.others.deltas_turned;
            functions_rise = subst (λ (o : Others). RisesBy call_order o.functions) others joined.functions_rise;
            functions = subst (λ (o : Others). All IsCall o.functions) others joined.functions;
            word = lawful.others.word;
          };
          small = omega (arith, large, room.small);
          shallow = omega (arith, deep);
        }

    function_product : function_put place c t ≡ term_product (t ∷ function_factor c ∷ [])
    function_product =
        let symbols = product_from t.symbols (t ∷ function_factor c ∷ []) lawful.rising lawful.present (λ symbol. add_none (exponent_of t symbol)) in
        let others = sym (functions_made (insert t.others.functions place c) e) in
        λ i. record { symbols = symbols i; others = others i }

    pub function_limited : limited (term_product (t ∷ function_factor c ∷ [])) ≡ Ok (function_put place c t)
    function_limited = ap limited (sym function_product) ∙ within (function_put place c t) function_put_lawful

  pub word_put_lawful : IsTerm (word_put c t)
  word_put_lawful =
      let joined = joined_lawful t (non_commuting_factor c) lawful word_term in
      let others = words_made in
      let large = sizes t.others.word in
      let deep = subst (λ (o : Others). depth_of_others o < largest_depth) others joined.shallow in
      record {
        rising = lawful.rising;
        present = lawful.present;
        in_range = lawful.in_range;
        others = record {
          dots_rise = lawful.others.dots_rise;
          dots_present = lawful.others.dots_present;
          dots_in_range = lawful.others.dots_in_range;
          dots_turned = lawful.others.dots_turned;
          components_rise = lawful.others.components_rise;
          deltas_rise = lawful.others.deltas_rise;
          deltas_turned = lawful.others.deltas_turned;
          functions_rise = lawful.others.functions_rise;
          functions = lawful.others.functions;
          word = subst (λ (o : Others). All IsCall o.word) others joined.word;
        };
        small = omega (arith, large, room.small);
        shallow = omega (arith, deep);
      }

  word_product : word_put c t ≡ term_product (t ∷ non_commuting_factor c ∷ [])
  word_product =
      let symbols = product_from t.symbols (t ∷ non_commuting_factor c ∷ []) lawful.rising lawful.present (λ symbol. add_none (exponent_of t symbol)) in
      let others = sym words_made in
      λ i. record { symbols = symbols i; others = others i }

  pub word_limited : limited (term_product (t ∷ non_commuting_factor c ∷ [])) ≡ Ok (word_put c t)
  word_limited = ap limited (sym word_product) ∙ within (word_put c t) word_put_lawful

-- the same with a coefficient
module _ (m : Monomial) (c : Call) (lowest : IsLowest m.coefficient) (lawful : IsTerm m.term) (is : IsCall c) (room : HasRoom m.term c) where
  pub function_made : (place : ℕ) → in_order call_order (m.term.others.functions ++ c ∷ []) ≡ insert m.term.others.functions place c
      → product_of m (function_alone c) ≡ Ok (Some (record { coefficient = m.coefficient; term = function_put place c m.term }))
  function_made place e =
      product_made m (function_alone c) m.coefficient m.coefficient (function_put place c m.term) (no_zeros_in m.term.others.deltas room.unfixed) (multiply_one m.coefficient lowest) (no_turn m.term.others.is_imaginary m.coefficient) (function_limited m.term c lawful is room place e)

  pub word_made : product_of m (word_alone c) ≡ Ok (Some (record { coefficient = m.coefficient; term = word_put c m.term }))
  word_made =
      product_made m (word_alone c) m.coefficient m.coefficient (word_put c m.term) (no_zeros_in m.term.others.deltas room.unfixed) (multiply_one m.coefficient lowest) (no_turn m.term.others.is_imaginary m.coefficient) (word_limited m.term c lawful is room)

  -- the same with a coefficient at the function
  pub function_times : (number made : Fraction) (place : ℕ) → multiply m.coefficient number ≡ Some made → in_order call_order (m.term.others.functions ++ c ∷ []) ≡ insert m.term.others.functions place c
      → product_of m (record { coefficient = number; term = function_factor c }) ≡ Ok (Some (record { coefficient = made; term = function_put place c m.term }))
  function_times number made place times e =
      product_made m (record { coefficient = number; term = function_factor c }) made made (function_put place c m.term) (no_zeros_in m.term.others.deltas room.unfixed) times (no_turn m.term.others.is_imaginary made) (function_limited m.term c lawful is room place e)

  pub function_overflows : (number : Fraction) → multiply m.coefficient number ≡ None → product_of m (record { coefficient = number; term = function_factor c }) ≡ Err Overflow
  function_overflows number none = product_overflows m (record { coefficient = number; term = function_factor c }) (no_zeros_in m.term.others.deltas room.unfixed) none

-- A function as a factor alone.
module _ (c : Call) where
  function_same : term_product (function_factor c ∷ []) ≡ function_factor c
  unfolding symbols_product others_product in_order dots_product
  function_same = refl

  word_same : term_product (non_commuting_factor c ∷ []) ≡ non_commuting_factor c
  unfolding symbols_product others_product in_order dots_product
  word_same = refl

  pub function_stands : IsTerm (function_factor c) → StandsAlone (function_alone c)
  unfolding product
  function_stands lawful =
      let alone : product (function_alone c ∷ []) ≡ Ok (Some (function_alone c)) = rw (ap limited function_same ∙ within (function_factor c) lawful) refl in
      record { by_one = one_alone (function_alone c) one_is_lowest lawful ∙ alone; alone = alone }

  pub word_stands : IsTerm (non_commuting_factor c) → StandsAlone (word_alone c)
  unfolding product
  word_stands lawful =
      let alone : product (word_alone c ∷ []) ≡ Ok (Some (word_alone c)) = rw (ap limited word_same ∙ within (non_commuting_factor c) lawful) refl in
      record { by_one = one_alone (word_alone c) one_is_lowest lawful ∙ alone; alone = alone }
