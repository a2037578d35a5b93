-- Functions past the limits of terms.
use Rattle.std.proofs.Common.{◌≡◌, ◌<◌, ◌≤◌, ◌⊎◌, inl, inr, Bool, true, false, ◌&&◌, [], ◌∷◌, refl, ap, ◌∙◌, arith, Err}
use Rattle.std.specs.Prelude.{nat_le, nat_lt, if◌then◌else◌}
use Rattle.std.proofs.lemmas.Bool.{lt-leb}
use Rattle.form_base.specs.declared.cause.Cause.TheVariants.{TermSize}
use Rattle.form_term.specs.Pieces.{deepest}
use Rattle.form_term.specs.Factor.{function_factor, non_commuting_factor}
use Rattle.form_term.specs.Term.{Term, Call, size, depth, size_of_call, largest_size, largest_depth}
use Rattle.form_normal.specs.Lists.{in_order, dots_product}
use Rattle.form_normal.specs.Product.{are_in_range, are_dots_in_range, limited, symbols_product, others_product, term_product, product, IsTooLarge}

and_false : (a b : Bool) → (a ≡ false) ⊎ (b ≡ false) → (a && b) ≡ false
and_false true true (inl e) = cc
and_false true true (inr e) = cc
and_false true false h = refl
and_false false b h = refl

-- a term past its limits is refused
pub past_limits : (t : Term) → are_in_range t.symbols ≡ true → are_dots_in_range t.others.dots ≡ true → (largest_size < size t) ⊎ (largest_depth < depth t) → limited t ≡ Err TermSize
past_limits t e f h =
    let small = and_false (nat_le (size t) largest_size) (nat_le (depth t) largest_depth) (either h) in
    rw (e, f, small) refl
  where
    either : (largest_size < size t) ⊎ (largest_depth < depth t) → (nat_le (size t) largest_size ≡ false) ⊎ (nat_le (depth t) largest_depth ≡ false)
    either (inl k) = inl (lt-leb (size t) largest_size k)
    either (inr k) = inr (lt-leb (depth t) largest_depth k)

module _ (c : Call) (past : (largest_size < size_of_call c) ⊎ (largest_depth ≤ deepest 0 c.pieces)) where
  function_same : term_product (function_factor c ∷ []) ≡ function_factor c
  unfolding symbols_product others_product in_order dots_product
  function_same = refl

  word_same : term_product (non_commuting_factor c ∷ []) ≡ non_commuting_factor c
  unfolding symbols_product others_product in_order dots_product
  word_same = refl

  function_past : (largest_size < size_of_call c) ⊎ (largest_depth ≤ deepest 0 c.pieces) → (largest_size < size (function_factor c)) ⊎ (largest_depth < depth (function_factor c))
  function_past (inl k) = inl (omega (arith, k))
  function_past (inr k) = inr (omega (arith, k))

  word_past : (largest_size < size_of_call c) ⊎ (largest_depth ≤ deepest 0 c.pieces) → (largest_size < size (non_commuting_factor c)) ⊎ (largest_depth < depth (non_commuting_factor c))
  word_past (inl k) = inl (omega (arith, k))
  word_past (inr k) = inr (omega (arith, k))

  pub function_large : IsTooLarge (function_factor c)
  unfolding product
  function_large = rw (ap limited function_same ∙ past_limits (function_factor c) refl refl (function_past past)) refl

  pub word_large : IsTooLarge (non_commuting_factor c)
  unfolding product
  word_large = rw (ap limited word_same ∙ past_limits (non_commuting_factor c) refl refl (word_past past)) refl
