-- The list of a right side: its terms in the order in which it is written out, without adding anything, and its end.
use Rattle.std.specs.Prelude.{ℕ, ℤ, Bool, List, [], ◌∷◌, Option, None, Result, Ok}
use Rattle.form_base.specs.declared.cause.Cause.{Cause}
use Rattle.form_term.specs.Term as terms
use Rattle.form_tree.specs.Tree as tree
use Rattle.form_tree.specs.Tree.{Sum, Product, Factor, Base, Arguments, Argument}
use Rattle.form_expand.specs.Bound.{powered, wild_list, turned_by, exponent_in, to_exponent, number_raised, raised}
use Rattle.form_expand.specs.Listing.{Listing, limited, followed, pairs, powers, signed}
use Rattle.form_expand.specs.Meanings.{Meanings, terms_of, index_of, vector_of, component_of, function_of, field_of}
use Rattle.form_expand.specs.Numbers.{number_list, symbol_list}
use Rattle.form_expand.specs.Singles.{imaginary_list, dot_list, component_list, delta_list, function_list, argument_of, one_argument, with_arguments}

-- A sum concatenates, a minus negates, a product pairs from the left, and a power is that many factors. An argument that
-- is an expression is written out and collected first. Every list, inner ones and each front of a product too, has at
-- most so many terms, and ends by ExpandLimit where more would come. Names go through what they stand for.
unfoldable mutual
  pub list_of_sum : ℕ → Meanings → Sum → Listing
  list_of_sum max all (tree.first is_minus p) = signed is_minus (list_of_product max all p)
  list_of_sum max all (tree.more s is_minus p) = limited max (followed (list_of_sum max all s) (signed is_minus (list_of_product max all p)))

  pub list_of_product : ℕ → Meanings → Product → Listing
  list_of_product max all (tree.one f) = list_of_factor max all f
  list_of_product max all (tree.times p f) = limited max (pairs (list_of_product max all p) (list_of_factor max all f))

  pub list_of_factor : ℕ → Meanings → Factor → Listing
  list_of_factor max all (tree.number n k) = limited max (number_list n k)
  list_of_factor max all (tree.symbol s k) = limited max (symbol_list s k)
  list_of_factor max all (tree.wild s is_over k) = powered max (wild_list all s is_over k)
  list_of_factor max all (tree.stored e k) = powers max (record { terms = terms_of all e; end = None }) k
  list_of_factor max all (tree.imaginary k) = powers max imaginary_list k
  list_of_factor max all (tree.dot p q k) = limited max (dot_list (vector_of all p) (vector_of all q) k)
  list_of_factor max all (tree.component c k) = powers max (component_list (component_of all c)) k
  list_of_factor max all (tree.delta i j k) = powers max (delta_list (index_of all i) (index_of all j)) k
  list_of_factor max all (tree.function f is_commuting args k) = powers max (function_list (function_of all f) is_commuting (arguments_of max all args)) k
  list_of_factor max all (tree.parenthesis s k) = powers max (list_of_sum max all s) k
  list_of_factor max all (tree.raised b is_over is_minus n) = powered max (list_of_raised max all b is_over (exponent_in all is_minus n))

  -- a base to a power that a wildcard stands for, which is none where that is no whole number
  pub list_of_raised : ℕ → Meanings → Base → Bool → Option ℤ → Listing × ℕ
  list_of_raised max all (tree.number_base n) is_over k = to_exponent (number_raised n is_over) k
  list_of_raised max all (tree.symbol_base s) is_over k = to_exponent (λ k. (symbol_list s (turned_by is_over k), 1)) k
  list_of_raised max all (tree.wild_base s) is_over k = to_exponent (wild_list all s is_over) k
  list_of_raised max all (tree.dot_base p q) is_over k = to_exponent (λ k. (dot_list (vector_of all p) (vector_of all q) (turned_by is_over k), 1)) k
  list_of_raised max all tree.imaginary_base is_over k = raised imaginary_list k
  list_of_raised max all (tree.component_base c) is_over k = raised (component_list (component_of all c)) k
  list_of_raised max all (tree.delta_base i j) is_over k = raised (delta_list (index_of all i) (index_of all j)) k
  list_of_raised max all (tree.function_base f is_commuting args) is_over k = raised (function_list (function_of all f) is_commuting (arguments_of max all args)) k
  list_of_raised max all (tree.parenthesis_base s) is_over k = raised (list_of_sum max all s) k

  pub arguments_of : ℕ → Meanings → Arguments → Result (List terms.Argument) Cause
  arguments_of max all tree.empty = Ok []
  arguments_of max all (tree.further args a) = with_arguments (arguments_of max all args) (arguments_in max all a)

  -- what an argument gives: a field any number of them, others one
  pub arguments_in : ℕ → Meanings → Argument → Result (List terms.Argument) Cause
  arguments_in max all (tree.index i) = Ok (terms.index (index_of all i) ∷ [])
  arguments_in max all (tree.vector v) = Ok (terms.vector (vector_of all v) ∷ [])
  arguments_in max all (tree.field w) = Ok (field_of all w)
  arguments_in max all (tree.expression s) = one_argument (argument_of (list_of_sum max all s))
