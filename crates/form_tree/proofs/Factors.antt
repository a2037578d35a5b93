-- The pieces of a pattern are built to that pattern; so pieces have one pattern.
use Rattle.std.proofs.Common.{◌≡◌, List, [], ◌∷◌, ◌++◌, refl, sym, ap, ◌∙◌}
use Rattle.form_tree.specs.declared.pattern.PatternPiece.{PatternPiece}
use Rattle.form_tree.specs.declared.pattern.PatternPiece.TheVariants as pieces
use Rattle.form_tree.specs.PatternBuilding.{Open, factors, arguments, calls, step, build, front, factors_of}
use Rattle.form_tree.specs.Pattern.{Factors, none, more, Factor, symbol, whole, dot, component, delta, function, word, Calls, end, call, count, Arguments, empty, further, Argument, fixed, any, field, product, pieces_of_factors, pieces_of_factor, pieces_of_calls, pieces_of_arguments, pieces_of_argument}

build-append : (ps qs : List PatternPiece) (os : List Open) → build (ps ++ qs) os ≡ build ps (build qs os)
unfolding build
build-append [] qs os = refl
build-append (p ∷ ps) qs os = ap (step p) (build-append ps qs os)

mutual
  unfolding build

  of_factors : (fs : Factors) (os : List Open) → build (pieces_of_factors fs) (factors none ∷ os) ≡ factors fs ∷ os
  of_factors none os = refl
  of_factors (more f fs) os =
      build-append (pieces_of_factor f) (pieces_of_factors fs) (factors none ∷ os)
      ∙ ap (build (pieces_of_factor f)) (of_factors fs os)
      ∙ of_factor f fs os

  of_factor : (f : Factor) (fs : Factors) (os : List Open) → build (pieces_of_factor f) (factors fs ∷ os) ≡ factors (more f fs) ∷ os
  of_factor (symbol n k) fs os = refl
  of_factor (whole n m) fs os = refl
  of_factor (dot p q k) fs os = refl
  of_factor (component v i) fs os = refl
  of_factor (delta i j) fs os = refl
  of_factor (function n args) fs os =
      ap (step (pieces.Function n)) (build-append (pieces_of_arguments args) (pieces.EndOfArguments ∷ []) (factors fs ∷ os) ∙ of_arguments args (factors fs ∷ os))
  of_factor (word cs) fs os =
      ap (step (pieces.Word (count cs))) (build-append (pieces_of_calls cs) (pieces.EndOfWord ∷ []) (factors fs ∷ os) ∙ of_calls cs (factors fs ∷ os))

  of_calls : (cs : Calls) (os : List Open) → build (pieces_of_calls cs) (calls end ∷ os) ≡ calls cs ∷ os
  of_calls end os = refl
  of_calls (call n args cs) os =
      ap (step (pieces.Call n))
      (build-append (pieces_of_arguments args) (pieces.EndOfArguments ∷ pieces_of_calls cs) (calls end ∷ os)
      ∙ ap (λ l. build (pieces_of_arguments args) (arguments empty ∷ l)) (of_calls cs os)
      ∙ of_arguments args (calls cs ∷ os))

  of_arguments : (args : Arguments) (os : List Open) → build (pieces_of_arguments args) (arguments empty ∷ os) ≡ arguments args ∷ os
  of_arguments empty os = refl
  of_arguments (further a args) os =
      build-append (pieces_of_argument a) (pieces_of_arguments args) (arguments empty ∷ os)
      ∙ ap (build (pieces_of_argument a)) (of_arguments args os)
      ∙ of_argument a args os

  of_argument : (a : Argument) (args : Arguments) (os : List Open) → build (pieces_of_argument a) (arguments args ∷ os) ≡ arguments (further a args) ∷ os
  of_argument (fixed k) args os = refl
  of_argument (any sort n) args os = refl
  of_argument (field w) args os = refl
  of_argument (product fs) args os =
      ap (step pieces.Product) (build-append (pieces_of_factors fs) (pieces.EndOfProduct ∷ []) (arguments args ∷ os) ∙ of_factors fs (arguments args ∷ os))

-- The pieces of a pattern are built to that.
pub built : (fs : Factors) → factors_of (pieces_of_factors fs) ≡ fs
built fs = ap front (of_factors fs [])

-- Pieces are those of one pattern at most.
pub one_pattern : (fs gs : Factors) → pieces_of_factors fs ≡ pieces_of_factors gs → fs ≡ gs
one_pattern fs gs e = sym (built fs) ∙ ap factors_of e ∙ built gs
