-- Factors of a product of a pattern by their pieces, equal ones joined, as Pattern says it of trees. That both are the same
-- is proved.
use Rattle.std.specs.Prelude.{ℕ, ◌+◌, ◌==◌, ◌+ℤ◌, ℤ, nat_abs, Bool, true, false, ◌&&◌, ◌||◌, if◌then◌else◌, List, [], ◌∷◌, ◌++◌, flat_map, replicate}
use Rattle.form_tree.specs.declared.pattern.Name.{Name}
use Rattle.form_tree.specs.declared.pattern.PatternPiece.{PatternPiece}
use Rattle.form_tree.specs.declared.pattern.PatternPiece.TheVariants as pieces
use Rattle.form_tree.specs.Pattern as pattern
use Rattle.form_pattern.specs.declared.joining.Factor.{Factor}
use Rattle.form_pattern.specs.declared.joining.Factor.TheVariants as factors
use Rattle.form_pattern.specs.declared.joining.Raw as raws
use Rattle.form_pattern.specs.declared.joining.Raw.TheVariants as a_raw
use Rattle.form_pattern.specs.Pattern.{Raw, of_symbol, of_whole, of_dot, of_component, of_delta, of_function, in_word, is_same_name, both_sets}

-- the pieces so often
abbrev pub times : ℕ → List PatternPiece → List PatternPiece
times count ps = flat_map (λ qs. qs) (replicate count ps)

-- a function that begins, and one that ends
abbrev pub begun : Bool → Name → List PatternPiece
begun is_commuting n = (if is_commuting then pieces.Function n else pieces.Call n) ∷ []

abbrev pub ended : Bool → List PatternPiece → ℕ → raws.Raw
ended is_commuting ps count = if is_commuting then a_raw.Other (ps ++ pieces.EndOfArguments ∷ []) count else a_raw.Word (ps ++ pieces.EndOfArguments ∷ []) count

-- ---- trees by their pieces

abbrev pub flat : Raw → raws.Raw
flat (of_symbol n k) = a_raw.Symbol n k
flat (of_whole n m) = a_raw.Other (pieces.Whole n m ∷ []) 1
flat (of_dot p q k) = a_raw.Dot p q k
flat (of_component p i count) = a_raw.Other (pieces.Component p i ∷ []) count
flat (of_delta i j count) = a_raw.Other (pieces.Delta i j ∷ []) count
flat (of_function n args count) = a_raw.Other ((pieces.Function n ∷ pattern.pieces_of_arguments args) ++ pieces.EndOfArguments ∷ []) count
flat (in_word n args count) = a_raw.Word ((pieces.Call n ∷ pattern.pieces_of_arguments args) ++ pieces.EndOfArguments ∷ []) count

abbrev pub flat_factor : pattern.Factor → Factor
flat_factor (pattern.symbol n k) = factors.Symbol n k
flat_factor (pattern.dot p q k) = factors.Dot p q k
flat_factor (pattern.word calls) = factors.Word (pattern.pieces_of_calls calls) (pattern.count calls)
flat_factor f = factors.Other (pattern.pieces_of_factor f)

-- ---- joining

abbrev pub are_dots_alike : Name → Name → Name → Name → Bool
are_dots_alike p q r s = is_same_name p r && is_same_name q s

abbrev pub is_joined : raws.Raw → Factor → Bool
is_joined (a_raw.Symbol n k) (factors.Symbol m l) = is_same_name n m
is_joined (a_raw.Dot p q k) (factors.Dot r s l) = are_dots_alike p q r s || are_dots_alike p q s r
is_joined (a_raw.Word ps k) (factors.Word qs l) = true
is_joined _ _ = false

-- names of a factor that hold for those of another too
abbrev pub join_symbol : raws.Raw → Name → ℤ → Factor
join_symbol (a_raw.Symbol m k) n l = factors.Symbol (both_sets n m) (l +ℤ k)
join_symbol _ n l = factors.Symbol n l

abbrev pub join_dot : raws.Raw → Name → Name → ℤ → Factor
join_dot (a_raw.Dot p q k) r s l =
    if are_dots_alike p q r s then factors.Dot (both_sets r p) (both_sets s q) (l +ℤ k) else factors.Dot (both_sets r q) (both_sets s p) (l +ℤ k)
join_dot _ r s l = factors.Dot r s l

abbrev pub join_word : raws.Raw → List PatternPiece → ℕ → Factor
join_word (a_raw.Word ps k) qs l = factors.Word (qs ++ times k ps) (l + k)
join_word _ qs l = factors.Word qs l

abbrev pub join : raws.Raw → Factor → Factor
join raw (factors.Symbol n l) = join_symbol raw n l
join raw (factors.Dot r s l) = join_dot raw r s l
join raw (factors.Word qs l) = join_word raw qs l
join raw (factors.Other qs) = factors.Other qs

abbrev pub alone : raws.Raw → List Factor
alone (a_raw.Symbol n k) = factors.Symbol n k ∷ []
alone (a_raw.Dot p q k) = factors.Dot p q k ∷ []
alone (a_raw.Other ps k) = replicate k (factors.Other ps)
alone (a_raw.Word ps k) = if k == 0 then [] else factors.Word (times k ps) k ∷ []

-- a factor put to those before it: to the first that it is joined with, else last
abbrev pub put : List Factor → raws.Raw → List Factor
put [] raw = alone raw
put (f ∷ fs) raw = if is_joined raw f then join raw f ∷ fs else f ∷ put fs raw

-- its pieces, where it has a power left
abbrev pub pieces_of : Factor → List PatternPiece
pieces_of (factors.Symbol n k) = if nat_abs k == 0 then [] else pieces.Symbol n k ∷ []
pieces_of (factors.Dot p q k) = if nat_abs k == 0 then [] else pieces.Dot p q k ∷ []
pieces_of (factors.Other ps) = ps
pieces_of (factors.Word ps count) = pieces.Word count ∷ ps ++ pieces.EndOfWord ∷ []

abbrev pub pieces_of_level : List Factor → List PatternPiece
pieces_of_level level = flat_map pieces_of level
