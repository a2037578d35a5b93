-- From the first one on, the candidates of a piece make all that the piece may make.
use Rattle.std.proofs.Common.{◌≡◌, suc, ◌-◌, List, [], ◌∷◌, length, Option, refl, sym, ap, ◌∙◌}
use Rattle.std.specs.List.{filter_map, range_with_len}
use Rattle.form_term.specs.declared.piece.Piece.{Piece}
use Rattle.form_tree.specs.declared.pattern.PatternPiece.{PatternPiece}
use Rattle.form_tree.specs.declared.pattern.PatternPiece.TheVariants as pieces
use Rattle.form_match.specs.Candidates.{candidates, trial, function_trial, stretch_trial, from}
use Rattle.form_match.specs.States.{Open, factors, arguments, calls, with_field, moves}
use Rattle.form_bindings.specs.Values.{Binding}
use Rattle.form_match.proofs.Cutting.{all_behind}
use Rattle.form_match.proofs.Numbered.{candidates_all, symbol_moves, whole_moves, dot_moves, component_moves, delta_moves, function_moves, stretch_moves}

-- from the first candidate on, these are all moves
pub from_all : (table : List (Option (List Piece))) (p : PatternPiece) (os : List Open) (bs : List Binding) → from table p os bs 0 ≡ moves table p os bs
from_all table (pieces.Symbol n k) (factors h us ∷ os) bs = candidates_all (trial h us os bs (pieces.Symbol n k)) (candidates h (pieces.Symbol n k)) ∙ sym (symbol_moves table h us os bs n k)
from_all table (pieces.Symbol n k) (arguments xs ∷ os) bs = refl
from_all table (pieces.Symbol n k) (calls cs ∷ os) bs = refl
from_all table (pieces.Symbol n k) [] bs = refl
from_all table (pieces.Whole n m) (factors h us ∷ os) bs = candidates_all (trial h us os bs (pieces.Whole n m)) (candidates h (pieces.Whole n m)) ∙ sym (whole_moves table h us os bs n m)
from_all table (pieces.Whole n m) (arguments xs ∷ os) bs = refl
from_all table (pieces.Whole n m) (calls cs ∷ os) bs = refl
from_all table (pieces.Whole n m) [] bs = refl
from_all table (pieces.Dot p q k) (factors h us ∷ os) bs = candidates_all (trial h us os bs (pieces.Dot p q k)) (candidates h (pieces.Dot p q k)) ∙ sym (dot_moves table h us os bs p q k)
from_all table (pieces.Dot p q k) (arguments xs ∷ os) bs = refl
from_all table (pieces.Dot p q k) (calls cs ∷ os) bs = refl
from_all table (pieces.Dot p q k) [] bs = refl
from_all table (pieces.Component v i) (factors h us ∷ os) bs = candidates_all (trial h us os bs (pieces.Component v i)) (candidates h (pieces.Component v i)) ∙ sym (component_moves table h us os bs v i)
from_all table (pieces.Component v i) (arguments xs ∷ os) bs = refl
from_all table (pieces.Component v i) (calls cs ∷ os) bs = refl
from_all table (pieces.Component v i) [] bs = refl
from_all table (pieces.Delta i j) (factors h us ∷ os) bs = candidates_all (trial h us os bs (pieces.Delta i j)) (candidates h (pieces.Delta i j)) ∙ sym (delta_moves table h us os bs i j)
from_all table (pieces.Delta i j) (arguments xs ∷ os) bs = refl
from_all table (pieces.Delta i j) (calls cs ∷ os) bs = refl
from_all table (pieces.Delta i j) [] bs = refl
from_all table (pieces.Function n) (factors h us ∷ os) bs = candidates_all (function_trial n h us os bs) (length h.term.others.functions) ∙ sym (function_moves table h us os bs n)
from_all table (pieces.Function n) (arguments xs ∷ os) bs = refl
from_all table (pieces.Function n) (calls cs ∷ os) bs = refl
from_all table (pieces.Function n) [] bs = refl
from_all table (pieces.Word n) (factors h us ∷ os) bs = candidates_all (stretch_trial n h us os bs) (suc (length h.term.others.word) - n) ∙ sym (stretch_moves table h us os bs n)
from_all table (pieces.Word n) (arguments xs ∷ os) bs = refl
from_all table (pieces.Word n) (calls cs ∷ os) bs = refl
from_all table (pieces.Word n) [] bs = refl
from_all table (pieces.Field w) (arguments xs ∷ os) bs = ap (filter_map (with_field w xs os bs)) (all_behind xs (range_with_len 0 (suc (length xs))))
from_all table (pieces.Field w) (factors h us ∷ os) bs = refl
from_all table (pieces.Field w) (calls cs ∷ os) bs = refl
from_all table (pieces.Field w) [] bs = refl
from_all table (pieces.Call n) os bs = refl
from_all table pieces.EndOfArguments os bs = refl
from_all table pieces.EndOfWord os bs = refl
from_all table (pieces.Fixed k) os bs = refl
from_all table (pieces.Any sort n) os bs = refl
from_all table pieces.Product os bs = refl
from_all table pieces.EndOfProduct os bs = refl
