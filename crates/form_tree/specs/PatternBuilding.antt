-- The pattern that pieces are those of: it is built again, from the last piece to the first. What pieces that no pattern has come to
-- is never asked.
use Rattle.std.specs.Prelude.{List, [], ◌∷◌}
use Rattle.form_tree.specs.declared.pattern.PatternPiece.{PatternPiece}
use Rattle.form_tree.specs.declared.pattern.PatternPiece.TheVariants as pieces
use Rattle.form_tree.specs.Pattern.{Factors, none, more, Factor, symbol, whole, dot, component, delta, function, word, Calls, end, call, Arguments, empty, further, Argument, fixed, any, field, product}

-- what is open behind a piece, each with what is known of it
pub data Open : Type 0 where
  factors : Factors → Open
  arguments : Arguments → Open
  calls : Calls → Open

-- one piece before it; nothing where it can't stand there
abbrev pub step : PatternPiece → List Open → List Open
step (pieces.Symbol n k) (factors fs ∷ os) = factors (more (symbol n k) fs) ∷ os
step (pieces.Whole n m) (factors fs ∷ os) = factors (more (whole n m) fs) ∷ os
step (pieces.Dot p q k) (factors fs ∷ os) = factors (more (dot p q k) fs) ∷ os
step (pieces.Component v i) (factors fs ∷ os) = factors (more (component v i) fs) ∷ os
step (pieces.Delta i j) (factors fs ∷ os) = factors (more (delta i j) fs) ∷ os
step (pieces.Function n) (arguments args ∷ factors fs ∷ os) = factors (more (function n args) fs) ∷ os
step (pieces.Word k) (calls cs ∷ factors fs ∷ os) = factors (more (word cs) fs) ∷ os
step (pieces.Call n) (arguments args ∷ calls cs ∷ os) = calls (call n args cs) ∷ os
step pieces.EndOfArguments os = arguments empty ∷ os
step pieces.EndOfWord os = calls end ∷ os
step pieces.EndOfProduct os = factors none ∷ os
step (pieces.Fixed k) (arguments args ∷ os) = arguments (further (fixed k) args) ∷ os
step (pieces.Any sort n) (arguments args ∷ os) = arguments (further (any sort n) args) ∷ os
step (pieces.Field w) (arguments args ∷ os) = arguments (further (field w) args) ∷ os
step pieces.Product (factors fs ∷ arguments args ∷ os) = arguments (further (product fs) args) ∷ os
step p os = []

-- all of these pieces
unfoldable pub build : List PatternPiece → List Open → List Open
build [] os = os
build (p ∷ ps) os = step p (build ps os)

-- the factors that are open first
abbrev pub front : List Open → Factors
front (factors fs ∷ os) = fs
front os = none

-- the pattern that these pieces are
abbrev pub factors_of : List PatternPiece → Factors
factors_of ps = front (build ps (factors none ∷ []))
