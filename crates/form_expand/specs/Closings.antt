-- Where a parenthesis, a function or an argument ends.
use Rattle.std.specs.Prelude.{ℕ, zero, suc, ◌+◌, ◌-◌, List, [], ◌∷◌, Option, Some, None}
use Rattle.form_tree.specs.declared.tree.Piece.{Piece}
use Rattle.form_tree.specs.declared.tree.Piece.TheVariants as pieces
use Rattle.form_expand.specs.declared.ended.Ended.{Ended}
use Rattle.form_expand.specs.declared.ended.Ended.TheVariants.{Power, Raised}

-- The place of the piece that ends what is open, and its power, where these pieces stand from this place on, and so many
-- more are open within it; none where it isn't ended.
unfoldable pub closing_at : ℕ → ℕ → List Piece → Option (ℕ × Ended)
closing_at place deep [] = None
closing_at place deep ((pieces.Number link value power) ∷ ps) = closing_at (place + 1) deep ps
closing_at place deep ((pieces.Symbol link symbol power) ∷ ps) = closing_at (place + 1) deep ps
closing_at place deep ((pieces.Wild link symbol is_over power) ∷ ps) = closing_at (place + 1) deep ps
closing_at place deep ((pieces.Raised link base by) ∷ ps) = closing_at (place + 1) deep ps
closing_at place deep ((pieces.Stored link expression power) ∷ ps) = closing_at (place + 1) deep ps
closing_at place deep ((pieces.Imaginary link power) ∷ ps) = closing_at (place + 1) deep ps
closing_at place deep ((pieces.Dot link p q power) ∷ ps) = closing_at (place + 1) deep ps
closing_at place deep ((pieces.Component link c power) ∷ ps) = closing_at (place + 1) deep ps
closing_at place deep ((pieces.Delta link i j power) ∷ ps) = closing_at (place + 1) deep ps
closing_at place deep ((pieces.Function link f is_commuting) ∷ ps) = closing_at (place + 1) (suc deep) ps
closing_at place zero ((pieces.EndOfFunction power) ∷ ps) = Some (place, Power power)
closing_at place (suc deep) ((pieces.EndOfFunction power) ∷ ps) = closing_at (place + 1) deep ps
closing_at place zero ((pieces.EndOfRaisedFunction by) ∷ ps) = Some (place, Raised by)
closing_at place (suc deep) ((pieces.EndOfRaisedFunction by) ∷ ps) = closing_at (place + 1) deep ps
closing_at place deep ((pieces.Field w) ∷ ps) = closing_at (place + 1) deep ps
closing_at place deep ((pieces.Index i) ∷ ps) = closing_at (place + 1) deep ps
closing_at place deep ((pieces.Vector v) ∷ ps) = closing_at (place + 1) deep ps
closing_at place deep (pieces.Argument ∷ ps) = closing_at (place + 1) (suc deep) ps
closing_at place zero (pieces.EndOfArgument ∷ ps) = Some (place, Power 1)
closing_at place (suc deep) (pieces.EndOfArgument ∷ ps) = closing_at (place + 1) deep ps
closing_at place deep ((pieces.Open link) ∷ ps) = closing_at (place + 1) (suc deep) ps
closing_at place zero ((pieces.Close power) ∷ ps) = Some (place, Power power)
closing_at place (suc deep) ((pieces.Close power) ∷ ps) = closing_at (place + 1) deep ps
closing_at place zero ((pieces.CloseRaised by) ∷ ps) = Some (place, Raised by)
closing_at place (suc deep) ((pieces.CloseRaised by) ∷ ps) = closing_at (place + 1) deep ps

-- the power where this piece ends what is open, within which so many are open
abbrev pub power_at_end : ℕ → Piece → Option Ended
power_at_end deep (pieces.Number link value power) = None
power_at_end deep (pieces.Symbol link symbol power) = None
power_at_end deep (pieces.Wild link symbol is_over power) = None
power_at_end deep (pieces.Raised link base by) = None
power_at_end deep (pieces.Stored link expression power) = None
power_at_end deep (pieces.Imaginary link power) = None
power_at_end deep (pieces.Dot link p q power) = None
power_at_end deep (pieces.Component link c power) = None
power_at_end deep (pieces.Delta link i j power) = None
power_at_end deep (pieces.Function link f is_commuting) = None
power_at_end zero (pieces.EndOfFunction power) = Some (Power power)
power_at_end (suc deep) (pieces.EndOfFunction power) = None
power_at_end zero (pieces.EndOfRaisedFunction by) = Some (Raised by)
power_at_end (suc deep) (pieces.EndOfRaisedFunction by) = None
power_at_end deep (pieces.Field w) = None
power_at_end deep (pieces.Index i) = None
power_at_end deep (pieces.Vector v) = None
power_at_end deep pieces.Argument = None
power_at_end zero pieces.EndOfArgument = Some (Power 1)
power_at_end (suc deep) pieces.EndOfArgument = None
power_at_end deep (pieces.Open link) = None
power_at_end zero (pieces.Close power) = Some (Power power)
power_at_end (suc deep) (pieces.Close power) = None
power_at_end zero (pieces.CloseRaised by) = Some (Raised by)
power_at_end (suc deep) (pieces.CloseRaised by) = None

-- how many are open behind it
abbrev pub deep_behind : ℕ → Piece → ℕ
deep_behind deep (pieces.Number link value power) = deep
deep_behind deep (pieces.Symbol link symbol power) = deep
deep_behind deep (pieces.Wild link symbol is_over power) = deep
deep_behind deep (pieces.Raised link base by) = deep
deep_behind deep (pieces.Stored link expression power) = deep
deep_behind deep (pieces.Imaginary link power) = deep
deep_behind deep (pieces.Dot link p q power) = deep
deep_behind deep (pieces.Component link c power) = deep
deep_behind deep (pieces.Delta link i j power) = deep
deep_behind deep (pieces.Function link f is_commuting) = deep + 1
deep_behind deep (pieces.EndOfFunction power) = deep - 1
deep_behind deep (pieces.EndOfRaisedFunction by) = deep - 1
deep_behind deep (pieces.Field w) = deep
deep_behind deep (pieces.Index i) = deep
deep_behind deep (pieces.Vector v) = deep
deep_behind deep pieces.Argument = deep + 1
deep_behind deep pieces.EndOfArgument = deep - 1
deep_behind deep (pieces.Open link) = deep + 1
deep_behind deep (pieces.Close power) = deep - 1
deep_behind deep (pieces.CloseRaised by) = deep - 1
