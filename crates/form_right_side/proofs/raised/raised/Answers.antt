use Rattle.std.proofs.Common.{◌≡◌, [], ◌∷◌, refl}
use Rattle.form_tree.specs.declared.tree.Base.{Base}
use Rattle.form_tree.specs.declared.tree.Base.TheVariants.{Number, Symbol, Wild, Dot, Imaginary, Component, Delta}
use Rattle.form_tree.specs.declared.tree.Exponent.{Exponent}
use Rattle.form_tree.specs.declared.tree.Link.{Link}
use Rattle.form_tree.specs.declared.tree.Piece.TheVariants as pieces
use Rattle.form_tree.specs.Tree.{pieces_of_base}
use Rattle.form_right_side.specs.Walking.{base_of}
use Rattle.form_right_side.proofs.raised.raised.Goals as goal

one : (link : Link) (b : Base) (by : Exponent) → pieces.Raised link b by ∷ [] ≡ pieces_of_base link (base_of b) by
one link (Number value) by = refl
one link (Symbol id) by = refl
one link (Wild id) by = refl
one link (Dot left right) by = refl
one link Imaginary by = refl
one link (Component c) by = refl
one link (Delta i j) by = refl

pub returns : goal.returns
returns c = one c.args.link c.args.base c.args.by
