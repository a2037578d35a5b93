-- Powers that wildcards stand for.
use Rattle.std.proofs.Common.{◌≡◌, Bool, refl}
use Rattle.std.specs.Prelude.{None}
use Rattle.form_tree.specs.declared.tree.Base.{Base}
use Rattle.form_tree.specs.declared.tree.Base.TheVariants as bases
use Rattle.form_expand.specs.Bound.{list_of_base, refused_power}
use Rattle.form_expand.specs.Meanings.{Meanings}

-- a power that is no whole number
pub none_raised : (all : Meanings) (b : Base) (is_over : Bool) → list_of_base all b is_over None ≡ refused_power
unfolding list_of_base
none_raised all (bases.Number n) is_over = refl
none_raised all (bases.Symbol s) is_over = refl
none_raised all (bases.Wild s) is_over = refl
none_raised all (bases.Dot p q) is_over = refl
none_raised all bases.Imaginary is_over = refl
none_raised all (bases.Component c) is_over = refl
none_raised all (bases.Delta i j) is_over = refl
