-- The elements of sets.
use Rattle.std.specs.Prelude.{Bool, false}
use Rattle.std.specs.Bool.{nat_eq}
use Rattle.std.specs.Ordering.{int_eq}
use Rattle.std.specs.Cmp.Lexicographic.{pointwise}
use Rattle.form_names.specs.declared.elements.Elements.{Elements}
use Rattle.form_names.specs.declared.elements.Elements.TheVariants.{Names, Numbers}

-- whether elements are the same, in the same order
abbrev pub is_same_elements : Elements → Elements → Bool
is_same_elements (Names a) (Names b) = pointwise nat_eq a b
is_same_elements (Numbers a) (Numbers b) = pointwise int_eq a b
is_same_elements _ _ = false
