-- Factors alone.
use Rattle.std.specs.Prelude.{ℕ, ℤ, true, [], ◌∷◌, nat_le, if◌then◌else◌}
use Rattle.std.specs.Ordering.{is_gt}
use Rattle.form_term.specs.declared.power.DotPower.{DotPower}
use Rattle.form_term.specs.declared.index.Index.{Index}
use Rattle.form_term.specs.declared.index.Component.{Component}
use Rattle.form_term.specs.declared.index.Delta.{Delta}
use Rattle.form_term.specs.Term.{Term, Call, of_others, nothing, index_order}

-- a power of the dot product of two vectors, the one declared first at the left
abbrev pub dot_of : ℕ → ℕ → ℤ → DotPower
dot_of p q e = if nat_le p q then record { left = p; right = q; exponent = e } else record { left = q; right = p; exponent = e }

-- a delta, the lesser index first
abbrev pub delta_of : Index → Index → Delta
delta_of i j = if is_gt (index_order i j) then record { first = j; second = i } else record { first = i; second = j }

-- `i_`, a power of a dot product, a component, a delta, a commuting and a non-commuting function, each as a term
abbrev pub imaginary_factor : Term
imaginary_factor = of_others (record nothing { is_imaginary = true })

abbrev pub dot_factor : DotPower → Term
dot_factor d = of_others (record nothing { dots = d ∷ [] })

abbrev pub component_factor : Component → Term
component_factor c = of_others (record nothing { components = c ∷ [] })

abbrev pub delta_factor : Delta → Term
delta_factor d = of_others (record nothing { deltas = d ∷ [] })

abbrev pub function_factor : Call → Term
function_factor c = of_others (record nothing { functions = c ∷ [] })

abbrev pub non_commuting_factor : Call → Term
non_commuting_factor c = of_others (record nothing { word = c ∷ [] })
