-- A term multiplied by a list, from a side.
use Rattle.std.specs.Prelude.{Option, Result}
use Rattle.form_ast.specs.declared.statement.Side.{Side}
use Rattle.form_ast.specs.declared.statement.Side.TheVariants as sides
use Rattle.form_base.specs.declared.cause.Cause.{Cause}
use Rattle.form_term.specs.declared.monomial.Monomial.{Monomial}
use Rattle.form_normal.specs.Product.{product_of}
use Rattle.form_expand.specs.Listing.{Listing, pairs, single}

-- a term times a list, or that times the term
abbrev pub multiplied_by : Side → Listing → Monomial → Listing
multiplied_by sides.Right l m = pairs (single m) l
multiplied_by sides.Left l m = pairs l (single m)

-- a term times one term, or that times the term
abbrev pub product_from : Side → Monomial → Monomial → Result (Option Monomial) Cause
product_from sides.Right m t = product_of m t
product_from sides.Left m t = product_of t m
