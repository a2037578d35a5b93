-- Joined terms multiplied from a side.
use Rattle.std.specs.Prelude.{List, Option}
use Rattle.form_ast.specs.declared.statement.Side.{Side}
use Rattle.form_ast.specs.declared.statement.Side.TheVariants as sides
use Rattle.form_gathered.specs.declared.joined.JoinedTerm.{JoinedTerm}
use Rattle.form_joined.specs.Products.{paired}

-- each of these times each of others, or each of the others times each of these
abbrev pub paired_from : Side → List JoinedTerm → List JoinedTerm → Option (List JoinedTerm)
paired_from sides.Right js ks = paired js ks
paired_from sides.Left js ks = paired ks js
