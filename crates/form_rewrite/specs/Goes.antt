-- What is taken with one match more, or without. (Private: cited by the search for more matches alone.)
use Rattle.std.specs.Prelude.{ℕ, List, Option}
use Rattle.form_term.specs.declared.piece.Piece.{Piece}
use Rattle.form_tree.specs.Pattern.{Factors}
use Rattle.form_rewrite.specs.Taking.{and_more}
use Rattle.form_rewrite.specs.declared.take.More.{More}
use Rattle.form_rewrite.specs.declared.take.More.TheVariants.{Done, Another}
use Rattle.form_rewrite.specs.declared.taken.Taken.{Taken}

-- all that is taken, where so many matches more are looked for
abbrev pub goes_on : ℕ → List (Option (List Piece)) → Factors → More → Taken
goes_on n table pattern (Done taken) = taken
goes_on n table pattern (Another taken) = and_more n table pattern taken
