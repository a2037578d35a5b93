-- What it is that no match is left out.
use Rattle.std.specs.Prelude.{◌≡◌, true, false, List, map, Option, IfSome}
use Rattle.form_term.specs.declared.piece.Piece.{Piece}
use Rattle.form_tree.specs.Pattern.{Factors}
use Rattle.form_match.specs.Matching.{first_of}
use Rattle.form_rewrite.specs.Taking.{is_idle}
use Rattle.form_rewrite.specs.declared.taken.Taken.{Taken}

-- there is no match in what is left, or one that would remove nothing
abbrev pub IsEnded : List (Option (List Piece)) → Factors → Taken → Type 0
IsEnded table pattern x = IfSome (first_of table pattern x.left (map (λ c. c.place) x.cuts) false) (λ m. is_idle m ≡ true)
