-- What it is to be the first match.
use Rattle.std.specs.Prelude.{◌≡◌, List, ◌∷◌, ◌++◌, All, Some, None}
use Rattle.form_match.specs.Matching.{Choice, match_of}
use Rattle.form_match.specs.declared.matching.Match.{Match}

-- a vector that isn't consistent
abbrev pub IsNoMatch : List Choice → Type 0
IsNoMatch vector = match_of vector ≡ None

-- Of these vectors, one makes this match, and none before it makes any.
pub record IsFirst (vectors : List (List Choice)) (m : Match) : Type 0 where
  pub before : List (List Choice)
  pub vector : List Choice
  pub after : List (List Choice)
  pub parts : vectors ≡ before ++ vector ∷ after
  pub matches : match_of vector ≡ Some m
  pub none_before : All IsNoMatch before
