-- What is taken out of a term has its names at their places.
use Rattle.std.specs.Prelude.{◌<◌, length}
use Rattle.std.specs.List.{AllByRecursion}
use Rattle.form_term.specs.Named.{Places, IsNamed}
use Rattle.form_term.specs.Term.{IsTerm}
use Rattle.form_bindings.specs.Named.{AreSoundBindings}
use Rattle.form_rewrite.specs.declared.taken.Taken.{Taken}

-- What is left is a term, and it and what was bound have their names at their places. There was a match, and each was taken at
-- least once.
pub record IsSoundTaken (names : Places) (x : Taken) : Type 0 where
  pub named : IsNamed names x.left
  pub lawful : IsTerm x.left
  pub matches : AllByRecursion (AreSoundBindings names) x.matches
  pub some : 0 < length x.matches
  pub times : 0 < x.times
