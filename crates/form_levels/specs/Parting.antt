-- Joined terms that are parted by a condition.
use Rattle.std.specs.Prelude.{◌≡◌, Bool, true, false, List, ◌++◌}
use Rattle.std.specs.List.{AllByRecursion}
use Rattle.form_flow.specs.Ready.{Choice}
use Rattle.form_flow.specs.Statements.{is_so}
use Rattle.form_gathered.specs.Joined.{Stand, item_of}
use Rattle.form_gathered.specs.declared.joined.JoinedTerm.{JoinedTerm}
use Rattle.form_levels.specs.declared.choosing.Parted.{Parted}

-- a condition is so of each of these, or isn't
abbrev pub AreSo : Choice → Bool → List JoinedTerm → Type 0
AreSo q truth js = AllByRecursion (λ j. is_so q (item_of j) ≡ truth) js

-- it is so of those that are taken, and isn't of those that are passed, and they are all of these
pub record IsParted (q : Choice) (js : List JoinedTerm) (p : Parted) : Type 0 where
  pub taken : AreSo q true p.taken.items
  pub passed : AreSo q false p.passed.items
  pub all : Stand js (p.taken.items ++ p.passed.items)
