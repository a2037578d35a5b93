-- The lines that are acting, each behind those that are to act first, and what they come to.
use Rattle.std.specs.Prelude.{◌≡◌, ℕ, List, [], ◌∷◌}
use Rattle.form_outside.specs.Texts.{Texts}
use Rattle.form_preproc.specs.Block.{Line}
use Rattle.form_preproc.specs.Expansion.{State, Ending, goes, ends, stops, After, Acts, Does, resumed}
use Rattle.form_preproc.specs.Machine.{lines_of, after_of, calls_behind}
use Rattle.form_preproc.specs.Variables.{Heights, first_heights}
use Rattle.form_preproc.specs.declared.frame.Frame.{Frame}

-- lines that act with so many calls open, and what follows them
pub record Running : Type 0 where
  pub lines : List Line
  pub after : After
  pub depth : ℕ

-- frames with the heights of the calls that are open
abbrev pub running : List Frame → List Heights → List Running
running [] calls = []
running (f ∷ fs) calls =
    record { lines = lines_of f.entry; after = after_of f.entry.after (first_heights calls); depth = f.depth } ∷ running fs (calls_behind f.entry.after calls)

abbrev pub depth_of : List Running → ℕ
depth_of [] = 0
depth_of (f ∷ fs) = f.depth

-- what goes on ends as this says, and all else has ended
abbrev pub Rest : (State → Ending → Type 0) → Ending → Ending → Type 0
Rest next (goes s) e = next s e
Rest next (ends s) e = e ≡ ends s
Rest next (stops stop) e = e ≡ stops stop

-- From a state all of these end so: the first of them act, then what follows them is done, and then the others go on.
abbrev pub Continues : Texts → List Running → State → Ending → Type 0
Continues texts [] s e = e ≡ goes s
Continues texts (f ∷ fs) s e =
    (first : Ending) × Acts texts f.depth s f.lines first
    × Rest (λ next last. (second : Ending) × Does texts (depth_of fs) (resumed f.after next) second × Rest (Continues texts fs) second last) first e
