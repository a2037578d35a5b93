-- How many calls are open, beside how many frames there are.
use Rattle.std.specs.Prelude.{◌≤◌, suc, List, [], ◌∷◌, length}
use Rattle.form_preproc.specs.declared.frame.Frame.{Frame}

-- in no frame are more calls open than there are frames up to it
abbrev pub AreShallow : List Frame → Type 0
AreShallow [] = Unit {0}
AreShallow (f ∷ fs) = (f.depth ≤ suc (length fs)) × AreShallow fs
