-- What was taken, as it is told.
use Rattle.std.specs.Prelude.{[], ◌∷◌, Option, Some, None}
use Rattle.form_rewrite.specs.declared.taken.Take.{Take}
use Rattle.form_rewrite.specs.declared.taken.Take.TheVariants.{Untaken, Single, Several}
use Rattle.form_rewrite.specs.declared.taken.Taken.{Taken}
use Rattle.form_rewrite.specs.Taking.{taken_so_far}

abbrev pub taken_in : Take → Option Taken
taken_in (Untaken t) = None
taken_in (Single one) = Some (taken_so_far one.left [] (one.bindings ∷ []) 1)
taken_in (Several taken) = Some taken
