-- All steps together: what is left goes on as all did.
use Rattle.std.proofs.Common.{◌≡◌, subst, Option, Some, None, true, Result, Ok, IfSome}
use Rattle.form_outside.specs.Texts.{Texts}
use Rattle.form_preproc.specs.Expansion.{Ending, goes, ends}
use Rattle.form_preproc.specs.Frames.{running}
use Rattle.form_preproc.specs.Machine.{state_of, calls_of}
use Rattle.form_preproc.specs.Stepping.{ContinuesIn, IsStepped, IsRun}
use Rattle.form_preproc.specs.declared.expander.Expander.{Expander}
use Rattle.form_preproc.specs.declared.expander.Step.{Step}
use Rattle.form_preproc.specs.declared.expander.Step.TheVariants as step
use Rattle.form_preproc.specs.declared.stop.ExpandError.{ExpandError}

-- however what is left ends, all ends so
abbrev pub GoesOn : Expander → Expander → Texts → Type 0
GoesOn old now texts = (e : Ending) → ContinuesIn texts now e → ContinuesIn texts old e

abbrev Took : Expander → Result Step ExpandError → Expander → Texts → Type 0
Took now result new texts = IsStepped texts (running now.frames (calls_of now.machine)) (state_of now.machine) result new

pub ended : (told here : Option Texts) (old now new : Expander) → here ≡ told → IfSome told (GoesOn old now) → IfSome here (Took now (Ok step.Ends) new) → IfSome told (λ texts. IsRun texts old (Ok true) new)
ended None here old now new same kept took = tt
ended (Some texts) here old now new same kept took = kept (ends (state_of new.machine)) (subst (λ (o : Option Texts). IfSome o (Took now (Ok step.Ends) new)) same took)
