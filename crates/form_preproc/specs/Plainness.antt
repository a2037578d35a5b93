-- What is kept while lines act, and what they ask for, is plain bytes.
use Rattle.std.specs.Prelude.{ℕ, List, [], ◌∷◌, Result, Ok, Err}
use Rattle.form_lines.specs.Text.{IsPlain}
use Rattle.form_preproc.specs.Kept.{kept_in}
use Rattle.form_preproc.specs.PlainTexts.{ArePlain}
use Rattle.form_preproc.specs.Variables.{Values}
use Rattle.form_preproc.specs.declared.expander.Expander.{Expander}
use Rattle.form_preproc.specs.declared.frame.Action.{Action}
use Rattle.form_preproc.specs.declared.frame.Action.TheVariants.{Goes, Ends, Enters}
use Rattle.form_preproc.specs.declared.frame.After.{After}
use Rattle.form_preproc.specs.declared.frame.After.TheVariants.{Branch, Included, Turn, Fetched, Called}
use Rattle.form_preproc.specs.declared.frame.Frame.{Frame}
use Rattle.form_preproc.specs.declared.handed.Handed.{Handed}
use Rattle.form_preproc.specs.declared.machine.Machine.{Machine}

abbrev pub HandedArePlain : List Handed → Type 0
HandedArePlain [] = Unit {0}
HandedArePlain (line ∷ lines) = IsPlain line.text × HandedArePlain lines

-- each value of each name
abbrev pub ValuesArePlain : Values → Type 0
ValuesArePlain values = (name : List ℕ) → ArePlain (values name)

abbrev pub MachineIsPlain : Machine → Type 0
MachineIsPlain m = ValuesArePlain (kept_in m.variables).values × HandedArePlain m.handed

-- the values that are left of a loop, and the arguments of a call
abbrev pub AfterIsPlain : After → Type 0
AfterIsPlain Branch = Unit {0}
AfterIsPlain Included = Unit {0}
AfterIsPlain (Turn t) = ArePlain t.turns.texts
AfterIsPlain (Fetched f) = ArePlain f.arguments
AfterIsPlain Called = Unit {0}

abbrev pub IsPlainAction : {E : Type 0} → Result Action E → Machine → Type 0
IsPlainAction (Ok Goes) m = MachineIsPlain m
IsPlainAction (Ok Ends) m = MachineIsPlain m
IsPlainAction (Ok (Enters e)) m = MachineIsPlain m × AfterIsPlain e.after
IsPlainAction (Err error) m = Unit {0}

abbrev pub FramesArePlain : List Frame → Type 0
FramesArePlain [] = Unit {0}
FramesArePlain (f ∷ fs) = AfterIsPlain f.entry.after × FramesArePlain fs

abbrev pub ExpanderIsPlain : Expander → Type 0
ExpanderIsPlain x = MachineIsPlain x.machine × FramesArePlain x.frames
