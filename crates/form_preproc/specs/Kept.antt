-- What a struct of variables keeps.
use Rattle.form_preproc.specs.Variables.{Kept}
use Rattle.form_preproc.specs.Places.{kept}
use Rattle.form_preproc.specs.declared.variables.Variables.{Variables}

abbrev pub kept_in : Variables → Kept
kept_in v = kept v.places v.stacks.items v.journal.changes.items v.journal.marks
