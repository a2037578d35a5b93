-- What procedures are kept.
use Rattle.std.specs.Prelude.{ℕ, List, drop, Option, option_map}
use Rattle.std.specs.HashMap.{get_by_text}
use Rattle.form_preproc.specs.Expansion.{Stored}
use Rattle.form_preproc.specs.Sources.{lines_in}
use Rattle.form_preproc.specs.declared.procedures.Procedure.{Procedure}
use Rattle.form_preproc.specs.declared.procedures.Procedures.{Procedures}

abbrev pub stored_of : Procedure → Stored
stored_of p = record { parameters = p.parameters; body = drop p.place (lines_in p.source.value) }

abbrev pub procedures_in : Procedures → List ℕ → Option Stored
procedures_in p name = option_map stored_of (get_by_text p.map name)
