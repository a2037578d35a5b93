-- The code of a status, and how it prints.
use Rattle.std.specs.Prelude.{ℕ, List, [], ◌++◌, codes, decimal}
use Rattle.form_base.specs.declared.place.Place.{Place}
use Rattle.form_base.specs.declared.place.Place.TheVariants.{Line, Run}
use Rattle.form_base.specs.declared.status.Status.{Status}
use Rattle.form_base.specs.declared.status.Status.TheVariants.{Done, Usage, Missing, TextTooLong, RefusedText, RefusedRun, LibraryFault, SinkFault, StoreFault, StoreDamaged, OutOfMemory}
use Rattle.form_base.specs.Cause.{cause_text}

-- the code with which the process ends
abbrev pub code_of : Status → ℕ
code_of Done = 0
code_of Usage = 1
code_of (Missing name) = 2
code_of (TextTooLong name) = 2
code_of (RefusedText cause place) = 3
code_of (RefusedRun cause place) = 4
code_of LibraryFault = 5
code_of SinkFault = 6
code_of (StoreFault store) = 7
code_of (StoreDamaged store run place kept found) = 8
code_of OutOfMemory = 9

-- where a refusal stands: `p.frm line 2` or `module 1 expression F`
abbrev pub place_text : Place → List ℕ
place_text (Line text line) = text ++ codes " line " ++ decimal line
place_text (Run module_number expression) = codes "module " ++ decimal module_number ++ codes " expression " ++ expression

-- the line that says how a call ended, without its newline; nothing where all was done
abbrev pub status_text : Status → List ℕ
status_text Done = []
status_text Usage = codes "error: usage"
status_text (Missing name) = codes "error: missing " ++ name
status_text (TextTooLong name) = codes "error: text too long " ++ name
status_text (RefusedText cause place) = codes "error: " ++ place_text place ++ codes ": " ++ cause_text cause
status_text (RefusedRun cause place) = codes "error: " ++ place_text place ++ codes ": " ++ cause_text cause
status_text LibraryFault = codes "tform: library fault"
status_text SinkFault = codes "tform: output fault"
status_text (StoreFault store) = codes "tform: store fault " ++ decimal store
status_text (StoreDamaged store run place kept found) =
    codes "tform: store damaged " ++ decimal store ++ codes " " ++ decimal run ++ codes " " ++ decimal place ++ codes " " ++ decimal kept ++ codes " " ++ decimal found
status_text OutOfMemory = codes "tform: out of memory"
