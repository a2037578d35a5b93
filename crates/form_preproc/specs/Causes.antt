-- What is written out of its form is refused as no instruction.
use Rattle.form_base.specs.declared.cause.Cause.TheVariants.{BadInstruction}
use Rattle.form_preproc.specs.declared.error.LineError.{LineError}
use Rattle.form_preproc.specs.declared.error.LineError.TheVariants.{Refused, Memory}
use Rattle.form_preproc.specs.declared.error.PartError.{PartError}
use Rattle.form_preproc.specs.declared.error.PartError.TheVariants.{IllFormed, NoMemory}

abbrev pub line_error : PartError → LineError
line_error IllFormed = Refused BadInstruction
line_error NoMemory = Memory
