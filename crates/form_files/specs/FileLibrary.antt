-- What a library of files tells.
use Rattle.std.specs.Prelude.{ℕ}
use Rattle.form_files.specs.declared.file_library.FileLibrary.{FileLibrary}

-- how often it has failed
abbrev pub library_faults : {R A B : Type 0} → FileLibrary R A B → ℕ
library_faults library = library.faults
