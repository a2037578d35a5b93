-- What a library in memory holds.
use Rattle.std.specs.Prelude.{ℕ, List}
use Rattle.form_outside.specs.Texts.{Texts}
use Rattle.form_mem.specs.TextMap.{kept_in}
use Rattle.form_mem.specs.declared.library.MemLibrary.{MemLibrary}
use Rattle.form_mem.specs.declared.library.SureLibrary.{SureLibrary}

-- the texts that it holds
abbrev pub held : MemLibrary → Texts
held library = kept_in library.texts

-- which calls of `fetch` are to fail
abbrev pub failing_fetches : MemLibrary → List ℕ
failing_fetches library = library.fetches.failing.items

-- how many calls of `fetch` there were
abbrev pub fetch_count : MemLibrary → ℕ
fetch_count library = library.fetches.count

-- how often it has failed
abbrev pub library_faults : MemLibrary → ℕ
library_faults library = library.faults

-- the texts that a library which never fails holds
abbrev pub held_surely : SureLibrary → Texts
held_surely library = kept_in library.texts
