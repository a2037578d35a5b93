use Rattle.std.proofs.Common.{◌≤◌, ◌-◌, vec_len}
use Rattle.std.specs.Io.KnownBytes.{Consumes}
use Rattle.form_files.proofs.file_library.read_all.Given as goal

-- the text so far is what the reader gave
abbrev pub invariant-pieces : goal.invariant-pieces
invariant-pieces g l = record {
  within : vec_len l.text ≤ l.max;
  given : Consumes (g.F.Read.remaining l.initial.reader) (g.F.Read.remaining l.reader) l.text.items;
}

-- each piece has a byte at least
abbrev pub decreases-pieces : goal.decreases-pieces
decreases-pieces g l = l.max - vec_len l.text
