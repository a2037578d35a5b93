use Rattle.std.proofs.Common.{◌≡◌, drop}
use Rattle.form_preproc.specs.Parts.{read, begun}
use Rattle.form_preproc.proofs.parts.parted.Given as goal

abbrev pub invariant-loop-byte : goal.invariant-loop-byte
invariant-loop-byte l = read (begun l.fn.parting) l.text ≡ read l.parts (drop l.byte-index l.text)
