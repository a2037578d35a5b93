use Rattle.std.proofs.Common.{◌≡◌, drop, map}
use Rattle.form_bindings.specs.Entries.{binding_in}
use Rattle.form_bindings.specs.Values.{value_of}
use Rattle.form_bindings.proofs.bindings.found.Given as goal

abbrev pub invariant-loop-entry : goal.invariant-loop-entry
invariant-loop-entry l = value_of (map (binding_in l.pieces) l.entries) l.wildcard ≡ value_of (map (binding_in l.pieces) (drop l.entry-index l.entries)) l.wildcard
