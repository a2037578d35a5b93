use Rattle.std.proofs.Common.{◌≡◌, map, take, fold}
use Rattle.form_module.specs.Places.{work_at}
use Rattle.form_module.specs.Works.{and_definition}
use Rattle.form_module.proofs.works.add_definitions.Given as goal

-- with the definitions among the statements so far
abbrev pub invariant-loop-place : goal.invariant-loop-place
invariant-loop-place l =
    map (work_at l.statements) l.works.entries ≡ fold and_definition (map (work_at l.statements) l.fn.works.entries) (take l.place l.statements)
