use Rattle.std.proofs.Common.{sym, ◌∙◌}
use Rattle.form_match.specs.Parts.{any_asked}
use Rattle.form_match.specs.Matching.{asked_vector}
use Rattle.form_tree.specs.declared.pattern.Sort.TheVariants as sorts
use Rattle.form_match.proofs.Asked.{any_vector, no_vector, not_told, told_all}
use Rattle.form_match.proofs.arguments.ask_vector_alone.Goals as goal

pub returns-in-Some-clause-told : goal.returns-in-Some-clause-told
returns-in-Some-clause-told c = λ a is.
    told_all c.ask_vector.result c.args.bindings.now c.ask_vector.new.bindings (any_asked sorts.Vector c.args.name.now a) (asked_vector c.args.name.now c.in-Some.vector)
    (any_vector c.args.name.now c.args.part.now a is c.in-Some.vector (sym c.vector_alone.ensures ∙ c.in-Some.is)) c.ask_vector.ensures.told

pub returns-in-None-clause-told : goal.returns-in-None-clause-told
returns-in-None-clause-told c = λ a is.
    not_told c.args.bindings.now c.args.bindings.now (any_asked sorts.Vector c.args.name.now a) (no_vector c.args.name.now c.args.part.now a is (sym c.vector_alone.ensures ∙ c.in-None.is))
