use Rattle.std.proofs.Common.{sym, ◌∙◌}
use Rattle.form_match.specs.Parts.{any_asked}
use Rattle.form_match.specs.Matching.{asked_index}
use Rattle.form_tree.specs.declared.pattern.IndexName.TheVariants as an_index
use Rattle.form_tree.specs.declared.pattern.Sort.TheVariants as sorts
use Rattle.form_match.proofs.Asked.{any_index, no_index, not_told, told_all}
use Rattle.form_match.proofs.arguments.ask_index_alone.Goals as goal

pub returns-in-Some-clause-told : goal.returns-in-Some-clause-told
returns-in-Some-clause-told c = λ a is.
    told_all c.ask_declared.result c.args.bindings.now c.ask_declared.new.bindings (any_asked sorts.Index c.args.name.now a) (asked_index (an_index.Name c.args.name.now) c.in-Some.index)
    (any_index c.args.name.now c.args.part.now a is c.in-Some.index (sym c.index_alone.ensures ∙ c.in-Some.is)) c.ask_declared.ensures.told

pub returns-in-None-clause-told : goal.returns-in-None-clause-told
returns-in-None-clause-told c = λ a is.
    not_told c.args.bindings.now c.args.bindings.now (any_asked sorts.Index c.args.name.now a) (no_index c.args.name.now c.args.part.now a is (sym c.index_alone.ensures ∙ c.in-None.is))
