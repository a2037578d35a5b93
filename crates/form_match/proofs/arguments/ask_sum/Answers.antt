use Rattle.std.proofs.Common.{sym, ◌∙◌}
use Rattle.form_match.specs.Parts.{any_asked}
use Rattle.form_match.specs.Matching.{asked_expression}
use Rattle.form_tree.specs.declared.pattern.Sort.TheVariants as sorts
use Rattle.form_match.proofs.Asked.{any_sum, no_sum, not_told, told_all}
use Rattle.form_match.proofs.arguments.ask_sum.Goals as goal

pub returns-then-not-begins_sum-clause-told : goal.returns-then-not-begins_sum-clause-told
returns-then-not-begins_sum-clause-told c = λ a is.
    not_told c.args.bindings.now c.args.bindings.now (any_asked sorts.Expression c.args.name.now a) (no_sum c.args.name.now c.args.part.now a is (sym c.begins_sum.ensures ∙ c.if-not-begins_sum.true))

pub returns-clause-told : goal.returns-clause-told
returns-clause-told c = λ a is.
    told_all c.ask_expression.result c.args.bindings.now c.ask_expression.new.bindings (any_asked sorts.Expression c.args.name.now a) (asked_expression c.args.name.now c.args.part.now)
    (any_sum c.args.name.now c.args.part.now a is (sym c.begins_sum.ensures ∙ c.if-not-begins_sum.false)) c.ask_expression.ensures.told
