use Rattle.std.proofs.Common.{◌≤◌, ◌<◌, ◌∙◌, length, get_or, sym, rules}
use Rattle.form_words.proofs.Decimal.{none_between, some_between}
use Rattle.form_words.proofs.numbers.decimal.Goals as goal

pub returns-in_err-value-clause-value : goal.returns-in_err-value-clause-value
returns-in_err-value-clause-value c =
    let some : 0 < length c.args.text.now = search rules in
    let low : 49 ≤ get_or c.args.text.now 0 0 = search rules in
    c.from_residual.ensures ∙ sym (none_between c.args.least c.args.most c.args.text.now c.parse.result
    (search rules) c.parse.ensures.value.0 some low (search rules))

pub returns-clause-value : goal.returns-clause-value
returns-clause-value c =
    let some : 0 < length c.args.text.now = search rules in
    let low : 49 ≤ get_or c.args.text.now 0 0 = search rules in
    sym (some_between c.args.least c.args.most c.in_ok-value.value c.args.text.now c.parse.result
    (search rules) c.parse.ensures.value.0 some low c.if-value-least.false c.if-most-value.false)
