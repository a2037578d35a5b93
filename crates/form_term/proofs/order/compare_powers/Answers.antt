-- Each case is the order of two powers alone.
use Rattle.std.proofs.Common.{sym, ◌∙◌}
use Rattle.std.specs.declared.cmp.Ordering.TheVariants.{Less, Equal, Greater}
use Rattle.std.proofs.lemmas.Cmp.{ranked}
use Rattle.form_term.specs.SymbolLaws.{single_less, single_same, single_greater}
use Rattle.form_term.proofs.order.compare_powers.Goals as goal

pub returns-in-Less : goal.returns-in-Less
returns-in-Less c = c.cmp-in-Less.ensures ∙ sym (single_less c.args.left c.args.right (ranked c.args.left.symbol c.args.right.symbol Less c.in-Less.ensures) c.requires.left)

pub returns-in-Equal : goal.returns-in-Equal
returns-in-Equal c = c.cmp-in-Equal.ensures ∙ sym (single_same c.args.left c.args.right (ranked c.args.left.symbol c.args.right.symbol Equal c.in-Equal.ensures))

pub returns-in-Greater : goal.returns-in-Greater
returns-in-Greater c = c.cmp-in-Greater.ensures ∙ sym (single_greater c.args.left c.args.right (ranked c.args.left.symbol c.args.right.symbol Greater c.in-Greater.ensures) c.requires.right)
