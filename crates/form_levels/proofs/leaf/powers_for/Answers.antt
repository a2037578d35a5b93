use Rattle.form_levels.proofs.Becoming.{kept_for}
use Rattle.form_levels.proofs.leaf.powers_for.Goals as goal

pub returns-in-Some : goal.returns-in-Some
returns-in-Some c = kept_for c.args.limit c.args.group.now c.in-Some.list.now c.new.result c.in-Some.ensures c.new.ensures

pub returns-then-terms-lt-FEW : goal.returns-then-terms-lt-FEW
returns-then-terms-lt-FEW c = λ list is. c.none.ensures list

pub returns-in-None : goal.returns-in-None
returns-in-None c = λ list is. c.none-in-None.ensures list
