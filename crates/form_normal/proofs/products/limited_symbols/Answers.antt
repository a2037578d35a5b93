use Rattle.std.proofs.Common.{◌≡◌, true, ap, sym, ◌∙◌, arith}
use Rattle.form_term.specs.TermLaws.{symbols_lawful}
use Rattle.form_normal.specs.Product.{are_in_range}
use Rattle.form_normal.proofs.Limits.{each_in_range}
use Rattle.form_normal.proofs.products.limited_symbols.Goals as goal

pub from_powers-requires : goal.from_powers-requires
from_powers-requires c =
    let ranges : are_in_range c.args.powers.items ≡ true = ap are_in_range (sym c.deref.ensures.value) ∙ sym c.if-not-are_in_range.ensures in
    symbols_lawful c.args.powers.items c.requires (each_in_range c.args.powers.items ranges) (omega arith)
