use Rattle.std.proofs.Common.{List, sym, subst}
use Rattle.std.specs.Prelude.{IfSome}
use Rattle.form_term.specs.declared.monomial.Monomial.{Monomial}
use Rattle.form_collect.specs.Short.{IsAdded}
use Rattle.form_collect.proofs.ShortLists.{of_two}
use Rattle.form_collect.proofs.short.added.Goals as goal

pub returns-in-len2 : goal.returns-in-len2
returns-in-len2 c =
    let one = c.one-item.result in
    let two = c.two-item.result in
    subst (λ (ms : List Monomial). IfSome c.sum_of.result (IsAdded ms)) (sym (of_two c.args.list.now one two c.in-len2.len_at_least c.in-len2.len_below c.one-item.is c.two-item.is)) c.sum_of.ensures
