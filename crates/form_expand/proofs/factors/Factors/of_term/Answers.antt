use Rattle.std.proofs.Common.{sym, ◌∙◌}
use Rattle.form_expand.specs.Listing.{single}
use Rattle.form_expand.proofs.Rows.{first_same}
use Rattle.form_expand.proofs.factors.Factors.of_term.Goals as goal

pub returns : goal.returns
returns c = λ more.
    let put = rw (c.none-factors.ensures c.args.limit, c.single.ensures) at c.in_ok-put_whole.ensures in
    sym (first_same c.args.limit (single c.args.term) more) ∙ put more
