use Rattle.std.proofs.Common.{[], ◌∷◌, ◌++◌, length, sym, ap, ◌∙◌, arith, eqb-true, length-append, vec_len}
use Rattle.std.proofs.lemmas.Bool.{eqb-false}
use Rattle.form_match.proofs.Lengths.{emptied, not_emptied}
use Rattle.form_match.proofs.arguments.only_one.Goals as goal

pub returns-in_default : goal.returns-in_default
returns-in_default c = λ e. omega (arith, e, (c.in_default.ensures.cases).0)

pub returns-then-is_empty : goal.returns-then-is_empty
returns-then-is_empty c =
    c.in-Some.ensures.items
    ∙ ap (λ l. l ++ c.in-Some.last ∷ []) (emptied c.pop.new.self (eqb-true (vec_len c.pop.new.self) 0 (sym c.is_empty.ensures ∙ c.if-is_empty.true)))

pub returns : goal.returns
returns c = λ e.
    let some = not_emptied c.pop.new.self (eqb-false (vec_len c.pop.new.self) 0 (sym c.is_empty.ensures ∙ c.if-is_empty.false)) in
    let longer = ap length c.in-Some.ensures.items ∙ length-append c.pop.new.self.items (c.in-Some.last ∷ []) in
    omega (arith, e, some, longer)
