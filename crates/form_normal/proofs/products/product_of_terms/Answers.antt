-- What was merged is the product.
use Rattle.std.proofs.Common.{◌≡◌, IfOk, Ok, Err, [], ◌∷◌, sym, subst}
use Rattle.form_base.specs.declared.cause.Cause.{Cause}
use Rattle.form_normal.specs.declared.products.ProductError.TheVariants.{Refused}
use Rattle.form_term.specs.Term.{Term, of_symbols, nothing}
use Rattle.form_normal.specs.Product.{limited}
use Rattle.form_normal.proofs.Parts.{powers_lawful, powers_made, term_made}
use Rattle.form_normal.proofs.Others.{joined_lawful, nothing_together}
use Rattle.form_normal.proofs.products.product_of_terms.Goals as goal

pub limited_symbols-requires : goal.limited_symbols-requires
limited_symbols-requires c = rw c.in_ok-powers.ensures (powers_lawful (of_symbols c.powers.result.now ∷ of_symbols c.powers-2.result.now ∷ []))

pub returns-then-has_only_symbols-2-clause-ok : goal.returns-then-has_only_symbols-2-clause-ok
returns-then-has_only_symbols-2-clause-ok c =
    let powers = powers_made c.args.left.now c.args.right.now c.powers.result.now c.powers-2.result.now c.in_ok-powers.powers.items c.in_ok-powers.ensures c.powers.ensures.powers c.powers-2.ensures.powers in
    let made = term_made c.args.left.now c.args.right.now c.in_ok-powers.powers.items nothing powers (nothing_together c.args.left.now c.args.right.now (sym c.if-has_only_symbols.ensures) (sym c.if-has_only_symbols-2.ensures)) in
    subst (λ (t : Term). IfOk c.limited_symbols.result (λ u. limited t ≡ Ok u)) made c.limited_symbols.ensures.ok

pub returns-then-has_only_symbols-2-clause-refused : goal.returns-then-has_only_symbols-2-clause-refused
returns-then-has_only_symbols-2-clause-refused c =
    let powers = powers_made c.args.left.now c.args.right.now c.powers.result.now c.powers-2.result.now c.in_ok-powers.powers.items c.in_ok-powers.ensures c.powers.ensures.powers c.powers-2.ensures.powers in
    let made = term_made c.args.left.now c.args.right.now c.in_ok-powers.powers.items nothing powers (nothing_together c.args.left.now c.args.right.now (sym c.if-has_only_symbols.ensures) (sym c.if-has_only_symbols-2.ensures)) in
    subst (λ (t : Term). (cause : Cause) → c.limited_symbols.result ≡ Err (Refused cause) → limited t ≡ Err cause) made c.limited_symbols.ensures.refused

pub limited-requires-clause-powers : goal.limited-requires-clause-powers
limited-requires-clause-powers c = rw c.in_ok-powers.ensures (powers_lawful (of_symbols c.powers.result.now ∷ of_symbols c.powers-2.result.now ∷ []))

pub limited-requires-clause-others : goal.limited-requires-clause-others
limited-requires-clause-others c = rw c.in_ok-others.ensures (joined_lawful c.args.left.now c.args.right.now c.powers.ensures.lawful c.powers-2.ensures.lawful)

pub returns-clause-ok : goal.returns-clause-ok
returns-clause-ok c =
    let powers = powers_made c.args.left.now c.args.right.now c.powers.result.now c.powers-2.result.now c.in_ok-powers.powers.items c.in_ok-powers.ensures c.powers.ensures.powers c.powers-2.ensures.powers in
    let made = term_made c.args.left.now c.args.right.now c.in_ok-powers.powers.items c.in_ok-others.others powers c.in_ok-others.ensures in
    subst (λ (t : Term). IfOk c.limited.result (λ u. limited t ≡ Ok u)) made c.limited.ensures.ok

pub returns-clause-refused : goal.returns-clause-refused
returns-clause-refused c =
    let powers = powers_made c.args.left.now c.args.right.now c.powers.result.now c.powers-2.result.now c.in_ok-powers.powers.items c.in_ok-powers.ensures c.powers.ensures.powers c.powers-2.ensures.powers in
    let made = term_made c.args.left.now c.args.right.now c.in_ok-powers.powers.items c.in_ok-others.others powers c.in_ok-others.ensures in
    subst (λ (t : Term). (cause : Cause) → c.limited.result ≡ Err (Refused cause) → limited t ≡ Err cause) made c.limited.ensures.refused
