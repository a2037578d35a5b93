-- The powers are merged, and the functions put among those of the front.
use Rattle.std.proofs.Common.{◌≡◌, ◌++◌, Ok, Err, IfOk, List, [], ◌∷◌, ap, sym, subst, ◌∙◌}
use Rattle.form_base.specs.declared.cause.Cause.{Cause}
use Rattle.form_normal.specs.declared.products.ProductError.TheVariants.{Refused}
use Rattle.form_term.specs.Term.{Term, Others, Call, call_order, of_symbols}
use Rattle.form_normal.specs.Factors.{AreJoined}
use Rattle.form_normal.specs.Lists.{in_order}
use Rattle.form_normal.specs.Product.{limited}
use Rattle.form_normal.proofs.Parts.{powers_lawful, powers_made, term_made}
use Rattle.form_normal.proofs.Others.{joined_lawful, functions_put}
use Rattle.form_normal.proofs.factors.plain_terms.Goals as goal

pub limited-requires-clause-powers : goal.limited-requires-clause-powers
limited-requires-clause-powers c = rw c.in_ok-powers.ensures (powers_lawful (of_symbols c.into_factors-powers.result.0.items ∷ of_symbols c.powers.result.now ∷ []))

pub limited-requires-clause-others : goal.limited-requires-clause-others
limited-requires-clause-others c =
    let i = c.others.inside in
    let v : Others = record { is_imaginary = i.is_imaginary; dots = i.dots.items; components = i.components.items; deltas = i.deltas.items; functions = i.functions.items; word = i.word.items } in
    let is : v ≡ c.args.front.others = c.others.view_is ∙ ap (λ (t : Term). t.others) (sym c.into_factors-powers.ensures.is) in
    let put = c.in_ok-put_among.ensures ∙ ap (λ (cs : List Call). in_order call_order (i.functions.items ++ cs)) c.functions.ensures in
    let made = functions_put c.args.front c.args.factor.now v c.put_among.new.functions.items c.requires.front c.requires.factor is put in
    subst AreJoined (sym made) (joined_lawful c.args.front c.args.factor.now c.into_factors-powers.ensures.lawful c.powers.ensures.lawful)

pub returns-clause-ok : goal.returns-clause-ok
returns-clause-ok c =
    let i = c.others.inside in
    let v : Others = record { is_imaginary = i.is_imaginary; dots = i.dots.items; components = i.components.items; deltas = i.deltas.items; functions = i.functions.items; word = i.word.items } in
    let is : v ≡ c.args.front.others = c.others.view_is ∙ ap (λ (t : Term). t.others) (sym c.into_factors-powers.ensures.is) in
    let put = c.in_ok-put_among.ensures ∙ ap (λ (cs : List Call). in_order call_order (i.functions.items ++ cs)) c.functions.ensures in
    let others = functions_put c.args.front c.args.factor.now v c.put_among.new.functions.items c.requires.front c.requires.factor is put in
    let left = ap (λ (t : Term). t.symbols) (sym c.into_factors-powers.ensures.is) in
    let powers = powers_made c.args.front c.args.factor.now c.into_factors-powers.result.0.items c.powers.result.now c.in_ok-powers.powers.items c.in_ok-powers.ensures left c.powers.ensures.powers in
    let made = term_made c.args.front c.args.factor.now c.in_ok-powers.powers.items (record v { functions = c.put_among.new.functions.items }) powers others in
    subst (λ (t : Term). IfOk c.limited.result (λ u. limited t ≡ Ok u)) made c.limited.ensures.ok

pub returns-clause-refused : goal.returns-clause-refused
returns-clause-refused c =
    let i = c.others.inside in
    let v : Others = record { is_imaginary = i.is_imaginary; dots = i.dots.items; components = i.components.items; deltas = i.deltas.items; functions = i.functions.items; word = i.word.items } in
    let is : v ≡ c.args.front.others = c.others.view_is ∙ ap (λ (t : Term). t.others) (sym c.into_factors-powers.ensures.is) in
    let put = c.in_ok-put_among.ensures ∙ ap (λ (cs : List Call). in_order call_order (i.functions.items ++ cs)) c.functions.ensures in
    let others = functions_put c.args.front c.args.factor.now v c.put_among.new.functions.items c.requires.front c.requires.factor is put in
    let left = ap (λ (t : Term). t.symbols) (sym c.into_factors-powers.ensures.is) in
    let powers = powers_made c.args.front c.args.factor.now c.into_factors-powers.result.0.items c.powers.result.now c.in_ok-powers.powers.items c.in_ok-powers.ensures left c.powers.ensures.powers in
    let made = term_made c.args.front c.args.factor.now c.in_ok-powers.powers.items (record v { functions = c.put_among.new.functions.items }) powers others in
    subst (λ (t : Term). (cause : Cause) → c.limited.result ≡ Err (Refused cause) → limited t ≡ Err cause) made c.limited.ensures.refused
