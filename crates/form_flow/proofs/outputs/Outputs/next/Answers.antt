use Rattle.std.proofs.Common.{Ok, subst, sym, ap, ◌∙◌, ◌-◌}
use Rattle.form_expand.specs.Listing.{limited}
use Rattle.form_expand.specs.Next as next
use Rattle.form_expand.proofs.Listings.{limited_nothing}
use Rattle.form_flow.specs.Left.{Gives, left, outputs_left}
use Rattle.form_flow.specs.Outcome.{listing_of}
use Rattle.form_flow.proofs.Giving.{gives_err, listing_output}
use Rattle.form_flow.proofs.outputs.Outputs.next.Goals as goal

pub returns-in-Ok-Some : goal.returns-in-Ok-Some
unfolding outputs_left
returns-in-Ok-Some c =
    let o = c.args.self.now in
    let new = c.next.new.self in
    let n = o.limit - o.given in
    let gives = subst (λ r. Gives (Ok r) (left o.descent) new) c.in-Ok-Some.field-0-is c.in-Ok-Some.ensures.gives in
    subst (λ l. next.Gives c.give.result l (outputs_left c.give.new.self))
    (sym (ap (λ x. limited n (listing_of x)) gives ∙ ap (limited n) (listing_output c.in-Ok-Some.item (left new))))
    c.give.ensures

pub returns-in-Ok-None : goal.returns-in-Ok-None
unfolding outputs_left
returns-in-Ok-None c =
    let o = c.args.self.now in
    let n = o.limit - o.given in
    let gives = subst (λ r. Gives (Ok r) (left o.descent) c.next.new.self) c.in-Ok-None.field-0-is c.in-Ok-None.ensures.gives in
    (ap (λ x. limited n (listing_of x)) gives.0 ∙ limited_nothing n, ap (λ x. limited n (listing_of x)) gives.1 ∙ limited_nothing n)

pub returns-in-Err : goal.returns-in-Err
unfolding outputs_left
returns-in-Err c =
    let o = c.args.self.now in
    gives_err c.in-Err.error (o.limit - o.given) (left o.descent) c.next.new.self (limited (o.limit - o.given) (listing_of (left c.next.new.self))) c.in-Err.ensures.gives
