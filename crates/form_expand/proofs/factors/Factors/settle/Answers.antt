use Rattle.std.proofs.Common.{◌≡◌, ap, ◌∙◌, map, rules}
use Rattle.std.specs.Prelude.{Some, None, option_to_list, Ok, Err}
use Rattle.std.proofs.lemmas.Result.{on_ok_weaker}
use Rattle.form_expand.specs.declared.error.ExpandError.TheVariants.{Refused}
use Rattle.form_expand.specs.declared.walk.Walk.{Walk}
use Rattle.form_expand.specs.Factors.{factor_lists}
use Rattle.form_expand.specs.Kept.{listing}
use Rattle.form_expand.specs.Listing.{single, refusal}
use Rattle.form_expand.specs.Lists.{list_whole}
use Rattle.form_expand.proofs.Factored.{settled_none, settled_refused, settled_term}
use Rattle.form_expand.proofs.factors.Factors.settle.Goals as goal

pub returns-in-Ok-Some : goal.returns-in-Ok-Some
returns-in-Ok-Some c = λ max.
    let is : c.args.made ≡ Ok (Some c.in-Ok-Some.term) = search rules in
    let factors = c.args.self.now in
    settled_term max c.args.made c.in-Ok-Some.term (map single (option_to_list factors.front)) (map (list_whole max) factors.lists.items) is (c.requires max)

pub returns-in-Ok-None : goal.returns-in-Ok-None
returns-in-Ok-None c =
    let is : c.args.made ≡ Ok None = search rules in
    on_ok_weaker c.put.result
    (λ put max. settled_none max c.args.made (listing c.new.result.whole) (factor_lists max c.args.self.now) (factor_lists max c.put.new.self) is
    (ap (λ (w : Walk). listing w.whole) c.new.ensures ∙ c.nothing.ensures) (c.requires max) (put max))
    c.put.ensures

pub returns-in-Err-Refused : goal.returns-in-Err-Refused
returns-in-Err-Refused c =
    let is : c.args.made ≡ Err (Refused c.in-Err-Refused.cause) = search rules in
    on_ok_weaker c.put-in-Err-Refused.result
    (λ put max. settled_refused max c.args.made c.in-Err-Refused.cause (listing c.new-in-Err-Refused.result.whole) (factor_lists max c.args.self.now) (factor_lists max c.put-in-Err-Refused.new.self)
    is (ap (λ (w : Walk). listing w.whole) c.new-in-Err-Refused.ensures ∙ c.refused.ensures ∙ ap refusal c.in-Err-Refused.cause-is) (c.requires max) (put max))
    c.put-in-Err-Refused.ensures
