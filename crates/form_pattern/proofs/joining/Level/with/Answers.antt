use Rattle.std.proofs.Common.{◌≡◌, List, [], IfOk, sym, subst, ◌∙◌}
use Rattle.form_pattern.specs.declared.joining.Factor.{Factor}
use Rattle.form_pattern.specs.declared.joining.Factor.TheVariants.{Other}
use Rattle.form_pattern.proofs.Joined.{put-last, put-in}
use Rattle.form_pattern.proofs.joining.Level.with.Goals as goal

pub returns-in_ok-join_in-in-Some : goal.returns-in_ok-join_in-in-Some
returns-in_ok-join_in-in-Some c =
    put-in c.args.raw c.self.inside.factors.items c.args.self c.in-Some.place c.index_mut.result.now c.join_in.new.slot c.self.view_is (sym c.place_of.ensures ∙ c.in-Some.is) c.index_mut.ensures.value c.in_ok-join_in-in-Some.ensures

pub returns-in-None : goal.returns-in-None
returns-in-None c =
    subst (λ (fs : List Factor). IfOk c.with_alone.result (λ l. l ≡ fs)) (sym (put-last c.args.raw c.args.self (Other []) (sym c.place_of.ensures ∙ c.in-None.is))) c.with_alone.ensures
