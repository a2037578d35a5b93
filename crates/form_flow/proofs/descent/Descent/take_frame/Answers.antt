use Rattle.std.proofs.Common.{◌≡◌, [], rules, refl, sym, ap, ◌∙◌}
use Rattle.std.proofs.lemmas.List.{same_from_push}
use Rattle.form_flow.proofs.Waiting.{no_push}
use Rattle.form_flow.proofs.descent.Descent.take_frame.Goals as goal

pub returns-in_default : goal.returns-in_default
returns-in_default c fs f is =
    let none : c.args.self.now.frames.items ≡ [] = search rules in
    no_push fs f (sym is ∙ none)

pub returns : goal.returns
returns c = (
  refl,
  λ fs f is.
      let same = same_from_push c.pop.new.self.items fs c.in-Some.frame f (sym c.in-Some.ensures.items ∙ is) in
      (ap (λ x. x.next) same.1, ap (λ x. x.path) same.1, same.0),
)
