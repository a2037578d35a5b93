use Rattle.std.proofs.Common.{[], ◌∷◌, refl, subst, ◌∙◌}
use Rattle.form_rewrite.specs.Taking.{taken_so_far}
use Rattle.form_flow.specs.Rewriting.{right_with}
use Rattle.form_gathered.specs.declared.joined.JoinedTerm.{JoinedTerm}
use Rattle.form_levels.specs.declared.rewriting.Rewritten.TheVariants.{Acted}
use Rattle.form_levels.specs.Becoming.{IsRowOf}
use Rattle.form_levels.proofs.Becoming.{becomes_uncut, row_made}
use Rattle.form_levels.proofs.rewriting.Rule.on_single.Goals as goal

pub returns : goal.returns
returns c =
    let r = c.args.self.now in
    let k = c.args.known in
    let j = c.with.result in
    let made = Acted c.into_vec.result in
    let bs = c.args.single.bindings in
    let lists = right_with r.limit r.part.now.right bs ∷ [] in
    becomes_uncut r k (taken_so_far c.args.single.left [] (bs ∷ []) 1) made refl
    (subst (λ (front : JoinedTerm). IsRowOf r.limit lists front made) c.with.ensures
    (row_made r.limit lists j c.in-Some.all c.into_vec.result.items
    (rw c.in-Some.is at c.in_ok-all.ensures.limit ∙ c.in_ok-fronts.ensures.limit)
    (rw c.in-Some.is at c.in_ok-all.ensures.fronts j.term [] j (c.in_ok-fronts.ensures.fronts j refl)) c.into_vec.ensures))
