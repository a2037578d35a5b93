use Rattle.std.proofs.Common.{◌≡◌, List, [], ◌∷◌, Some, map, subst}
use Rattle.std.proofs.lemmas.Bool.{OnTrue_at}
use Rattle.form_gathered.specs.declared.joined.JoinedTerm.{JoinedTerm}
use Rattle.form_joined.specs.Adding.{behind, joined_of}
use Rattle.form_joined.specs.Products.{paired, times_each}
use Rattle.form_joined.specs.declared.products.Factor.{Factor}
use Rattle.form_joined.proofs.Added.{one_front}
use Rattle.form_joined.proofs.products.Factors.times.Goals as goal

pub returns : goal.returns
returns c =
    let factors = c.self.inside.items.items in
    let made = c.add_joined.new.made.items in
    let same : c.deref.result.now ≡ factors = c.deref.ensures.value in
    subst (λ (ks : List JoinedTerm). paired (c.args.front ∷ []) ks ≡ Some made) c.self.view_is
    (one_front c.args.front (map joined_of factors) c.in_ok-made.made.items made c.in_ok-made.ensures
    (subst (λ (fs : List Factor). behind c.in_ok-made.made.items (times_each c.args.front (map joined_of fs)) ≡ Some made) same (OnTrue_at c.if-not-branch.false c.in_ok-add_joined.ensures)))
