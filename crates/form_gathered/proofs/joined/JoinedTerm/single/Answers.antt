use Rattle.std.proofs.Common.{◌∷◌, [], subst, sym}
use Rattle.form_gathered.specs.Joined.{IsJoined}
use Rattle.form_frac.specs.Weight.{Weight}
use Rattle.form_gathered.proofs.Joining.{single_stands}
use Rattle.form_gathered.proofs.joined.JoinedTerm.single.Goals as goal

pub returns-clause-stands : goal.returns-clause-stands
returns-clause-stands c =
    let m = c.args.item in
    subst (λ (w : Weight). IsJoined 1 (record { term = m.term; sum = m.coefficient; weight = w; count = 1 } ∷ []) (λ k. m ∷ [])) (sym c.of.ensures) (single_stands m c.laws.ensures.lowest)
