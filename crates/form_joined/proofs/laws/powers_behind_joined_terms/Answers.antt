use Rattle.form_joined.proofs.Behind.{goes_behind}
use Rattle.form_joined.proofs.Weighed.{WeightLaws}
use Rattle.form_joined.proofs.laws.powers_behind_joined_terms.Goals as goal

pub returns : goal.returns
returns c =
    let laws : WeightLaws = record { moved = c.weights.ensures.moved; paired = c.weights.ensures.paired; each = c.weights.ensures.each; negated = c.weights.ensures.negated } in
    λ max n j list ps made. goes_behind laws max n j list ps made
