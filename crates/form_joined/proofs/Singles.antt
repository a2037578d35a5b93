-- A list of terms, each alone.
use Rattle.std.proofs.Common.{List, [], ◌∷◌}
use Rattle.std.specs.List.{AllByRecursion}
use Rattle.form_frac.specs.Fraction.{IsLowest}
use Rattle.form_term.specs.declared.monomial.Monomial.{Monomial}
use Rattle.form_gathered.specs.Joined.{IsShare, IsJoined, single}
use Rattle.form_gathered.proofs.Joining.{none_stand, beside, single_stands}
use Rattle.form_joined.specs.Products.{singles}

pub singles_stand : (list : List Monomial) → AllByRecursion (λ m. IsLowest m.coefficient) list → IsJoined 1 (singles list) (λ k. list)
singles_stand [] h = none_stand (IsShare 1) 1
singles_stand (m ∷ ms) h = beside (IsShare 1) 1 (single m ∷ []) (singles ms) (λ k. m ∷ []) (λ k. ms) (single_stands m h.0) (singles_stand ms h.1)
