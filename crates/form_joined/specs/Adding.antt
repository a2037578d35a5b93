-- How products of joined terms are made one after another.
use Rattle.std.specs.Prelude.{◌≡◌, ℕ, List, [], ◌∷◌, ◌++◌, Option, Some, None, option_map, Result, Ok, Err}
use Rattle.form_base.specs.declared.cause.Cause.{Cause}
use Rattle.form_term.specs.declared.monomial.Monomial.{Monomial}
use Rattle.form_frac.specs.Weight.{Weight}
use Rattle.form_gathered.specs.declared.joined.JoinedTerm.{JoinedTerm}
use Rattle.form_joined.specs.declared.products.Factor.{Factor}

-- the joined term that a factor is
abbrev pub joined_of : Factor → JoinedTerm
joined_of f = record { term = f.item.term; sum = f.item.coefficient; weight = f.weight; count = f.count }

-- some joined terms and others behind them, where those are there
abbrev pub behind : List JoinedTerm → Option (List JoinedTerm) → Option (List JoinedTerm)
behind made rest = option_map (λ ls. made ++ ls) rest

-- a product was put behind what was made before it; nothing where it is 0
abbrev pub IsAdded : Result (Option Monomial) Cause → Option Weight → ℕ → List JoinedTerm → List JoinedTerm → Type 0
IsAdded (Ok (Some m)) (Some w) n old new = new ≡ old ++ record { term = m.term; sum = m.coefficient; weight = w; count = n } ∷ []
IsAdded (Ok (Some m)) None n old new = ⊥
IsAdded (Ok None) w n old new = new ≡ old
IsAdded (Err cause) w n old new = ⊥
