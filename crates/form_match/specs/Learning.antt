-- What is learnt of wildcards, one value after another.
use Rattle.std.specs.Prelude.{List, [], ◌∷◌, Option, Some, None, option_and_then}
use Rattle.form_bindings.specs.Learning.{and_bound}
use Rattle.form_bindings.specs.Values.{Binding}

-- bindings once these values are asked too, none where two values are asked of one wildcard
abbrev pub learnt : List Binding → List Binding → Option (List Binding)
learnt bs [] = Some bs
learnt bs (b ∷ asks) = option_and_then (λ made. learnt made asks) (and_bound bs b)

abbrev pub learnt_of : List Binding → Option (List Binding) → Option (List Binding)
learnt_of bs None = None
learnt_of bs (Some asks) = learnt bs asks
