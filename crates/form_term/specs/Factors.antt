-- What the factors of a term are, as it keeps them.
use Rattle.std.specs.Prelude.{◌≡◌, List, [], Option, Some, None, Box, false}
use Rattle.std.specs.Global.{Global}
use Rattle.form_term.specs.declared.term.Rest.{Rest}
use Rattle.form_term.specs.Term.{Call, Others, nothing, is_nothing}

-- the factors besides powers of symbols and commuting functions
abbrev pub others_of : Rest → Others
others_of r = record {
  is_imaginary = r.is_imaginary;
  dots = r.dots.items;
  components = r.components.items;
  deltas = r.deltas.items;
  functions = [];
  word = r.word.items;
}

-- they are kept only where there are some
abbrev pub rest_in : Option (Box Rest Global) → Others
rest_in None = nothing
rest_in (Some r) = others_of r.value

abbrev pub HasRest : Option (Box Rest Global) → Type 0
HasRest None = Unit {0}
HasRest (Some r) = is_nothing (others_of r.value) ≡ false

-- the factors besides powers of symbols
abbrev pub others_in : List Call → Option (Box Rest Global) → Others
others_in fs rest = record (rest_in rest) { functions = fs }
