-- The factors of several terms together, before they are put in order and summed.
use Rattle.std.specs.Prelude.{ℤ, false, List, ◌++◌, map, flat_map}
use Rattle.form_term.specs.Term.{Term, Others}
use Rattle.form_term.specs.declared.power.Power.{Power}
use Rattle.form_term.specs.declared.power.DotPower.{DotPower}

-- a power of a symbol, written as one of a pair: that of the symbol with itself
abbrev pub paired : Power → DotPower
paired p = record { left = p.symbol; right = p.symbol; exponent = p.exponent }

abbrev pub unpaired : DotPower → Power
unpaired d = record { symbol = d.left; exponent = d.exponent }

-- a power of a pair with another exponent
abbrev pub with_sum : DotPower → ℤ → DotPower
with_sum d sum = record { left = d.left; right = d.right; exponent = sum }

-- the powers of symbols of several terms, written so
abbrev pub paired_in : List Term → List DotPower
paired_in ts = flat_map (λ t. map paired t.symbols) ts

-- other factors behind others, without regard to `i_`
abbrev pub put_behind : Others → Others → Others
put_behind o p = record {
  is_imaginary = o.is_imaginary;
  dots = o.dots ++ p.dots;
  components = o.components ++ p.components;
  deltas = o.deltas ++ p.deltas;
  functions = o.functions ++ p.functions;
  word = o.word ++ p.word;
}

-- the lists of several terms, each joined as it stands
abbrev pub lists_of : List Term → Others
lists_of ts = record {
  is_imaginary = false;
  dots = flat_map (λ t. t.others.dots) ts;
  components = flat_map (λ t. t.others.components) ts;
  deltas = flat_map (λ t. t.others.deltas) ts;
  functions = flat_map (λ t. t.others.functions) ts;
  word = flat_map (λ t. t.others.word) ts;
}
