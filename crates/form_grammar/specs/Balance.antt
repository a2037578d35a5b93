-- Of factors with the same key all remain or none does, so that each key is asked once.
use Rattle.std.specs.Prelude.{Bool, false, not, ◌&&◌, List}
use Rattle.std.specs.List.{list_any}
use Rattle.form_ast.specs.declared.weight.Weight.{Weight}
use Rattle.form_ast.specs.declared.weight.Weight.TheVariants.{Keyed}
use Rattle.form_ast.specs.Patterns.{is_same_key, stays}

-- both are powers of one key
abbrev pub has_same_key : Weight → Weight → Bool
has_same_key (Keyed key below size) (Keyed other is_below count) = is_same_key key other
has_same_key _ _ = false

-- it remains, and none of those before it has its key
abbrev pub stays_first : List Weight → List Weight → Weight → Bool
stays_first ws before w = not (list_any (has_same_key w) before) && stays ws w
