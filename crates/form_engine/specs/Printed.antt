-- What a module prints.
use Rattle.std.specs.Prelude.{ℕ, Bool, List, [], flat_map, if◌then◌else◌}
use Rattle.form_names.specs.Names.{Entry}
use Rattle.form_check.specs.declared.checked.Checked.{Checked}
use Rattle.form_expand.specs.declared.stored.Stored.{Stored}
use Rattle.form_module.specs.Printed.{prints}
use Rattle.form_print.specs.Printing.{name_of, printed}

-- the text of an expression, where it is printed
abbrev pub printed_where : List Entry → Bool → Stored → List ℕ
printed_where names is_printed e = if is_printed then printed names (name_of names e.expression) e.terms else []

-- the expressions that stand at the end of a module and that it prints, in order
abbrev pub printed_module : List Entry → List Checked → List Stored → List ℕ
printed_module names statements standing = flat_map (λ e. printed_where names (prints statements e.expression) e) standing
