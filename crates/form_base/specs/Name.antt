-- The bytes of a name.
use Rattle.std.specs.Prelude.{List, ℕ, string_bytes, box_value}
use Rattle.form_base.specs.declared.name.Text.{Text}
use Rattle.form_base.specs.declared.name.Text.TheVariants.{Short, Long}

abbrev pub bytes_of : Text → List ℕ
bytes_of (Short text) = text.bytes
bytes_of (Long text) = string_bytes (box_value text)
