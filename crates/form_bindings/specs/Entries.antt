-- Bindings as they are kept.
use Rattle.std.specs.Prelude.{◌≤◌, List, length, slice_range}
use Rattle.form_term.specs.declared.piece.Piece.{Piece}
use Rattle.form_bindings.specs.declared.bindings.Entry.{Entry}
use Rattle.form_bindings.specs.Values.{Binding, IsValueOf}

-- the binding that an entry is, by the pieces of all values
abbrev pub binding_in : List Piece → Entry → Binding
binding_in ps e = record { wildcard = e.wildcard; value = slice_range ps e.start e.end }

-- its value is among these pieces, and what its wildcard may stand for
pub record IsEntry (ps : List Piece) (e : Entry) : Type 0 where
  pub begins : e.start ≤ e.end
  pub ends : e.end ≤ length ps
  pub value : IsValueOf e.wildcard (slice_range ps e.start e.end)
