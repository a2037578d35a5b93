-- Expressions that stand, and what wildcards stand for, with their names at their places.
use Rattle.std.specs.List.{AllByRecursion}
use Rattle.form_term.specs.Named.{Places, IsSummand}
use Rattle.form_bindings.specs.Named.{AreSoundBindings}
pub use Rattle.form_normal.specs.Recordable.{IsRecordable}
use Rattle.form_expand.specs.declared.stored.Stored.{Stored}
use Rattle.form_expand.specs.Listing.{Listing}
use Rattle.form_expand.specs.Meanings.{Meanings}

-- lists of terms of expressions, and of such as can be recorded
abbrev pub AreSummands : Places → Listing → Type 0
AreSummands names l = AllByRecursion (IsSummand names) l.terms

abbrev pub AreRecordable : Places → Listing → Type 0
AreRecordable names l = AllByRecursion (IsRecordable names) l.terms

-- the terms of an expression that stands
abbrev pub IsSoundStored : Places → Stored → Type 0
IsSoundStored names s = AllByRecursion (IsSummand names) s.terms

abbrev pub IsRecordableStored : Places → Stored → Type 0
IsRecordableStored names s = AllByRecursion (IsRecordable names) s.terms

-- what names stand for in a right side
pub record AreSoundMeanings (names : Places) (all : Meanings) : Type 0 where
  pub stored : AllByRecursion (IsSoundStored names) all.stored
  pub bindings : AreSoundBindings names all.bindings
