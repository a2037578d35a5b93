-- Which exponents a symbol may have in a term: all that are within the limit.
use Rattle.std.specs.Prelude.{ℕ, pos, neg_ℤ, List, Option, Some, None, option_and_then}
use Rattle.form_names.specs.declared.kind.Kind.{Kind}
use Rattle.form_names.specs.declared.kind.Kind.TheVariants.{Symbol}
use Rattle.form_names.specs.declared.restriction.Restriction.{Restriction}
use Rattle.form_names.specs.Names.{Entry, kind_at}

abbrev pub largest_exponent : ℕ
largest_exponent = 1000000000

abbrev pub unrestricted : Restriction
unrestricted = record { least = neg_ℤ (pos largest_exponent); most = pos largest_exponent }

-- that of a symbol, none for another name
abbrev pub restriction_of : Kind → Option Restriction
restriction_of Symbol = Some unrestricted
restriction_of _ = None

abbrev pub restriction_at : List Entry → ℕ → Option Restriction
restriction_at entries id = option_and_then restriction_of (kind_at entries id)
