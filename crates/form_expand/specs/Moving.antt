-- That terms are taken leaves fewer.
use Rattle.std.specs.Prelude.{◌<◌, length, Option, Some, None, Result, Ok, Err}
use Rattle.form_term.specs.declared.monomial.Monomial.{Monomial}
use Rattle.form_expand.specs.declared.error.ExpandError.{ExpandError}
use Rattle.form_expand.specs.Listing.{Listing}

-- where a term was given fewer are left
abbrev pub Lessens : Result (Option Monomial) ExpandError → Listing → Listing → Type 0
Lessens (Ok (Some m)) old new = length new.terms < length old.terms
Lessens (Ok None) old new = Unit {0}
Lessens (Err e) old new = Unit {0}
