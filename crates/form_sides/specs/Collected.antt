-- What the list of a right side collects to.
use Rattle.std.specs.Prelude.{◌≡◌, List, Some, None}
use Rattle.form_term.specs.declared.monomial.Monomial.{Monomial}
use Rattle.form_collect.specs.Collecting.{collected}
use Rattle.form_expand.specs.Listing.{Listing}

-- it isn't refused, and collects to these terms
abbrev pub HasTerms : Listing → List Monomial → Type 0
HasTerms l terms = (l.end ≡ None) × (collected l.terms ≡ Some terms)
