-- Inputs that were read at once.
use Rattle.std.specs.Prelude.{◌≡◌, ◌<◌, ◌++◌, List, length, Err}
use Rattle.form_term.specs.declared.monomial.Monomial.{Monomial}
use Rattle.form_expand.specs.Listing.{Listing, nothing}
use Rattle.form_expand.specs.Next.{Gives}
use Rattle.form_module.specs.declared.inputs.Batch.{Batch}
use Rattle.form_module.specs.declared.inputs.BatchEnd.{BatchEnd}
use Rattle.form_module.specs.declared.inputs.BatchEnd.TheVariants.{More, Done, Failed}

-- a list behind terms
abbrev pub behind : List Monomial → Listing → Listing
behind ms l = record { terms = ms ++ l.terms; end = l.end }

-- what is left of the inputs behind a batch, by its end
abbrev pub Ends : BatchEnd → Listing → Listing → Type 0
Ends More left new = left ≡ new
Ends Done left new = (left ≡ nothing) × (new ≡ nothing)
Ends (Failed error) left new = Gives (Err error) left new

-- where there may be more, some were read
abbrev pub HasSome : BatchEnd → List Monomial → Type 0
HasSome More ms = 0 < length ms
HasSome Done ms = Unit {0}
HasSome (Failed error) ms = Unit {0}

pub record IsBatch (b : Batch) (old new : Listing) : Type 0 where
  pub left : Listing
  pub whole : old ≡ behind b.items.items left
  pub ends : Ends b.end left new
  pub some : HasSome b.end b.items.items
