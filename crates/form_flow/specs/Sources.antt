-- What comes of a term, one by one, and what a statement does with a term.
use Rattle.std.specs.Prelude.{◌≡◌, Result, Ok, Err}
use Rattle.form_expand.specs.declared.error.ExpandError.{ExpandError}
use Rattle.form_expand.specs.declared.error.ExpandError.TheVariants.{Refused, Memory}
use Rattle.form_expand.specs.Listing as listing
use Rattle.form_expand.specs.Listing.{Listing, nothing}
use Rattle.form_expand.specs.Walks.{all_of}
use Rattle.form_flow.specs.declared.effect.Effect.{Effect}
use Rattle.form_flow.specs.declared.effect.Effect.TheVariants as effect
use Rattle.form_flow.specs.declared.effect.Expanded.{Expanded}
use Rattle.form_flow.specs.declared.effect.Source.{Source}
use Rattle.form_flow.specs.declared.effect.Source.TheVariants as source
use Rattle.form_flow.specs.declared.effect.Times.{Times}
use Rattle.form_flow.specs.declared.summing.Numbers.{Numbers}
use Rattle.form_flow.specs.Multiplying.{multiplied_by}
use Rattle.form_flow.specs.Outcome.{Outcome, gone, made, refusal, unchanged}
use Rattle.form_flow.specs.Statements.{summed_over}

-- what is left of products with each term of a list
abbrev pub products_left : Times → Listing
products_left t = multiplied_by t.side (all_of t.list.now) t.item

-- what is left of products with each term of a right side
abbrev pub expanded_left : Expanded → Listing
expanded_left e = multiplied_by e.side e.list e.item

-- what is left of the values that an index takes
abbrev pub numbers_left : Numbers → Listing
numbers_left n = summed_over n.index n.values.now n.item

-- what is left of a source
unfoldable pub listed : Source → Listing
listed (source.Times t) = products_left t
listed (source.Expanded e) = expanded_left e.value
listed (source.Row row) = row.value
listed (source.Numbers n) = numbers_left n

-- what a statement has done with a term
abbrev pub HasEffect : Result Effect ExpandError → Outcome → Type 0
HasEffect (Ok (effect.None m)) o = o ≡ unchanged m
HasEffect (Ok (effect.One m)) o = o ≡ made (listing.single m)
HasEffect (Ok effect.Nothing) o = o ≡ made nothing
HasEffect (Ok (effect.Source s)) o = o ≡ made (listed s)
HasEffect (Ok effect.Discarded) o = o ≡ gone
HasEffect (Err (Refused cause)) o = o ≡ refusal cause
HasEffect (Err Memory) o = Unit {0}
