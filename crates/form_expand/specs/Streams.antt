-- What is left of a sum whose products are gone through one after the other.
use Rattle.std.specs.Prelude.{◌-◌}
use Rattle.form_term.specs.declared.monomial.Monomial.{Monomial}
use Rattle.form_expand.specs.declared.stream.Stream.{Stream}
use Rattle.form_expand.specs.Listing.{Listing, before, limited, followed, signed}
use Rattle.form_expand.specs.Products.{product_left}
use Rattle.form_expand.specs.Reading.{list_of_pieces}

abbrev pub stream_whole : Stream → Listing
stream_whole s = list_of_pieces s.scope.limit s.scope.names.now s.pieces.now

-- where this is left of the product at hand
abbrev pub left_with : Stream → Listing → Listing
left_with s product = limited (s.scope.limit - s.given) (followed (signed s.is_minus product) (list_of_pieces s.scope.limit s.scope.names.now s.rest.now))

unfoldable pub stream_left : Stream → Listing
stream_left s = left_with s (product_left s.scope.limit s.product)

-- a term that was taken from the product at hand, and then what is left of it
unfoldable pub stream_before : Monomial → Stream → Listing
stream_before m s = left_with s (before m (product_left s.scope.limit s.product))
