-- A sum that is made anew each time, as a list of a product.
use Rattle.form_expand.specs.declared.again.Again.TheInside.{Inside}
use Rattle.form_expand.specs.Depths.{product_depth}
use Rattle.form_expand.specs.Inner.{Inner}
use Rattle.form_expand.specs.Streams.{stream_left, stream_whole}

abbrev pub inner_of : Inside → Inner
inner_of a = record { whole = stream_whole a.stream; left = stream_left a.stream; depth = product_depth a.stream.product }
