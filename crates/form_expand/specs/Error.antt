-- The error of a product as one of a list.
use Rattle.form_normal.specs.declared.products.ProductError.{ProductError}
use Rattle.form_normal.specs.declared.products.ProductError.TheVariants as products
use Rattle.form_expand.specs.declared.error.ExpandError.{ExpandError}
use Rattle.form_expand.specs.declared.error.ExpandError.TheVariants.{Refused, Memory}

abbrev pub error_of : ProductError → ExpandError
error_of (products.Refused cause) = Refused cause
error_of products.Memory = Memory
