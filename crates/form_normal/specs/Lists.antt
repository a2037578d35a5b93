-- Lists in order, and products of dot products.
use Rattle.std.specs.Prelude.{ℕ, ℤ, pos, ◌+ℤ◌, ◌==◌, ◌&&◌, nat_abs, nat_lt, List, [], ◌∷◌, if◌then◌else◌}
use Rattle.std.specs.Ordering.{is_gt, match_ordering}
use Rattle.std.specs.declared.cmp.Ordering.{Ordering}
use Rattle.form_term.specs.declared.power.DotPower.{DotPower}
use Rattle.form_term.specs.Term.{pair_order}

-- an element put among others that are in order
abbrev pub put_in : {A : Type 0} → (A → A → Ordering) → A → List A → List A
put_in cmp x [] = x ∷ []
put_in cmp x (y ∷ ys) = if is_gt (cmp x y) then y ∷ put_in cmp x ys else x ∷ y ∷ ys

-- The elements of a list, in order.
unfoldable pub in_order : {A : Type 0} → (A → A → Ordering) → List A → List A
in_order cmp [] = []
in_order cmp (x ∷ xs) = put_in cmp x (in_order cmp xs)

-- the product of two powers of one dot product
abbrev pub joined_dots : DotPower → DotPower → DotPower
joined_dots d e = record { left = d.left; right = d.right; exponent = d.exponent +ℤ e.exponent }

-- a power before others, which vanishes where its exponent is 0
abbrev pub before_others : DotPower → List DotPower → List DotPower
before_others d ds = if nat_lt 0 (nat_abs d.exponent) then d ∷ ds else ds

-- a power of a dot product times others that stand in the order of their pairs
abbrev pub times_dot : DotPower → List DotPower → List DotPower
times_dot d [] = d ∷ []
times_dot d (e ∷ es) = match_ordering (pair_order d e) (d ∷ e ∷ es) (before_others (joined_dots d e) es) (e ∷ times_dot d es)

-- The product of powers of dot products: by their pairs, with the sum of the exponents at each.
unfoldable pub dots_product : List DotPower → List DotPower
dots_product [] = []
dots_product (d ∷ ds) = times_dot d (dots_product ds)

-- the exponent of a pair of vectors in a product of these powers: the sum of its exponents
abbrev pub exponent_at : List DotPower → ℕ → ℕ → ℤ
exponent_at [] p q = pos 0
exponent_at (d ∷ ds) p q = (if d.left == p && d.right == q then d.exponent else pos 0) +ℤ exponent_at ds p q
