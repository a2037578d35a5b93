-- What fractions within their weights add up to.
use Rattle.std.proofs.Common.{◌≡◌, List}
use Rattle.std.specs.Prelude.{Some, map}
use Rattle.std.specs.List.{AllByRecursion}
use Rattle.std.specs.List.Sorted.{IsPermutation}
use Rattle.form_frac.specs.Fraction.{Fraction, multiply, negate}
use Rattle.form_frac.specs.Weight.{Weight, IsWeight, IsSum, times, product, products}

pub record WeightLaws : Type 0 where
  pub moved : (w : Weight) (x : Fraction) (fs gs : List Fraction) → IsPermutation fs gs → IsSum w x fs → IsSum w x gs
  pub paired : (a b c : Weight) (x y : Fraction) (fs gs : List Fraction) → IsWeight a → IsWeight b → times a b ≡ Some c → IsSum a x fs → IsSum b y gs
      → IsWeight c × (multiply x y ≡ Some (product x y)) × IsSum c (product x y) (products fs gs)
  pub each : (a b c : Weight) (x y : Fraction) (fs gs : List Fraction) → IsWeight a → IsWeight b → times a b ≡ Some c → IsSum a x fs → IsSum b y gs
      → AllByRecursion (λ f. AllByRecursion (λ g. multiply f g ≡ Some (product f g)) gs) fs
  pub negated : (w : Weight) (x : Fraction) (fs : List Fraction) → IsSum w x fs → IsSum w (negate x) (map negate fs)
