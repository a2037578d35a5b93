-- How long lists are: functions are no more than they count as factors, and what a `Vec` has.
use Rattle.std.proofs.Common.{◌≡◌, ◌≢◌, ◌<◌, ◌≤◌, List, [], ◌∷◌, length, map, arith, vec_len}
use Rattle.std.specs.Prelude.{Vec, sum}
use Rattle.std.specs.List.{sum_by}
use Rattle.std.proofs.lemmas.List.Sums.{sum_by-cons, sum-map}
use Rattle.std.proofs.lemmas.List.{nil_from_length}
use Rattle.form_term.specs.Term.{Call, size_of_call}

no_more : (cs : List Call) → length cs ≤ sum_by size_of_call cs
no_more [] = omega arith
no_more (c ∷ cs) = omega (arith, no_more cs, sum_by-cons size_of_call c cs)

pub lengths : (cs : List Call) → length cs ≤ sum (map size_of_call cs)
lengths cs = omega (arith, no_more cs, sum-map size_of_call cs)

pub emptied : {X Z : Type 0} (v : Vec X Z) → vec_len v ≡ 0 → v.items ≡ []
emptied v h = nil_from_length v.items (omega (arith, v.ok.0, h))

pub not_emptied : {X Z : Type 0} (v : Vec X Z) → vec_len v ≢ 0 → 0 < length v.items
not_emptied v h = omega (arith, v.ok.0, h)
