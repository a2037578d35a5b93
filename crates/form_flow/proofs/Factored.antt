-- What holds of the factors of a term with other indices and functions.
use Rattle.std.proofs.Common.{◌≡◌, Bool, true, false, cond, List, [], ◌∷◌, refl, ap}
use Rattle.std.specs.Prelude.{All}
use Rattle.std.specs.List.{AllByRecursion}
use Rattle.std.specs.Ordering.{is_gt, ordering_reverse}
use Rattle.std.specs.declared.cmp.Ordering.{Ordering}
use Rattle.std.specs.declared.cmp.Ordering.TheVariants.{Less, Equal, Greater}
use Rattle.std.proofs.lemmas.List.Elements.{All-from_recursion, All-map}
use Rattle.form_normal.specs.Factors.{AreEachLawful, IsProductive}
use Rattle.form_term.specs.contracts.index.IndexOrd.TheImpl.Laws as index_laws
use Rattle.form_term.specs.declared.index.Delta.{Delta}
use Rattle.form_term.specs.declared.index.Index.{Index}
use Rattle.form_term.specs.Factor.{delta_of}
use Rattle.form_term.specs.declared.power.Power.{Power}
use Rattle.form_term.specs.Term.{Call, IsCall, IsTerm, Others, Term, index_order}
use Rattle.form_term.specs.Terms.{term}
use Rattle.form_flow.specs.Indices.{renamed_delta, with_factors}

pub is_productive : (t : Term) → IsTerm t → IsProductive t.symbols
is_productive t h = record { rising = h.rising; present = h.present; in_range = h.in_range }

-- ---- deltas have the lesser index first

turned_back : (o p : Ordering) → p ≡ ordering_reverse o → is_gt o ≡ true → is_gt p ≡ false
turned_back Less p e h = cc
turned_back Equal p e h = cc
turned_back Greater p e h = ap is_gt e

abbrev IsTurned : Delta → Type 0
IsTurned d = is_gt (index_order d.first d.second) ≡ false

delta_turned : (i j : Index) → IsTurned (delta_of i j)
delta_turned i j = at (is_gt (index_order i j)) refl
  where
    at : (b : Bool) → is_gt (index_order i j) ≡ b → IsTurned (cond b (record { first = j; second = i }) (record { first = i; second = j }))
    at true e = turned_back (index_order i j) (index_order j i) (index_laws.total-law.antisymm j i) e
    at false e = e

each_turned : (by : Index → Index) (ds : List Delta) → AllByRecursion (λ d. IsTurned (renamed_delta by d)) ds
each_turned by [] = tt
each_turned by (d ∷ ds) = (delta_turned (by d.first) (by d.second), each_turned by ds)

pub each_lawful : (by : Index → Index) (t : Term) (fs ws : List Call) → IsTerm t → All IsCall fs → All IsCall ws → AreEachLawful (with_factors by t fs ws).others
each_lawful by t fs ws h functions word = record {
  dots_present = h.others.dots_present;
  dots_turned = h.others.dots_turned;
  deltas_turned = All-map IsTurned (renamed_delta by) t.others.deltas (All-from_recursion (λ (d : Delta). IsTurned (renamed_delta by d)) t.others.deltas (each_turned by t.others.deltas));
  functions = functions;
  word = word;
}

-- the factors of a term, with other functions
pub with_lawful : (o : Others) (ps : List Power) (fs ws : List Call) → IsTerm (term ps o) → All IsCall fs → All IsCall ws → AreEachLawful (record o { functions = fs; word = ws })
with_lawful o ps fs ws h functions word = record {
  dots_present = h.others.dots_present;
  dots_turned = h.others.dots_turned;
  deltas_turned = h.others.deltas_turned;
  functions = functions;
  word = word;
}
