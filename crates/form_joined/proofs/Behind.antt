-- A list so many times behind a joined term, by its power.
use Rattle.std.proofs.Common.{◌≡◌, ℕ, zero, suc, ◌+◌, ◌*◌, ◌^◌, ◌<◌, ◌≤◌, List, [], ◌∷◌, length, map, replicate, append-nil, refl, ap, sym, subst, ◌∙◌, arith}
use Rattle.std.specs.Prelude.{Some, None}
use Rattle.std.specs.List.{AllByRecursion, flat_map}
use Rattle.std.proofs.Math.Nat.{le-mul_of_pos_right, le_trans, mul-le-mul_left, mul-le-mul_right, mul_assoc, one-le-pow, one-mul, pow-succ'}
use Rattle.std.proofs.lemmas.Nat.Gcd.{le_of_dvd}
use Rattle.form_frac.specs.Fraction.{Fraction}
use Rattle.form_frac.specs.Weight.{Weight, IsWeight, IsSum}
use Rattle.form_frac.proofs.Sums.{Fits, each_fits}
use Rattle.form_term.specs.Term.{Term}
use Rattle.form_term.specs.declared.monomial.Monomial.{Monomial}
use Rattle.form_expand.specs.Left.{row_behind}
use Rattle.form_expand.specs.Listing.{Listing, single, limited, pairs}
use Rattle.form_expand.specs.Walks.{all_of}
use Rattle.form_reach.specs.declared.reach.Reach.{Reach}
use Rattle.form_reach.specs.Reach.{IsInLimits, IsUnder, StaysWithin, both}
use Rattle.form_reach.specs.Rows.{AreFineOften, crossed_often}
use Rattle.form_reach.proofs.Often.{behind_power, fine_more, often_more}
use Rattle.form_gathered.specs.Joined.{Share, IsShare, IsJoined, Stand, members, share_members, in_row}
use Rattle.form_gathered.specs.declared.joined.JoinedTerm.{JoinedTerm}
use Rattle.form_gathered.proofs.Joining.{moved}
use Rattle.form_gathered.proofs.Shuffled.{same_list, all_joined, all_moved}
use Rattle.form_joined.specs.Goes.{Goes, each_on}
use Rattle.form_joined.specs.Powers.{IsPower, HasRoom}
use Rattle.form_joined.specs.Products.{paired, singles}
use Rattle.form_joined.proofs.Crossed.{made_with, crossed, pairs_fine}
use Rattle.form_joined.proofs.Lengths.{limited_within, length_pairs}
use Rattle.form_joined.proofs.Mapped.{flat_map_same, all_weaker, all_in_row}
use Rattle.form_joined.proofs.Members.{with}
use Rattle.form_joined.proofs.Paired.{one_right, paired_crossed}
use Rattle.form_joined.proofs.Weighed.{WeightLaws}

-- ---- the coefficients that a joined term stands for

abbrev IsMember : JoinedTerm → Monomial → Type 0
IsMember j m = (m.term ≡ j.term) × IsUnder j.weight m.coefficient

module _ (w : Weight) (is : IsWeight w) where
  under_from : (f : Fraction) → Fits w.denominator w.size f → IsUnder w f
  under_from f h = record { lowest = h.lowest; below = le_of_dvd is.is_over_some h.divided; above = h.small }

  all_under : (x : Fraction) (fs : List Fraction) → IsSum w x fs → AllByRecursion (IsUnder w) fs
  all_under x fs s = all_weaker (Fits w.denominator w.size) (IsUnder w) under_from fs (each_fits w.denominator w.size fs is.is_over_some s.lowest s.divided s.sizes)

members_under : (j : JoinedTerm) (cs : List Fraction) → AllByRecursion (IsUnder j.weight) cs → AllByRecursion (IsMember j) (members j.term cs)
members_under j [] h = tt
members_under j (c ∷ cs) h = ((refl, h.0), members_under j cs h.1)

share_under : (n k : ℕ) → k < n → (s : Share) → IsShare n s → AllByRecursion (IsMember s.joined) (share_members k s)
share_under n k below s h =
    members_under s.joined (s.parts k) (all_in_row (IsUnder s.joined.weight) n k s.parts below (all_under s.joined.weight h.sum.in_range s.joined.sum (in_row n s.parts) h.sum.total))

shares_under : (n k : ℕ) → k < n → (j : JoinedTerm) (ss : List Share) → map (λ s. s.joined) ss ≡ j ∷ [] → AllByRecursion (IsShare n) ss → AllByRecursion (IsMember j) (flat_map (share_members k) ss)
shares_under n k below j [] e all = absurd cc
shares_under n k below j (s ∷ []) e all =
    let same : s.joined ≡ j = cc in
    all_joined (IsMember j) (share_members k s) [] (subst (λ (i : JoinedTerm). AllByRecursion (IsMember i) (share_members k s)) same (share_under n k below s all.0)) tt
shares_under n k below j (s ∷ r ∷ ss) e all = absurd cc

list_under : (n k : ℕ) → k < n → (j : JoinedTerm) (lists : ℕ → List Monomial) → IsJoined n (j ∷ []) lists → AllByRecursion (IsMember j) (lists k)
list_under n k below j lists h = all_moved (IsMember j) (flat_map (share_members k) h.shares) (lists k) (h.whole k below) (shares_under n k below j h.shares h.joined h.each)

-- ---- a row of one list

-- one factor makes no more than all of them
one_of : (a len n max : ℕ) → a * len ^ suc n ≤ max → a * len ≤ max
one_of a zero n max h = omega arith
one_of a (suc l) n max h =
    let some = one-le-pow n (suc l) (omega arith) in
    let once : suc l ≤ suc l * suc l ^ n = le-mul_of_pos_right (suc l) (omega (arith, some)) in
    le_trans (mul-le-mul_left a once) (subst (λ (p : ℕ). a * p ≤ max) (pow-succ' (suc l) n) h)

module _ (max : ℕ) (list : List Monomial) where
  pub row_often : (n : ℕ) (ms : List Monomial) → length ms * length list ^ n ≤ max → AreFineOften n ms list
      → row_behind max (all_of ms) (replicate n (all_of list)) ≡ all_of (crossed_often n ms list)
  unfolding row_behind
  row_often zero ms short fine = refl
  row_often (suc n) ms short fine =
      let len = length list in
      let pair = pairs_fine ms list fine.0 in
      let few = length_pairs (all_of ms) (all_of list) in
      let same = ap (λ (l : Listing). length l.terms) pair in
      let one = one_of (length ms) len n max short in
      let within : limited max (pairs (all_of ms) (all_of list)) ≡ all_of (crossed ms list) = limited_within max (pairs (all_of ms) (all_of list)) (omega (arith, few, one)) ∙ pair in
      let less = mul-le-mul_right (len ^ n) (let fewer : length (crossed ms list) ≤ length ms * len = omega (arith, same, few) in fewer) in
      let rest : length ms * len * len ^ n ≤ max = subst (λ (p : ℕ). p ≤ max) (ap (λ (p : ℕ). length ms * p) (pow-succ' len n) ∙ sym (mul_assoc (length ms) len (len ^ n))) short in
      ap (λ (l : Listing). row_behind max l (replicate n (all_of list))) within
      ∙ row_often n (crossed ms list) (le_trans less rest) fine.1

module _ (laws : WeightLaws) (max n : ℕ) (j : JoinedTerm) (list : List Monomial) (ps made : List JoinedTerm) where
  abbrev row : Fraction → Listing
  row c = row_behind max (single (with c j.term)) (replicate (suc n) (all_of list))

  abbrev power : List Monomial
  power = crossed_often n list list

  module _ (is : IsPower list n ps) (room : HasRoom (suc n) list j) (short : length list ^ suc n ≤ max) where
    row_is : (c : Fraction) → IsUnder j.weight c → row c ≡ all_of (made_with power (with c j.term))
    row_is c under =
        let m = with c j.term in
        let behind = behind_power n room.front room.factor (m ∷ []) list (room.within c under, tt) room.each room.right room.stays is.fine in
        row_often max list (suc n) (m ∷ []) (subst (λ (p : ℕ). p ≤ max) (sym (one-mul (length list ^ suc n))) short) behind.0
        ∙ ap all_of (sym behind.2 ∙ append-nil (made_with power m))

    ended : (ms : List Monomial) → AllByRecursion (IsMember j) ms → AllByRecursion (λ m. (row m.coefficient).end ≡ None) ms
    ended [] h = tt
    ended (m ∷ ms) h = (ap (λ (l : Listing). l.end) (row_is m.coefficient h.0.1), ended ms h.1)

    each : (ms : List Monomial) → AllByRecursion (IsMember j) ms → crossed ms power ≡ each_on (λ m. row m.coefficient) ms
    each ms h = flat_map_same (made_with power) (λ m. (row m.coefficient).terms) ms (all_weaker (IsMember j) (λ m. made_with power m ≡ (row m.coefficient).terms) one ms h)
      where
        one : (m : Monomial) → IsMember j m → made_with power m ≡ (row m.coefficient).terms
        one m h = ap (λ (t : Term). made_with power (with m.coefficient t)) h.0 ∙ sym (ap (λ (l : Listing). l.terms) (row_is m.coefficient h.1))

    pub goes_behind : paired (j ∷ []) ps ≡ Some made → Goes (λ m. row m.coefficient) (j ∷ []) made
    goes_behind product = record {
      ended = λ i lists h k below. ended (lists k) (list_under i k below j lists h);
      made = λ i lists h.
          let c = paired_crossed laws i 1 i (λ k. k) (λ k. 0) (one_right i) (j ∷ []) ps made lists (λ k. power) h is.stand product in
          moved (IsShare i) i made (λ k. crossed (lists k) power) (λ k. each_on (λ m. row m.coefficient) (lists k))
          (λ k below. same_list _ _ (each (lists k) (list_under i k below j lists h))) c.stand;
    }

-- ---- powers

module _ (laws : WeightLaws) (n more : ℕ) (list : List Monomial) (last products next made : List JoinedTerm) where
  pub power_more : IsPower list n last → IsJoined 1 (singles list) (λ k. list) → paired last (singles list) ≡ Some products → Stand products next → made ≡ next → more ≡ n + 1 → IsPower list more made
  power_more p one product stand same further =
      let c = paired_crossed laws 1 1 1 (λ k. k) (λ k. 0) (one_right 1) last (singles list) products (λ k. crossed_often n list list) (λ k. list) p.stand one product in
      let is : IsPower list (suc n) next = record {
        fine = fine_more n list list p.fine (c.fine 0 (omega arith));
        stand = stand 1 (λ k. crossed_often (suc n) list list)
            (subst (λ (l : List Monomial). IsJoined 1 products (λ k. l)) (sym (often_more n list list)) c.stand);
      } in
      let one_more : more ≡ suc n = omega (arith, further) in
      rw (same, one_more) is

pub stays_more : (n k : ℕ) (r s more : Reach) → n ≡ suc k → more ≡ both r s → IsInLimits more → StaysWithin k more s → StaysWithin n r s
stays_more n k r s more e same limits rest =
    let here : IsInLimits (both r s) × StaysWithin k (both r s) s = subst (λ (t : Reach). IsInLimits t × StaysWithin k t s) same (limits, rest) in
    subst (λ (i : ℕ). StaysWithin i r s) (sym e) here
