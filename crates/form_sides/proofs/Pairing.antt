-- Joined terms that stand for products of others, made front by front.
use Rattle.std.proofs.Common.{◌≡◌, ℕ, zero, suc, ◌+◌, ◌<◌, ◌≤◌, List, [], ◌∷◌, ◌++◌, length, map, refl, sym, ap, subst, ◌∙◌, append-nil, append_assoc, arith}
use Rattle.std.specs.Prelude.{Option, Some, None, Result, Ok, Err, IfOk, IfSome}
use Rattle.std.specs.Global.{Vec}
use Rattle.std.proofs.lemmas.List.{nil_from_length}
use Rattle.form_term.specs.declared.monomial.Monomial.{Monomial}
use Rattle.form_collect.specs.Collecting.{collected}
use Rattle.form_expand.specs.Listing.{Listing, limited, pairs, powers}
use Rattle.form_expand.specs.Walks.{all_of}
use Rattle.form_gathered.specs.Joined.{HaveSums, IsShare, IsJoined, Stand, counted, in_row}
use Rattle.form_gathered.specs.declared.joined.JoinedTerm.{JoinedTerm}
use Rattle.form_gathered.proofs.Joining.{split, beside, moved}
use Rattle.form_joined.specs.Adding.{behind}
use Rattle.form_joined.specs.Products.{HasList, append_if, paired, singles, times_each, turned}
use Rattle.form_joined.proofs.Added.{behind_nothing, row_added, all_added}
use Rattle.form_joined.proofs.Lengths.{list_within}
use Rattle.form_joined.proofs.Paired.{some_is}
use Rattle.form_sides.specs.Collected.{HasTerms}
use Rattle.form_sides.specs.Products.{ArePaired, ArePairedSoFar, HavePairs, HavePower, HaveWithin}

-- ---- front by front

pub none_paired : (js left ks all : List JoinedTerm) → left ≡ js → all ≡ [] → ArePairedSoFar js left ks all
none_paired js left ks all e none = record {
  made = [];
  is = ap (λ (l : List JoinedTerm). paired l ks) (sym e) ∙ sym (behind_nothing (paired left ks));
  stand = λ n lists h. subst (λ l. IsJoined n l lists) (sym none) h;
}

row_made : (old row : List JoinedTerm) (each : Option (List JoinedTerm)) → append_if each (Some []) ≡ Some row → behind old each ≡ Some (old ++ row)
row_made old row (Some xs) e = ap (λ (l : List JoinedTerm). Some (old ++ l)) (sym (append-nil xs) ∙ some_is e)
row_made old row None e = absurd cc

pub front_paired : (js ks left rest row all all2 : List JoinedTerm) (j : JoinedTerm) → left ≡ j ∷ rest → paired (j ∷ []) ks ≡ Some row → Stand (all ++ row) all2 → ArePairedSoFar js left ks all
    → ArePairedSoFar js rest ks all2
unfolding paired
front_paired js ks left rest row all all2 j e made put h = record {
  made = h.made ++ row;
  is = h.is ∙ row_added j left rest ks h.made (h.made ++ row) e (row_made h.made row (times_each j ks) made);
  stand = λ n lists g.
      let s = split (IsShare n) n h.made row lists g in
      put n lists (moved (IsShare n) n (all ++ row) (λ k. s.first k ++ s.second k) lists s.whole (beside (IsShare n) n all row s.first s.second (h.stand n s.first s.left) s.right));
}

pub all_paired : (js ks left all : List JoinedTerm) → length left ≡ 0 → ArePairedSoFar js left ks all → ArePaired js ks all
all_paired js ks left all none h = record { made = h.made; is = h.is ∙ all_added left ks h.made none; stand = h.stand }

-- ---- lists

-- the law on pairs
abbrev pub PairsLaw : Type 0
PairsLaw = (n : ℕ) (js ks ls : List JoinedTerm) (lists : ℕ → List Monomial) (right : List Monomial) → IsJoined n js lists → IsJoined 1 ks (λ k. right) → paired js ks ≡ Some ls
    → ((k : ℕ) → k < n → pairs (all_of (lists k)) (all_of right) ≡ all_of ((pairs (all_of (lists k)) (all_of right)).terms))
    × IsJoined n ls (λ k. (pairs (all_of (lists k)) (all_of right)).terms)

whole_list : (l : Listing) → l.end ≡ None → l ≡ all_of l.terms
whole_list l e = λ i. record { terms = l.terms; end = e i }

pub pairs_within : PairsLaw → (max : ℕ) (js ks all : List JoinedTerm) → ArePaired js ks all → counted all ≤ max → HavePairs max js ks all
pairs_within law max js ks all p few a b g h =
    let made = law 1 js ks p.made (λ k. a.terms) b.terms g.1 h.1 p.is in
    let same : pairs a b ≡ pairs (all_of a.terms) (all_of b.terms) = λ i. pairs (whole_list a g.0 i) (whole_list b h.0 i) in
    let list : HasList (pairs a b) all = rw same (ap (λ (l : Listing). l.end) (made.0 0 (omega arith)), p.stand 1 (λ k. (pairs (all_of a.terms) (all_of b.terms)).terms) made.1) in
    list_within max all (pairs a b) list few

pub stand_within : (max : ℕ) (js all : List JoinedTerm) → Stand js all → counted all ≤ max → HaveWithin max js all
stand_within max js all stand few l h = list_within max all l (h.0, stand 1 (λ k. l.terms) h.1) few

-- what was kept within a limit
pub if_within : (r : Option (Vec JoinedTerm)) (items : List JoinedTerm) (max : ℕ) (P : List JoinedTerm → Type 0) → IfSome r (λ all. all.items ≡ items) → IfSome r (λ all. counted all.items ≤ max)
    → (counted items ≤ max → P items) → IfSome r (λ all. P all.items)
if_within None items max P same few h = tt
if_within (Some all) items max P same few h = subst P (sym same) (h (subst (λ (js : List JoinedTerm). counted js ≤ max) same few))

-- what a table of joined terms collects to
pub table_collected : (js old table : List JoinedTerm) (l : Listing) (terms : List Monomial) → old ≡ [] → HasList l js → Stand (old ++ js) table
    → ((n : ℕ) (ks : List JoinedTerm) (lists : ℕ → List Monomial) → IsJoined n ks lists → HaveSums ks (in_row n lists))
    → ((list : List Monomial) → HaveSums table list → collected list ≡ Some terms) → HasTerms l terms
table_collected js old table l terms none h stand sums made =
    let all = subst (λ (ks : List JoinedTerm). Stand (ks ++ js) table) none stand in (h.0, made l.terms (sums 1 table (λ k. l.terms) (all 1 (λ k. l.terms) h.1)))

-- ---- terms of which each is alone

pub singles_have : (list : List Monomial) (l : Listing) (js : List JoinedTerm) → js ≡ singles list → l ≡ all_of list → IsJoined 1 (singles list) (λ k. list) → HasList l js
singles_have list l js e is h = subst (λ (k : Listing). HasList k js) (sym is) (subst (HasList (all_of list)) (sym e) (refl, h))

-- ---- powers

pub first_power : (max : ℕ) (js fronts : List JoinedTerm) → fronts ≡ js → counted js ≤ max → HavePower max js 1 fronts
unfolding powers
first_power max js fronts e few l h = subst (HasList (limited max l)) (sym e) (list_within max js l h few)

pub next_power : (max n : ℕ) (js fronts all : List JoinedTerm) → 1 ≤ n → HavePower max js n fronts → HavePairs max fronts js all → HavePower max js (n + 1) all
unfolding powers
next_power max zero js fronts all some p q = absurd (omega (arith, some))
next_power max (suc m) js fronts all some p q = λ l h. let e : suc m + 1 ≡ suc (suc m) = omega arith in rw e (q (powers max l (suc m)) l (p l h) h)

-- a power of a list
pub power_of : {E : Type 0} (r : Result (Option (Vec JoinedTerm)) E) (max n : ℕ) (js : List JoinedTerm) (l : Listing) → HasList l js
    → IfOk r (λ made. IfSome made (λ all. HavePower max js n all.items)) → IfOk r (λ made. IfSome made (λ all. HasList (powers max l n) all.items))
power_of (Ok (Some all)) max n js l h p = p l h
power_of (Ok None) max n js l h p = tt
power_of (Err e) max n js l h p = tt

-- ---- signs

pub one_turned : (whole made rest left new : List JoinedTerm) (j k : JoinedTerm) → left ≡ j ∷ rest → new ≡ made ++ k ∷ [] → k ≡ turned j → whole ≡ made ++ map turned left → whole ≡ new ++ map turned rest
one_turned whole made rest left new j k e f same h =
    h ∙ ap (λ (l : List JoinedTerm). made ++ map turned l) e ∙ ap (λ (i : JoinedTerm). made ++ i ∷ map turned rest) (sym same)
    ∙ sym (append_assoc made (k ∷ []) (map turned rest)) ∙ ap (λ (l : List JoinedTerm). l ++ map turned rest) (sym f)

pub all_turned : (whole made left : List JoinedTerm) → length left ≡ 0 → whole ≡ made ++ map turned left → made ≡ whole
all_turned whole made left none h = sym (h ∙ ap (λ (l : List JoinedTerm). made ++ map turned l) (nil_from_length left none) ∙ append-nil made)
