-- How a way begins, and what is brought together on it.
use Rattle.std.proofs.Common.{◌≡◌, ℕ, List, [], ◌∷◌, map, refl, ap, ◌∙◌}
use Rattle.std.specs.Prelude.{None}
use Rattle.std.specs.List.{AllByRecursion, flat_map}
use Rattle.form_frac.specs.Fraction.{Fraction}
use Rattle.form_term.specs.Term.{Term}
use Rattle.form_term.specs.declared.monomial.Monomial.{Monomial}
use Rattle.form_expand.specs.Listing.{Listing, single}
use Rattle.form_gathered.specs.Joined.{Share, IsShare, Stand, members, share_members}
use Rattle.form_gathered.specs.declared.joined.JoinedTerm.{JoinedTerm}
use Rattle.form_gathered.proofs.Joining.{moved}
use Rattle.form_gathered.proofs.Shuffled.{same_list, all_joined, all_moved}
use Rattle.form_joined.specs.Goes.{Goes, each_on}
use Rattle.form_joined.proofs.Members.{with}

-- ---- terms that a joined term stands for

one_share : (j : JoinedTerm) (ss : List Share) → map (λ s. s.joined) ss ≡ j ∷ [] → AllByRecursion (λ s. s.joined.term ≡ j.term) ss
one_share j [] e = absurd cc
one_share j (s ∷ []) e =
    let same : s.joined ≡ j = cc in
    (ap (λ (k : JoinedTerm). k.term) same, tt)
one_share j (s ∷ r ∷ ss) e = absurd cc

members_alike : (t u : Term) (cs : List Fraction) → u ≡ t → AllByRecursion (λ m. m.term ≡ t) (members u cs)
members_alike t u [] e = tt
members_alike t u (c ∷ cs) e = (e, members_alike t u cs e)

terms_alike : (t : Term) (k : ℕ) (ss : List Share) → AllByRecursion (λ s. s.joined.term ≡ t) ss → AllByRecursion (λ m. m.term ≡ t) (flat_map (share_members k) ss)
terms_alike t k [] all = tt
terms_alike t k (s ∷ ss) all =
    all_joined (λ m. m.term ≡ t) (share_members k s) (flat_map (share_members k) ss) (members_alike t s.joined.term (s.parts k) all.0) (terms_alike t k ss all.1)

-- ---- a way

each_begun : (t : Term) (ms : List Monomial) → AllByRecursion (λ m. m.term ≡ t) ms → ms ≡ each_on (λ m. single (with m.coefficient t)) ms
each_begun t [] all = refl
each_begun t (m ∷ ms) all = ap (λ (u : Term). with m.coefficient u ∷ ms) all.0 ∙ ap (λ l. with m.coefficient t ∷ l) (each_begun t ms all.1)

none_ended : (t : Term) (ms : List Monomial) → AllByRecursion (λ m. (single (with m.coefficient t)).end ≡ None) ms
none_ended t [] = tt
none_ended t (m ∷ ms) = (refl, none_ended t ms)

pub begins : (j : JoinedTerm) → Goes (λ m. single (with m.coefficient j.term)) (j ∷ []) (j ∷ [])
begins j = record {
  ended = λ n lists h k below. none_ended j.term (lists k);
  made = λ n lists h. moved (IsShare n) n (j ∷ []) lists (λ k. each_on (λ m. single (with m.coefficient j.term)) (lists k))
      (λ k below. same_list _ _ (each_begun j.term (lists k)
      (all_moved (λ m. m.term ≡ j.term) (flat_map (share_members k) h.shares) (lists k) (h.whole k below) (terms_alike j.term k h.shares (one_share j h.shares h.joined)))))
      h;
}

pub goes_together : (go : Monomial → Listing) (js ks ls : List JoinedTerm) → Goes go js ks → Stand ks ls → Goes go js ls
goes_together go js ks ls h s = record { ended = h.ended; made = λ n lists g. s n (λ k. each_on go (lists k)) (h.made n lists g) }
