-- Joined terms that are brought together one by one.
use Rattle.std.proofs.Common.{◌≡◌, ℕ, List, [], ◌∷◌, ◌++◌, sym, ap, subst, ◌∙◌, append_assoc, append-nil}
use Rattle.std.specs.List.Sorted.{IsPermutation}
use Rattle.std.proofs.lemmas.List.Sorted.{IsPermutation-trans, IsPermutation-append_right}
use Rattle.form_term.specs.declared.monomial.Monomial.{Monomial}
use Rattle.form_gathered.specs.declared.joined.JoinedTerm.{JoinedTerm}
use Rattle.form_gathered.specs.Joined.{IsShare, IsJoined, Stand}
use Rattle.form_gathered.proofs.Joining.{split, beside, moved}

module _ (terms : List JoinedTerm) where
  pub none_added : (none left : List JoinedTerm) → none ≡ [] → left ≡ terms → Stand terms (none ++ left)
  none_added none left e f = λ n lists h. subst (λ js. IsJoined n js lists) (ap (λ l. l ++ terms) (sym e) ∙ ap (λ l. none ++ l) (sym f)) h

  pub one_added : (old new left rest : List JoinedTerm) (item : JoinedTerm) → left ≡ item ∷ rest
      → ((n : ℕ) (a b : ℕ → List Monomial) → IsJoined n old a → IsJoined n (item ∷ []) b → IsJoined n new (λ k. a k ++ b k)) → Stand terms (old ++ left) → Stand terms (new ++ rest)
  one_added old new left rest item e adds s = λ n lists h.
      let whole : IsJoined n (old ++ item ∷ rest) lists = subst (λ l. IsJoined n (old ++ l) lists) e (s n lists h) in
      let first = split (IsShare n) n old (item ∷ rest) lists whole in
      let second = split (IsShare n) n (item ∷ []) rest first.second first.right in
      let a = first.first in
      let b = second.first in
      let d = second.second in
      moved (IsShare n) n (new ++ rest) (λ k. (a k ++ b k) ++ d k) lists (λ k lt. regrouped (a k) (b k) (d k) (first.second k) (lists k) (second.whole k lt) (first.whole k lt))
      (beside (IsShare n) n new rest (λ k. a k ++ b k) d (adds n a b first.left second.left) second.right)
    where
      regrouped : (p q r s t : List Monomial) → IsPermutation (q ++ r) s → IsPermutation (p ++ s) t → IsPermutation ((p ++ q) ++ r) t
      regrouped p q r s t h g = IsPermutation-trans ((p ++ q) ++ r) (p ++ s) t (rw (append_assoc p q r) (IsPermutation-append_right p (q ++ r) s h)) g

  pub all_added : (old left all : List JoinedTerm) → left ≡ [] → all ≡ old → Stand terms (old ++ left) → Stand terms all
  all_added old left all none is s = λ n lists h. subst (λ js. IsJoined n js lists) (ap (λ l. old ++ l) none ∙ append-nil old ∙ sym is) (s n lists h)
