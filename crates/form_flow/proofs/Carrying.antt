-- Outputs that are given to one who takes them.
use Rattle.std.proofs.Common.{◌≡◌, List, [], ◌∷◌, ◌++◌, Option, Some, Ok, sym, ap, subst, ◌∙◌, append_assoc}
use Rattle.form_term.specs.declared.monomial.Monomial.{Monomial}
use Rattle.form_expand.specs.Listing.{Listing, before}
use Rattle.form_expand.specs.Next.{Gives}
use Rattle.form_flow.specs.Answers.{IsFront}

pub gives_some : (r : Option Monomial) (m : Monomial) (old new : Listing) → r ≡ Some m → Gives (Ok r) old new → old ≡ before m new
gives_some r m old new e h = subst (λ (o : Option Monomial). Gives (Ok o) old new) e h

-- a front of a list was emitted, and this is left of it
pub record HasCarried (old : List Monomial) (whole : Listing) (new : List Monomial) (left : Listing) : Type 0 where
  pub front : List Monomial
  pub emitted : new ≡ old ++ front
  pub terms : whole.terms ≡ front ++ left.terms
  pub end : whole.end ≡ left.end

pub one_more : (old new next : List Monomial) (l left rest : Listing) (m : Monomial) → HasCarried old l new left → left ≡ before m rest → next ≡ new ++ m ∷ []
    → HasCarried old l next rest
one_more old new next l left rest m h gives put = record {
  front = h.front ++ m ∷ [];
  emitted = put ∙ ap (λ ms. ms ++ m ∷ []) h.emitted ∙ append_assoc old h.front (m ∷ []);
  terms = h.terms ∙ ap (λ (x : Listing). h.front ++ x.terms) gives ∙ sym (append_assoc h.front (m ∷ []) rest.terms);
  end = h.end ∙ ap (λ (x : Listing). x.end) gives;
}

pub a_front : (old new kept : List Monomial) (l left : Listing) → HasCarried old l new left → kept ≡ new → IsFront old l kept
a_front old new kept l left h same = record { front = h.front; rest = left.terms; terms = h.terms; emitted = same ∙ h.emitted }
