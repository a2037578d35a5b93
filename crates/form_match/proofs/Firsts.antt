-- The first match, by the vectors before it.
use Rattle.std.proofs.Common.{◌≡◌, ℕ, Bool, List, [], ◌∷◌, All, Option, Some, None, refl, ap, subst, ◌∙◌}
use Rattle.std.specs.Option.{option_or}
use Rattle.std.proofs.lemmas.List.Elements.{All-nil, All-cons}
use Rattle.form_term.specs.Term.{Term}
use Rattle.form_term.specs.declared.piece.Piece.{Piece}
use Rattle.form_tree.specs.Pattern.{Factors}
use Rattle.form_match.specs.First.{IsFirst, IsNoMatch}
use Rattle.form_match.specs.Matching.{Choice, first_of, first_some, match_of, outer, vectors}
use Rattle.form_match.specs.declared.matching.Match.{Match}

first : (vs : List (List Choice)) (m : Match) → first_some match_of vs ≡ Some m → IsFirst vs m
first [] m is = cc
first (v ∷ vs) m is = by (match_of v) refl (λ later. first vs m later)
  where
    by : (o : Option Match) → match_of v ≡ o → (first_some match_of vs ≡ Some m → IsFirst vs m) → IsFirst (v ∷ vs) m
    by None at rest =
        let l = rest (subst (λ (o : Option Match). option_or o (first_some match_of vs) ≡ Some m) at is) in
        record {
          before = v ∷ l.before;
          vector = l.vector;
          after = l.after;
          parts = ap (λ (ws : List (List Choice)). v ∷ ws) l.parts;
          matches = l.matches;
          none_before = All-cons IsNoMatch v l.before at l.none_before;
        }
    by (Some n) at rest =
        let same : Some n ≡ Some m = subst (λ (o : Option Match). option_or o (first_some match_of vs) ≡ Some m) at is in
        record { before = []; vector = v; after = vs; parts = refl; matches = at ∙ same; none_before = All-nil IsNoMatch }

none : (vs : List (List Choice)) → first_some match_of vs ≡ None → All IsNoMatch vs
none [] is = All-nil IsNoMatch
none (v ∷ vs) is = by (match_of v) refl (λ later. none vs later)
  where
    by : (o : Option Match) → match_of v ≡ o → (first_some match_of vs ≡ None → All IsNoMatch vs) → All IsNoMatch (v ∷ vs)
    by None at rest = All-cons IsNoMatch v vs at (rest (subst (λ (o : Option Match). option_or o (first_some match_of vs) ≡ None) at is))
    by (Some n) at rest = let never : Some n ≡ None = subst (λ (o : Option Match). option_or o (first_some match_of vs) ≡ None) at is in cc

pub some_first : (table : List (Option (List Piece))) (fs : Factors) (t : Term) (cuts : List ℕ) (is_exact : Bool) (m : Match)
    → first_of table fs t cuts is_exact ≡ Some m → IsFirst (vectors table fs (outer t cuts is_exact)) m
unfolding first_of
some_first table fs t cuts is_exact m is = first (vectors table fs (outer t cuts is_exact)) m is

pub none_first : (table : List (Option (List Piece))) (fs : Factors) (t : Term) (cuts : List ℕ) (is_exact : Bool)
    → first_of table fs t cuts is_exact ≡ None → All IsNoMatch (vectors table fs (outer t cuts is_exact))
unfolding first_of
none_first table fs t cuts is_exact is = none (vectors table fs (outer t cuts is_exact)) is
