-- Where the search begins: at the first candidate of the first piece, and where there is none, nothing is found.
use Rattle.std.proofs.Common.{◌≡◌, ◌≢◌, ℕ, ◌<◌, List, [], ◌∷◌, Option, Some, None, refl, sym, ap, subst, ◌∙◌, append-nil, arith}
use Rattle.form_term.specs.declared.piece.Piece.{Piece}
use Rattle.form_tree.specs.declared.pattern.PatternPiece.{PatternPiece}
use Rattle.form_tree.specs.declared.pattern.PatternPiece.TheVariants as pieces
use Rattle.form_match.specs.declared.places.Frame.TheVariants as frames
use Rattle.form_match.specs.declared.trail.Choice.{Choice}
use Rattle.form_match.specs.declared.trail.Taken.{Taken}
use Rattle.form_match.specs.Candidates.{candidates}
use Rattle.form_match.specs.Factors.{IsFirstCandidate}
use Rattle.form_match.specs.Matching.{Host}
use Rattle.form_match.specs.Places.{Ground}
use Rattle.form_match.specs.Running.{IsCandidateOf, IsRunning, ahead}
use Rattle.form_match.specs.States.{factors, first_found, reach, start}
use Rattle.form_bindings.specs.Values.{Binding}
use Rattle.form_match.proofs.Factoring.{factor_candidate}
use Rattle.form_match.proofs.Reaching.{reach_first, reach_none}
use Rattle.form_match.proofs.Running.{from_first}
use Rattle.form_match.proofs.Trying.{next_fits, none_fits}

module _ (table : List (Option (List Piece))) (h : Host) where
  no_end : (p : PatternPiece) (c : ℕ) → c < candidates h p → p ≢ pieces.EndOfProduct
  no_end p c some is = let none : candidates h p ≡ 0 = ap (candidates h) is in omega (arith, some, none)

  -- there is no first candidate
  pub never_begins : (ps : List PatternPiece) → IsFirstCandidate None h ps → first_found (reach table ps (start h)) ≡ None
  never_begins [] none = cc
  never_begins (pieces.EndOfProduct ∷ ps) none = ap first_found (reach_first table pieces.EndOfProduct ps (start h))
  never_begins (p ∷ ps) none = ap first_found (from_first table (p ∷ ps) (factors h [] ∷ []) [] ∙ none_fits h [] [] [] table ps p (λ e. cc) 0 none)

  -- what is found from the first one on is what is found
  begins_there : (ps : List PatternPiece) (c : ℕ) → IsFirstCandidate (Some c) h ps → (reach table ps (start h) ≡ ahead table ps (factors h [] ∷ []) [] c) × IsCandidateOf ps (factors h [] ∷ []) c
  begins_there [] c first = (reach_none table (start h), tt)
  begins_there (p ∷ ps) c first =
      (from_first table (p ∷ ps) (factors h [] ∷ []) [] ∙ next_fits h [] [] [] table ps p (no_end p c first.1) 0 c first, factor_candidate h p (factors h [] ∷ []) c first.1)

pub begins : (table : List (Option (List Piece))) (ps : List PatternPiece) (h : Host) (c : ℕ) → IsFirstCandidate (Some c) h ps → (g : Ground) (ts : List Taken) (bs : List Binding) (choices : List Choice)
    → g ≡ record { outer = h; inners = [] } → ts ≡ [] → bs ≡ [] → choices ≡ []
    → IsRunning table ps (first_found (reach table ps (start g.outer))) g ts bs choices (record { piece = 0; candidate = c; frame = frames.Factors 0 })
begins table ps h c first g ts bs choices ground takes bindings none =
    subst (λ (x : Ground). IsRunning table ps (first_found (reach table ps (start x.outer))) x ts bs choices (record { piece = 0; candidate = c; frame = frames.Factors 0 })) (sym ground)
    (subst (λ (x : List Taken). IsRunning table ps (first_found (reach table ps (start h))) (record { outer = h; inners = [] }) x bs choices (record { piece = 0; candidate = c; frame = frames.Factors 0 })) (sym takes)
    (subst (λ (x : List Binding). IsRunning table ps (first_found (reach table ps (start h))) (record { outer = h; inners = [] }) [] x choices (record { piece = 0; candidate = c; frame = frames.Factors 0 })) (sym bindings)
    (record {
      opens = factors h [] ∷ [];
      stands = ((refl, tt, omega arith, refl), λ n. (refl, λ later. refl));
      candidate = (begins_there table h ps c first).1;
      finds = record { trail = []; left = none; finds = ap first_found ((begins_there table h ps c first).0 ∙ sym (append-nil (ahead table ps (factors h [] ∷ []) [] c))) };
    })))
