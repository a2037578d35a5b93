-- The first match is that of the first state that the pieces of the pattern lead to.
use Rattle.std.proofs.Common.{◌≡◌, ℕ, Bool, true, false, if◌then◌else◌, List, [], ◌∷◌, Option, Some, None, option_map, option_and_then, refl, sym, ap, ◌∙◌}
use Rattle.std.specs.Prelude.{fold}
use Rattle.std.specs.List.{filter_map, cons_option}
use Rattle.std.specs.Option.{option_or}
use Rattle.form_term.specs.declared.piece.Piece.{Piece}
use Rattle.form_term.specs.Term.{Term}
use Rattle.form_tree.specs.Pattern.{Factors, pieces_of_factors}
use Rattle.form_match.specs.Learning.{learnt}
use Rattle.form_bindings.specs.Learning.{and_bound}
use Rattle.form_match.specs.Matching.{Host, Choice, are_apart, uses_of, asks_of, bindings_of, match_of, first_some, first_of, vectors, outer}
use Rattle.form_match.specs.States.{factors, state, start, first_found, reach}
use Rattle.form_bindings.specs.Values.{Binding}
use Rattle.form_match.proofs.Reaching.{of_factors, after_vector, apart_alone}

abbrev folded : Option (List Binding) → List Binding → Option (List Binding)
folded o asks = fold (λ bs b. option_and_then (λ made. and_bound made b) bs) o asks

folded_none : (asks : List Binding) → folded None asks ≡ None
folded_none [] = refl
folded_none (a ∷ asks) = folded_none asks

folded_some : (bs asks : List Binding) → folded (Some bs) asks ≡ learnt bs asks
folded_some bs [] = refl
folded_some bs (a ∷ asks) = by (and_bound bs a) (λ made. folded_some made asks)
  where
    by : (o : Option (List Binding)) → ((made : List Binding) → folded (Some made) asks ≡ learnt made asks) → folded o asks ≡ option_and_then (λ made. learnt made asks) o
    by None rest = folded_none asks
    by (Some made) rest = rest made

bindings_are_learnt : (asks : List Binding) → bindings_of asks ≡ learnt [] asks
unfolding bindings_of
bindings_are_learnt asks = folded_some [] asks

heads : (h : Host) (vs : List (List Choice)) → first_found (filter_map (after_vector h [] [] []) vs) ≡ first_some match_of vs
heads h [] = refl
heads h (v ∷ vs) =
    ap (λ (b : Bool). first_found (cons_option (if b then option_map (state (factors h (uses_of v) ∷ [])) (learnt [] (asks_of v)) else None) (filter_map (after_vector h [] [] []) vs))) (apart_alone (uses_of v))
    ∙ by (are_apart (uses_of v)) (learnt [] (asks_of v)) (heads h vs)
    ∙ ap (λ (o : Option (List Binding)). option_or (if are_apart (uses_of v) then option_map (λ bs. record { takes = uses_of v; bindings = bs }) o else None) (first_some match_of vs)) (sym (bindings_are_learnt (asks_of v)))
  where
    by : (b : Bool) (o : Option (List Binding)) → first_found (filter_map (after_vector h [] [] []) vs) ≡ first_some match_of vs
        → first_found (cons_option (if b then option_map (state (factors h (uses_of v) ∷ [])) o else None) (filter_map (after_vector h [] [] []) vs))
        ≡ option_or (if b then option_map (λ bs. record { takes = uses_of v; bindings = bs }) o else None) (first_some match_of vs)
    by false o rest = rest
    by true None rest = rest
    by true (Some made) rest = refl

pub first_reached : (table : List (Option (List Piece))) (fs : Factors) (t : Term) (cuts : List ℕ) (is_exact : Bool)
    → first_found (reach table (pieces_of_factors fs) (start (outer t cuts is_exact))) ≡ first_of table fs t cuts is_exact
unfolding first_of
first_reached table fs t cuts is_exact = ap first_found (of_factors table fs (outer t cuts is_exact) [] [] []) ∙ heads (outer t cuts is_exact) (vectors table fs (outer t cuts is_exact))
