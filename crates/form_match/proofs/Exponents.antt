-- Looking for the exponent of a symbol.
use Rattle.std.proofs.Common.{◌≡◌, ℕ, ◌+◌, ◌<◌, ◌≤◌, ◌==◌, Bool, cond, pos, List, ◌∷◌, length, drop, get_or, sym, ap, ◌∙◌}
use Rattle.std.proofs.lemmas.List.{drop_more, drop_all}
use Rattle.form_term.specs.declared.power.Power.{Power}
use Rattle.form_term.specs.Term.{exponent_in}

module _ (ps : List Power) (s i : ℕ) where
  pub exponent_here : (p : Power) (b : Bool) → i < length ps → p ≡ get_or ps i p → b ≡ (p.symbol == s) → exponent_in (drop i ps) s ≡ cond b p.exponent (exponent_in (drop (i + 1) ps) s)
  exponent_here p b within is test =
      ap (λ (l : List Power). exponent_in l s) (drop_more ps i p within ∙ ap (λ (x : Power). x ∷ drop (i + 1) ps) (sym is))
      ∙ ap (λ (t : Bool). cond t p.exponent (exponent_in (drop (i + 1) ps) s)) (sym test)

  pub exponent_end : length ps ≤ i → exponent_in (drop i ps) s ≡ pos 0
  exponent_end past = ap (λ (l : List Power). exponent_in l s) (drop_all i ps past)
