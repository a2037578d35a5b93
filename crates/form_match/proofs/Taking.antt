-- What is taken of a term, one use after another.
use Rattle.std.proofs.Common.{◌≡◌, ℕ, ◌+◌, ◌<◌, ◌≤◌, ◌||◌, Bool, true, false, List, [], ◌∷◌, ◌++◌, length, drop, get_or, Option, Some, None, option_to_list, refl, sym, ap, ◌∙◌, append_assoc, append-nil}
use Rattle.std.specs.List.{list_any, cons_option}
use Rattle.std.proofs.lemmas.List.{drop_more, drop_all}
use Rattle.form_match.specs.declared.trail.Taken.{Taken}
use Rattle.form_match.specs.declared.uses.Use.{Use}
use Rattle.form_match.specs.Places.{use_of, uses_at}
use Rattle.form_match.specs.Matching.{clashes}

first_use : (o : Option Use) (us : List Use) → cons_option o us ≡ option_to_list o ++ us
first_use None us = refl
first_use (Some u) us = refl

module _ (ts : List Taken) (host i : ℕ) where
  uses_here : (t : Taken) → i < length ts → t ≡ get_or ts i t → uses_at (drop i ts) host ≡ option_to_list (use_of host t) ++ uses_at (drop (i + 1) ts) host
  uses_here t within is =
      ap (λ (l : List Taken). uses_at l host) (drop_more ts i t within ∙ ap (λ (x : Taken). x ∷ drop (i + 1) ts) (sym is))
      ∙ first_use (use_of host t) (uses_at (drop (i + 1) ts) host)

  pub uses_more : (t : Taken) (before after : List Use) → i < length ts → t ≡ get_or ts i t → after ≡ before ++ option_to_list (use_of host t)
      → before ++ uses_at (drop i ts) host ≡ uses_at ts host → after ++ uses_at (drop (i + 1) ts) host ≡ uses_at ts host
  uses_more t before after within is made whole =
      ap (λ (l : List Use). l ++ uses_at (drop (i + 1) ts) host) made
      ∙ append_assoc before (option_to_list (use_of host t)) (uses_at (drop (i + 1) ts) host)
      ∙ ap (λ (l : List Use). before ++ l) (sym (uses_here t within is)) ∙ whole

  pub uses_end : (before : List Use) → length ts ≤ i → before ++ uses_at (drop i ts) host ≡ uses_at ts host → before ≡ uses_at ts host
  uses_end before past whole = sym (append-nil before) ∙ ap (λ (l : List Taken). before ++ uses_at l host) (sym (drop_all i ts past)) ∙ whole

  any_both : (p : Use → Bool) (us vs : List Use) → list_any p (us ++ vs) ≡ (list_any p us || list_any p vs)
  any_both p [] vs = refl
  any_both p (u ∷ us) vs = by (p u) (any_both p us vs)
    where
      by : (b : Bool) → list_any p (us ++ vs) ≡ (list_any p us || list_any p vs) → (b || list_any p (us ++ vs)) ≡ ((b || list_any p us) || list_any p vs)
      by true rest = refl
      by false rest = rest

  pub free_here : (t : Taken) (u : Use) (b : Bool) → i < length ts → t ≡ get_or ts i t → b ≡ list_any (λ v. clashes v u) (option_to_list (use_of host t))
      → list_any (λ v. clashes v u) (uses_at (drop i ts) host) ≡ (b || list_any (λ v. clashes v u) (uses_at (drop (i + 1) ts) host))
  free_here t u b within is test =
      ap (list_any (λ v. clashes v u)) (uses_here t within is)
      ∙ any_both (λ v. clashes v u) (option_to_list (use_of host t)) (uses_at (drop (i + 1) ts) host)
      ∙ ap (λ (t : Bool). t || list_any (λ v. clashes v u) (uses_at (drop (i + 1) ts) host)) (sym test)

  pub free_end : (u : Use) → length ts ≤ i → list_any (λ v. clashes v u) (uses_at (drop i ts) host) ≡ false
  free_end u past = ap (λ (l : List Taken). list_any (λ v. clashes v u) (uses_at l host)) (drop_all i ts past)
