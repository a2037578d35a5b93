-- What is made of c times a term: one outcome after the other, and turn by turn.
use Rattle.std.proofs.Common.{◌≡◌, ℕ, zero, suc, Bool, true, false, if◌then◌else◌, List, [], ◌∷◌, ◌++◌, Option, Some, None, IfSome, inl, refl, sym, ap, subst}
use Rattle.std.specs.List.{AllByRecursion}
use Rattle.std.proofs.lemmas.List.{append-nil}
use Rattle.form_base.specs.declared.block.Branch.{Branch}
use Rattle.form_base.specs.declared.cause.Cause.TheVariants.{Overflow}
use Rattle.form_frac.specs.Fraction.{Fraction}
use Rattle.form_frac.specs.Weight.{product}
use Rattle.form_term.specs.declared.monomial.Monomial.{Monomial}
use Rattle.form_expand.specs.Listing.{Listing}
use Rattle.form_flow.specs.Outcome.{Output, output, Ended, done, refused, Outcome, single, refusal, end_of, acted_or_not, or_acted, then_at, and_then, each, also_acted, onward, next_turn, turns}
use Rattle.form_flow.specs.Ready.{Choice}
use Rattle.form_flow.specs.Statements.{first_branch, is_so}
use Rattle.form_flow.specs.Ways.{run_each}
use Rattle.form_flow.proofs.Binding.{outcome}
use Rattle.form_levels.specs.Linear.{IsIndifferent, scaled, scaled_output}
use Rattle.form_levels.proofs.Agreeing.{IsChanged, IsScaled, IsScaledList, each_becomes, end_becomes, go_on, stops_first, stops_second}
use Rattle.form_levels.proofs.Asked.{holds_whatever}

-- what comes behind outputs that end so
abbrev rest : Outcome → Ended → Outcome
rest b (done acted) = outcome b.outputs (or_acted acted b.end)
rest b (refused cause) = refusal cause

then_rest : (os : List Output) (e : Ended) (b : Outcome) → then_at os e b ≡ outcome (os ++ (rest b e).outputs) (rest b e).end
unfolding then_at
then_rest os (done acted) b = refl
then_rest os (refused cause) b = ap (λ ps. outcome ps (refused cause)) (sym (append-nil os))

module _ (c : Fraction) where
  -- what comes of c times each term is what comes of the term, with c times its coefficients
  abbrev pub Scales : (Monomial → Outcome) → Type 0
  Scales go = (m : Monomial) → IsScaled c (go m) (go (scaled c m))

  abbrev ScaledAt : List Output → Ended → List Output → Ended → Type 0
  ScaledAt = IsChanged (scaled_output c) (refused Overflow)

  -- ---- one after the other

  rest_scaled : (b d : Outcome) → IsScaled c b d → (e : Ended) → IsScaled c (rest b e) (rest d e)
  rest_scaled b d a (done acted) = end_becomes (scaled_output c) (refused Overflow) (or_acted acted) refl b.outputs b.end d.outputs d.end a
  rest_scaled b d a (refused cause) = inl refl

  then_scaled : (a g b d : Outcome) → IsScaled c a g → IsScaled c b d → IsScaled c (and_then a b) (and_then g d)
  then_scaled a g b d first second =
      rw (then_rest a.outputs a.end b, then_rest g.outputs g.end d)
      (go_on (scaled_output c) (refused Overflow) (λ z. (rest b z).outputs) (λ z. (rest d z).outputs) (λ z. (rest b z).end) (λ z. (rest d z).end) refl refl refl refl (rest_scaled b d second)
      a.outputs a.end g.outputs g.end first)

  each_scaled : (go : Output → Outcome) → ((x : Output) → IsScaled c (go x) (go (scaled_output c x)))
      → (os : List Output) (e : Ended) (ps : List Output) (f : Ended) → ScaledAt os e ps f → IsScaled c (each go os e) (each go ps f)
  unfolding each
  each_scaled go h [] e [] f a = a
  each_scaled go h [] e (y ∷ ps) f over = stops_first (scaled_output c) (refused Overflow) [] e (each go (y ∷ ps) f).outputs (each go (y ∷ ps) f).end refl over
  each_scaled go h (x ∷ os) e [] f over = stops_second (scaled_output c) (refused Overflow) (each go (x ∷ os) e).outputs (each go (x ∷ os) e).end [] f refl over
  each_scaled go h (x ∷ os) e (y ∷ ps) f a =
      then_scaled (go x) (go y) (each go os e) (each go ps f)
      (subst (λ (z : Output). IsScaled c (go x) (go z)) (sym a.0) (h x)) (each_scaled go h os e ps f a.1)

  -- ---- a list

  pub made_scaled : (acted : Bool) (l k : Listing) → IsScaledList c l k → IsScaled c (acted_or_not acted l) (acted_or_not acted k)
  made_scaled acted l k = each_becomes (scaled c) (Some Overflow) (scaled_output c) (refused Overflow) (output acted) (end_of acted) (λ m. refl) refl l.terms l.end k.terms k.end

  -- ---- statements

  onward_scaled : (go : Monomial → Outcome) → Scales go → (x : Output) → IsScaled c (onward go x) (onward go (scaled_output c x))
  onward_scaled go h x =
      each_becomes (scaled_output c) (refused Overflow) (scaled_output c) (refused Overflow) (also_acted x.acted) (λ e. e) (λ o. refl) refl
      (go x.item).outputs (go x.item).end (go (scaled c x.item)).outputs (go (scaled c x.item)).end (h x.item)

  pub row_scales : (acts : List (Monomial → Outcome)) → AllByRecursion Scales acts → Scales (run_each acts)
  unfolding run_each
  row_scales [] h m = (refl, inl refl)
  row_scales (act ∷ acts) h m =
      each_scaled (onward (run_each acts)) (onward_scaled (run_each acts) (row_scales acts h.1)) (act m).outputs (act m).end (act (scaled c m)).outputs (act (scaled c m)).end (h.0 m)

  next_scaled : (go : Monomial → Outcome) → Scales go → (x : Output) → IsScaled c (next_turn go x) (next_turn go (scaled_output c x))
  next_scaled go h x = by x.acted
    where
      by : (acted : Bool) → IsScaled c (if acted then onward go x else single x) (if acted then onward go (scaled_output c x) else single (scaled_output c x))
      by true = onward_scaled go h x
      by false = (refl, inl refl)

  pub turns_scale : (n : ℕ) (once : Monomial → Outcome) → Scales once → Scales (turns n once)
  unfolding turns
  turns_scale zero once h m = inl refl
  turns_scale (suc n) once h m =
      each_scaled (next_turn (turns n once)) (next_scaled (turns n once) (turns_scale n once h)) (once m).outputs (once m).end (once (scaled c m)).outputs (once (scaled c m)).end (h m)

  -- ---- branches

  abbrev pub BranchScales : Branch Choice (List (Monomial → Outcome)) → Type 0
  BranchScales b = IsIndifferent b.condition × AllByRecursion Scales b.block

  same_truth : (q : Choice) (m : Monomial) → IsIndifferent q → is_so q m ≡ is_so q (scaled c m)
  same_truth q m = holds_whatever q.patterns m.coefficient (product c m.coefficient) m.term q.condition

  pub branches_scale : (bs : List (Branch Choice (List (Monomial → Outcome)))) (last : Option (List (Monomial → Outcome)))
      → AllByRecursion BranchScales bs → IfSome last (AllByRecursion Scales) → Scales (first_branch bs last)
  branches_scale [] None h k m = (refl, inl refl)
  branches_scale [] (Some b) h k m = row_scales b k m
  branches_scale (b ∷ bs) last h k m =
      subst (λ (truth : Bool). IsScaled c (first_branch (b ∷ bs) last m) (if truth then run_each b.block (scaled c m) else first_branch bs last (scaled c m))) (same_truth b.condition m h.0.0)
      (by (is_so b.condition m) (branches_scale bs last h.1 k m))
    where
      by : (truth : Bool) → IsScaled c (first_branch bs last m) (first_branch bs last (scaled c m))
          → IsScaled c (if truth then run_each b.block m else first_branch bs last m) (if truth then run_each b.block (scaled c m) else first_branch bs last (scaled c m))
      by true others = row_scales b.block h.0.1 m
      by false others = others
