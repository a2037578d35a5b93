-- Statements in a row, what leaves a `repeat`, and what further turns change.
use Rattle.std.proofs.Common.{◌≡◌, ℕ, zero, suc, Bool, true, false, List, [], ◌∷◌, ◌++◌, map, refl, sym, ap, ◌∙◌, append_assoc}
use Rattle.std.specs.Prelude.{All}
use Rattle.std.proofs.lemmas.List.{map-append}
use Rattle.std.proofs.lemmas.List.Elements.{All-append, All-cons, All-head, All-nil, All-tail}
use Rattle.form_term.specs.declared.monomial.Monomial.{Monomial}
use Rattle.form_flow.specs.Idle.{IsAmong, IsIdle}
use Rattle.form_flow.specs.Outcome.{Output, output, Ended, done, refused, Outcome, or_acted, then_at, and_then, each, bind, also_acted, behind, onward, through, next_turn, turns}
use Rattle.form_flow.specs.Statement.{Limits, Statement}
use Rattle.form_flow.specs.Statements.{action, run}
use Rattle.form_flow.specs.Ways.{run_each}
use Rattle.form_flow.proofs.Binding.{bind_single, bind_bind}
use Rattle.form_flow.proofs.Finishing.{bind_alike, bind_behind, behind_behind, behind_bind, behind_false}

-- ---- statements in a row

-- outputs behind a mark go on with it
marked_through : (go : Monomial → Outcome) (c : Bool) (o : Outcome) → bind (onward go) (behind c o) ≡ behind c (bind (onward go) o)
marked_through go c o =
    bind_behind (onward go) c o
    ∙ bind_alike (λ y. onward go (also_acted c y)) (λ y. behind c (onward go y)) (λ y. sym (behind_behind c y.acted (go y.item))) o
    ∙ sym (behind_bind c (onward go) o)

in_a_row : (xs ys : List (Monomial → Outcome)) (m : Monomial) → run_each (xs ++ ys) m ≡ through (run_each ys) (run_each xs m)
unfolding run_each
in_a_row [] ys m = sym (bind_single (onward (run_each ys)) (output false m) ∙ behind_false (run_each ys m))
in_a_row (act ∷ xs) ys m =
    bind_alike (onward (run_each (xs ++ ys))) (λ x. bind (onward (run_each ys)) (onward (run_each xs) x)) (λ x.
    ap (behind x.acted) (in_a_row xs ys x.item) ∙ sym (marked_through (run_each ys) x.acted (run_each xs x.item))) (act m)
    ∙ sym (bind_bind (onward (run_each ys)) (onward (run_each xs)) (act m))

pub rows : (at : Limits) (front rest : List Statement) (m : Monomial) → run at (front ++ rest) m ≡ through (run at rest) (run at front m)
rows at front rest m =
    ap (λ (acts : List (Monomial → Outcome)). run_each acts m) (map-append (action at) front rest)
    ∙ in_a_row (map (action at) front) (map (action at) rest) m

-- ---- what leaves a `repeat`

module _ (once : Monomial → Outcome) where
  abbrev idle : Output → Type 0
  idle x = IsIdle once x.item

  marked_idle : (c : Bool) (os : List Output) → All idle os → All idle (map (also_acted c) os)
  marked_idle c [] h = All-nil idle
  marked_idle c (o ∷ os) h = All-cons idle (also_acted c o) (map (also_acted c) os) (All-head idle o os h) (marked_idle c os (All-tail idle o os h))

  then_idle : (a b : Outcome) → All idle a.outputs → All idle b.outputs → All idle (and_then a b).outputs
  unfolding then_at
  then_idle a b h k = by a.end
    where
      by : (e : Ended) → All idle (then_at a.outputs e b).outputs
      by (done acted) = All-append idle a.outputs b.outputs h k
      by (refused cause) = h

  module _ (f : Monomial → Outcome) (h : (i : Monomial) → All idle (f i).outputs) (m : Monomial) where
    turn_idle : (acted : Bool) (item : Monomial) → IsAmong (output acted item) (once m).outputs → All idle (next_turn f (output acted item)).outputs
    turn_idle true item among = marked_idle true (f item).outputs (h item)
    turn_idle false item among = All-cons idle (output false item) [] (record { start = m; among = among }) (All-nil idle)

    each_idle : (front os : List Output) (e : Ended) → (once m).outputs ≡ front ++ os → All idle (each (next_turn f) os e).outputs
    unfolding each
    each_idle front [] e is = All-nil idle
    each_idle front (o ∷ os) e is =
        then_idle (next_turn f o) (each (next_turn f) os e)
        (turn_idle o.acted o.item (record { before = front; behind = os; place = is }))
        (each_idle (front ++ o ∷ []) os e (is ∙ sym (append_assoc front (o ∷ []) os)))

  pub turns_idle : (n : ℕ) (m : Monomial) → All idle (turns n once m).outputs
  unfolding turns
  turns_idle zero m = All-nil idle
  turns_idle (suc n) m = each_idle (turns n once) (turns_idle n) m [] (once m).outputs (once m).end refl

-- ---- further turns

-- what isn't refused has no part that is
both_done : (a b : Outcome) (c : Bool) → (and_then a b).end ≡ done c → ((x : Bool) × (a.end ≡ done x)) × ((y : Bool) × (b.end ≡ done y))
unfolding then_at
both_done a b c h = by a.end refl b.end refl h
  where
    by : (e : Ended) → a.end ≡ e → (f : Ended) → b.end ≡ f → (then_at a.outputs e b).end ≡ done c → ((x : Bool) × (a.end ≡ done x)) × ((y : Bool) × (b.end ≡ done y))
    by (refused cause) p f q h = absurd cc
    by (done x) p (done y) q h = ((x, p), (y, q))
    by (done x) p (refused cause) q h = let never : refused cause ≡ done c = sym (ap (or_acted x) q) ∙ h in absurd cc

-- outcomes are alike whose parts are alike, where those aren't refused
each_same : (k j : Output → Outcome) → ((o : Output) (c : Bool) → (j o).end ≡ done c → k o ≡ j o) → (os : List Output) (e : Ended) (c : Bool) → (each j os e).end ≡ done c → each k os e ≡ each j os e
unfolding each
each_same k j alike [] e c h = refl
each_same k j alike (o ∷ os) e c h =
    let ends = both_done (j o) (each j os e) c h in
    ap (λ a. and_then a (each k os e)) (alike o ends.0.0 ends.0.1) ∙ ap (and_then (j o)) (each_same k j alike os e ends.1.0 ends.1.1)

turn_same : (f g : Monomial → Outcome) → ((i : Monomial) (c : Bool) → (g i).end ≡ done c → f i ≡ g i) → (acted : Bool) (item : Monomial) (c : Bool)
    → (next_turn g (output acted item)).end ≡ done c → next_turn f (output acted item) ≡ next_turn g (output acted item)
turn_same f g alike true item c h = ap (behind true) (alike item c h)
turn_same f g alike false item c h = refl

pub one_turn_more : (once : Monomial → Outcome) (n : ℕ) (m : Monomial) (c : Bool) → (turns n once m).end ≡ done c → turns (suc n) once m ≡ turns n once m
unfolding turns
one_turn_more once zero m c h = absurd cc
one_turn_more once (suc n) m c h =
    each_same (next_turn (turns (suc n) once)) (next_turn (turns n once)) (λ o. turn_same (turns (suc n) once) (turns n once) (one_turn_more once n) o.acted o.item) (once m).outputs (once m).end c h
