-- How outcomes follow one another, and how their outputs go on.
use Rattle.std.proofs.Common.{◌≡◌, ◌||◌, Bool, true, false, List, [], ◌∷◌, ◌++◌, refl, sym, ap, ◌∙◌, append_assoc}
use Rattle.form_base.specs.declared.cause.Cause.{Cause}
use Rattle.form_flow.specs.Outcome.{Output, Ended, done, refused, Outcome, single, gone, or_acted, then_at, and_then, each, bind, silent}

abbrev pub outcome : List Output → Ended → Outcome
outcome os end = record { outputs = os; end = end }

pub or_assoc : (a b c : Bool) → ((a || b) || c) ≡ (a || (b || c))
or_assoc true b c = refl
or_assoc false b c = refl

pub or_false : (a : Bool) → (a || false) ≡ a
or_false true = refl
or_false false = refl

append_nil : {A : Type 0} → (xs : List A) → xs ++ [] ≡ xs
append_nil [] = refl
append_nil (x ∷ xs) = ap (λ ys. x ∷ ys) (append_nil xs)

-- ---- ends

pub or_or : (a b : Bool) (e : Ended) → or_acted a (or_acted b e) ≡ or_acted (a || b) e
or_or a b (done c) = ap done (sym (or_assoc a b c))
or_or a b (refused c) = refl

pub or_nothing : (e : Ended) → or_acted false e ≡ e
or_nothing (done c) = refl
or_nothing (refused c) = refl

-- ---- following

then_to : (os : List Output) (e : Ended) (ps : List Output) (f : Ended) (c : Outcome)
    → and_then (then_at os e (outcome ps f)) c ≡ then_at os e (then_at ps f c)
unfolding then_at
then_to os (refused x) ps f c = refl
then_to os (done x) ps (refused y) c = refl
then_to os (done x) ps (done y) c = cc (append_assoc os ps c.outputs, or_or x y c.end)

pub then_assoc : (a b c : Outcome) → and_then (and_then a b) c ≡ and_then a (and_then b c)
then_assoc a b c = then_to a.outputs a.end b.outputs b.end c

gone_behind : (os : List Output) (e : Ended) → then_at os e gone ≡ outcome os e
unfolding then_at
gone_behind os (done b) = cc (append_nil os, or_false b)
gone_behind os (refused c) = refl

pub then_gone : (a : Outcome) → and_then a gone ≡ a
then_gone a = gone_behind a.outputs a.end

pub gone_then : (a : Outcome) → and_then gone a ≡ a
unfolding then_at
gone_then a = ap (outcome a.outputs) (or_nothing a.end)

or_swap : (a b : Bool) (e : Ended) → or_acted a (or_acted b e) ≡ or_acted b (or_acted a e)
or_swap true true e = refl
or_swap true false (done c) = refl
or_swap true false (refused c) = refl
or_swap false true (done c) = refl
or_swap false true (refused c) = refl
or_swap false false e = refl

pub silent_commutes : (x : Bool) (os : List Output) (e : Ended) (b : Outcome) → then_at os e (and_then (silent x) b) ≡ and_then (silent x) (then_at os e b)
unfolding then_at
silent_commutes x os (refused c) b = refl
silent_commutes x os (done y) b = ap (outcome (os ++ b.outputs)) (or_swap y x b.end)

-- ---- going on

module _ (go : Output → Outcome) where
  -- one output alone
  pub bind_single : (o : Output) → bind go (single o) ≡ go o
  unfolding each
  bind_single o = then_gone (go o)

  pub each_done : (x : Bool) (ps : List Output) (f : Ended) → each go ps (or_acted x f) ≡ and_then (silent x) (each go ps f)
  unfolding then_at each
  each_done x [] f = refl
  each_done x (p ∷ ps) f = ap (and_then (go p)) (each_done x ps f) ∙ silent_commutes x (go p).outputs (go p).end (each go ps f)

  -- behind a refusal nothing goes on
  each_refused : (os : List Output) (c : Cause) (b : Outcome) → and_then (each go os (refused c)) b ≡ each go os (refused c)
  unfolding then_at each
  each_refused [] c b = refl
  each_refused (o ∷ os) c b = then_assoc (go o) (each go os (refused c)) b ∙ ap (and_then (go o)) (each_refused os c b)

  -- outputs behind others
  each_append : (x : Bool) (os ps : List Output) (f : Ended) → each go (os ++ ps) (or_acted x f) ≡ and_then (each go os (done x)) (each go ps f)
  unfolding then_at each
  each_append x [] ps f = each_done x ps f
  each_append x (o ∷ os) ps f = ap (and_then (go o)) (each_append x os ps f) ∙ sym (then_assoc (go o) (each go os (done x)) (each go ps f))

  each_behind : (os : List Output) (e : Ended) (ps : List Output) (f : Ended)
      → bind go (then_at os e (outcome ps f)) ≡ and_then (each go os e) (each go ps f)
  unfolding then_at
  each_behind os (refused c) ps f = sym (each_refused os c (each go ps f))
  each_behind os (done x) ps f = each_append x os ps f

  pub bind_then : (a b : Outcome) → bind go (and_then a b) ≡ and_then (bind go a) (bind go b)
  bind_then a b = each_behind a.outputs a.end b.outputs b.end

each_each : (k j : Output → Outcome) (os : List Output) (e : Ended) → bind k (each j os e) ≡ each (λ x. bind k (j x)) os e
unfolding each
each_each k j [] e = refl
each_each k j (o ∷ os) e = bind_then k (j o) (each j os e) ∙ ap (and_then (bind k (j o))) (each_each k j os e)

pub bind_bind : (k j : Output → Outcome) (o : Outcome) → bind k (bind j o) ≡ bind (λ x. bind k (j x)) o
bind_bind k j o = each_each k j o.outputs o.end
