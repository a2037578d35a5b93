-- One step of a term on its way.
use Rattle.std.proofs.Common.{◌≡◌, ℕ, zero, suc, ◌||◌, Bool, true, false, List, [], ◌∷◌, ◌++◌, map, Some, None, refl, sym, ap, ◌∙◌}
use Rattle.form_base.specs.declared.cause.Cause.TheVariants.{RepeatBudget}
use Rattle.form_term.specs.declared.monomial.Monomial.{Monomial}
use Rattle.form_flow.specs.Outcome.{Output, output, Ended, done, refused, Outcome, unchanged, refusal, or_acted, then_at, and_then, each, bind, also_acted, behind, onward, next_turn, turns, without_marks, cause_of, listing_of}
use Rattle.form_flow.specs.Ways.{Way, mark, run_each, turned, leaving, finish, fresh, out}
use Rattle.form_flow.proofs.Binding.{outcome, or_assoc, or_false, or_nothing, bind_single, bind_bind}

-- ---- marks

also_also : (a b : Bool) (o : Output) → also_acted a (also_acted b o) ≡ also_acted (a || b) o
also_also a b o = ap (λ c. output c o.item) (sym (or_assoc a b o.acted))

each_marked : (k : Output → Outcome) (c : Bool) (os : List Output) (e : Ended) → each k (map (also_acted c) os) e ≡ each (λ y. k (also_acted c y)) os e
unfolding each
each_marked k c [] e = refl
each_marked k c (o ∷ os) e = ap (and_then (k (also_acted c o))) (each_marked k c os e)

-- going on from outputs behind a mark
pub bind_behind : (k : Output → Outcome) (c : Bool) (o : Outcome) → bind k (behind c o) ≡ bind (λ y. k (also_acted c y)) o
bind_behind k c o = each_marked k c o.outputs o.end

-- the same on each output
pub each_alike : (k j : Output → Outcome) (alike : (x : Output) → k x ≡ j x) (os : List Output) (e : Ended) → each k os e ≡ each j os e
unfolding each
each_alike k j alike [] e = refl
each_alike k j alike (o ∷ os) e = ap (λ a. and_then a (each k os e)) (alike o) ∙ ap (and_then (j o)) (each_alike k j alike os e)

pub bind_alike : (k j : Output → Outcome) (alike : (x : Output) → k x ≡ j x) (o : Outcome) → bind k o ≡ bind j o
bind_alike k j alike o = each_alike k j alike o.outputs o.end

map_append : {A B : Type 0} → (f : A → B) (xs ys : List A) → map f (xs ++ ys) ≡ map f xs ++ map f ys
map_append f [] ys = refl
map_append f (x ∷ xs) ys = ap (λ zs. f x ∷ zs) (map_append f xs ys)

then_marked : (c : Bool) (os : List Output) (e : Ended) (b : Outcome)
    → behind c (then_at os e b) ≡ then_at (map (also_acted c) os) e (behind c b)
unfolding then_at
then_marked c os (refused d) b = refl
then_marked c os (done x) b = ap (λ ys. outcome ys (or_acted x b.end)) (map_append (also_acted c) os b.outputs)

each_behind : (c : Bool) (k : Output → Outcome) (os : List Output) (e : Ended) → behind c (each k os e) ≡ each (λ x. behind c (k x)) os e
unfolding each
each_behind c k [] e = refl
each_behind c k (o ∷ os) e =
    then_marked c (k o).outputs (k o).end (each k os e) ∙ ap (and_then (behind c (k o))) (each_behind c k os e)

pub behind_bind : (c : Bool) (k : Output → Outcome) (o : Outcome) → behind c (bind k o) ≡ bind (λ x. behind c (k x)) o
behind_bind c k o = each_behind c k o.outputs o.end

marked_twice : (a b : Bool) (os : List Output) → map (also_acted a) (map (also_acted b) os) ≡ map (also_acted (a || b)) os
marked_twice a b [] = refl
marked_twice a b (o ∷ os) = cc (also_also a b o, marked_twice a b os)

pub behind_behind : (a b : Bool) (o : Outcome) → behind a (behind b o) ≡ behind (a || b) o
behind_behind a b o = ap (λ os. outcome os o.end) (marked_twice a b o.outputs)

unmarked : (os : List Output) → map (also_acted false) os ≡ os
unmarked [] = refl
unmarked (o ∷ os) = ap (λ ps. o ∷ ps) (unmarked os)

pub behind_false : (o : Outcome) → behind false o ≡ o
behind_false o = ap (λ os. outcome os o.end) (unmarked o.outputs)

-- ---- steps

leave : Way → List Way → Output → Outcome
leave w ws x = bind (λ y. finish ws y.acted y.item) (leaving w x)

finished : (w : Way) (ws : List Way) (b : Bool) (m : Monomial) → finish (w ∷ ws) b m ≡ bind (leave (mark b w) ws) (run_each w.rest m)
unfolding finish leave
finished w ws b m = bind_bind (λ y. finish ws y.acted y.item) (leaving (mark b w)) (run_each w.rest m)

abbrev behind_first : List (Monomial → Outcome) → Way → Way
behind_first acts w = record w { rest = acts }

-- leaving a block in which something more acted
leave_marked : (w : Way) (ws : List Way) (b c : Bool) (acts : List (Monomial → Outcome)) (y : Output)
    → leave (mark b w) ws (also_acted c y) ≡ leave (mark (b || c) (behind_first acts w)) ws y
unfolding leave
leave_marked w ws b c acts y =
    ap (λ x. bind (λ z. finish ws z.acted z.item) (behind w.acted_before (turned w.body w.left x)))
    (also_also (w.has_acted || b) c y ∙ ap (λ d. output (d || y.acted) y.item) (or_assoc w.has_acted b c))

-- a statement is carried out, and what comes of it goes on behind it
pub one_statement : (w : Way) (ws : List Way) (b : Bool) (m : Monomial) (act : Monomial → Outcome) (acts : List (Monomial → Outcome))
    → w.rest ≡ act ∷ acts → finish (w ∷ ws) b m ≡ bind (λ x. finish (behind_first acts w ∷ ws) (b || x.acted) x.item) (act m)
unfolding run_each
one_statement w ws b m act acts is =
    finished w ws b m
    ∙ ap (λ r. bind (leave (mark b w) ws) (run_each r m)) is
    ∙ bind_bind (leave (mark b w) ws) (onward (run_each acts)) (act m)
    ∙ bind_alike (λ x. bind (leave (mark b w) ws) (onward (run_each acts) x)) (λ x. finish (behind_first acts w ∷ ws) (b || x.acted) x.item) (λ x.
    bind_behind (leave (mark b w) ws) x.acted (run_each acts x.item)
    ∙ bind_alike (λ y. leave (mark b w) ws (also_acted x.acted y)) (leave (mark (b || x.acted) (behind_first acts w)) ws) (leave_marked w ws b x.acted acts) (run_each acts x.item)
    ∙ sym (finished (behind_first acts w) ws (b || x.acted) x.item)) (act m)

pub or_true : (a : Bool) → (a || true) ≡ true
or_true true = refl
or_true false = refl

-- the block of a branch is open
pub enters : (acts : List (Monomial → Outcome)) (ws : List Way) (m : Monomial)
    → finish (fresh acts None 0 false ∷ ws) false m ≡ bind (out ws) (run_each acts m)
unfolding leave
enters acts ws m =
    finished (fresh acts None 0 false) ws false m
    ∙ bind_alike (leave (fresh acts None 0 false) ws) (out ws) (bind_single (out ws)) (run_each acts m)

-- a repeated block is open, of which so many turns may begin behind the first
pub repeats : (acts : List (Monomial → Outcome)) (ws : List Way) (n : ℕ) (m : Monomial)
    → finish (fresh acts (Some acts) n false ∷ ws) false m ≡ bind (out ws) (turns (suc n) (run_each acts) m)
unfolding turns leave
repeats acts ws n m =
    let turn = next_turn (turns n (run_each acts)) in
    finished (fresh acts (Some acts) n false) ws false m
    ∙ bind_alike (leave (fresh acts (Some acts) n false) ws) (λ x. bind (out ws) (turn x)) (λ x. ap (bind (out ws)) (behind_false (turn x))) (run_each acts m)
    ∙ sym (bind_bind (out ws) turn (run_each acts m))

-- no statement of the block is left
ended : (w : Way) (ws : List Way) (b : Bool) (m : Monomial) → w.rest ≡ []
    → finish (w ∷ ws) b m ≡ bind (out ws) (behind w.acted_before (turned w.body w.left (output (w.has_acted || b) m)))
unfolding run_each leave
ended w ws b m at_end =
    finished w ws b m
    ∙ ap (λ r. bind (leave (mark b w) ws) (run_each r m)) at_end
    ∙ bind_single (leave (mark b w) ws) (output false m)
    ∙ ap (λ c. bind (out ws) (behind w.acted_before (turned w.body w.left (output c m)))) (or_false (w.has_acted || b))

-- the end of a block that isn't repeated
pub leaves : (w : Way) (ws : List Way) (b : Bool) (m : Monomial) → w.rest ≡ [] → w.body ≡ None
    → finish (w ∷ ws) b m ≡ finish ws (w.acted_before || (w.has_acted || b)) m
leaves w ws b m at_end plain =
    ended w ws b m at_end
    ∙ ap (λ d. bind (out ws) (behind w.acted_before (turned d w.left (output (w.has_acted || b) m)))) plain
    ∙ bind_single (out ws) (output (w.acted_before || (w.has_acted || b)) m)

-- the end of a turn in which nothing acted
pub leaves_unchanged : (w : Way) (ws : List Way) (b : Bool) (m : Monomial) (acts : List (Monomial → Outcome)) → w.rest ≡ [] → w.body ≡ Some acts → (w.has_acted || b) ≡ false
    → finish (w ∷ ws) b m ≡ finish ws w.acted_before m
leaves_unchanged w ws b m acts at_end repeated nothing =
    ended w ws b m at_end
    ∙ ap (λ d. bind (out ws) (behind w.acted_before (turned d w.left (output (w.has_acted || b) m)))) repeated
    ∙ ap (λ c. bind (out ws) (behind w.acted_before (turned (Some acts) w.left (output c m)))) nothing
    ∙ bind_single (out ws) (output (w.acted_before || false) m)
    ∙ ap (λ c. finish ws c m) (or_false w.acted_before)

-- the end of a turn in which something acted: a further one begins
pub turns_again : (w : Way) (ws : List Way) (b : Bool) (m : Monomial) (acts : List (Monomial → Outcome)) (n : ℕ) → w.rest ≡ [] → w.body ≡ Some acts → (w.has_acted || b) ≡ true → w.left ≡ suc n
    → finish (w ∷ ws) b m ≡ finish (fresh acts (Some acts) n true ∷ ws) false m
unfolding turns leave
turns_again w ws b m acts n at_end repeated acted is =
    let turn = next_turn (turns n (run_each acts)) in
    ended w ws b m at_end
    ∙ ap (λ d. bind (out ws) (behind w.acted_before (turned d w.left (output (w.has_acted || b) m)))) repeated
    ∙ ap (λ c. bind (out ws) (behind w.acted_before (turned (Some acts) w.left (output c m)))) acted
    ∙ ap (λ k. bind (out ws) (behind w.acted_before (turned (Some acts) k (output true m)))) is
    ∙ ap (bind (out ws)) (behind_behind w.acted_before true (turns (suc n) (run_each acts) m))
    ∙ ap (λ c. bind (out ws) (behind c (turns (suc n) (run_each acts) m))) (or_true w.acted_before)
    ∙ ap (bind (out ws)) (behind_bind true turn (run_each acts m))
    ∙ bind_bind (out ws) (λ x. behind true (turn x)) (run_each acts m)
    ∙ sym (finished (fresh acts (Some acts) n true) ws false m)

-- or may not begin
pub exhausted : (w : Way) (ws : List Way) (b : Bool) (m : Monomial) (acts : List (Monomial → Outcome)) → w.rest ≡ [] → w.body ≡ Some acts → (w.has_acted || b) ≡ true → w.left ≡ zero
    → finish (w ∷ ws) b m ≡ refusal RepeatBudget
unfolding turns each
exhausted w ws b m acts at_end repeated acted is =
    ended w ws b m at_end
    ∙ ap (λ d. bind (out ws) (behind w.acted_before (turned d w.left (output (w.has_acted || b) m)))) repeated
    ∙ ap (λ c. bind (out ws) (behind w.acted_before (turned (Some acts) w.left (output c m)))) acted
    ∙ ap (λ k. bind (out ws) (behind w.acted_before (turned (Some acts) k (output true m)))) is

-- something acts in the innermost block
pub marked : (w : Way) (ws : List Way) (m : Monomial) → finish (record w { has_acted = true } ∷ ws) false m ≡ finish (w ∷ ws) true m
unfolding finish
marked w ws m = ap (λ c. bind (out ws) (bind (leaving (record w { has_acted = c })) (run_each w.rest m))) (sym (or_true w.has_acted))

-- outside of all blocks
outside : (os : List Output) (e : Ended) → each (out []) os e ≡ outcome (map (λ x. output false x.item) os) e
unfolding each finish then_at
outside [] e = refl
outside (o ∷ os) e =
    ap (and_then (unchanged o.item)) (outside os e)
    ∙ ap (outcome (output false o.item ∷ map (λ x. output false x.item) os)) (or_nothing e)

pub bind_outside : (o : Outcome) → bind (out []) o ≡ without_marks o
bind_outside o = outside o.outputs o.end

items_alike : (os : List Output) → map (λ x. x.item) (map (λ x. output false x.item) os) ≡ map (λ (x : Output). x.item) os
items_alike [] = refl
items_alike (o ∷ os) = ap (λ ms. o.item ∷ ms) (items_alike os)

pub listing_marks : (o : Outcome) → listing_of (without_marks o) ≡ listing_of o
listing_marks o = ap (λ (ms : List Monomial). record { terms = ms; end = cause_of o.end }) (items_alike o.outputs)
