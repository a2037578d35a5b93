-- Functions and arguments behind a block, one after the other.
use Rattle.std.proofs.Common.{◌≡◌, ℕ, suc, ◌+◌, ◌<◌, ◌≤◌, Bool, true, false, cond, List, [], ◌∷◌, ◌++◌, length, get_or, drop, map, Result, Ok, Err, refl, sym, ap, ◌∙◌, subst, arith, append_assoc, append-nil}
use Rattle.std.specs.Prelude.{Option, ◌&&◌, ◌||◌}
use Rattle.std.specs.Global.{Vec}
use Rattle.std.proofs.lemmas.List.{drop_all, drop_more}
use Rattle.form_base.specs.declared.cause.Cause.{Cause}
use Rattle.form_check.specs.declared.checked.Picked.{Picked}
use Rattle.form_expand.specs.declared.error.ExpandError.{ExpandError}
use Rattle.form_expand.specs.declared.error.ExpandError.TheVariants.{Refused, Memory}
use Rattle.form_expand.specs.Listing.{limited}
use Rattle.form_expand.specs.Next.{IsMade}
use Rattle.form_expand.specs.Singles.{argument_of, of_product}
use Rattle.form_match.specs.Parts.{begins_sum}
use Rattle.form_match.specs.Parts.{HasFirst}
use Rattle.form_normal.specs.Product.{product}
use Rattle.form_term.specs.Arguments.{arguments_of, first_summands, parts_of}
use Rattle.form_term.specs.Calls.{call}
use Rattle.form_term.specs.declared.monomial.Monomial.{Monomial}
use Rattle.form_term.specs.declared.piece.Piece.{Piece}
use Rattle.form_term.specs.Monomial.{as_monomial, summands_of}
use Rattle.form_term.specs.Term.{Argument, Call, IsArgumentOf, IsTerm, index, vector, expression, pieces_of_argument, pieces_of_arguments}
use Rattle.form_flow.specs.Arguments.{Progress, so_far, ends, and_far, and_word, anew, argument_behind, arguments_behind, before_far, call_behind, call_far, calls_behind, in_arguments, numbered_behind, outcome_of_terms, progress, with_functions}
use Rattle.form_flow.specs.declared.effect.Effect.{Effect}
use Rattle.form_flow.specs.Outcome.{Outcome, acted_or_not, has_acted, listing_of}
use Rattle.form_flow.specs.Sources.{HasEffect}
use Rattle.form_flow.specs.Within.{AreBehind, Reaches, and_pieces_far}
use Rattle.form_flow.proofs.Firsts.{only_argument}

-- these before a list that isn't refused
abbrev pub behind_far : {A : Type 0} → List A → Progress (List A) → Progress (List A)
behind_far xs (so_far ys acted) = so_far (xs ++ ys) acted
behind_far xs (ends cause) = ends cause

pub behind_none_far : {A : Type 0} (p : Progress (List A)) → p ≡ behind_far [] p
behind_none_far (so_far ys acted) = refl
behind_none_far (ends cause) = refl

behind_more_far : {A : Type 0} (ys : List A) (y : A) (p : Progress (List A)) → behind_far ys (before_far y p) ≡ behind_far (ys ++ y ∷ []) p
behind_more_far ys y (so_far zs acted) = ap (λ xs. so_far xs acted) (sym (append_assoc ys (y ∷ []) zs))
behind_more_far ys y (ends cause) = refl

-- what is refused refuses more
pub still_ends : {A B C D : Type 0} (view : A → B) (next : C → D) (e : ExpandError) (acted : Bool) (p : Progress B) (all : Progress D) → ((cause : Cause) → p ≡ ends cause → all ≡ ends cause) → Reaches view (Err e) acted p → Reaches next (Err e) acted all
still_ends view next (Refused cause) acted p all on h = on cause h
still_ends view next Memory acted p all on h = tt

-- what is made, and whether something acted; else these
abbrev pieces_or : List Piece → Progress (List Piece) → List Piece
pieces_or d (so_far xs acted) = xs
pieces_or d (ends cause) = d

abbrev acted_or : Bool → Progress (List Piece) → Bool
acted_or d (so_far xs acted) = acted
acted_or d (ends cause) = d

-- a function with arguments of these pieces
abbrev named : ℕ → Progress (List Piece) → Progress Call
named f (so_far ps acted) = so_far (call f ps) acted
named f (ends cause) = ends cause

-- the pieces of arguments, where none is refused
abbrev pub written_far : Progress (List Argument) → Progress (List Piece)
written_far (so_far args acted) = so_far (pieces_of_arguments args) acted
written_far (ends cause) = ends cause

module _ (max : ℕ) (go : Monomial → Outcome) (ps : List Picked) where
  -- ---- functions

  module _ (cs ys : List Call) (i : ℕ) (acted : Bool) (all : Progress (List Call)) (made : all ≡ behind_far ys (calls_behind max go ps acted (drop i cs))) where
    here : (c : Call) → i < length cs → c ≡ get_or cs i c → all ≡ behind_far ys (and_far (call_behind max go ps acted c) (λ also. calls_behind max go ps also (drop (i + 1) cs)))
    here c within is = made ∙ ap (λ (ds : List Call). behind_far ys (calls_behind max go ps acted ds)) (drop_more cs i c within ∙ ap (λ (d : Call). d ∷ drop (i + 1) cs) (sym is))

    pub call_next : (c y : Call) (also : Bool) → i < length cs → c ≡ get_or cs i c → call_behind max go ps acted c ≡ so_far y also → all ≡ behind_far (ys ++ y ∷ []) (calls_behind max go ps also (drop (i + 1) cs))
    call_next c y also within is e =
        here c within is ∙ ap (λ p. behind_far ys (and_far p (λ b. calls_behind max go ps b (drop (i + 1) cs)))) e ∙ behind_more_far ys y (calls_behind max go ps also (drop (i + 1) cs))

    pub call_ends : (c : Call) (cause : Cause) → i < length cs → c ≡ get_or cs i c → call_behind max go ps acted c ≡ ends cause → all ≡ ends cause
    call_ends c cause within is e = here c within is ∙ ap (λ p. behind_far ys (and_far p (λ b. calls_behind max go ps b (drop (i + 1) cs)))) e

    pub calls_reached : length cs ≤ i → all ≡ so_far ys acted
    calls_reached past = made ∙ ap (λ (ds : List Call). behind_far ys (calls_behind max go ps acted ds)) (drop_all i cs past) ∙ ap (λ xs. so_far xs acted) (append-nil ys)

  -- ---- arguments

  module _ (f k : ℕ) (acted : Bool) (here front rest : List Piece) (h : HasFirst here front rest) where
    first_far : (old : List Piece) → behind_far old (written_far (arguments_behind max go ps f k acted (arguments_of here)))
        ≡ behind_far old (written_far (and_far (numbered_behind max go ps f k acted h.first) (λ also. arguments_behind max go ps f (suc k) also (arguments_of rest))))
    first_far old =
        ap (λ (args : List Argument). behind_far old (written_far (arguments_behind max go ps f k acted args))) h.read
        ∙ ap (λ (args : List Argument). behind_far old (written_far (and_far (numbered_behind max go ps f k acted h.first) (λ also. arguments_behind max go ps f (suc k) also args)))) (sym h.behind_is)

    pub far_next : (old new : List Piece) (also : Bool) (next : ℕ) → next ≡ k + 1 → and_pieces_far old (numbered_behind max go ps f k acted h.first) ≡ so_far new also
        → behind_far old (written_far (arguments_behind max go ps f k acted (arguments_of here))) ≡ behind_far new (written_far (arguments_behind max go ps f next also (arguments_of rest)))
    far_next old new also next number e =
        let after : suc k ≡ next = omega (arith, number) in
        first_far old ∙ by (numbered_behind max go ps f k acted h.first) e ∙ ap (λ (n : ℕ). behind_far new (written_far (arguments_behind max go ps f n also (arguments_of rest)))) after
      where
        by : (a : Progress Argument) → and_pieces_far old a ≡ so_far new also → behind_far old (written_far (and_far a (λ b. arguments_behind max go ps f (suc k) b (arguments_of rest)))) ≡ behind_far new (written_far (arguments_behind max go ps f (suc k) also (arguments_of rest)))
        by (ends cause) is = absurd cc
        by (so_far a b) is =
            let same : b ≡ also = ap (acted_or b) is in
            let put : old ++ pieces_of_argument a ≡ new = ap (pieces_or new) is in
            ap (λ (x : Bool). behind_far old (written_far (before_far a (arguments_behind max go ps f (suc k) x (arguments_of rest))))) same
            ∙ one a (arguments_behind max go ps f (suc k) also (arguments_of rest)) put
          where
            one : (a : Argument) (p : Progress (List Argument)) → old ++ pieces_of_argument a ≡ new → behind_far old (written_far (before_far a p)) ≡ behind_far new (written_far p)
            one a (so_far args b) put = ap (λ xs. so_far xs b) (sym (append_assoc old (pieces_of_argument a) (pieces_of_arguments args)) ∙ ap (λ (qs : List Piece). qs ++ pieces_of_arguments args) put)
            one a (ends cause) put = refl

    pub far_ends : (old : List Piece) (cause : Cause) → and_pieces_far old (numbered_behind max go ps f k acted h.first) ≡ ends cause → behind_far old (written_far (arguments_behind max go ps f k acted (arguments_of here))) ≡ ends cause
    far_ends old cause e = first_far old ∙ by (numbered_behind max go ps f k acted h.first) e
      where
        by : (a : Progress Argument) → and_pieces_far old a ≡ ends cause → behind_far old (written_far (and_far a (λ b. arguments_behind max go ps f (suc k) b (arguments_of rest)))) ≡ ends cause
        by (ends own) is = is
        by (so_far a b) is = absurd cc

  -- where none is left
  pub far_written : (f k : ℕ) (acted : Bool) (rest done : List Piece) (all : Progress (List Piece)) → rest ≡ [] → all ≡ behind_far done (written_far (arguments_behind max go ps f k acted (arguments_of rest))) → all ≡ so_far done acted
  unfolding arguments_of parts_of
  far_written f k acted rest done all none e = e ∙ ap (λ (qs : List Piece). behind_far done (written_far (arguments_behind max go ps f k acted (arguments_of qs)))) none ∙ ap (λ xs. so_far xs acted) (append-nil done)

pub call_reached : (p : Progress (List Argument)) (f : ℕ) (done : List Piece) (acted : Bool) → written_far p ≡ so_far done acted → call_far f p ≡ so_far (call f done) acted
call_reached (so_far args b) f done acted e = ap (named f) e
call_reached (ends cause) f done acted e = absurd cc

pub call_stopped : (p : Progress (List Argument)) (f : ℕ) (cause : Cause) → written_far p ≡ ends cause → call_far f p ≡ ends cause
call_stopped (so_far args b) f cause e = absurd cc
call_stopped (ends own) f cause e = ap (named f) e

-- ---- an argument

-- one that isn't an expression, or isn't taken
pub argument_left : (max : ℕ) (go : Monomial → Outcome) (acted taken : Bool) (a : Argument) → (taken && begins_sum (pieces_of_argument a)) ≡ false → cond taken (argument_behind max go acted a) (so_far a acted) ≡ so_far a acted
argument_left max go acted false a e = refl
argument_left max go acted true (index i) e = refl
argument_left max go acted true (vector v) e = refl
argument_left max go acted true (expression ss) e = absurd cc

pub no_sum : (max : ℕ) (go : Monomial → Outcome) (acted : Bool) (old new part : List Piece) (a : Argument) → part ≡ pieces_of_argument a → new ≡ old ++ part → (taken : Bool) → (taken && begins_sum part) ≡ false
    → and_pieces_far old (cond taken (argument_behind max go acted a) (so_far a acted)) ≡ so_far new acted
no_sum max go acted old new part a is e taken other =
    ap (and_pieces_far old) (argument_left max go acted taken a (ap (λ (qs : List Piece). taken && begins_sum qs) (sym is) ∙ other))
    ∙ ap (λ (qs : List Piece). so_far qs acted) (ap (λ (ps : List Piece). old ++ ps) (sym is) ∙ sym e)

-- an expression that is taken
pub sum_taken : (max : ℕ) (go : Monomial → Outcome) (acted taken : Bool) (part : List Piece) (a : Argument) → IsArgumentOf IsTerm a → part ≡ pieces_of_argument a → (taken && begins_sum part) ≡ true
    → argument_behind max go acted (expression (first_summands (arguments_of part))) ≡ cond taken (argument_behind max go acted a) (so_far a acted)
sum_taken max go acted taken part a lawful is sum = by taken a lawful is sum
  where
    by : (b : Bool) (x : Argument) → IsArgumentOf IsTerm x → part ≡ pieces_of_argument x → (b && begins_sum part) ≡ true → argument_behind max go acted (expression (first_summands (arguments_of part))) ≡ cond b (argument_behind max go acted x) (so_far x acted)
    by false x h e o = absurd cc
    by true (index i) h e o = let never : false ≡ true = sym (ap begins_sum e) ∙ o in absurd cc
    by true (vector v) h e o = let never : false ≡ true = sym (ap begins_sum e) ∙ o in absurd cc
    by true (expression ss) h e o = ap (λ (args : List Argument). argument_behind max go acted (expression (first_summands args))) (only_argument (expression ss) part h e)

-- what came of its terms
module _ (max : ℕ) (go : Monomial → Outcome) (before : Bool) (old : List Piece) (args : List Argument) (terms : List Monomial) (is : terms ≡ map as_monomial (first_summands args)) where
  pub sum_reached : (made : Vec Monomial) (after : Bool) (new : List Piece) → AreBehind max before (Ok made) after (outcome_of_terms go terms) → new ≡ old ++ pieces_of_argument (expression (summands_of made.items))
      → and_pieces_far old (argument_behind max go before (expression (first_summands args))) ≡ so_far new after
  sum_reached made after new h e =
      ap (λ (ms : List Monomial). let o = outcome_of_terms go ms in and_pieces_far old (progress (before || has_acted o.end) (argument_of (limited max (listing_of o))))) (sym is)
      ∙ ap (λ r. and_pieces_far old (progress (before || has_acted (outcome_of_terms go terms).end) r)) h.0.argument
      ∙ ap (λ (b : Bool). so_far (old ++ pieces_of_argument (expression (summands_of made.items))) b) (sym h.1)
      ∙ ap (λ (ps : List Piece). so_far ps after) (sym e)

  pub sum_stopped : {A : Type 0} (view : A → List Piece) (error : ExpandError) (after : Bool) → AreBehind max before (Err error) after (outcome_of_terms go terms)
      → Reaches view (Err error) after (and_pieces_far old (argument_behind max go before (expression (first_summands args))))
  sum_stopped view (Refused cause) after h =
      ap (λ (ms : List Monomial). let o = outcome_of_terms go ms in and_pieces_far old (progress (before || has_acted o.end) (argument_of (limited max (listing_of o))))) (sym is)
      ∙ ap (λ r. and_pieces_far old (progress (before || has_acted (outcome_of_terms go terms).end) r)) h
  sum_stopped view Memory after h = tt

-- ---- the whole term

module _ (max : ℕ) (ps : List Picked) (go : Monomial → Outcome) (m : Monomial) where
  pub functions_stopped : (e : ExpandError) (acted : Bool) → Reaches (λ (list : Vec Call). list.items) (Err e) acted (calls_behind max go ps false m.term.others.functions) → HasEffect (Err e) (in_arguments max ps go m)
  unfolding in_arguments
  functions_stopped (Refused cause) acted h = ap (and_word max go ps m) h
  functions_stopped Memory acted h = tt

  module _ (fs : Vec Call) (acted : Bool) (h : calls_behind max go ps false m.term.others.functions ≡ so_far fs.items acted) where
    pub word_stopped : (e : ExpandError) (also : Bool) → Reaches (λ (list : Vec Call). list.items) (Err e) also (calls_behind max go ps acted m.term.others.word) → HasEffect (Err e) (in_arguments max ps go m)
    unfolding in_arguments
    word_stopped (Refused cause) also k = ap (and_word max go ps m) h ∙ ap (anew m fs.items) k
    word_stopped Memory also k = tt

    pub all_anew : (ws : Vec Call) (also : Bool) → calls_behind max go ps acted m.term.others.word ≡ so_far ws.items also → in_arguments max ps go m ≡ acted_or_not also (of_product (product (with_functions m fs.items ws.items ∷ [])))
    unfolding in_arguments
    all_anew ws also k = ap (and_word max go ps m) h ∙ ap (anew m fs.items) k

pub effect_made : (acted : Bool) (made : Option Monomial) (p : Result (Option Monomial) Cause) (o : Outcome) (x : Effect) → p ≡ Ok made → o ≡ acted_or_not acted (of_product p) → HasEffect (Ok x) (acted_or_not acted (of_product (Ok made))) → HasEffect (Ok x) o
effect_made acted made p o x e is h = subst (HasEffect (Ok x)) (sym (is ∙ ap (λ q. acted_or_not acted (of_product q)) e)) h

pub effect_refused : (acted : Bool) (e : ExpandError) (p : Result (Option Monomial) Cause) (o : Outcome) → IsMade (Err e) p → o ≡ acted_or_not acted (of_product p) → HasEffect (Err e) o
effect_refused acted (Refused cause) p o h is = is ∙ ap (λ q. acted_or_not acted (of_product q)) h
effect_refused acted Memory p o h is = tt
