-- What a block makes of arguments from the left is what it makes of each of them by itself.
use Rattle.std.proofs.Common.{◌≡◌, ℕ, suc, Bool, true, false, cond, ◌&&◌, ◌||◌, List, [], ◌∷◌, Result, Ok, Err, refl, sym, ap, ◌∙◌}
use Rattle.std.specs.List.{list_any}
use Rattle.form_base.specs.declared.cause.Cause.{Cause}
use Rattle.form_check.specs.declared.checked.Picked.{Picked}
use Rattle.form_term.specs.Arguments.{arguments_of}
use Rattle.form_term.specs.declared.monomial.Monomial.{Monomial}
use Rattle.form_term.specs.Term.{Argument, Call, expression, index, vector}
use Rattle.form_flow.specs.Alone.{argument_acts, argument_alone, arguments_act, arguments_alone, call_acts, call_alone, each_alone, with_both}
use Rattle.form_flow.specs.Arguments.{Progress, so_far, and_far, and_word, anew, argument_behind, arguments_behind, before_far, call_behind, call_far, calls_behind, in_arguments, is_picked, progress}
use Rattle.form_flow.specs.Indices.{and_made, before_made, call_by, each_made}
use Rattle.form_flow.specs.Outcome.{Outcome}
use Rattle.form_flow.proofs.Binding.{or_assoc, or_false}

none_behind : {A : Type 0} (acted : Bool) (xs : List A) → so_far xs acted ≡ progress (acted || false) (Ok xs)
none_behind acted xs = ap (λ (b : Bool). so_far xs b) (sym (or_false acted))

before : {A : Type 0} (x : A) (b : Bool) (r : Result (List A) Cause) → before_far x (progress b r) ≡ progress b (before_made x r)
before x b (Ok xs) = refl
before x b (Err cause) = refl

-- one, and those behind it
joined : {A : Type 0} (acted x y : Bool) (r : Result A Cause) (rest : Result (List A) Cause) (next : Bool → Progress (List A)) → ((also : Bool) → next also ≡ progress (also || y) rest)
    → and_far (progress (acted || x) r) next ≡ progress (acted || (x || y)) (and_made r rest)
joined acted x y (Ok a) rest next h =
    ap (before_far a) (h (acted || x) ∙ ap (λ (b : Bool). progress b rest) (or_assoc acted x y)) ∙ before a (acted || (x || y)) rest
joined acted x y (Err cause) rest next h = refl

called : (f : ℕ) (b : Bool) (r : Result (List Argument) Cause) → call_far f (progress b r) ≡ progress b (call_by f r)
called f b (Ok args) = refl
called f b (Err cause) = refl

word_made : (m : Monomial) (fs : List Call) (b : Bool) (r : Result (List Call) Cause) → anew m fs (progress b r) ≡ with_both m b (Ok fs) r
word_made m fs b (Ok ws) = refl
word_made m fs b (Err cause) = refl

module _ (max : ℕ) (go : Monomial → Outcome) (ps : List Picked) where
  one_argument : (acted taken : Bool) (a : Argument) → cond taken (argument_behind max go acted a) (so_far a acted) ≡ progress (acted || (taken && argument_acts go a)) (cond taken (argument_alone max go a) (Ok a))
  one_argument acted false a = ap (λ (b : Bool). so_far a b) (sym (or_false acted))
  one_argument acted true (index i) = ap (λ (b : Bool). so_far (index i) b) (sym (or_false acted))
  one_argument acted true (vector v) = ap (λ (b : Bool). so_far (vector v) b) (sym (or_false acted))
  one_argument acted true (expression ss) = refl

  arguments : (f k : ℕ) (acted : Bool) (args : List Argument) → arguments_behind max go ps f k acted args ≡ progress (acted || arguments_act go ps f k args) (arguments_alone max go ps f k args)
  arguments f k acted [] = none_behind acted []
  arguments f k acted (a ∷ args) =
      ap (λ (p : Progress Argument). and_far p (λ also. arguments_behind max go ps f (suc k) also args)) (one_argument acted (is_picked ps f k) a)
      ∙ joined acted (is_picked ps f k && argument_acts go a) (arguments_act go ps f (suc k) args) (cond (is_picked ps f k) (argument_alone max go a) (Ok a)) (arguments_alone max go ps f (suc k) args)
      (λ also. arguments_behind max go ps f (suc k) also args) (λ also. arguments f (suc k) also args)

  one_call : (acted : Bool) (c : Call) → call_behind max go ps acted c ≡ progress (acted || call_acts go ps c) (call_alone max go ps c)
  one_call acted c =
      ap (call_far c.function) (arguments c.function 1 acted (arguments_of c.pieces))
      ∙ called c.function (acted || call_acts go ps c) (arguments_alone max go ps c.function 1 (arguments_of c.pieces))

  calls : (acted : Bool) (cs : List Call) → calls_behind max go ps acted cs ≡ progress (acted || list_any (call_acts go ps) cs) (each_made (call_alone max go ps) cs)
  calls acted [] = none_behind acted []
  calls acted (c ∷ cs) =
      ap (λ (p : Progress Call). and_far p (λ also. calls_behind max go ps also cs)) (one_call acted c)
      ∙ joined acted (call_acts go ps c) (list_any (call_acts go ps) cs) (call_alone max go ps c) (each_made (call_alone max go ps) cs) (λ also. calls_behind max go ps also cs) (λ also. calls also cs)

  functions_made : (m : Monomial) (acted : Bool) (r : Result (List Call) Cause)
      → and_word max go ps m (progress acted r) ≡ with_both m (acted || list_any (call_acts go ps) m.term.others.word) r (each_made (call_alone max go ps) m.term.others.word)
  functions_made m acted (Err cause) = refl
  functions_made m acted (Ok fs) =
      ap (anew m fs) (calls acted m.term.others.word) ∙ word_made m fs (acted || list_any (call_acts go ps) m.term.others.word) (each_made (call_alone max go ps) m.term.others.word)

pub go_alone : (max : ℕ) (ps : List Picked) (go : Monomial → Outcome) (m : Monomial) → in_arguments max ps go m ≡ each_alone max ps go m
unfolding in_arguments
go_alone max ps go m =
    ap (and_word max go ps m) (calls max go ps false m.term.others.functions)
    ∙ functions_made max go ps m (list_any (call_acts go ps) m.term.others.functions) (each_made (call_alone max go ps) m.term.others.functions)
