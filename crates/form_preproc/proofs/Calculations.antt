-- What calculating braces does to a line.
use Rattle.std.proofs.Common.{◌≡◌, ℕ, ℤ, Bool, true, false, if◌then◌else◌, List, [], ◌∷◌, ◌++◌, Option, Some, None, Result, Ok, Err, refl, sym, ap, ◌∙◌, append_assoc, append-nil}
use Rattle.std.specs.Prelude.{◌==◌, ◌&&◌, ⊤}
use Rattle.std.specs.Fmt.{signed_decimal}
use Rattle.std.specs.List.{list_any, list_all}
use Rattle.std.proofs.lemmas.Bool.{or_parts, and_parts, eqb-true}
use Rattle.std.proofs.lemmas.List.Folds.{list_any-append}
use Rattle.form_base.specs.declared.cause.Cause.{Cause}
use Rattle.form_base.specs.declared.cause.Cause.TheVariants.{BadInstruction, CalcRange}
use Rattle.form_calc.specs.Calculation.{value_of}
use Rattle.form_preproc.specs.Bytes.{is_digit, HasNo}
use Rattle.form_preproc.specs.Answers.{Gives}
use Rattle.form_preproc.specs.Braces.{Braces, is_calculable, begun, opened, kept, known, valued, closed, step, end_of, read, calculated, IsKept, IsCalculation, GoesOn}
use Rattle.form_preproc.specs.Putting.{and_then}
use Rattle.form_preproc.specs.declared.error.LineError.{LineError}
use Rattle.form_preproc.specs.declared.error.LineError.TheVariants.{Refused, Memory}

-- ---- texts one behind another

then_step : {X Y : Type 0} (r : Result X Cause) (f g : X → Result Y Cause) (k : Y → Result Y Cause) → ((x : X) → f x ≡ and_then (g x) k) → and_then r f ≡ and_then (and_then r g) k
then_step (Ok x) f g k h = h x
then_step (Err cause) f g k h = refl

read_append : (b : Braces) (xs ys : List ℕ) → read b (xs ++ ys) ≡ and_then (read b xs) (λ c. read c ys)
unfolding read
read_append b [] ys = refl
read_append b (x ∷ xs) ys = then_step (step b x) (λ c. read c (xs ++ ys)) (λ c. read c xs) (λ c. read c ys) (λ c. read_append c xs ys)

read_on : (b c : Braces) (xs ys : List ℕ) → read b xs ≡ Ok c → read b (xs ++ ys) ≡ read c ys
read_on b c xs ys h = read_append b xs ys ∙ ap (λ r. and_then r (λ c. read c ys)) h

one_more : (b c : Braces) (x : ℕ) (xs : List ℕ) → step b x ≡ Ok c → read b (x ∷ xs) ≡ read c xs
unfolding read
one_more b c x xs h = ap (λ r. and_then r (λ c. read c xs)) h

-- ---- no braces end

abbrev Goes_on : Braces → ℕ → Type 0
Goes_on b x = (c : Braces) × (step b x ≡ Ok c) × (end_of c ≡ end_of b ++ x ∷ [])

-- braces that are open, or none
abbrev state : Bool → List ℕ → List ℕ → Braces
state is_open done inside = record { done = done; is_open = is_open; inside = inside }

abbrev chosen : Bool → Bool → Bool → Braces → ℕ → Result Braces Cause
chosen opens closes calculable b x =
    if opens then Ok (opened b)
    else if closes then closed b
    else if calculable then Ok (record { done = b.done; is_open = true; inside = b.inside ++ x ∷ [] })
    else Ok (kept b x)

goes_on : (b : Braces) (x : ℕ) → (x == 125) ≡ false → Goes_on b x
goes_on b x closes = by_open (x == 123) refl
  where
    is : (opens calculable : Bool) → (x == 123) ≡ opens → (b.is_open && is_calculable x) ≡ calculable → step b x ≡ chosen opens false calculable b x
    is opens calculable e f =
        ap (λ (o : Bool). chosen o (x == 125) (b.is_open && is_calculable x) b x) e
        ∙ ap (λ (c : Bool). chosen opens c (b.is_open && is_calculable x) b x) closes
        ∙ ap (λ (c : Bool). chosen opens false c b x) f

    brace : (x == 123) ≡ true → end_of (opened b) ≡ end_of b ++ x ∷ []
    brace e = ap (λ (c : ℕ). end_of b ++ c ∷ []) (sym (eqb-true x 123 e))

    more : b.is_open ≡ true → b.done ++ 123 ∷ (b.inside ++ x ∷ []) ≡ end_of b ++ x ∷ []
    more e = sym (append_assoc b.done (123 ∷ b.inside) (x ∷ [])) ∙ ap (λ (o : Bool). (if o then b.done ++ 123 ∷ b.inside else b.done) ++ x ∷ []) (sym e)

    by_calculable : (calculable : Bool) → (x == 123) ≡ false → (b.is_open && is_calculable x) ≡ calculable → Goes_on b x
    by_calculable true e f = (record { done = b.done; is_open = true; inside = b.inside ++ x ∷ [] }, is false true e f, more (and_parts b.is_open (is_calculable x) f).0)
    by_calculable false e f = (kept b x, is false false e f, refl)

    by_open : (opens : Bool) → (x == 123) ≡ opens → Goes_on b x
    by_open true e = (opened b, is true (b.is_open && is_calculable x) e refl, brace e)
    by_open false e = by_calculable (b.is_open && is_calculable x) e refl

abbrev Reads_as : Braces → List ℕ → Type 0
Reads_as b xs = (c : Braces) × (read b xs ≡ Ok c) × (end_of c ≡ end_of b ++ xs)

reads_on : (b : Braces) (xs : List ℕ) → HasNo 125 xs → Reads_as b xs
unfolding read
reads_on b [] h = (b, refl, sym (append-nil (end_of b)))
reads_on b (x ∷ xs) h =
    let o = or_parts (x == 125) (list_any (λ c. c == 125) xs) h in
    let first = goes_on b x o.0 in
    let more = reads_on first.0 xs o.1 in
    (more.0, one_more b first.0 x xs first.1 ∙ more.1, more.2 ∙ ap (λ t. t ++ xs) first.2 ∙ append_assoc (end_of b) (x ∷ []) xs)

pub nothing_calculated : (text : List ℕ) → HasNo 125 text → calculated text ≡ Ok text
nothing_calculated text h =
    let r = reads_on begun text h in
    ap (λ q. and_then q (λ b. Ok (end_of b))) r.1 ∙ ap (λ t. Ok t) r.2

-- ---- what was done before stays before

abbrev behind : List ℕ → Braces → Braces
behind done b = record { done = done ++ b.done; is_open = b.is_open; inside = b.inside }

abbrev moved : List ℕ → Result Braces Cause → Result Braces Cause
moved done r = and_then r (λ b. Ok (behind done b))

end_behind : (done : List ℕ) (b : Braces) → end_of (behind done b) ≡ done ++ end_of b
end_behind done b = by b.is_open
  where
    by : (o : Bool) → (if o then (done ++ b.done) ++ 123 ∷ b.inside else done ++ b.done) ≡ done ++ (if o then b.done ++ 123 ∷ b.inside else b.done)
    by true = append_assoc done b.done (123 ∷ b.inside)
    by false = refl

valued_behind : (done before : List ℕ) (v : Option (Option ℤ)) → valued (done ++ before) v ≡ moved done (valued before v)
valued_behind done before None = refl
valued_behind done before (Some None) = refl
valued_behind done before (Some (Some n)) = ap (λ t. Ok (state false t [])) (append_assoc done before (signed_decimal n))

kept_behind : (done : List ℕ) (b : Braces) (x : ℕ) → kept (behind done b) x ≡ behind done (kept b x)
kept_behind done b x = ap (λ t. state false (t ++ x ∷ []) []) (end_behind done b) ∙ ap (λ t. state false t []) (append_assoc done (end_of b) (x ∷ []))

closed_behind : (done : List ℕ) (b : Braces) (c : Bool)
    → (if c then valued (done ++ b.done) (value_of b.inside) else Ok (kept (behind done b) 125)) ≡ moved done (if c then valued b.done (value_of b.inside) else Ok (kept b 125))
closed_behind done b true = valued_behind done b.done (value_of b.inside)
closed_behind done b false = ap (λ t. Ok t) (kept_behind done b 125)

chosen_behind : (done : List ℕ) (b : Braces) (x : ℕ) (opens closes calculable : Bool) → chosen opens closes calculable (behind done b) x ≡ moved done (chosen opens closes calculable b x)
chosen_behind done b x true closes calculable = ap (λ t. Ok (state true t [])) (end_behind done b)
chosen_behind done b x false true calculable = closed_behind done b (b.is_open && list_any is_digit b.inside)
chosen_behind done b x false false true = refl
chosen_behind done b x false false false = ap (λ t. Ok t) (kept_behind done b x)

step_behind : (done : List ℕ) (b : Braces) (x : ℕ) → step (behind done b) x ≡ moved done (step b x)
step_behind done b x = chosen_behind done b x (x == 123) (x == 125) (b.is_open && is_calculable x)

after_moved : (done : List ℕ) (r : Result Braces Cause) (f : Braces → Result Braces Cause) → ((b : Braces) → f (behind done b) ≡ moved done (f b)) → and_then (moved done r) f ≡ moved done (and_then r f)
after_moved done (Ok b) f h = h b
after_moved done (Err cause) f h = refl

read_behind : (done : List ℕ) (b : Braces) (xs : List ℕ) → read (behind done b) xs ≡ moved done (read b xs)
unfolding read
read_behind done b [] = refl
read_behind done b (x ∷ xs) =
    ap (λ r. and_then r (λ c. read c xs)) (step_behind done b x) ∙ after_moved done (step b x) (λ c. read c xs) (λ c. read_behind done c xs)

end_moved : (done : List ℕ) (r : Result Braces Cause) → and_then (moved done r) (λ b. Ok (end_of b)) ≡ and_then (and_then r (λ b. Ok (end_of b))) (λ t. Ok (done ++ t))
end_moved done (Ok b) = ap (λ t. Ok t) (end_behind done b)
end_moved done (Err cause) = refl

-- where no braces are open, what follows is calculated alone
rest_alone : (done rest : List ℕ) → and_then (read (state false done []) rest) (λ b. Ok (end_of b)) ≡ and_then (calculated rest) (λ t. Ok (done ++ t))
rest_alone done rest =
    ap (λ d. and_then (read (state false d []) rest) (λ b. Ok (end_of b))) (sym (append-nil done))
    ∙ ap (λ r. and_then r (λ b. Ok (end_of b))) (read_behind done begun rest)
    ∙ end_moved done (read begun rest)

-- ---- braces with a calculation

apart : (x y : ℕ) → is_calculable x ≡ true → is_calculable y ≡ false → (b : Bool) → (x == y) ≡ b → (x == y) ≡ false
apart x y h g true e =
    let no_way : true ≡ false = sym h ∙ ap is_calculable (eqb-true x y e) ∙ g in absurd cc
apart x y h g false e = e

inside_step : (done inside : List ℕ) (x : ℕ) → is_calculable x ≡ true → step (state true done inside) x ≡ Ok (state true done (inside ++ x ∷ []))
inside_step done inside x h =
    ap (λ (o : Bool). chosen o (x == 125) (is_calculable x) (state true done inside) x) (apart x 123 h refl (x == 123) refl)
    ∙ ap (λ (c : Bool). chosen false c (is_calculable x) (state true done inside) x) (apart x 125 h refl (x == 125) refl)
    ∙ ap (λ (c : Bool). chosen false false c (state true done inside) x) h

reads_inside : (done inside xs : List ℕ) → list_all is_calculable xs ≡ true → read (state true done inside) xs ≡ Ok (state true done (inside ++ xs))
unfolding read
reads_inside done inside [] h = ap (λ t. Ok (state true done t)) (sym (append-nil inside))
reads_inside done inside (x ∷ xs) h =
    let a = and_parts (is_calculable x) (list_all is_calculable xs) h in
    one_more (state true done inside) (state true done (inside ++ x ∷ [])) x xs (inside_step done inside x a.0)
    ∙ reads_inside done (inside ++ x ∷ []) xs a.1
    ∙ ap (λ t. Ok (state true done t)) (append_assoc inside (x ∷ []) xs)

ends_inside : (done inside rest : List ℕ) → list_any is_digit inside ≡ true → read (state true done inside) (125 ∷ rest) ≡ and_then (valued done (value_of inside)) (λ b. read b rest)
unfolding read
ends_inside done inside rest h = ap (λ (c : Bool). and_then (if c then valued done (value_of inside) else Ok (kept (state true done inside) 125)) (λ b. read b rest)) h

opens_at : (b : Braces) (before rest : List ℕ) → end_of b ≡ before → read b (123 ∷ rest) ≡ read (state true before []) rest
unfolding read
opens_at b before rest e = ap (λ t. read (state true t []) rest) e

-- a value, between what stands before it and what the rest comes to
abbrev around : List ℕ → List ℕ → Result ℤ Cause → Result (List ℕ) Cause
around before rest value = and_then value (λ n. and_then (calculated rest) (λ t. Ok ((before ++ signed_decimal n) ++ t)))

then_alone : (before rest : List ℕ) (value : Result ℤ Cause)
    → and_then (and_then (and_then value (λ n. Ok (state false (before ++ signed_decimal n) []))) (λ b. read b rest)) (λ b. Ok (end_of b)) ≡ around before rest value
then_alone before rest (Ok n) = rest_alone (before ++ signed_decimal n) rest
then_alone before rest (Err cause) = refl

reads_calculation : (before inside rest : List ℕ) → HasNo 125 before → list_all is_calculable inside ≡ true → list_any is_digit inside ≡ true
    → calculated (before ++ (123 ∷ (inside ++ (125 ∷ rest)))) ≡ around before rest (known (value_of inside))
reads_calculation before inside rest plain calculable digit =
    let r = reads_on begun before plain in
    ap (λ q. and_then q (λ b. Ok (end_of b)))
    (read_on begun r.0 before (123 ∷ (inside ++ (125 ∷ rest))) r.1
    ∙ opens_at r.0 before (inside ++ (125 ∷ rest)) r.2
    ∙ read_on (state true before []) (state true before inside) inside (125 ∷ rest) (reads_inside before [] inside calculable)
    ∙ ends_inside before inside rest digit)
    ∙ then_alone before rest (known (value_of inside))

regrouped : (a b : List ℕ) (r : Result (List ℕ) Cause) → and_then r (λ t. Ok ((a ++ b) ++ t)) ≡ and_then r (λ t. Ok (a ++ (b ++ t)))
regrouped a b (Ok t) = ap (λ x. Ok x) (append_assoc a b t)
regrouped a b (Err cause) = refl

pub calculation_put_in : (before inside rest : List ℕ) (n : ℤ) → HasNo 125 before → list_all is_calculable inside ≡ true → list_any is_digit inside ≡ true → value_of inside ≡ Some (Some n)
    → calculated (before ++ (123 ∷ (inside ++ (125 ∷ rest)))) ≡ and_then (calculated rest) (λ t. Ok (before ++ (signed_decimal n ++ t)))
calculation_put_in before inside rest n plain calculable digit is =
    reads_calculation before inside rest plain calculable digit ∙ ap (λ v. around before rest (known v)) is ∙ regrouped before (signed_decimal n) (calculated rest)

pub calculation_out_of_range : (before inside rest : List ℕ) → HasNo 125 before → list_all is_calculable inside ≡ true → list_any is_digit inside ≡ true → value_of inside ≡ Some None
    → calculated (before ++ (123 ∷ (inside ++ (125 ∷ rest)))) ≡ Err CalcRange
calculation_out_of_range before inside rest plain calculable digit is =
    reads_calculation before inside rest plain calculable digit ∙ ap (λ v. around before rest (known v)) is

pub calculation_ill_formed : (before inside rest : List ℕ) → HasNo 125 before → list_all is_calculable inside ≡ true → list_any is_digit inside ≡ true → value_of inside ≡ None
    → calculated (before ++ (123 ∷ (inside ++ (125 ∷ rest)))) ≡ Err BadInstruction
calculation_ill_formed before inside rest plain calculable digit is =
    reads_calculation before inside rest plain calculable digit ∙ ap (λ v. around before rest (known v)) is

-- ---- braces that stay

by_other : (x : ℕ) (b : Braces) (calculable : Bool) → (x == 123) ≡ false → (x == 125) ≡ false → (b.is_open && is_calculable x) ≡ calculable → step b x ≡ chosen false false calculable b x
by_other x b calculable opens closes e =
    ap (λ (o : Bool). chosen o (x == 125) (b.is_open && is_calculable x) b x) opens
    ∙ ap (λ (c : Bool). chosen false c (b.is_open && is_calculable x) b x) closes
    ∙ ap (λ (c : Bool). chosen false false c b x) e

reads_outside : (done xs : List ℕ) → HasNo 123 xs → HasNo 125 xs → read (state false done []) xs ≡ Ok (state false (done ++ xs) [])
unfolding read
reads_outside done [] opens closes = ap (λ t. Ok (state false t [])) (sym (append-nil done))
reads_outside done (x ∷ xs) opens closes =
    let o = or_parts (x == 123) (list_any (λ c. c == 123) xs) opens in
    let c = or_parts (x == 125) (list_any (λ c. c == 125) xs) closes in
    one_more (state false done []) (state false (done ++ x ∷ []) []) x xs (by_other x (state false done []) false o.0 c.0 refl)
    ∙ reads_outside (done ++ x ∷ []) xs o.1 c.1
    ∙ ap (λ t. Ok (state false t [])) (append_assoc done (x ∷ []) xs)

-- what is read inside braces, all of which may be calculated where they are still looked at
record Is_left (before inside xs : List ℕ) : Type 0 where
  left : Braces
  read_so : read (state true before inside) xs ≡ Ok left
  stands : end_of left ≡ before ++ (123 ∷ (inside ++ xs))
  inner : left.is_open ≡ true → left.inside ≡ inside ++ xs
  calculable : left.is_open ≡ true → list_all is_calculable xs ≡ true

left_step : (before inside : List ℕ) (x : ℕ) (xs : List ℕ) → (x == 123) ≡ false → (x == 125) ≡ false → HasNo 123 xs → HasNo 125 xs → Is_left before (inside ++ x ∷ []) xs → Is_left before inside (x ∷ xs)
left_step before inside x xs opens closes opens_there closes_there more = by (is_calculable x) refl
  where
    one : inside ++ (x ∷ xs) ≡ (inside ++ x ∷ []) ++ xs
    one = sym (append_assoc inside (x ∷ []) xs)

    by : (c : Bool) → is_calculable x ≡ c → Is_left before inside (x ∷ xs)
    by true e = record {
      left = more.left;
      read_so = one_more (state true before inside) (state true before (inside ++ x ∷ [])) x xs (by_other x (state true before inside) true opens closes e) ∙ more.read_so;
      stands = more.stands ∙ ap (λ t. before ++ (123 ∷ t)) (sym one);
      inner = λ h. more.inner h ∙ sym one;
      calculable = λ h. ap (λ (b : Bool). b && list_all is_calculable xs) e ∙ more.calculable h;
    }
    by false e = record {
      left = state false (((before ++ 123 ∷ inside) ++ x ∷ []) ++ xs) [];
      read_so =
          one_more (state true before inside) (kept (state true before inside) x) x xs (by_other x (state true before inside) false opens closes e)
          ∙ reads_outside ((before ++ 123 ∷ inside) ++ x ∷ []) xs opens_there closes_there;
      stands = append_assoc (before ++ 123 ∷ inside) (x ∷ []) xs ∙ append_assoc before (123 ∷ inside) (x ∷ xs);
      inner = λ h. absurd cc;
      calculable = λ h. absurd cc;
    }

reads_left : (before inside xs : List ℕ) → HasNo 123 xs → HasNo 125 xs → Is_left before inside xs
unfolding read
reads_left before inside [] opens closes = record {
  left = state true before inside;
  read_so = refl;
  stands = ap (λ t. before ++ (123 ∷ t)) (sym (append-nil inside));
  inner = λ h. sym (append-nil inside);
  calculable = λ h. refl;
}
reads_left before inside (x ∷ xs) opens closes =
    let o = or_parts (x == 123) (list_any (λ c. c == 123) xs) opens in
    let c = or_parts (x == 125) (list_any (λ c. c == 125) xs) closes in
    left_step before inside x xs o.0 c.0 o.1 c.1 (reads_left before (inside ++ x ∷ []) xs o.1 c.1)

-- braces end there, but aren't calculated
ends_kept : (b : Braces) (rest : List ℕ) → (b.is_open && list_any is_digit b.inside) ≡ false → read b (125 ∷ rest) ≡ read (state false (end_of b ++ 125 ∷ []) []) rest
unfolding read
ends_kept b rest h = ap (λ (c : Bool). and_then (if c then valued b.done (value_of b.inside) else Ok (kept b 125)) (λ b. read b rest)) h

not_calculated : (before inside : List ℕ) (l : Is_left before [] inside) → (list_all is_calculable inside && list_any is_digit inside) ≡ false → (l.left.is_open && list_any is_digit l.left.inside) ≡ false
not_calculated before inside l h = by l.left.is_open refl
  where
    by : (o : Bool) → l.left.is_open ≡ o → (o && list_any is_digit l.left.inside) ≡ false
    by true e = ap (list_any is_digit) (l.inner e) ∙ ap (λ (b : Bool). b && list_any is_digit inside) (sym (l.calculable e)) ∙ h
    by false e = refl

pub braces_kept : (before inside rest : List ℕ) → HasNo 125 before → HasNo 123 inside → HasNo 125 inside → (list_all is_calculable inside && list_any is_digit inside) ≡ false
    → calculated (before ++ (123 ∷ (inside ++ (125 ∷ rest)))) ≡ and_then (calculated rest) (λ t. Ok ((before ++ (123 ∷ (inside ++ 125 ∷ []))) ++ t))
braces_kept before inside rest plain opens closes h =
    let r = reads_on begun before plain in
    let l = reads_left before [] inside opens closes in
    ap (λ q. and_then q (λ b. Ok (end_of b)))
    (read_on begun r.0 before (123 ∷ (inside ++ (125 ∷ rest))) r.1
    ∙ opens_at r.0 before (inside ++ (125 ∷ rest)) r.2
    ∙ read_on (state true before []) l.left inside (125 ∷ rest) l.read_so
    ∙ ends_kept l.left rest (not_calculated before inside l h))
    ∙ rest_alone (end_of l.left ++ 125 ∷ []) rest
    ∙ ap (λ d. and_then (calculated rest) (λ t. Ok (d ++ t))) (ap (λ t. t ++ 125 ∷ []) l.stands ∙ append_assoc before (123 ∷ inside) (125 ∷ []))

pub unopened_kept : (before rest : List ℕ) → HasNo 123 before → HasNo 125 before → calculated (before ++ (125 ∷ rest)) ≡ and_then (calculated rest) (λ t. Ok ((before ++ 125 ∷ []) ++ t))
unopened_kept before rest opens closes =
    ap (λ q. and_then q (λ b. Ok (end_of b)))
    (read_on begun (state false before []) before (125 ∷ rest) (reads_outside [] before opens closes)
    ∙ ends_kept (state false before []) rest refl)
    ∙ rest_alone (before ++ 125 ∷ []) rest

-- ---- braces one behind another

at_end : (outside inside rest : List ℕ) → (outside ++ 123 ∷ inside) ++ 125 ∷ rest ≡ outside ++ (123 ∷ (inside ++ (125 ∷ rest)))
at_end outside inside rest = append_assoc outside (123 ∷ inside) (125 ∷ rest)

parts_without : (byte : ℕ) (xs ys : List ℕ) → HasNo byte (xs ++ ys) → HasNo byte xs × HasNo byte ys
parts_without byte xs ys h = or_parts (list_any (λ c. c == byte) xs) (list_any (λ c. c == byte) ys) (sym (list_any-append (λ c. c == byte) xs ys) ∙ h)

pub kept_inside : (before outside inside : List ℕ) → before ≡ outside ++ 123 ∷ inside → HasNo 125 before → HasNo 123 inside → (list_all is_calculable inside && list_any is_digit inside) ≡ false → IsKept before
kept_inside before outside inside is closes opens h rest =
    let parts = parts_without 125 outside (123 ∷ inside) (ap (list_any (λ c. c == 125)) (sym is) ∙ closes) in
    ap (λ t. calculated (t ++ 125 ∷ rest)) is ∙ ap calculated (at_end outside inside rest)
    ∙ braces_kept outside inside rest parts.0 opens parts.1 h
    ∙ ap (λ d. and_then (calculated rest) (λ t. Ok (d ++ t))) (sym (at_end outside inside []) ∙ ap (λ t. t ++ 125 ∷ []) (sym is))

comes_to : (before outside inside rest : List ℕ) → HasNo 125 before → IsCalculation before outside inside → calculated (before ++ 125 ∷ rest) ≡ around outside rest (known (value_of inside))
comes_to before outside inside rest closes h =
    let parts = parts_without 125 outside (123 ∷ inside) (ap (list_any (λ c. c == 125)) (sym h.0) ∙ closes) in
    let tests = and_parts (list_all is_calculable inside) (list_any is_digit inside) h.1 in
    ap (λ t. calculated (t ++ 125 ∷ rest)) h.0 ∙ ap calculated (at_end outside inside rest) ∙ reads_calculation outside inside rest parts.0 tests.0 tests.1

pub goes_on_known : (done : ⊤) (old new before outside inside rest : List ℕ) (n : ℤ) → HasNo 125 before → IsCalculation before outside inside → known (value_of inside) ≡ Ok n → new ≡ (old ++ outside) ++ signed_decimal n
    → GoesOn old new (Ok done) (calculated (before ++ 125 ∷ rest)) (calculated rest)
goes_on_known done old new before outside inside rest n closes h is made = (
  outside ++ signed_decimal n,
  made ∙ append_assoc old outside (signed_decimal n),
  comes_to before outside inside rest closes h ∙ ap (around outside rest) is,
)

pub stops_unknown : (old new before outside inside rest : List ℕ) (error : LineError) → HasNo 125 before → IsCalculation before outside inside → Gives {X = ℤ} (Err error) (known (value_of inside))
    → GoesOn old new (Err error) (calculated (before ++ 125 ∷ rest)) (calculated rest)
stops_unknown old new before outside inside rest (Refused cause) closes h is =
    comes_to before outside inside rest closes h ∙ ap (around outside rest) is
stops_unknown old new before outside inside rest Memory closes h is = tt

pub goes_on_kept : (done : ⊤) (old new before rest : List ℕ) → IsKept before → new ≡ (old ++ before) ++ 125 ∷ [] → GoesOn old new (Ok done) (calculated (before ++ 125 ∷ rest)) (calculated rest)
goes_on_kept done old new before rest kept made = (before ++ 125 ∷ [], made ∙ append_assoc old before (125 ∷ []), kept rest)

-- a line of which a part is done
abbrev pub IsDoneTo : List ℕ → List ℕ → List ℕ → Type 0
IsDoneTo text done rest = calculated text ≡ and_then (calculated rest) (λ t. Ok (done ++ t))

pub nothing_done : (text : List ℕ) → IsDoneTo text [] text
nothing_done text = by (calculated text)
  where
    by : (r : Result (List ℕ) Cause) → r ≡ and_then r (λ t. Ok t)
    by (Ok t) = refl
    by (Err cause) = refl

ends_first : (text done rest before behind : List ℕ) → IsDoneTo text done rest → rest ≡ before ++ 125 ∷ behind → calculated text ≡ and_then (calculated (before ++ 125 ∷ behind)) (λ t. Ok (done ++ t))
ends_first text done rest before behind h is = h ∙ ap (λ r. and_then (calculated r) (λ t. Ok (done ++ t))) is

pub more_done : (read : ⊤) (text done new rest before behind : List ℕ) → IsDoneTo text done rest → rest ≡ before ++ 125 ∷ behind → GoesOn done new (Ok read) (calculated (before ++ 125 ∷ behind)) (calculated behind) → IsDoneTo text new behind
more_done read text done new rest before behind h is goes =
    ends_first text done rest before behind h is
    ∙ ap (λ r. and_then r (λ t. Ok (done ++ t))) goes.2
    ∙ by goes.0 (calculated behind)
    ∙ ap (λ d. and_then (calculated behind) (λ t. Ok (d ++ t))) (sym goes.1)
  where
    by : (added : List ℕ) (r : Result (List ℕ) Cause) → and_then (and_then r (λ t. Ok (added ++ t))) (λ t. Ok (done ++ t)) ≡ and_then r (λ t. Ok ((done ++ added) ++ t))
    by added (Ok t) = ap (λ x. Ok x) (sym (append_assoc done added t))
    by added (Err cause) = refl

pub stops_there : (text done new rest before behind : List ℕ) (error : LineError) → IsDoneTo text done rest → rest ≡ before ++ 125 ∷ behind → GoesOn done new (Err error) (calculated (before ++ 125 ∷ behind)) (calculated behind)
    → Gives {X = List ℕ} (Err error) (calculated text)
stops_there text done new rest before behind (Refused cause) h is stops = ends_first text done rest before behind h is ∙ ap (λ r. and_then r (λ t. Ok (done ++ t))) stops
stops_there text done new rest before behind Memory h is stops = tt

pub all_done : (text done rest : List ℕ) → IsDoneTo text done rest → HasNo 125 rest → calculated text ≡ Ok (done ++ rest)
all_done text done rest h none = h ∙ ap (λ r. and_then r (λ t. Ok (done ++ t))) (nothing_calculated rest none)
