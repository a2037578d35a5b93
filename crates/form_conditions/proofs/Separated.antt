-- Texts with a mark between each two are read one by one.
use Rattle.std.proofs.Common.{◌≡◌, ℕ, zero, suc, ◌<◌, ◌≤◌, Bool, true, false, cond, List, [], ◌∷◌, ◌++◌, length, Option, Some, None, option_and_then, refl, sym, ap, subst, ◌∙◌, append_assoc, arith}
use Rattle.std.proofs.lemmas.List.{length-append}
use Rattle.std.proofs.lemmas.Option.{same_Some}
use Rattle.form_grammar.specs.declared.error.ReadError.{ReadError}
use Rattle.form_grammar.specs.declared.error.ReadError.TheVariants.{BadSyntax, Memory}
use Rattle.form_grammar.specs.declared.terminal.Terminal.{Terminal}
use Rattle.form_grammar.specs.Reading.{IsUnread}
use Rattle.form_conditions.specs.declared.tokens.Wanted.{Wanted}
use Rattle.form_conditions.specs.Grammar.{AreJoined}
use Rattle.form_conditions.specs.Reading.{Reads, separated, all_separated}
use Rattle.form_conditions.specs.Tokens.{begins, tail_of}
use Rattle.form_conditions.proofs.Fronts.{IsFront, Sound, Complete, IsMark}

module _ {A : Type 0} (item : Reads A) (w : Wanted) where
  -- behind one that is read
  abbrev further : ℕ → List A → A × List Terminal → Option (List A × List Terminal)
  further most done x = cond (begins w x.1) (separated item w most (done ++ x.0 ∷ []) (tail_of x.1)) (Some (done ++ x.0 ∷ [], x.1))

  separated_more : (most : ℕ) (done : List A) (text : List Terminal) → separated item w (suc most) done text ≡ option_and_then (further most done) (item text)
  unfolding separated
  separated_more most done text = refl

  -- behind the mark, and behind the last one
  goes_on : (most : ℕ) (done : List A) (text more : List Terminal) (x : A) → item text ≡ Some (x, more) → begins w more ≡ true
      → separated item w (suc most) done text ≡ separated item w most (done ++ x ∷ []) (tail_of more)
  goes_on most done text more x e f =
      separated_more most done text
      ∙ ap (option_and_then (further most done)) e
      ∙ ap (λ (b : Bool). cond b (separated item w most (done ++ x ∷ []) (tail_of more)) (Some (done ++ x ∷ [], more))) f

  stops : (most : ℕ) (done : List A) (text more : List Terminal) (x : A) → item text ≡ Some (x, more) → begins w more ≡ false
      → separated item w (suc most) done text ≡ Some (done ++ x ∷ [], more)
  stops most done text more x e f =
      separated_more most done text
      ∙ ap (option_and_then (further most done)) e
      ∙ ap (λ (b : Bool). cond b (separated item w most (done ++ x ∷ []) (tail_of more)) (Some (done ++ x ∷ [], more))) f

  fails : (most : ℕ) (done : List A) (text : List Terminal) → item text ≡ None → separated item w (suc most) done text ≡ None
  fails most done text e = separated_more most done text ∙ ap (option_and_then (further most done)) e

module _ {A : Type 0} (Text : A → List Terminal → Type 0) (item : Reads A) (w : Wanted) (m : Terminal) (mark : IsMark w m) (sound : Sound Text item) where
  -- ---- what is read is written so

  pub record AreBehind (done : List A) (text : List Terminal) (out : List A × List Terminal) : Type 0 where
    more : List A
    kept : out.0 ≡ done ++ more
    front : IsFront (AreJoined Text m more) text out.1

  joined_more : (x : A) (xs : List A) (front back : List Terminal) → Text x front → AreJoined Text m xs back → AreJoined Text m (x ∷ xs) (front ++ m ∷ back)
  joined_more x [] front back h k = absurd k
  joined_more x (y ∷ ys) front back h k = record { front = front; back = back; is_left = h; is_right = k; written = refl }

  last_read : (done : List A) (text : List Terminal) (out x : List A × List Terminal) (y : A) → IsFront (Text y) text x.1 → x.0 ≡ done ++ y ∷ [] → x ≡ out → AreBehind done text out
  last_read done text out x y s kept same = record {
    more = y ∷ [];
    kept = sym (ap (λ (p : List A × List Terminal). p.0) same) ∙ kept;
    front = record { front = s.front; is_front = s.is_front; split = s.split ∙ ap (λ (p : List A × List Terminal). s.front ++ p.1) same };
  }

  more_read : (done : List A) (text more : List Terminal) (out : List A × List Terminal) (x : A) → IsFront (Text x) text more → begins w more ≡ true → AreBehind (done ++ x ∷ []) (tail_of more) out → AreBehind done text out
  more_read done text more out x s g h = record {
    more = x ∷ h.more;
    kept = h.kept ∙ append_assoc done (x ∷ []) h.more;
    front = record {
      front = s.front ++ m ∷ h.front.front;
      is_front = joined_more x h.more s.front h.front.front s.is_front h.front.is_front;
      split = s.split
          ∙ ap (λ (t : List Terminal). s.front ++ t) (mark.1 more g ∙ ap (λ (t : List Terminal). m ∷ t) h.front.split)
          ∙ sym (append_assoc s.front (m ∷ h.front.front) out.1);
    };
  }

  one_read : (most : ℕ) (done : List A) (text : List Terminal) (out : List A × List Terminal)
      → ((before : List A) (behind : List Terminal) → separated item w most before behind ≡ Some out → AreBehind before behind out)
      → (o : Option (A × List Terminal)) → item text ≡ o → option_and_then (further item w most done) o ≡ Some out → AreBehind done text out
  one_read most done text out others None f e = absurd cc
  one_read most done text out others (Some x) f e = by_mark (begins w x.1) refl e where
    by_mark : (b : Bool) → begins w x.1 ≡ b → cond b (separated item w most (done ++ x.0 ∷ []) (tail_of x.1)) (Some (done ++ x.0 ∷ [], x.1)) ≡ Some out → AreBehind done text out
    by_mark true g k = more_read done text x.1 out x.0 (sound text x.1 x.0 f) g (others (done ++ x.0 ∷ []) (tail_of x.1) k)
    by_mark false g k =
        let here : List A × List Terminal = (done ++ x.0 ∷ [], x.1) in
        last_read done text out here x.0 (sound text x.1 x.0 f) refl (same_Some here out k)

  separated_sound : (most : ℕ) (done : List A) (text : List Terminal) (out : List A × List Terminal) → separated item w most done text ≡ Some out → AreBehind done text out
  unfolding separated
  separated_sound zero done text out e = absurd cc
  separated_sound (suc most) done text out e = one_read most done text out (λ before behind f. separated_sound most before behind out f) (item text) refl e

  pub all_sound : Sound (AreJoined Text m) (all_separated item w)
  all_sound text rest xs e =
      let out : List A × List Terminal = (xs, rest) in
      let h = separated_sound (suc (length text)) [] text out e in
      subst (λ (ys : List A). IsFront (AreJoined Text m ys) text rest) (sym h.kept) h.front

  -- ---- how often it may go on

  no_longer : (text more : List Terminal) (x : A) → item text ≡ Some (x, more) → length more ≤ length text
  no_longer text more x e = let s = sound text more x e in omega (arith, ap length s.split, length-append s.front more)

  shorter : (text : List Terminal) → begins w text ≡ true → length (tail_of text) < length text
  shorter text e = omega (arith, ap length (mark.1 text e))

  one_alike : (f g : ℕ) (done : List A) (text : List Terminal) → length text ≤ f → length text ≤ g
      → ((before : List A) (behind : List Terminal) → length behind < f → length behind < g → separated item w f before behind ≡ separated item w g before behind)
      → (o : Option (A × List Terminal)) → item text ≡ o → option_and_then (further item w f done) o ≡ option_and_then (further item w g done) o
  one_alike f g done text h k others None e = refl
  one_alike f g done text h k others (Some x) e = by_mark (begins w x.1) refl where
    by_mark : (b : Bool) → begins w x.1 ≡ b
        → cond b (separated item w f (done ++ x.0 ∷ []) (tail_of x.1)) (Some (done ++ x.0 ∷ [], x.1)) ≡ cond b (separated item w g (done ++ x.0 ∷ []) (tail_of x.1)) (Some (done ++ x.0 ∷ [], x.1))
    by_mark true q =
        let a = no_longer text x.1 x.0 e in
        let b = shorter x.1 q in
        let below : length (tail_of x.1) < f = omega (arith, a, b) in
        let within : length (tail_of x.1) < g = omega (arith, a, b) in
        others (done ++ x.0 ∷ []) (tail_of x.1) below within
    by_mark false q = refl

  alike : (f g : ℕ) (done : List A) (text : List Terminal) → length text < f → length text < g → separated item w f done text ≡ separated item w g done text
  unfolding separated
  alike zero g done text h k = absurd (omega (arith, h))
  alike (suc f) zero done text h k = absurd (omega (arith, k))
  alike (suc f) (suc g) done text h k =
      let below : length text ≤ f = omega (arith, h) in
      let within : length text ≤ g = omega (arith, k) in
      one_alike f g done text below within (λ before behind a b. alike f g before behind a b) (item text) refl

  -- ---- a loop over them

  abbrev pub left_of : List A → List Terminal → Option (List A × List Terminal)
  left_of done text = separated item w (suc (length text)) done text

  pub loop_goes : (done next : List A) (text more last : List Terminal) (x : A) (all : Option (List A × List Terminal)) → left_of done text ≡ all → item text ≡ Some (x, more) → begins w more ≡ true
      → next ≡ done ++ x ∷ [] → last ≡ tail_of more → left_of next last ≡ all
  loop_goes done next text more last x all h e f p q =
      let a = no_longer text more x e in
      let b = shorter more f in
      let below : length (tail_of more) < suc (length (tail_of more)) = omega arith in
      let within : length (tail_of more) < length text = omega (arith, a, b) in
      ap (λ (t : List Terminal). left_of next t) q
      ∙ ap (λ (xs : List A). left_of xs (tail_of more)) p
      ∙ alike (suc (length (tail_of more))) (length text) (done ++ x ∷ []) (tail_of more) below within
      ∙ sym (goes_on item w (length text) done text more x e f)
      ∙ h

  pub loop_stops : (done next : List A) (text more last : List Terminal) (x : A) (all : Option (List A × List Terminal)) → left_of done text ≡ all → item text ≡ Some (x, more) → begins w more ≡ false
      → next ≡ done ++ x ∷ [] → last ≡ more → all ≡ Some (next, last)
  loop_stops done next text more last x all h e f p q =
      sym h
      ∙ stops item w (length text) done text more x e f
      ∙ ap (λ (xs : List A). Some (xs, more)) (sym p)
      ∙ ap (λ (t : List Terminal). Some (next, t)) (sym q)

  pub loop_shorter : (text more last : List Terminal) (x : A) → item text ≡ Some (x, more) → begins w more ≡ true → last ≡ tail_of more → length last < length text
  loop_shorter text more last x e f q =
      let a = no_longer text more x e in
      let b = shorter more f in
      omega (arith, a, b, ap length q)

  pub loop_unread : (error : ReadError) (done : List A) (text : List Terminal) (all : Option (List A × List Terminal)) → left_of done text ≡ all → IsUnread error (item text) → IsUnread error all
  loop_unread Memory done text all h e = tt
  loop_unread BadSyntax done text all h e = sym h ∙ fails item w (length text) done text e

-- ---- what is written so is read

module _ {A : Type 0} (Text : A → List Terminal → Type 0) (item : Reads A) (w : Wanted) (m : Terminal) (mark : IsMark w m)
    (Ends : List Terminal → Type 0) (complete : Complete Text item Ends) (ends : (rest : List Terminal) → Ends (m ∷ rest)) where
  no_more : (xs : List A) (text : List Terminal) → AreJoined Text m xs text → length xs ≤ suc (length text)
  no_more [] text h = absurd h
  no_more (x ∷ []) text h = omega arith
  no_more (x ∷ y ∷ more) text h =
      let others = no_more (y ∷ more) h.back h.is_right in
      omega (arith, others, ap length h.written, length-append h.front (m ∷ h.back))

  separated_complete : (xs : List A) (most : ℕ) (done : List A) (text rest : List Terminal) → length xs ≤ most → AreJoined Text m xs text → Ends rest → begins w rest ≡ false
      → separated item w most done (text ++ rest) ≡ Some (done ++ xs, rest)
  separated_complete [] most done text rest l h e f = absurd h
  separated_complete (x ∷ []) zero done text rest l h e f = absurd (omega (arith, l))
  separated_complete (x ∷ []) (suc most) done text rest l h e f = stops item w most done (text ++ rest) rest x (complete x text rest h e) f
  separated_complete (x ∷ y ∷ more) zero done text rest l h e f = absurd (omega (arith, l))
  separated_complete (x ∷ y ∷ more) (suc most) done text rest l h e f =
      let fewer : length (y ∷ more) ≤ most = omega (arith, l) in
      let behind : List Terminal = m ∷ (h.back ++ rest) in
      let split : text ++ rest ≡ h.front ++ behind = ap (λ (t : List Terminal). t ++ rest) h.written ∙ append_assoc h.front (m ∷ h.back) rest in
      goes_on item w most done (text ++ rest) behind x (ap item split ∙ complete x h.front behind h.is_left (ends (h.back ++ rest))) mark.0
      ∙ separated_complete (y ∷ more) most (done ++ x ∷ []) h.back rest fewer h.is_right e f
      ∙ ap (λ (xs : List A). Some (xs, rest)) (append_assoc done (x ∷ []) (y ∷ more))

  pub all_complete : Complete (AreJoined Text m) (all_separated item w) (λ rest. Ends rest × (begins w rest ≡ false))
  all_complete xs text rest h e =
      let few = no_more xs text h in
      let within : length xs ≤ suc (length (text ++ rest)) = omega (arith, few, length-append text rest) in
      separated_complete xs (suc (length (text ++ rest))) [] text rest within h e.0 e.1
