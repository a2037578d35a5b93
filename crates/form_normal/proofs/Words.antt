-- Non-commuting functions behind a term.
use Rattle.std.proofs.Common.{◌≡◌, ◌+◌, Bool, true, false, not, ◌&&◌, List, [], ◌∷◌, ◌++◌, map, append-nil, append_assoc, refl, ap, sym, subst, ◌∙◌, arith}
use Rattle.std.specs.Prelude.{Ok, Err, Some, None, All, ℤ, pos, ◌+ℤ◌}
use Rattle.std.specs.List.{filter}
use Rattle.std.proofs.lemmas.Int.{ints}
use Rattle.std.proofs.lemmas.List.Elements.{All-head, All-tail}
use Rattle.form_base.specs.declared.cause.Cause.TheVariants.{Overflow}
use Rattle.form_frac.specs.Fraction.{Fraction, multiply}
use Rattle.form_term.specs.declared.index.Delta.{Delta}
use Rattle.form_term.specs.declared.monomial.Monomial.{Monomial}
use Rattle.form_term.specs.Term.{Term, Call, IsTerm, IsCall, exponent_of, nothing, of_others, component_order, delta_order, call_order, size_of_call}
use Rattle.form_term.specs.Terms.{term, word_put}
use Rattle.form_normal.specs.Factors.{HasRoom, HasRoomForWord, HasRoomForWords, IsWord, words_put}
use Rattle.form_normal.specs.Lists.{in_order, dots_product}
use Rattle.form_normal.specs.Product.{is_one, others_product, term_product, turned, limited, product_of}
use Rattle.form_normal.proofs.Dots.{dots_same}
use Rattle.form_normal.proofs.Functions.{word_put_lawful}
use Rattle.form_normal.proofs.Lasting.{odd, within, all_kept, no_zeros_in}
use Rattle.form_normal.proofs.Order.{in_order_same, sum_first}
use Rattle.form_normal.proofs.Others.{sizes_append}
use Rattle.form_normal.proofs.Parts.{product_made, product_overflows}
use Rattle.form_normal.proofs.Powers.{product_from}

-- the first of several
module _ (t : Term) (c : Call) (cs : List Call) (room : HasRoomForWords t (c ∷ cs)) where
  pub first_call : IsCall c
  first_call = All-head IsCall c cs room.calls

  pub first_room : HasRoom t c
  first_room =
      let sizes = sum_first (size_of_call c) (map size_of_call cs) in
      record { small = omega (arith, room.small, sizes); shallow = omega (arith, room.shallow); unfixed = room.unfixed }

  pub rest_room : HasRoomForWords (word_put c t) cs
  rest_room =
      let sizes = sum_first (size_of_call c) (map size_of_call cs) in
      let own = sizes_append t.others.word (c ∷ []) in
      let one = sum_first (size_of_call c) [] in
      record { calls = All-tail IsCall c cs room.calls; small = omega (arith, room.small, sizes, own, one); shallow = omega (arith, room.shallow); unfixed = room.unfixed }

  pub rest_put : words_put cs (word_put c t) ≡ words_put (c ∷ cs) t
  rest_put = ap (λ (ds : List Call). term t.symbols (record t.others { word = ds })) (append_assoc t.others.word (c ∷ []) cs)

pub none_put : (t : Term) → words_put [] t ≡ t
none_put t = ap (λ (ds : List Call). term t.symbols (record t.others { word = ds })) (append-nil t.others.word)

words_lawful : (t : Term) (cs : List Call) → IsTerm t → HasRoomForWords t cs → IsTerm (words_put cs t)
words_lawful t [] lawful room = subst IsTerm (sym (none_put t)) lawful
words_lawful t (c ∷ cs) lawful room =
    let next = word_put_lawful t c lawful (first_call t c cs room) (first_room t c cs room) in
    subst IsTerm (rest_put t c cs room) (words_lawful (word_put c t) cs next (rest_room t c cs room))

-- The walk: these are left to be put behind a term.
pub record Putting (whole t : Term) (rest : List Call) : Type 0 where
  pub is : words_put rest t ≡ whole
  pub lawful : IsTerm t
  pub room : HasRoomForWords t rest

module _ (whole t : Term) (rest : List Call) (c : Call) (others : List Call) (e : rest ≡ c ∷ others) (h : Putting whole t rest) where
  here : HasRoomForWords t (c ∷ others)
  here = subst (HasRoomForWords t) e h.room

  pub putting_lawful : IsTerm (word_put c t)
  putting_lawful = word_put_lawful t c h.lawful (first_call t c others here) (first_room t c others here)

  pub putting_next : Putting whole (word_put c t) others
  putting_next = record {
    is = rest_put t c others here ∙ ap (λ (ds : List Call). words_put ds t) (sym e) ∙ h.is;
    lawful = putting_lawful;
    room = rest_room t c others here;
  }

pub putting_ends : (whole t : Term) (rest : List Call) → rest ≡ [] → Putting whole t rest → t ≡ whole
putting_ends whole t rest e h = sym (none_put t) ∙ ap (λ (ds : List Call). words_put ds t) (sym e) ∙ h.is

-- a word as a factor
abbrev word_of : List Call → Term
word_of cs = of_others (record nothing { word = cs })

module _ (t : Term) (cs : List Call) (lawful : IsTerm t) (room : HasRoomForWords t cs) where
  words_made : others_product (t ∷ word_of cs ∷ []) ≡ record t.others { word = t.others.word ++ cs }
  unfolding others_product
  words_made =
      let o = t.others in
      let h = lawful.others in
      let imaginary = odd o.is_imaginary in
      let dots = ap dots_product (append-nil o.dots) ∙ dots_same o.dots h.dots_rise in
      let components = ap (in_order component_order) (append-nil o.components) ∙ in_order_same component_order o.components h.components_rise in
      let deltas = ap (λ ds. filter (λ (d : Delta). not (is_one d)) (in_order delta_order ds)) (append-nil o.deltas) ∙ ap (λ ds. filter (λ (d : Delta). not (is_one d)) ds) (in_order_same delta_order o.deltas h.deltas_rise) ∙ all_kept o.deltas room.unfixed in
      let functions = ap (in_order call_order) (append-nil o.functions) ∙ in_order_same call_order o.functions h.functions_rise in
      let word = ap (λ (ds : List Call). o.word ++ ds) (append-nil cs) in
      λ i. record { is_imaginary = imaginary i; dots = dots i; components = components i; deltas = deltas i; functions = functions i; word = word i }

  words_product : words_put cs t ≡ term_product (t ∷ word_of cs ∷ [])
  words_product =
      let symbols = product_from t.symbols (t ∷ word_of cs ∷ []) lawful.rising lawful.present (λ symbol. add (exponent_of t symbol)) in
      let others = sym words_made in
      λ i. record { symbols = symbols i; others = others i }
    where
      add : (x : ℤ) → x ≡ x +ℤ (pos 0 +ℤ pos 0)
      add x = omega (arith, ints)

  words_limited : limited (term_product (t ∷ word_of cs ∷ [])) ≡ Ok (words_put cs t)
  words_limited = ap limited (sym words_product) ∙ within (words_put cs t) (words_lawful t cs lawful room)

no_sign : (b : Bool) (c : Fraction) → c ≡ turned (b && false) c
no_sign true c = refl
no_sign false c = refl

-- A term with its coefficient times a word for which it has room.
module _ (m w : Monomial) (lawful : IsTerm m.term) (word : IsTerm w.term) (is : IsWord w.term) (room : HasRoomForWord m.term w.term) where
  pub room_for_word : HasRoomForWords m.term w.term.others.word
  room_for_word =
      let alone : HasRoomForWord m.term (word_of w.term.others.word) = subst (HasRoomForWord m.term) is room in
      record { calls = word.others.word; small = omega (arith, alone.small); shallow = omega (arith, word.shallow); unfixed = room.unfixed }

  alone : w ≡ record { coefficient = w.coefficient; term = word_of w.term.others.word }
  alone = ap (λ (t : Term). record { coefficient = w.coefficient; term = t }) is

  pub word_times : (made : Fraction) → multiply m.coefficient w.coefficient ≡ Some made → product_of m w ≡ Ok (Some (record { coefficient = made; term = words_put w.term.others.word m.term }))
  word_times made times =
      ap (product_of m) alone
      ∙ product_made m (record { coefficient = w.coefficient; term = word_of w.term.others.word }) made made (words_put w.term.others.word m.term) (no_zeros_in m.term.others.deltas room.unfixed) times (no_sign m.term.others.is_imaginary made)
      (words_limited m.term w.term.others.word lawful room_for_word)

  pub word_overflows : multiply m.coefficient w.coefficient ≡ None → product_of m w ≡ Err Overflow
  word_overflows none =
      ap (product_of m) alone ∙ product_overflows m (record { coefficient = w.coefficient; term = word_of w.term.others.word }) (no_zeros_in m.term.others.deltas room.unfixed) none
