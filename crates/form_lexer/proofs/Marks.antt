-- Marks and built-in names are read from their texts, and from no others.
use Rattle.std.proofs.Common.{◌≡◌, ◌≢◌, ◌⊎◌, inl, inr, ℕ, List, [], ◌∷◌, length, Option, Some, refl, sym, ap, ◌∙◌, Bool, true, false, cond, eqb, ◌&&◌}
use Rattle.std.proofs.lemmas.Bool.{eqb-true, and_parts}
use Rattle.std.proofs.lemmas.Option.{same_Some}
use Rattle.form_lexer.specs.declared.mark.Mark as marks
use Rattle.form_lexer.specs.declared.mark.Mark.TheVariants.{And, Or, EqualTo, NotEqualTo, AtMost, AtLeast, Minus, Plus, Times, Over, Power, Open, Close, OpenBrace, CloseBrace, Comma, Semicolon, Colon, Equals, Period, Question, Less, Greater}
use Rattle.form_lexer.specs.declared.mark.BuiltIn as built_ins
use Rattle.form_lexer.specs.declared.mark.BuiltIn.TheVariants.{Imaginary, Delta, Gamma}
use Rattle.form_lexer.specs.declared.shape.Shape.{Shape}
use Rattle.form_lexer.specs.declared.shape.Shape.TheVariants as shapes
use Rattle.form_lexer.specs.Tokens.{mark_text, built_in_text}
use Rattle.form_lexer.specs.Reading.{double_mark, single_mark, underscored, word_at, mark_at, token_at}

-- a mark is read from its text
pub mark_again : (m : marks.Mark) → token_at (mark_text m) ≡ (shapes.Mark m, length (mark_text m))
unfolding token_at mark_at double_mark single_mark
mark_again And = refl
mark_again Or = refl
mark_again EqualTo = refl
mark_again NotEqualTo = refl
mark_again AtMost = refl
mark_again AtLeast = refl
mark_again Minus = refl
mark_again Plus = refl
mark_again Times = refl
mark_again Over = refl
mark_again Power = refl
mark_again Open = refl
mark_again Close = refl
mark_again OpenBrace = refl
mark_again CloseBrace = refl
mark_again Comma = refl
mark_again Semicolon = refl
mark_again Colon = refl
mark_again Equals = refl
mark_again Period = refl
mark_again Question = refl
mark_again Less = refl
mark_again Greater = refl

pub built_in_again : (b : built_ins.BuiltIn) → token_at (built_in_text b) ≡ (shapes.BuiltIn b, length (built_in_text b))
unfolding token_at word_at underscored
built_in_again Imaginary = refl
built_in_again Delta = refl
built_in_again Gamma = refl

-- what is read as a mark is its text
or_later : (c k : ℕ) (mark m : marks.Mark) (later : Option marks.Mark) → mark_text mark ≡ k ∷ [] → (later ≡ Some m → mark_text m ≡ c ∷ [])
    → cond (eqb c k) (Some mark) later ≡ Some m → mark_text m ≡ c ∷ []
or_later c k mark m later text next e = by_test (eqb c k) refl e where
  by_test : (b : Bool) → eqb c k ≡ b → cond b (Some mark) later ≡ Some m → mark_text m ≡ c ∷ []
  by_test true t h = ap mark_text (sym (same_Some mark m h)) ∙ text ∙ ap (λ (n : ℕ). n ∷ []) (sym (eqb-true c k t))
  by_test false t h = next h

pub single_is : (c : ℕ) (m : marks.Mark) → single_mark c ≡ Some m → mark_text m ≡ c ∷ []
unfolding single_mark
single_is c m e =
    (or_later c 45 Minus m _ refl (or_later c 43 Plus m _ refl (or_later c 42 Times m _ refl (or_later c 47 Over m _ refl (or_later c 94 Power m _ refl (or_later c 40 Open m _ refl (or_later c 41 Close m _ refl (or_later c 123 OpenBrace m _ refl (or_later c 125 CloseBrace m _ refl (or_later c 44 Comma m _ refl (or_later c 59 Semicolon m _ refl (or_later c 58 Colon m _ refl (or_later c 61 Equals m _ refl (or_later c 46 Period m _ refl (or_later c 63 Question m _ refl (or_later c 60 Less m _ refl (or_later c 62 Greater m _ refl (λ h. absurd cc))))))))))))))))))
    e

or_later_two : (c d k l : ℕ) (mark m : marks.Mark) (later : Option marks.Mark) → mark_text mark ≡ k ∷ l ∷ [] → (later ≡ Some m → mark_text m ≡ c ∷ d ∷ [])
    → cond (eqb c k && eqb d l) (Some mark) later ≡ Some m → mark_text m ≡ c ∷ d ∷ []
or_later_two c d k l mark m later text next e = by_test (eqb c k && eqb d l) refl e where
  by_test : (b : Bool) → (eqb c k && eqb d l) ≡ b → cond b (Some mark) later ≡ Some m → mark_text m ≡ c ∷ d ∷ []
  by_test true t h =
      let both = and_parts (eqb c k) (eqb d l) t in
      let first : k ≡ c = sym (eqb-true c k both.0) in
      let second : l ≡ d = sym (eqb-true d l both.1) in
      ap mark_text (sym (same_Some mark m h)) ∙ text ∙ cc
  by_test false t h = next h

pub double_is : (c d : ℕ) (m : marks.Mark) → double_mark c d ≡ Some m → mark_text m ≡ c ∷ d ∷ []
unfolding double_mark
double_is c d m e =
    (or_later_two c d 38 38 And m _ refl (or_later_two c d 124 124 Or m _ refl (or_later_two c d 61 61 EqualTo m _ refl (or_later_two c d 33 61 NotEqualTo m _ refl (or_later_two c d 60 61 AtMost m _ refl (or_later_two c d 62 61 AtLeast m _ refl (λ h. absurd cc)))))))
    e

-- a word that ends in underscores is read as a built-in name whose text it is, or as nothing
abbrev pub IsFound : List ℕ → Shape → Type 0
IsFound word shape = (shape ≡ shapes.Stray) ⊎ ((b : built_ins.BuiltIn) × (shape ≡ shapes.BuiltIn b) × (word ≡ built_in_text b))

or_found : (c d k : ℕ) (b : built_ins.BuiltIn) (later : Shape) → built_in_text b ≡ k ∷ 95 ∷ [] → IsFound (c ∷ d ∷ []) later
    → IsFound (c ∷ d ∷ []) (cond (eqb c k && eqb d 95) (shapes.BuiltIn b) later)
or_found c d k b later text next = by_test (eqb c k && eqb d 95) refl where
  by_test : (t : Bool) → (eqb c k && eqb d 95) ≡ t → IsFound (c ∷ d ∷ []) (cond t (shapes.BuiltIn b) later)
  by_test true t =
      let both = and_parts (eqb c k) (eqb d 95) t in
      let first : c ≡ k = eqb-true c k both.0 in
      let second : d ≡ 95 = eqb-true d 95 both.1 in
      inr (b, refl, cc)
  by_test false t = next

pub found : (word : List ℕ) → IsFound word (underscored word)
unfolding underscored
found [] = inl refl
found (c ∷ []) = inl refl
found (c ∷ d ∷ e ∷ more) = inl refl
found (c ∷ d ∷ []) =
    or_found c d 105 Imaginary _ refl (or_found c d 100 Delta _ refl (or_found c d 103 Gamma _ refl (inl refl)))

built_in_found : (b : built_ins.BuiltIn) → underscored (built_in_text b) ≡ shapes.BuiltIn b
unfolding underscored
built_in_found Imaginary = refl
built_in_found Delta = refl
built_in_found Gamma = refl

-- what is read as nothing has no built-in name's text
pub not_found : (word : List ℕ) → underscored word ≡ shapes.Stray → (b : built_ins.BuiltIn) → word ≢ built_in_text b
not_found word e b text =
    let same : shapes.BuiltIn b ≡ shapes.Stray = sym (built_in_found b) ∙ ap underscored (sym text) ∙ e in
    cc

pub stray_word : (word : List ℕ) → ((b : built_ins.BuiltIn) → word ≢ built_in_text b) → underscored word ≡ shapes.Stray
stray_word word other = by_case (found word) where
  by_case : IsFound word (underscored word) → underscored word ≡ shapes.Stray
  by_case (inl e) = e
  by_case (inr h) = absurd (other h.0 h.2)
