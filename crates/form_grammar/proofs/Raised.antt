-- A piece as it is changed, the last one or one that has others behind it.
use Rattle.std.proofs.Common.{◌≡◌, ℕ, suc, ◌+◌, ◌-◌, ◌<◌, ◌≤◌, Bool, true, false, eqb, cond, List, [], ◌∷◌, ◌++◌, length, get_or, set, Option, Some, None, option_map, Result, Ok, Err, refl, sym, ap, subst, ◌∙◌, arith}
use Rattle.std.proofs.lemmas.Bool.{eq-eqb, eqb-true, eqb-false}
use Rattle.std.proofs.lemmas.List.{length-append}
use Rattle.form_ast.specs.declared.expr.Piece.{Piece}
use Rattle.form_grammar.specs.declared.effect.Change.{Change}
use Rattle.form_grammar.specs.declared.error.ReadError.{ReadError}
use Rattle.form_grammar.specs.declared.error.ReadError.TheVariants.{BadSyntax, Memory}
use Rattle.form_grammar.specs.Reading.{Reading, Gives, changed, changed_reading, with_change}

option_map_twice : {A B C : Type 0} (f : A → B) (g : B → C) (o : Option A) → option_map g (option_map f o) ≡ option_map (λ x. g (f x)) o
option_map_twice f g None = refl
option_map_twice f g (Some x) = refl

-- a piece with these behind it
longer : (front tail : List Piece) (x : Piece) → length (front ++ x ∷ tail) ≡ length front + suc (length tail)
longer front tail x = length-append front (x ∷ tail)

pub changed_here : (c : Change) (front tail : List Piece) (x : Piece) → with_change (length tail) c (front ++ x ∷ tail) ≡ option_map (λ y. front ++ y ∷ tail) (changed c x)
unfolding with_change
changed_here c [] tail x =
    ap (λ (b : Bool). cond b (option_map (λ y. y ∷ tail) (changed c x)) (option_map (λ pieces. x ∷ pieces) (with_change (length tail) c tail))) (eq-eqb (length tail) (length tail) refl)
changed_here c (a ∷ front) tail x =
    by_test (eqb (length (front ++ x ∷ tail)) (length tail)) refl
    ∙ ap (option_map (λ pieces. a ∷ pieces)) (changed_here c front tail x)
    ∙ option_map_twice (λ y. front ++ y ∷ tail) (λ pieces. a ∷ pieces) (changed c x)
  where
    by_test : (b : Bool) → eqb (length (front ++ x ∷ tail)) (length tail) ≡ b
        → cond b (option_map (λ y. y ∷ front ++ x ∷ tail) (changed c a)) (option_map (λ pieces. a ∷ pieces) (with_change (length tail) c (front ++ x ∷ tail)))
        ≡ option_map (λ pieces. a ∷ pieces) (with_change (length tail) c (front ++ x ∷ tail))
    by_test false e = refl
    by_test true e = absurd (omega (arith, longer front tail x, eqb-true (length (front ++ x ∷ tail)) (length tail) e))

-- so many pieces have no such one
pub change_missing : (c : Change) (behind : ℕ) (ps : List Piece) → length ps ≤ behind → with_change behind c ps ≡ None
unfolding with_change
change_missing c behind [] few = refl
change_missing c behind (x ∷ rest) few = by_test (eqb (length rest) behind) refl (change_missing c behind rest (omega arith)) where
  by_test : (b : Bool) → eqb (length rest) behind ≡ b → with_change behind c rest ≡ None
      → cond b (option_map (λ y. y ∷ rest) (changed c x)) (option_map (λ pieces. x ∷ pieces) (with_change behind c rest)) ≡ None
  by_test true e h = absurd (omega (arith, few, eqb-true (length rest) behind e))
  by_test false e h = ap (option_map (λ pieces. x ∷ pieces)) h

-- the piece, at its place
pub change_at : (c : Change) (behind : ℕ) (x : Piece) (ps : List Piece) → behind < length ps → x ≡ get_or ps (length ps - 1 - behind) x
    → with_change behind c ps ≡ option_map (λ y. set ps (length ps - 1 - behind) y) (changed c x)
unfolding with_change
change_at c behind x [] some is = absurd (omega arith)
change_at c behind x (a ∷ rest) some is = by_test (eqb (length rest) behind) refl (change_at c behind x rest) where
  by_test : (b : Bool) → eqb (length rest) behind ≡ b
      → (behind < length rest → x ≡ get_or rest (length rest - 1 - behind) x → with_change behind c rest ≡ option_map (λ y. set rest (length rest - 1 - behind) y) (changed c x))
      → cond b (option_map (λ y. y ∷ rest) (changed c a)) (option_map (λ pieces. a ∷ pieces) (with_change behind c rest))
      ≡ option_map (λ y. set (a ∷ rest) (length (a ∷ rest) - 1 - behind) y) (changed c x)
  by_test true e again =
      let first : length (a ∷ rest) - 1 - behind ≡ 0 = omega (arith, eqb-true (length rest) behind e) in
      let here : x ≡ a = is ∙ ap (λ n. get_or (a ∷ rest) n x) first in
      ap (λ z. option_map (λ y. y ∷ rest) (changed c z)) (sym here) ∙ ap (λ n. option_map (λ y. set (a ∷ rest) n y) (changed c x)) (sym first)
  by_test false e again =
      let other : length rest ≡ behind → ⊥ = eqb-false (length rest) behind e in
      let later : length (a ∷ rest) - 1 - behind ≡ suc (length rest - 1 - behind) = omega (arith, some, other) in
      let here : x ≡ get_or rest (length rest - 1 - behind) x = is ∙ ap (λ n. get_or (a ∷ rest) n x) later in
      ap (option_map (λ pieces. a ∷ pieces)) (again (omega (arith, some, other)) here)
      ∙ option_map_twice (λ y. set rest (length rest - 1 - behind) y) (λ pieces. a ∷ pieces) (changed c x)
      ∙ ap (λ n. option_map (λ y. set (a ∷ rest) n y) (changed c x)) (sym later)

-- what changing a piece of so many gives
module _ (r : Reading) (c : Change) (behind n : ℕ) (count : n ≡ length r.pieces) where
  abbrev with_pieces : List Piece → Reading
  with_pieces pieces = record { pieces = pieces; opened = r.opened; expected = r.expected }

  pub none_changes : n ≤ behind → changed_reading behind c r ≡ None
  none_changes e = ap (option_map with_pieces) (change_missing c behind r.pieces (omega (arith, count, e)))

  module _ (x : Piece) (some : behind < n) (is : x ≡ get_or r.pieces (n - 1 - behind) x) where
    at_place : with_change behind c r.pieces ≡ option_map (λ y. set r.pieces (n - 1 - behind) y) (changed c x)
    at_place =
        change_at c behind x r.pieces (omega (arith, count, some)) (is ∙ ap (λ k. get_or r.pieces (k - 1 - behind) x) count)
        ∙ ap (λ k. option_map (λ y. set r.pieces (k - 1 - behind) y) (changed c x)) (sym count)

    pub change_fails : changed c x ≡ None → changed_reading behind c r ≡ None
    change_fails e = ap (option_map with_pieces) (at_place ∙ ap (option_map (λ y. set r.pieces (n - 1 - behind) y)) e)

    pub change_gives : (y : Piece) → changed c x ≡ Some y → changed_reading behind c r ≡ Some (with_pieces (set r.pieces (n - 1 - behind) y))
    change_gives y e = ap (option_map with_pieces) (at_place ∙ ap (option_map (λ y. set r.pieces (n - 1 - behind) y)) e)

    -- changing it gives, or refuses, what changing the reading does
    pub change_answers : (answer : Result (Unit {0}) ReadError) (y : Piece) → Gives (λ _. y) answer (changed c x) → Gives (λ _. with_pieces (set r.pieces (n - 1 - behind) y)) answer (changed_reading behind c r)
    change_answers (Ok u) y e = change_gives y e
    change_answers (Err BadSyntax) y e = change_fails e
    change_answers (Err Memory) y e = tt

-- what pieces stand behind others
option_map_same : {A : Type 0} (o : Option A) → o ≡ option_map (λ x. x) o
option_map_same None = refl
option_map_same (Some x) = refl

change_behind : (c : Change) (behind : ℕ) (front ps : List Piece) → behind < length ps → with_change behind c (front ++ ps) ≡ option_map (λ qs. front ++ qs) (with_change behind c ps)
unfolding with_change
change_behind c behind [] ps some = option_map_same (with_change behind c ps)
change_behind c behind (a ∷ front) ps some =
    by_test (eqb (length (front ++ ps)) behind) refl
    ∙ ap (option_map (λ pieces. a ∷ pieces)) (change_behind c behind front ps some)
    ∙ option_map_twice (λ qs. front ++ qs) (λ pieces. a ∷ pieces) (with_change behind c ps)
  where
    by_test : (b : Bool) → eqb (length (front ++ ps)) behind ≡ b
        → cond b (option_map (λ y. y ∷ front ++ ps) (changed c a)) (option_map (λ pieces. a ∷ pieces) (with_change behind c (front ++ ps)))
        ≡ option_map (λ pieces. a ∷ pieces) (with_change behind c (front ++ ps))
    by_test false e = refl
    by_test true e = absurd (omega (arith, some, length-append front ps, eqb-true (length (front ++ ps)) behind e))

-- the reading with pieces in front of its own
abbrev pub before : List Piece → Reading → Reading
before front r = record { pieces = front ++ r.pieces; opened = r.opened; expected = r.expected }

changed_before : (front : List Piece) (r : Reading) (c : Change) (behind : ℕ) → behind < length r.pieces → changed_reading behind c (before front r) ≡ option_map (before front) (changed_reading behind c r)
changed_before front r c behind some =
    ap (option_map (with_pieces (before front r) c behind (length (front ++ r.pieces)) refl)) (change_behind c behind front r.pieces some)
    ∙ option_map_twice (λ qs. front ++ qs) (with_pieces (before front r) c behind (length (front ++ r.pieces)) refl) (with_change behind c r.pieces)
    ∙ sym (option_map_twice (with_pieces r c behind (length r.pieces) refl) (before front) (with_change behind c r.pieces))

gives_before : (front : List Piece) (answer : Result (Unit {0}) ReadError) (r : Reading) (o : Option Reading) → Gives (λ _. r) answer o → Gives (λ _. before front r) answer (option_map (before front) o)
gives_before front (Ok u) r o e = ap (option_map (before front)) e
gives_before front (Err BadSyntax) r o e = ap (option_map (before front)) e
gives_before front (Err Memory) r o e = tt

-- the same where others stand in front
pub change_answers_behind : (front : List Piece) (r : Reading) (c : Change) (behind n : ℕ) (count : n ≡ length r.pieces) (x : Piece) (some : behind < n) (is : x ≡ get_or r.pieces (n - 1 - behind) x)
    (answer : Result (Unit {0}) ReadError) (y : Piece) → Gives (λ _. y) answer (changed c x)
    → Gives (λ _. before front (record { pieces = set r.pieces (n - 1 - behind) y; opened = r.opened; expected = r.expected })) answer (changed_reading behind c (before front r))
change_answers_behind front r c behind n count x some is answer y e =
    subst (λ o. Gives (λ _. before front (record { pieces = set r.pieces (n - 1 - behind) y; opened = r.opened; expected = r.expected })) answer o)
    (sym (changed_before front r c behind (omega (arith, count, some))))
    (gives_before front answer (record { pieces = set r.pieces (n - 1 - behind) y; opened = r.opened; expected = r.expected }) (changed_reading behind c r) (change_answers r c behind n count x some is answer y e))
