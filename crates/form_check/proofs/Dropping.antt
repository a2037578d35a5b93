-- What a list of names drops.
use Rattle.std.proofs.Common.{◌≡◌, ℕ, zero, suc, ◌+◌, ◌<◌, ◌≤◌, Bool, true, false, ◌==◌, ◌&&◌, ◌||◌, not, List, [], ◌∷◌, ◌++◌, length, get_or, drop, refl, sym, ap, ◌∙◌}
use Rattle.std.specs.List.{list_any}
use Rattle.std.proofs.lemmas.List.{drop_all}
use Rattle.std.proofs.lemmas.List.Folds.{list_any-append}
use Rattle.form_check.specs.declared.checked.Checked.{Checked}
use Rattle.form_check.specs.declared.checked.Checked.TheVariants.{Drop}
use Rattle.form_check.specs.declared.checked.Selection.{Selection}
use Rattle.form_right_side.specs.declared.standing.Standing.{Standing}
use Rattle.form_right_side.specs.Marks.{AreMarksLawful, is_defined_in, stands_in, stays_in}
use Rattle.form_check.specs.Marks.{AreMarksOf}
use Rattle.form_check.specs.Program.{Module}
use Rattle.form_check.specs.Standing.{is_definition, is_drop, means, defines, drops, stands}
use Rattle.form_right_side.proofs.Loops.{rest}

neither : (a b c : Bool) → (a && not (b || c)) ≡ ((a && not b) && not c)
neither true true c = refl
neither true false c = refl
neither false b c = refl

and-not-false : (a : Bool) → (a && not false) ≡ a
and-not-false true = refl
and-not-false false = refl

-- the first of them, and the rest
pub stays-next : (all stays after : Bool) (ids : List ℕ) (i id e : ℕ) → i < length ids → id ≡ get_or ids i id → all ≡ (stays && not (list_any (λ id. id == e) (drop i ids))) → after ≡ (stays && not (id == e)) → all ≡ (after && not (list_any (λ id. id == e) (drop (i + 1) ids)))
stays-next all stays after ids i id e within is invariant drops =
    invariant ∙ ap (λ left. stays && not (list_any (λ id. id == e) left)) (rest ids i id within is)
    ∙ neither stays (id == e) (list_any (λ id. id == e) (drop (i + 1) ids))
    ∙ ap (λ b. b && not (list_any (λ id. id == e) (drop (i + 1) ids))) (sym drops)

pub stays-end : (all stays : Bool) (ids : List ℕ) (i e : ℕ) → length ids ≤ i → all ≡ (stays && not (list_any (λ id. id == e) (drop i ids))) → stays ≡ all
stays-end all stays ids i e past invariant =
    sym (invariant ∙ ap (λ left. stays && not (list_any (λ id. id == e) left)) (drop_all i ids past) ∙ and-not-false stays)

right-false : (a b : Bool) → (a || b) ≡ false → b ≡ false
right-false true b is = cc
right-false false b is = is

none-left : (e : ℕ) (ids : List ℕ) (i : ℕ) → list_any (λ id. id == e) ids ≡ false → list_any (λ id. id == e) (drop i ids) ≡ false
none-left e ids zero none = none
none-left e [] (suc i) none = none
none-left e (id ∷ ids) (suc i) none = none-left e ids i (right-false (id == e) _ none)

-- one that isn't among them, wherever they break off
pub stays-other : (old stays : Bool) (ids : List ℕ) (i e : ℕ) → list_any (λ id. id == e) ids ≡ false → (old && not (list_any (λ id. id == e) ids)) ≡ (stays && not (list_any (λ id. id == e) (drop i ids))) → stays ≡ old
stays-other old stays ids i e none invariant =
    sym (and-not-false stays) ∙ ap (λ b. stays && not b) (sym (none-left e ids i none)) ∙ sym invariant ∙ ap (λ b. old && not b) none ∙ and-not-false old

or-false : (b : Bool) → (b || false) ≡ b
or-false true = refl
or-false false = refl

-- the marks once a statement drops what it means
pub marks-dropped : (old kept : Standing) (earlier : List Module) (statements : List Checked) (which : Selection) → AreMarksOf old earlier statements → AreMarksLawful kept
    → ((e : ℕ) → stands_in kept e ≡ stands_in old e) → ((e : ℕ) → is_defined_in kept e ≡ is_defined_in old e) → ((e : ℕ) → stays_in kept e ≡ (stays_in old e && not (means which e)))
    → AreMarksOf kept earlier (statements ++ Drop which ∷ [])
marks-dropped old kept earlier statements which marks lawful same_standing same_defining staying = record {
  lawful = lawful;
  standing = λ e. same_standing e ∙ marks.standing e;
  defining = λ e. same_defining e ∙ marks.defining e ∙ sym (list_any-append (is_definition e) statements (Drop which ∷ []) ∙ or-false (defines statements e));
  staying = λ e. staying e ∙ ap (λ (b : Bool). b && not (means which e)) (marks.staying e)
      ∙ sym (neither (stands earlier e) (drops statements e) (means which e))
      ∙ ap (λ (b : Bool). stands earlier e && not b) (sym (list_any-append (is_drop e) statements (Drop which ∷ []) ∙ ap (λ (b : Bool). drops statements e || b) (or-false (means which e))));
}
