-- A `sum` is read in one way, or it is none.
use Rattle.std.proofs.Common.{◌≡◌, inl, inr, List, [], ◌∷◌, Option, Some, None, Result, Ok, Err, refl, sym, ap, subst, ◌∙◌}
use Rattle.std.specs.Prelude.{IfOk, IfErr}
use Rattle.std.proofs.lemmas.Option.{same_Some, none-some}
use Rattle.form_ast.specs.declared.expr.Spelled.{Spelled}
use Rattle.form_ast.specs.declared.statement.Statement.{Statement}
use Rattle.form_ast.specs.declared.statement.Statement.TheVariants as statements
use Rattle.form_ast.specs.declared.statement.WrittenElements.{WrittenElements}
use Rattle.form_grammar.specs.declared.error.ReadError.{ReadError}
use Rattle.form_grammar.specs.declared.error.ReadError.TheVariants.{BadSyntax, Memory}
use Rattle.form_grammar.specs.declared.terminal.Terminal.{Terminal}
use Rattle.form_grammar.specs.declared.terminal.Terminal.TheVariants.{Name, Comma}
use Rattle.form_grammar.specs.Reading.{Excludes, Gives}
use Rattle.form_stmts.specs.Reading.{front_name}
use Rattle.form_stmts.specs.Statement.{AreElements, AreSummed, IsSum, IsSumBehind, sum_of}
use Rattle.form_stmts.proofs.Either.{IsOrNot, IsOne}
use Rattle.form_stmts.proofs.Members.{one_elements, elements_or_not}

same_front : (terminals : List Terminal) (n m : Spelled) (rest others : List Terminal) → terminals ≡ Name n ∷ rest → terminals ≡ Name m ∷ others → (n ≡ m) × (rest ≡ others)
same_front terminals n m rest others e f =
    let here : Spelled × List Terminal = (n, rest) in
    let there : Spelled × List Terminal = (m, others) in
    let same : here ≡ there = same_Some here there (ap front_name (sym e ∙ f)) in
    (ap (λ (x : Spelled × List Terminal). x.0) same, ap (λ (x : Spelled × List Terminal). x.1) same)

one_summed : (name : Spelled) (rest : List Terminal) → IsOne (AreSummed name rest)
one_summed name rest s t h k =
    same_Some s t (sym h.2 ∙ ap (sum_of name) (one_elements rest h.0 k.0 h.1 k.1) ∙ k.2)

one_behind : (name : Spelled) (rest : List Terminal) → IsOne (IsSumBehind name rest)
one_behind name [] s t h k = h ∙ sym k
one_behind name (Comma ∷ rest) s t h k = one_summed name rest s t h k
one_behind name (_ ∷ rest) s t h k = absurd h

pub one_sum : (terminals : List Terminal) → IsOne (IsSum terminals)
one_sum terminals s t h k =
    let same = same_front terminals h.name k.name h.rest k.rest h.written k.written in
    one_behind k.name k.rest s t (subst (λ (n : Spelled). IsSumBehind n k.rest s) same.0 (subst (λ (r : List Terminal). IsSumBehind h.name r s) same.1 h.behind)) k.behind

summed_or_not : (name : Spelled) (rest : List Terminal) → IsOrNot (AreSummed name rest)
summed_or_not name rest = by_elements (elements_or_not rest) where
  by_sum : (e : WrittenElements) → AreElements rest e → (o : Option Statement) → sum_of name e ≡ o → IsOrNot (AreSummed name rest)
  by_sum e h (Some s) f = inl (s, (e, h, f))
  by_sum e h None f = inr (λ s k. none-some s (sym f ∙ ap (sum_of name) (one_elements rest e k.0 h k.1) ∙ k.2))

  by_elements : IsOrNot (AreElements rest) → IsOrNot (AreSummed name rest)
  by_elements (inl e) = by_sum e.0 e.1 (sum_of name e.0) refl
  by_elements (inr none) = inr (λ s k. none k.0 k.1)

behind_or_not : (name : Spelled) (rest : List Terminal) → IsOrNot (IsSumBehind name rest)
behind_or_not name [] = inl (statements.Sum (name ∷ []), refl)
behind_or_not name (Comma ∷ rest) = summed_or_not name rest
behind_or_not name (_ ∷ rest) = inr (λ s h. h)

pub sum_or_not : (terminals : List Terminal) → IsOrNot (IsSum terminals)
sum_or_not [] = inr (λ s h. let w = h.written in cc)
sum_or_not (Name n ∷ rest) = by_behind (behind_or_not n rest) where
  by_behind : IsOrNot (IsSumBehind n rest) → IsOrNot (IsSum (Name n ∷ rest))
  by_behind (inl p) = inl (p.0, record { name = n; rest = rest; written = refl; behind = p.1 })
  by_behind (inr none) = inr (λ s h.
      let same = same_front (Name n ∷ rest) n h.name rest h.rest refl h.written in
      none s (subst (λ (m : Spelled). IsSumBehind m rest s) (sym same.0) (subst (λ (r : List Terminal). IsSumBehind h.name r s) (sym same.1) h.behind)))
sum_or_not (_ ∷ rest) = inr (λ s h. let w = h.written in cc)

-- ---- what reading a `sum` answers

none_behind : (terminals rest : List Terminal) (name : Spelled) (error : ReadError) → terminals ≡ Name name ∷ rest → Excludes error (IsSumBehind name rest) → Excludes error (IsSum terminals)
none_behind terminals rest name Memory e h = tt
none_behind terminals rest name BadSyntax e h = λ s k.
    let same = same_front terminals name k.name rest k.rest e k.written in
    h s (subst (λ (m : Spelled). IsSumBehind m rest s) (sym same.0) (subst (λ (r : List Terminal). IsSumBehind k.name r s) (sym same.1) k.behind))

front_is : (terminals rest : List Terminal) (name : Spelled) → front_name terminals ≡ Some (name, rest) → terminals ≡ Name name ∷ rest
front_is [] rest name e = absurd cc
front_is (Name n ∷ others) rest name e =
    let here : Spelled × List Terminal = (n, others) in
    let there : Spelled × List Terminal = (name, rest) in
    ap (λ (x : Spelled × List Terminal). Name x.0 ∷ x.1) (same_Some here there e)
front_is (_ ∷ others) rest name e = absurd cc

pub found_one : (r : Result Statement ReadError) (terminals behind : List Terminal) (name : Spelled) → front_name terminals ≡ Some (name, behind) → behind ≡ []
    → Gives (λ s. s) r (Some (statements.Sum (name ∷ []))) → IfOk r (λ s. IsSum terminals s)
found_one (Err error) terminals behind name e rest g = tt
found_one (Ok s) terminals behind name e rest g = record {
  name = name;
  rest = [];
  written = front_is terminals behind name e ∙ ap (λ (t : List Terminal). Name name ∷ t) rest;
  behind = sym (same_Some (statements.Sum (name ∷ [])) s g);
}

pub none_behind_comma : (r : Result Statement ReadError) (terminals behind rest : List Terminal) (name : Spelled) → front_name terminals ≡ Some (name, behind) → behind ≡ Comma ∷ rest
    → IfErr r (λ error. Excludes error (AreSummed name rest)) → IfErr r (λ error. Excludes error (IsSum terminals))
none_behind_comma (Ok s) terminals behind rest name e f h = tt
none_behind_comma (Err error) terminals behind rest name e f h = none_behind terminals (Comma ∷ rest) name error (front_is terminals behind name e ∙ ap (λ (t : List Terminal). Name name ∷ t) f) h

pub none_summed : (r : Result Statement ReadError) (name : Spelled) (rest : List Terminal) (e : WrittenElements) → AreElements rest e → Gives (λ s. s) r (sum_of name e) → IfErr r (λ error. Excludes error (AreSummed name rest))
none_summed (Ok s) name rest e h g = tt
none_summed (Err Memory) name rest e h g = tt
none_summed (Err BadSyntax) name rest e h g = λ s k. none-some s (sym g ∙ ap (sum_of name) (one_elements rest e k.0 h k.1) ∙ k.2)
