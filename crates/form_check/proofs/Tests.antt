-- What comes of each test of a condition.
use Rattle.std.proofs.Common.{◌≡◌, List, [], ◌∷◌, ◌++◌, map, Result, Ok, Err, refl, sym, ap, subst, ◌∙◌}
use Rattle.form_base.specs.declared.comparison.Comparison.{Comparison}
use Rattle.form_base.specs.declared.condition.Test.{fold-Test, fold-roll-Test}
use Rattle.form_base.specs.declared.condition.Test.TheOpen.{Test-F}
use Rattle.form_base.specs.declared.condition.Test.TheVariants.{Nonzero, Compared, Parenthesis, rolls-Nonzero, rolls-Compared, rolls-Parenthesis}
use Rattle.form_names.specs.Names.{Entry}
use Rattle.form_ast.specs.Conditions as written
use Rattle.form_ast.specs.declared.condition.Value.{Value}
use Rattle.form_tree.specs.Condition.{Alternatives, Test}
use Rattle.form_tree.specs.Patterns.{Pieces}
use Rattle.form_check.specs.Carried.{ValueWith, With, with_patterns, and_one, all_of, Checks, in_parentheses, checked_test, value, test, alternatives}
use Rattle.form_right_side.specs.Refusal.{Refusal, IsRefused, ◌>>=◌, each}
use Rattle.form_right_side.specs.declared.error.CheckError.{CheckError}
use Rattle.form_right_side.specs.declared.error.CheckError.TheVariants.{Refused, Memory}

same_behind : {A B : Type 0} (r : Result A Refusal) (f g : A → Result B Refusal) → ((x : A) → f x ≡ g x) → (r >>= f) ≡ (r >>= g)
same_behind (Ok x) f g e = e x
same_behind (Err e) f g h = refl

each_mapped : {X Y A : Type 0} (make : Y → List Pieces → Result (With A) Refusal) (f : X → Y) (xs : List X) (made : With (List A)) → each (and_one make) made (map f xs) ≡ each (and_one (λ x. make (f x))) made xs
each_mapped make f [] made = refl
each_mapped make f (x ∷ xs) made =
    same_behind (and_one make made (f x)) (λ next. each (and_one make) next (map f xs)) (λ next. each (and_one (λ x. make (f x))) next xs) (λ next. each_mapped make f xs next)

one_alike : {X A : Type 0} (make other : X → List Pieces → Result (With A) Refusal) (made : With (List A)) (x : X) → make x made.patterns ≡ other x made.patterns → and_one make made x ≡ and_one other made x
one_alike {X} {A} make other made x e = ap (λ (r : Result (With A) Refusal). r >>= (λ one. Ok (with_patterns (made.item ++ one.item ∷ []) one.patterns))) e

each_alike : {X A : Type 0} (make other : X → List Pieces → Result (With A) Refusal) → ((x : X) (patterns : List Pieces) → make x patterns ≡ other x patterns) → (xs : List X) (made : With (List A)) → each (and_one make) made xs ≡ each (and_one other) made xs
each_alike make other e [] made = refl
each_alike {X} {A} make other e (x ∷ xs) made =
    ap (λ (r : Result (With (List A)) Refusal). r >>= (λ next. each (and_one make) next xs)) (one_alike make other made x (e x made.patterns))
    ∙ same_behind (and_one other made x) (λ next. each (and_one make) next xs) (λ next. each (and_one other) next xs) (λ next. each_alike make other e xs next)

abbrev folded : List Entry → written.Test → Checks
folded names = fold-Test Value Checks (checked_test names)

pub test_alone : (names : List Entry) (v : Value) (patterns : List Pieces) → test names (Nonzero v) patterns ≡ (value names patterns v >>= (λ x. Ok (with_patterns (Nonzero x.value) x.patterns)))
unfolding test
test_alone names v patterns =
    ap (λ (f : Checks). f patterns) (ap (folded names) (sym (rolls-Nonzero v)) ∙ fold-roll-Test Value Checks (checked_test names) (Test-F.Nonzero v))

pub test_compared : (names : List Entry) (v : Value) (by : Comparison) (w : Value) (patterns : List Pieces)
    → test names (Compared v by w) patterns ≡ (value names patterns v >>= (λ x. value names x.patterns w >>= (λ y. Ok (with_patterns (Compared x.value by y.value) y.patterns))))
unfolding test
test_compared names v by w patterns =
    ap (λ (f : Checks). f patterns) (ap (folded names) (sym (rolls-Compared v by w)) ∙ fold-roll-Test Value Checks (checked_test names) (Test-F.Compared v by w))

pub test_parenthesis : (names : List Entry) (c : written.Condition) (patterns : List Pieces) → test names (Parenthesis c) patterns ≡ (alternatives names c patterns >>= in_parentheses)
unfolding test
test_parenthesis names c patterns =
    ap (λ (f : Checks). f patterns) (ap (folded names) (sym (rolls-Parenthesis c)) ∙ fold-roll-Test Value Checks (checked_test names) (Test-F.Parenthesis c))
    ∙ ap (λ (r : Result (With Alternatives) Refusal). r >>= in_parentheses)
    (each_mapped (all_of (λ check. check)) (map (folded names)) c (with_patterns [] patterns)
    ∙ each_alike (λ ts. all_of (λ check. check) (map (folded names) ts)) (all_of (folded names)) (λ ts before. each_mapped (λ check. check) (folded names) ts (with_patterns [] before)) c (with_patterns [] patterns))

-- ---- what a function answers of each

refused_behind : {A B : Type 0} (error : CheckError) (r : Result A Refusal) (f : A → Result B Refusal) → IsRefused error r → IsRefused error (r >>= f)
refused_behind Memory r f h = tt
refused_behind {A} {B} (Refused cause spot) r f h = ap (λ (r : Result A Refusal). r >>= f) h

abbrev Made : Type 0
Made = Result (With Test) Refusal

alone_is : (names : List Entry) (t : written.Test) (v : Value) (patterns : List Pieces) → t ≡ Nonzero v → test names t patterns ≡ (value names patterns v >>= (λ x. Ok (with_patterns (Nonzero x.value) x.patterns)))
alone_is names t v patterns e = ap (λ (u : written.Test). test names u patterns) e ∙ test_alone names v patterns

compared_is : (names : List Entry) (t : written.Test) (v : Value) (by : Comparison) (w : Value) (patterns : List Pieces) → t ≡ Compared v by w
    → test names t patterns ≡ (value names patterns v >>= (λ x. value names x.patterns w >>= (λ y. Ok (with_patterns (Compared x.value by y.value) y.patterns))))
compared_is names t v by w patterns e = ap (λ (u : written.Test). test names u patterns) e ∙ test_compared names v by w patterns

parenthesis_is : (names : List Entry) (t : written.Test) (c : written.Condition) (patterns : List Pieces) → t ≡ Parenthesis c → test names t patterns ≡ (alternatives names c patterns >>= in_parentheses)
parenthesis_is names t c patterns e = ap (λ (u : written.Test). test names u patterns) e ∙ test_parenthesis names c patterns

pub alone_refused : (names : List Entry) (t : written.Test) (v : Value) (patterns : List Pieces) (error : CheckError) → t ≡ Nonzero v → IsRefused error (value names patterns v) → IsRefused error (test names t patterns)
alone_refused names t v patterns error e h =
    subst (λ (r : Made). IsRefused error r) (sym (alone_is names t v patterns e)) (refused_behind error (value names patterns v) (λ x. Ok (with_patterns (Nonzero x.value) x.patterns)) h)

pub alone_made : (names : List Entry) (t : written.Test) (v : Value) (patterns : List Pieces) (x : ValueWith) → t ≡ Nonzero v → value names patterns v ≡ Ok x → test names t patterns ≡ Ok (with_patterns (Nonzero x.value) x.patterns)
alone_made names t v patterns x e h =
    alone_is names t v patterns e ∙ ap (λ (r : Result ValueWith Refusal). r >>= (λ x. Ok (with_patterns (Nonzero x.value) x.patterns))) h

pub first_refused : (names : List Entry) (t : written.Test) (v : Value) (by : Comparison) (w : Value) (patterns : List Pieces) (error : CheckError) → t ≡ Compared v by w → IsRefused error (value names patterns v) → IsRefused error (test names t patterns)
first_refused names t v by w patterns error e h =
    subst (λ (r : Made). IsRefused error r) (sym (compared_is names t v by w patterns e))
    (refused_behind error (value names patterns v) (λ x. value names x.patterns w >>= (λ y. Ok (with_patterns (Compared x.value by y.value) y.patterns))) h)

behind_first : (names : List Entry) (t : written.Test) (v : Value) (by : Comparison) (w : Value) (patterns : List Pieces) (x : ValueWith) → t ≡ Compared v by w → value names patterns v ≡ Ok x
    → test names t patterns ≡ (value names x.patterns w >>= (λ y. Ok (with_patterns (Compared x.value by y.value) y.patterns)))
behind_first names t v by w patterns x e h =
    compared_is names t v by w patterns e
    ∙ ap (λ (r : Result ValueWith Refusal). r >>= (λ x. value names x.patterns w >>= (λ y. Ok (with_patterns (Compared x.value by y.value) y.patterns)))) h

pub second_refused : (names : List Entry) (t : written.Test) (v : Value) (by : Comparison) (w : Value) (patterns : List Pieces) (x : ValueWith) (error : CheckError) → t ≡ Compared v by w → value names patterns v ≡ Ok x
    → IsRefused error (value names x.patterns w) → IsRefused error (test names t patterns)
second_refused names t v by w patterns x error e h k =
    subst (λ (r : Made). IsRefused error r) (sym (behind_first names t v by w patterns x e h))
    (refused_behind error (value names x.patterns w) (λ y. Ok (with_patterns (Compared x.value by y.value) y.patterns)) k)

pub compared_made : (names : List Entry) (t : written.Test) (v : Value) (by : Comparison) (w : Value) (patterns : List Pieces) (x y : ValueWith) → t ≡ Compared v by w → value names patterns v ≡ Ok x → value names x.patterns w ≡ Ok y
    → test names t patterns ≡ Ok (with_patterns (Compared x.value by y.value) y.patterns)
compared_made names t v by w patterns x y e h k =
    behind_first names t v by w patterns x e h ∙ ap (λ (r : Result ValueWith Refusal). r >>= (λ y. Ok (with_patterns (Compared x.value by y.value) y.patterns))) k

pub parenthesis_refused : (names : List Entry) (t : written.Test) (c : written.Condition) (patterns : List Pieces) (error : CheckError) → t ≡ Parenthesis c → IsRefused error (alternatives names c patterns) → IsRefused error (test names t patterns)
parenthesis_refused names t c patterns error e h =
    subst (λ (r : Made). IsRefused error r) (sym (parenthesis_is names t c patterns e)) (refused_behind error (alternatives names c patterns) in_parentheses h)

pub parenthesis_made : (names : List Entry) (t : written.Test) (c : written.Condition) (patterns : List Pieces) (made : With Alternatives) → t ≡ Parenthesis c → alternatives names c patterns ≡ Ok made
    → test names t patterns ≡ Ok (with_patterns (Parenthesis made.item) made.patterns)
parenthesis_made names t c patterns made e h =
    parenthesis_is names t c patterns e ∙ ap (λ (r : Result (With Alternatives) Refusal). r >>= in_parentheses) h
