-- How a test is read, by whether a parenthesis stands in front.
use Rattle.std.proofs.Common.{◌≡◌, ℕ, zero, suc, Bool, true, false, cond, List, refl, sym, ap, ◌∙◌}
use Rattle.form_grammar.specs.declared.terminal.Terminal.{Terminal}
use Rattle.form_conditions.specs.declared.tokens.Wanted.TheVariants.{Open}
use Rattle.form_conditions.specs.Reading.{parenthesized, plain_test, test}
use Rattle.form_conditions.specs.Tokens.{begins, tail_of}

test_is : (deeper : ℕ) (text : List Terminal) → test deeper text ≡ cond (begins Open text) (parenthesized deeper (tail_of text)) (plain_test deeper text)
unfolding test
test_is zero text = refl
test_is (suc deeper) text = refl

pub test_opened : (deeper : ℕ) (text behind : List Terminal) → begins Open text ≡ true → behind ≡ tail_of text → parenthesized deeper behind ≡ test deeper text
test_opened deeper text behind e f =
    ap (parenthesized deeper) f ∙ sym (test_is deeper text ∙ ap (λ (b : Bool). cond b (parenthesized deeper (tail_of text)) (plain_test deeper text)) e)

pub test_plain : (deeper : ℕ) (text behind : List Terminal) → begins Open text ≡ false → behind ≡ text → plain_test deeper behind ≡ test deeper text
test_plain deeper text behind e f =
    ap (plain_test deeper) f ∙ sym (test_is deeper text ∙ ap (λ (b : Bool). cond b (parenthesized deeper (tail_of text)) (plain_test deeper text)) e)
