use Rattle.std.proofs.Common.{◌≡◌, ◌<◌, ◌≤◌, ℕ, List, [], ◌∷◌, refl, length, drop, sym, ap, ◌∙◌, arith}
use Rattle.std.proofs.lemmas.Bool.{eqb-true, eqb-false}
use Rattle.std.proofs.lemmas.Str.{IsCharBoundary-from_ascii}
use Rattle.form_lexer.specs.Tokens.{is_blank}
use Rattle.form_lexer.specs.Reading.{front}
use Rattle.form_lexer.proofs.Fronts.{front_within}
use Rattle.form_lexer.proofs.Next.{all_blank, next_is, ends_at_character}
use Rattle.form_lexer.proofs.lexer.next_token.Goals as goal

nothing : (xs : List ℕ) → length xs ≡ 0 → xs ≡ []
nothing [] e = refl
nothing (x ∷ xs) e = absurd (omega (arith, e))

pub split_at-requires : goal.split_at-requires
split_at-requires c =
    let within : c.blanks.result ≤ length c.args.line.now = rw (c.blanks.ensures, c.as_bytes.ensures.value) (front_within is_blank c.args.line.now) in
    IsCharBoundary-from_ascii c.args.line.now c.blanks.result c.requires within

pub returns-then-is_empty : goal.returns-then-is_empty
returns-then-is_empty c =
    let behind : c.split_at.result.1.now ≡ drop (front is_blank c.args.line.now) c.args.line.now =
    c.split_at.ensures.back ∙ ap (λ n. drop n c.args.line.now) (c.blanks.ensures ∙ ap (front is_blank) c.as_bytes.ensures.value) in
    all_blank c.args.line.now (sym behind ∙ nothing c.split_at.result.1.now (eqb-true _ _ (sym c.is_empty.ensures ∙ c.if-is_empty.true)))

pub split_at-requires-2 : goal.split_at-requires-2
split_at-requires-2 c =
    let behind : c.split_at.result.1.now ≡ drop (front is_blank c.args.line.now) c.args.line.now =
    c.split_at.ensures.back ∙ ap (λ n. drop n c.args.line.now) (c.blanks.ensures ∙ ap (front is_blank) c.as_bytes.ensures.value) in
    let some : 0 < length c.split_at.result.1.now = omega (arith, eqb-false _ _ (sym c.is_empty.ensures ∙ c.if-is_empty.false)) in
    ends_at_character c.args.line.now c.split_at.result.1.now c.token_at-shape.result.0 c.token_at-shape.result.1 behind some (rw c.as_bytes-2.ensures.value at c.token_at-shape.ensures) c.requires

pub returns : goal.returns
returns c =
    let behind : c.split_at.result.1.now ≡ drop (front is_blank c.args.line.now) c.args.line.now =
    c.split_at.ensures.back ∙ ap (λ n. drop n c.args.line.now) (c.blanks.ensures ∙ ap (front is_blank) c.as_bytes.ensures.value) in
    let some : 0 < length c.split_at.result.1.now = omega (arith, eqb-false _ _ (sym c.is_empty.ensures ∙ c.if-is_empty.false)) in
    rw (c.split_at-2.ensures.front, c.split_at-2.ensures.back)
    (next_is c.args.line.now c.split_at.result.1.now c.token_at-shape.result.0 c.token_at-shape.result.1 behind some (rw c.as_bytes-2.ensures.value at c.token_at-shape.ensures) c.requires)
