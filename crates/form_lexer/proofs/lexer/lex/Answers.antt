use Rattle.std.proofs.Common.{◌++◌, ℕ, List, [], ◌∷◌, ap, ◌∙◌, subst, append-nil, append_assoc}
use Rattle.std.proofs.lemmas.Str.{IsUtf8-from_ascii}
use Rattle.form_lexer.specs.declared.token.Token.{Token}
use Rattle.form_lexer.specs.Tokens.{AreTokens, BeginsWith}
use Rattle.form_lexer.proofs.Next.{token_then}
use Rattle.form_lexer.proofs.lexer.lex.Goals as goal

pub loop-shape-preserved : goal.loop-shape-preserved
loop-shape-preserved c =
    let before = c.loop-shape.invariant.1 in
    let next = c.in-Some.ensures in
    let others : List ℕ = c.in-Some.others.now in
    let token : Token = record { kind = c.in_ok-kind.kind; spot = c.args.spot } in
    let begins : BeginsWith c.loop-shape.rest.now c.in_ok-kind.kind others = rw c.in_ok-kind.ensures next.begins in (
      IsUtf8-from_ascii others next.ascii,
      record {
        made = before.made ++ token ∷ [];
        appended = c.in_ok-push.ensures.items ∙ ap (λ (t : List Token). t ++ token ∷ []) before.appended ∙ append_assoc c.args.tokens.now.items before.made (token ∷ []);
        goes_on = λ more are. token_then c.args.spot c.loop-shape.rest.now c.in_ok-kind.kind others before.made more c.args.line.now before.goes_on begins are;
        ascii = next.ascii;
      },
    )

pub returns : goal.returns
returns c =
    let read = c.loop-shape.invariant.1 in
    record {
      tokens = read.made;
      are_tokens = subst (λ (t : List Token). AreTokens c.args.spot c.args.line.now t) (append-nil read.made) (read.goes_on [] c.in_default.ensures);
      appended = read.appended;
    }
