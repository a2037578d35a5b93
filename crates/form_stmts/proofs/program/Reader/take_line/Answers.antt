use Rattle.std.proofs.Common.{◌≡◌, ◌++◌, ◌∷◌, ℕ, List, [], Some, false, map, refl, sym, subst, ◌∙◌, rules}
use Rattle.std.proofs.lemmas.List.{append-nil}
use Rattle.std.proofs.lemmas.Result.{err_from_is_err_and}
use Rattle.std.proofs.lemmas.Str.{IsUtf8-from_ascii}
use denote.Text.{Utf8}
use denote.Shadow.{shadow}
use Rattle.form_base.specs.declared.spot.Spot.{Spot}
use Rattle.form_lexer.specs.declared.shape.Shape.{Shape}
use Rattle.form_lexer.specs.declared.token.Token.{Token}
use Rattle.form_lexer.specs.Reading.{IsNext}
use Rattle.form_lexer.specs.Tokens.{AreTokens}
use Rattle.form_lexer.proofs.Next.{token_then}
use Rattle.form_stmts.specs.declared.error.ProgramError.{ProgramError}
use Rattle.form_stmts.specs.declared.program.Reader.{Reader}
use Rattle.form_stmts.specs.Instruction.{begins_with_period}
use Rattle.form_stmts.specs.Line.{PlacedLine}
use Rattle.form_stmts.specs.Program.{token as lexed_token, token_of}
use Rattle.form_stmts.specs.Progress.{ReadsOn, Refuses, RefusesLine}
use Rattle.form_stmts.proofs.Going.{begun_on, ends_statement, goes_on, has_tokens, period_read, period_refused, reads_none, reads_token, refused_among}
use Rattle.form_stmts.proofs.program.Reader.take_line.Invariants.{HasComeTo}
use Rattle.form_stmts.proofs.program.Reader.take_line.Goals as goal

pub returns-then-begins_with_period-clause-read : goal.returns-then-begins_with_period-clause-read
returns-then-begins_with_period-clause-read c =
    period_read c.take_instruction.result c.args.self.now c.take_instruction.new.self c.args.line.now (search rules) c.take_instruction.ensures.read

pub returns-then-begins_with_period-clause-refused : goal.returns-then-begins_with_period-clause-refused
returns-then-begins_with_period-clause-refused c =
    period_refused c.take_instruction.result c.args.self.now c.args.self.now c.args.line.now (search rules) c.take_instruction.ensures.refused

pub loop-shape-init : goal.loop-shape-init
loop-shape-init c = (
  IsUtf8-from_ascii c.text-rest.result.now c.text-rest.ensures.ascii,
  record { made = []; read = reads_none c.args.self.now; goes_on = λ more are. are; ascii = c.text-rest.ensures.ascii },
)

-- one token further
further : (spot : Spot) (whole rest others text : List ℕ) (old read new : Reader) (shape : Shape) → HasComeTo spot whole old read rest → IsNext rest shape text others
    → ReadsOn read (lexed_token (token_of spot shape text) ∷ []) new → shadow (Utf8 others) × HasComeTo spot whole old new others
further spot whole rest others text old read new shape before next on =
    let t : Token = token_of spot shape text in (
      IsUtf8-from_ascii others next.ascii,
      record {
        made = before.made ++ t ∷ [];
        read = reads_token old read new before.made t before.read on;
        goes_on = λ more are. token_then spot rest t.kind others before.made more whole before.goes_on next.begins are;
        ascii = next.ascii;
      },
    )

-- something is refused at a token
refused_at : (tokens_of : (spot : Spot) (line : List ℕ) → (tokens : List Token) × AreTokens spot line tokens) (spot : Spot) (line : PlacedLine) (whole rest others text : List ℕ) (old read : Reader) (shape : Shape) (error : ProgramError)
    → begins_with_period line.text ≡ false → spot ≡ line.spot → whole ≡ line.text → HasComeTo spot whole old read rest → IsNext rest shape text others
    → Refuses read (lexed_token (token_of spot shape text) ∷ []) error → RefusesLine old line error
refused_at tokens_of spot line whole rest others text old read shape error none s w before next r =
    let t : Token = token_of spot shape text in
    let more = tokens_of spot others in
    let all : List Token = before.made ++ t ∷ more.0 in
    let are : AreTokens spot whole all = before.goes_on (t ∷ more.0) (others, next.begins, refl, more.1) in
    refused_among old read line all before.made more.0 t error refl (has_tokens line spot whole all none are s w) before.read r

pub loop-shape-preserved-then-is_semicolon : goal.loop-shape-preserved-then-is_semicolon
loop-shape-preserved-then-is_semicolon c =
    let spot = c.spot-spot.result in
    let t : Token = token_of spot c.in-Some.shape c.in-Some.text.now in
    further spot c.text-rest.result.now c.loop-shape.rest.now c.in-Some.others.now c.in-Some.text.now c.args.self.now c.loop-shape.self c.end_statement.new.self c.in-Some.shape c.loop-shape.invariant.1 c.in-Some.ensures
    (ends_statement c.loop-shape.self c.end_statement.new.self t (sym (c.is_semicolon.ensures c.in-Some.text.now) ∙ c.if-is_semicolon.true) c.in_ok-end_statement.ensures)

pub loop-shape-preserved-in-Some-right_side : goal.loop-shape-preserved-in-Some-right_side
loop-shape-preserved-in-Some-right_side c =
    let s = c.loop-shape.self in
    let spot = c.spot-spot.result in
    let t : Token = token_of spot c.in-Some.shape c.in-Some.text.now in
    let new : Reader = record { tokens = s.tokens; right_side = Some c.take_shape.new.self; current = s.current; modules = s.modules } in
    further spot c.text-rest.result.now c.loop-shape.rest.now c.in-Some.others.now c.in-Some.text.now c.args.self.now s new c.in-Some.shape c.loop-shape.invariant.1 c.in-Some.ensures
    (goes_on s new t (sym (c.is_semicolon.ensures c.in-Some.text.now) ∙ c.if-is_semicolon.false)
    (λ begun h. begun_on s.tokens.items begun t s.right_side c.in-Some-right_side.right_side c.take_shape.new.self c.in-Some-right_side.is c.in_ok-take_shape.ensures h) refl refl)

pub loop-shape-preserved : goal.loop-shape-preserved
loop-shape-preserved c =
    further c.spot-spot.result c.text-rest.result.now c.loop-shape.rest.now c.in-Some.others.now c.in-Some.text.now c.args.self.now c.loop-shape.self c.take_front.new.self c.in-Some.shape c.loop-shape.invariant.1 c.in-Some.ensures c.in_ok-take_front.ensures.read

pub take_front-requires-clause-token : goal.take_front-requires-clause-token
take_front-requires-clause-token c = sym (c.is_semicolon.ensures c.in-Some.text.now) ∙ c.if-is_semicolon.false

pub returns-in_err-take_front-clause-refused : goal.returns-in_err-take_front-clause-refused
returns-in_err-take_front-clause-refused c =
    let p = err_from_is_err_and c.from_residual-in_err-take_front.result c.from_residual-in_err-take_front.ensures.1 in
    rw (p.1, p.2)
    (refused_at c.one_list_of_tokens.ensures.some c.spot-spot.result c.args.line.now c.text-rest.result.now c.loop-shape.rest.now c.in-Some.others.now c.in-Some.text.now c.args.self.now c.loop-shape.self c.in-Some.shape _
    (search rules) c.spot-spot.ensures c.text-rest.ensures.value c.loop-shape.invariant.1 c.in-Some.ensures c.in_err-take_front.ensures.refused)

pub returns-clause-read : goal.returns-clause-read
returns-clause-read c =
    let read = c.loop-shape.invariant.1 in
    let spot = c.spot-spot.result in
    let are : AreTokens spot c.text-rest.result.now read.made = subst (λ (t : List Token). AreTokens spot c.text-rest.result.now t) (append-nil read.made) (read.goes_on [] c.in_default.ensures) in (
      map lexed_token read.made,
      has_tokens c.args.line.now spot c.text-rest.result.now read.made (search rules) are c.spot-spot.ensures c.text-rest.ensures.value,
      read.read,
    )
