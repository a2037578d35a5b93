-- Reading a right side that comes token by token.
use Rattle.std.proofs.Common.{◌≡◌, List, [], ◌∷◌, ◌++◌, Bool, true, false, Some, None, Result, Ok, Err, sym, ap, ◌∙◌, append_assoc}
use Rattle.std.specs.Prelude.{IfOk, IfErr, OnOk, option_and_then}
use Rattle.std.proofs.lemmas.List.{append-nil}
use Rattle.form_ast.specs.declared.expr.Piece.{Piece}
use Rattle.form_ast.specs.declared.setting.Setting.TheVariants.{Plain}
use Rattle.form_grammar.specs.declared.error.ReadError.{ReadError}
use Rattle.form_grammar.specs.declared.error.ReadError.TheVariants.{BadSyntax, Memory}
use Rattle.form_grammar.specs.declared.reader.Reader.{Reader}
use Rattle.form_grammar.specs.declared.right_side.RightSide.{RightSide}
use Rattle.form_grammar.specs.declared.terminal.Terminal.{Terminal}
use Rattle.form_grammar.specs.Grammar.{IsExpr}
use Rattle.form_grammar.specs.Parts.{HasRead, pieces_with}
use Rattle.form_grammar.specs.Reading.{Reading as Readings, Gives, IsUnread, Excludes, begun, finished, reading_of, run, step}
use Rattle.form_grammar.proofs.Read.{found, none}

-- one terminal further
pub goes_on : (old new : RightSide) (t : Terminal) → ((rest : List Terminal) → pieces_with old (t ∷ rest) ≡ pieces_with new rest) → (read : List Terminal) → HasRead read old → HasRead (read ++ t ∷ []) new
goes_on old new t e read h = λ rest. ap (run Plain begun) (append_assoc read (t ∷ []) rest) ∙ h (t ∷ rest) ∙ e rest

pub step_taken : (r next : Readings) (t : Terminal) (rest : List Terminal) → step Plain r t ≡ Some next → run Plain r (t ∷ rest) ≡ run Plain next rest
unfolding run
step_taken r next t rest e = ap (option_and_then (λ s. run Plain s rest)) e

pub step_refused : (r : Readings) (t : Terminal) (rest : List Terminal) → step Plain r t ≡ None → run Plain r (t ∷ rest) ≡ None
unfolding run
step_refused r t rest e = ap (option_and_then (λ s. run Plain s rest)) e

-- what is read to its end
read_to_end : (r : RightSide) (read : List Terminal) → HasRead read r → run Plain begun read ≡ pieces_with r []
read_to_end r read h = ap (run Plain begun) (sym (append-nil read)) ∙ h []

pub finish_found : (r : RightSide) (o : Result (List Piece) ReadError) → Gives (λ pieces. pieces) o (pieces_with r []) → IfOk o (λ pieces. (read : List Terminal) → HasRead read r → IsExpr read pieces)
finish_found r (Ok pieces) e = λ read h. found (Ok pieces) read (read_to_end r read h ∙ e)
finish_found r (Err error) e = tt

pub finish_none : (r : RightSide) (o : Result (List Piece) ReadError) → Gives (λ pieces. pieces) o (pieces_with r []) → IfErr o (λ error. (read : List Terminal) → HasRead read r → Excludes error (IsExpr read))
finish_none r (Ok pieces) e = tt
finish_none r (Err BadSyntax) e = λ read h. none (Err BadSyntax) read (read_to_end r read h ∙ e)
finish_none r (Err Memory) e = λ read h. tt

module _ (r next : Reader) (t : Terminal) where
  pub taken : (has_failed : Bool) → has_failed ≡ false → step Plain (reading_of r) t ≡ Some (reading_of next)
      → (rest : List Terminal) → pieces_with (record { reader = r; has_failed = has_failed }) (t ∷ rest) ≡ pieces_with (record { reader = next; has_failed = has_failed }) rest
  taken has_failed on e rest = rw on (step_taken (reading_of r) (reading_of next) t rest e)

-- nothing that follows what isn't read makes a right side of it
failing : (old new : RightSide) (t : Terminal) → old.has_failed ≡ false → new.has_failed ≡ true → step Plain (reading_of old.reader) t ≡ None
    → (rest : List Terminal) → pieces_with old (t ∷ rest) ≡ pieces_with new rest
failing old new t on off e rest = rw (on, off) (step_refused (reading_of old.reader) t rest e)

pub fails : (old new : RightSide) (t : Terminal) (error : ReadError) → old.has_failed ≡ false → IsUnread error (step Plain (reading_of old.reader) t)
    → {E : Type 0} (r : Result (Unit {0}) E) → OnOk r (error ≡ BadSyntax) → OnOk r (new.has_failed ≡ true)
    → OnOk r ((read : List Terminal) → HasRead read old → HasRead (read ++ t ∷ []) new)
fails old new t error on unread (Ok u) e off = goes_on old new t (failing old new t on off (rw e at unread))
fails old new t error on unread (Err _) e off = tt

pub ends_here : (r : RightSide) (o : Result (List Piece) ReadError) → r.has_failed ≡ false → Gives (λ pieces. pieces) o (finished (reading_of r.reader)) → Gives (λ pieces. pieces) o (pieces_with r [])
unfolding run
ends_here r o on h = rw on h
