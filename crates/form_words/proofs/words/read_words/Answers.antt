use Rattle.std.proofs.Common.{◌≡◌, ◌∙◌, List, ℕ, map, Err, Result, String, string_bytes, sym}
use Rattle.std.specs.declared.alloc.Global.{Global}
use Rattle.std.proofs.lemmas.Result.{err_from_is_err_and, IfOk-weaker}
use Rattle.clap.specs.Words.{app_of}
use Rattle.form_words.proofs.Taken.{refused, taken}
use Rattle.form_words.proofs.words.read_words.Goals as goal

abbrev bytes : List (String Global) → List (List ℕ)
bytes words = map (λ x. string_bytes x) words

same_error : {T E : Type 0} (r : Result T E) (a b : E) → r ≡ Err a → r ≡ Err b → a ≡ b
same_error r a b p q = cc

pub returns-in_err-matches-clause-usage : goal.returns-in_err-matches-clause-usage
returns-in_err-matches-clause-usage c =
    let p = err_from_is_err_and c.from_residual-in_err-matches.result c.from_residual-in_err-matches.ensures.1 in
    λ usage. refused (app_of c.in_ok-command.field-0) (bytes c.args.words.now) c.in_err-matches.field-0.0 c.in_ok-command.ensures c.in_err-matches.ensures.kinds
    (sym p.2 ∙ same_error c.from_residual-in_err-matches.result _ _ p.1 usage)

pub returns-clause-job : goal.returns-clause-job
returns-clause-job c =
    let job = taken (app_of c.in_ok-command.field-0) (bytes c.args.words.now) c.in_ok-matches.matches c.in_ok-command.ensures c.in_ok-matches.ensures.kinds c.in_ok-matches.ensures.matches in
    IfOk-weaker c.job_of.result _ _ (λ made is. job ∙ is) c.job_of.ensures.job

pub returns-clause-usage : goal.returns-clause-usage
returns-clause-usage c =
    let job = taken (app_of c.in_ok-command.field-0) (bytes c.args.words.now) c.in_ok-matches.matches c.in_ok-command.ensures c.in_ok-matches.ensures.kinds c.in_ok-matches.ensures.matches in
    λ usage. job ∙ c.job_of.ensures.usage usage
