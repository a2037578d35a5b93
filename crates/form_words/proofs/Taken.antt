-- What a parse of the command says of the job that the words ask for.
use Rattle.std.proofs.Common.{◌≡◌, ◌∙◌, ℕ, List, [], ◌∷◌, true, false, None, refl, ap, inl, inr, sym, subst, rules, tests}
use Rattle.std.proofs.Math.Path.{fun_ext}
use Rattle.clap.specs.Words.{App, Kinds, HasKind, IsAmong, fault_of, first_value, found_of, kind_of, HasMatchesOf, is_simple_and_free, matches_of, rows_of, first_of}
use Rattle.clap.specs.Walk.{is_empty}
use Rattle.clap.specs.declared.error.Error.{Error}
use Rattle.clap.specs.declared.error.kind.ErrorKind.{ErrorKind}
use Rattle.clap.specs.declared.parser.matches.ArgMatches.{ArgMatches}
use Rattle.clap.proofs.WalkLemmas.{first_value-rows}
use Rattle.form_words.specs.Words.{command, error_of, is_taken, job_by, job_of, values_of}
use Rattle.form_words.specs.declared.job.WordsError.TheVariants.{Usage, Memory}

-- clap's own test of the command: its words say exactly what a parse does
pub command_is_simple : is_simple_and_free command ≡ true
command_is_simple = refl

some_fault : (kind : ErrorKind) (kinds : Kinds) → IsAmong kind kinds → is_empty kinds ≡ false
some_fault kind [] among = absurd among
some_fault kind (k ∷ ks) among = search (rules, tests)

not_taken : (words : List (List ℕ)) → is_empty (fault_of command words) ≡ false → job_of words ≡ None
unfolding job_of is_taken
not_taken words none = rw none refl

-- an error that isn't want of memory comes only where the words ask for no job
pub refused : (app : App) (words : List (List ℕ)) (e : Error) → app ≡ command → (is_simple_and_free app ≡ true → HasKind (fault_of app words) e) → error_of (kind_of e) ≡ Usage
    → job_of words ≡ None
refused app words e is kinds usage =
    elim (subst (λ (a : App). is_simple_and_free a ≡ true → HasKind (fault_of a words) e) is kinds command_is_simple) [
      | inl memory ↦
          let bad : Memory ≡ Usage = rw memory at usage in
          cc
      | inr among ↦ not_taken words (some_fault (kind_of e) (fault_of command words) among)
    ]

accepted : (words : List (List ℕ)) → fault_of command words ≡ [] → job_of words ≡ job_by (values_of words)
unfolding job_of is_taken
accepted words none = rw none refl

same_values : (words : List (List ℕ)) (m : ArgMatches) → rows_of (found_of m) ≡ matches_of command words → values_of words ≡ first_value (found_of m)
unfolding values_of
same_values words m rows = sym (fun_ext (λ name. first_value-rows (found_of m) name ∙ ap (first_of name) rows))

-- matches come only where clap takes the words, and what they give is what the words say
pub taken : (app : App) (words : List (List ℕ)) (m : ArgMatches) → app ≡ command → (is_simple_and_free app ≡ true → fault_of app words ≡ []) → HasMatchesOf app words m
    → job_of words ≡ job_by (first_value (found_of m))
taken app words m is kinds matches =
    let none = subst (λ (a : App). is_simple_and_free a ≡ true → fault_of a words ≡ []) is kinds command_is_simple in
    let rows = subst (λ (a : App). HasMatchesOf a words m) is matches refl in
    accepted words none ∙ ap job_by (same_values words m rows.0)
