-- What the words of a command line mean.
use Rattle.std.specs.Prelude.{ℕ, Bool, true, List, [], ◌∷◌, codes, Option, Some, None, if◌then◌else◌, option_map, option_and_then}
use Rattle.clap.specs.Walk.{Rule, is_empty, first_of}
use Rattle.clap.specs.Simple.{App, matches_of, new_app, new_rule, new_shape}
use Rattle.clap.specs.Faults.{fault_of}
use Rattle.form_words.specs.Options.{Values, settings_of}
use Rattle.clap.specs.declared.error.kind.ErrorKind.{ErrorKind}
use Rattle.clap.specs.declared.error.kind.ErrorKind.TheVariants.{OutOfMemory}
use Rattle.form_words.specs.declared.job.Job.{Job}
use Rattle.form_words.specs.declared.job.WordsError.{WordsError}
use Rattle.form_words.specs.declared.job.WordsError.TheVariants.{Usage, Memory}

-- `--name N`
abbrev pub long_option : List ℕ → Rule
long_option name = record (new_rule name) { long = Some name }

-- `-w N`
abbrev pub workers_option : Rule
workers_option = record (new_rule (codes "w")) { short = Some 119 }

-- FILE, which has to stand
abbrev pub file : Rule
file = record (new_rule (codes "file")) { required = true }

-- the command, as clap reads it: it has these options and FILE, and no flags for help and version
abbrev pub command : App
command = record (new_app (codes "tform")) {
  top = record (new_shape (codes "tform")) {
    rules = workers_option ∷ long_option (codes "bucket") ∷ long_option (codes "buffer") ∷ long_option (codes "fan")
        ∷ long_option (codes "hold") ∷ long_option (codes "max-repeat") ∷ long_option (codes "max-expand")
        ∷ long_option (codes "max-terms") ∷ file ∷ [];
    disable_help_flag = true;
    disable_version_flag = true;
  };
}

-- clap finds no fault with the words: they name what the command has, each at most once and each option with its value, and FILE
unfoldable pub is_taken : List (List ℕ) → Bool
is_taken words = is_empty (fault_of command words)

-- what clap finds in the words for each name
unfoldable pub values_of : List (List ℕ) → Values
values_of words name = first_of name (matches_of command words)

-- what they ask for: the settings, where the options make some, and FILE
abbrev pub job_by : Values → Option Job
job_by values = option_and_then (λ settings. option_map (λ file. record { settings = settings; file = file })
    (values (codes "file"))) (settings_of values)

-- what the words ask for, none where they are no command line
unfoldable pub job_of : List (List ℕ) → Option Job
job_of words = if is_taken words then job_by (values_of words) else None

-- what an error of clap's is taken for: every other than want of memory is a fault of the words
abbrev pub error_of : ErrorKind → WordsError
error_of OutOfMemory = Memory
error_of kind = Usage
