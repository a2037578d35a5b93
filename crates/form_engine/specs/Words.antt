-- The file that the words of a command line name.
use Rattle.std.specs.Prelude.{ℕ, List, Option, option_map}
use Rattle.form_words.specs.Words.{job_of}

-- the name of FILE; none where the words are no command line
abbrev pub file_of : List (List ℕ) → Option (List ℕ)
file_of words = option_map (λ job. job.file) (job_of words)
