-- The options that take a number, as a table, and the settings that they make.
use Rattle.std.specs.Prelude.{ℕ, ◌+◌, ◌*◌, ◌==◌, ◌&&◌, Bool, false, not, nat_le, if◌then◌else◌, List, [], ◌∷◌, codes, Option, Some, None, is_some, unwrap_or}
use Rattle.std.specs.List.{list_all}
use Rattle.std.specs.Option.{option_map_or}
use Rattle.std.specs.Str.{all_ascii_digits}
use Rattle.std.specs.Str.Parse.{digits_value}
use Rattle.form_base.specs.declared.settings.Settings.{Settings}

-- ---- the number of an option

-- an option: its name without dashes, the range of its numbers, and the number that it has where it isn't given
pub record NumberOption : Type 0 where
  pub name : List ℕ
  pub least : ℕ
  pub most : ℕ
  pub default : ℕ

abbrev pub option : List ℕ → ℕ → ℕ → ℕ → NumberOption
option name least most default = record { name = name; least = least; most = most; default = default }

-- decimal digits, of which the first isn't 0
abbrev pub is_decimal : List ℕ → Bool
is_decimal [] = false
is_decimal (first ∷ rest) = not (first == 48) && all_ascii_digits (first ∷ rest)

-- the number that the text writes, none where it writes none from `least` to `most`
abbrev pub number_between : ℕ → ℕ → List ℕ → Option ℕ
number_between least most text =
    if is_decimal text && (nat_le least (digits_value 10 text) && nat_le (digits_value 10 text) most)
    then Some (digits_value 10 text) else None

-- the text that a command line gives for each name, none where it gives none
abbrev pub Values : Type 0
Values = List ℕ → Option (List ℕ)

-- the number that the option has, none where its text writes none of its range
unfoldable pub number_of : Values → NumberOption → Option ℕ
number_of values o = option_map_or (number_between o.least o.most) (values o.name) (Some o.default)

-- the same, where it has one
abbrev pub number : Values → NumberOption → ℕ
number values o = unwrap_or (number_of values o) 0

-- ---- the table: name, from, to, and where it isn't given

abbrev pub workers : NumberOption
workers = option (codes "w") 1 16 1

abbrev pub bucket : NumberOption
bucket = option (codes "bucket") 1 100000 500

abbrev pub buffer : NumberOption
buffer = option (codes "buffer") 2 1000000 20000

abbrev pub fan : NumberOption
fan = option (codes "fan") 2 256 16

-- where it isn't given: a buffer and four buckets for each worker and for the master
abbrev pub hold : Values → NumberOption
hold values = option (codes "hold") 1 1000000000
    ((number values workers + 1) * number values buffer + 4 * (number values workers + 1) * number values bucket)

abbrev pub max_repeat : NumberOption
max_repeat = option (codes "max-repeat") 1 1000000 10000

abbrev pub max_expand : NumberOption
max_expand = option (codes "max-expand") 1 4294967295 10000000

abbrev pub max_terms : NumberOption
max_terms = option (codes "max-terms") 1 1099511627776 1099511627776

abbrev pub options : Values → List NumberOption
options values = workers ∷ bucket ∷ buffer ∷ fan ∷ hold values ∷ max_repeat ∷ max_expand ∷ max_terms ∷ []

-- ---- the settings

abbrev pub numbers : Values → Settings
numbers values = record {
  workers = number values workers;
  bucket = number values bucket;
  buffer = number values buffer;
  fan = number values fan;
  hold = number values (hold values);
  max_repeat = number values max_repeat;
  max_expand = number values max_expand;
  max_terms = number values max_terms;
}

-- a buffer of each worker and of the master are held, and a bucket; no more runs are merged than a buffer has terms
abbrev pub are_consistent : Settings → Bool
are_consistent s = nat_le ((s.workers + 1) * s.buffer + s.bucket) s.hold && nat_le s.fan s.buffer

-- the settings, none where an option has no number or they aren't consistent
unfoldable pub settings_of : Values → Option Settings
settings_of values =
    if list_all (λ o. is_some (number_of values o)) (options values) && are_consistent (numbers values)
    then Some (numbers values) else None
