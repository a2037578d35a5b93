-- What the marks of expressions say.
use Rattle.std.specs.Prelude.{ℕ, ◌<◌, ◌≤◌, Bool, false, ◌==◌, ◌&&◌, ◌||◌, not, nat_lt, nat_le, if◌then◌else◌, List, unwrap_or, slice_get}
use Rattle.form_right_side.specs.declared.standing.Mark.{Mark}
use Rattle.form_right_side.specs.declared.standing.Standing.{Standing}

-- the number of the module
abbrev pub current_in : Standing → ℕ
current_in kept = kept.current

-- what no module did anything to
abbrev pub unmarked : Mark
unmarked = record { defined = 0; dropped = 0; stood = false }

abbrev pub mark_at : List Mark → ℕ → Mark
mark_at marks expression = unwrap_or (slice_get marks expression) unmarked

-- whether it stood at the start of a module, by its mark and the last module before that dropped all
abbrev pub stood : ℕ → ℕ → Mark → Bool
stood current all_dropped mark =
    if mark.defined == current then mark.stood else nat_lt 0 mark.defined && (nat_le all_dropped mark.defined && (nat_le mark.dropped mark.defined || (mark.dropped == current)))

abbrev pub stands_in : Standing → ℕ → Bool
stands_in kept expression = stood kept.current kept.all_dropped (mark_at kept.marks.items expression)

-- the module defines it
abbrev pub is_defined_in : Standing → ℕ → Bool
is_defined_in kept expression = (mark_at kept.marks.items expression).defined == kept.current

-- it stands, and the module doesn't drop it
abbrev pub stays_in : Standing → ℕ → Bool
stays_in kept expression =
    stands_in kept expression && not (kept.drops_all || ((mark_at kept.marks.items expression).dropped == kept.current))

-- no mark is of a later module
pub record AreMarksLawful (kept : Standing) : Type 0 where
  pub positive : 0 < kept.current
  pub all_dropped : kept.all_dropped < kept.current
  pub defined : (expression : ℕ) → (mark_at kept.marks.items expression).defined ≤ kept.current
  pub dropped : (expression : ℕ) → (mark_at kept.marks.items expression).dropped ≤ kept.current
