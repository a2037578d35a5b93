-- The changes of stacks since calls began: at which place each was, and how many values were there before it.
use Rattle.std.specs.Prelude.{◌≡◌, ℕ, ◌<◌, ◌≤◌, ◌==◌, if◌then◌else◌, List, [], ◌∷◌, length, drop, slice_index}
use Rattle.form_preproc.specs.declared.journal.Change.{Change}

-- How many values were at a place before these changes, where so many are there behind them: what the first change there found.
unfoldable pub height_before : List Change → ℕ → ℕ → ℕ
height_before [] place height = height
height_before (c ∷ changes) place height = if c.place == place then c.height else height_before changes place height

-- how many changes there were when each open call began, the innermost first: of so many, and each at most that of the calls inside
abbrev pub AreMarks : ℕ → List ℕ → Type 0
AreMarks size marks = (i : ℕ) → i < length marks → slice_index marks i ≤ slice_index (size ∷ marks) i

-- no change is at a place from this one on
abbrev pub AreBelow : ℕ → List Change → Type 0
AreBelow size changes = (place : ℕ) → size ≤ place → (height : ℕ) → height_before changes place height ≡ height

-- no further change of a place matters since the mark
abbrev pub IsFixed : List Change → ℕ → ℕ → Type 0
IsFixed changes mark place = (m : ℕ) → m ≤ mark → (height other : ℕ) → height_before (drop m changes) place height ≡ height_before (drop m changes) place other

-- since each mark, the new changes tell the heights that the old ones do where a place had this height behind them
abbrev pub AreNoted : List ℕ → List Change → List Change → ℕ → ℕ → Type 0
AreNoted [] old new place height = Unit {0}
AreNoted (mark ∷ marks) old new place height =
    (m : ℕ) → m ≤ mark → (p now : ℕ) → height_before (drop m new) p now ≡ height_before (drop m old) p (if place == p then height else now)

-- since each mark, the new changes tell the heights that the old ones do
abbrev pub TellTheSame : List ℕ → List Change → List Change → Type 0
TellTheSame [] old new = Unit {0}
TellTheSame (mark ∷ marks) old new = (m : ℕ) → m ≤ mark → (p now : ℕ) → height_before (drop m new) p now ≡ height_before (drop m old) p now

-- these are the heights that changes tell at their places; elsewhere they may be any
pub record AreFirsts (changes : List Change) (firsts : List ℕ) : Type 0 where
  pub others : ℕ → ℕ
  pub told : (place : ℕ) → place < length firsts → slice_index firsts place ≡ height_before changes place (others place)
