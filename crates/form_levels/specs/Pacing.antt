-- What a batch leaves for those to come: how many inputs they have, and whether equal terms are brought together in them.
use Rattle.std.specs.Prelude.{ℕ, ◌+◌, ◌-◌, ◌*◌, ◌/◌, ◌^◌, Bool, true, false, ◌&&◌, nat_lt, nat_le, min, if◌then◌else◌}
use Rattle.form_levels.specs.declared.pace.TheConstants.{TELLING, LATELY, REST, FIRST, MOST, MANY}
use Rattle.form_levels.specs.declared.pace.Pace.{Pace}

-- a count and so many more, or the largest one
abbrev pub counted : ℕ → ℕ → ℕ
counted n more = min (n + more) (2 ^ 64 - 1)

-- what was brought together so far: where it is much, it counts half
abbrev pub faded : Pace → Pace
faded p = if nat_lt LATELY p.added then record p { added = p.added / 2; left = p.left / 2 } else p

-- so many terms were brought together, and so many were left of them
abbrev pub noted : ℕ → ℕ → Pace → Pace
noted added left p =
    let old = faded p in
    record old { added = counted old.added added; left = counted old.left left }

-- Batches are as small as at first and stay so. Where they were no larger, equal terms aren't brought together in a few of them.
abbrev pub shrunk : Pace → Pace
shrunk p = record p { is_settled = true; size = min p.size FIRST; resting = if nat_lt FIRST p.size then p.resting else REST / 4 }

-- whether the next batch is larger: fewer terms were made for each input than in one of half the size, and neither the inputs nor
-- the terms are too many
abbrev pub may_grow : Pace → Bool
may_grow p = if p.is_settled then false else nat_le (p.made / 2) (p.before - p.before / 16) && nat_lt p.size MOST && nat_lt p.made MANY

-- the next batch is twice as large, or no later one is larger
abbrev pub grown : Pace → Pace
grown p = if may_grow p then record p { before = p.made; size = p.size * 2 } else record p { is_settled = true }

-- whether much was brought together lately, and at least seven in eight of it are left
abbrev pub gained_nothing : Pace → Bool
gained_nothing p = nat_le TELLING p.added && nat_le (p.added - p.added / 8) p.left

-- A batch ends, of which all was certain or not. One in which nothing was brought together leaves the sizes as they are; behind
-- another one in which nothing was gained, many rest.
abbrev pub ended : Bool → Pace → Pace
ended false p = shrunk p
ended true p =
    if nat_lt 0 p.resting then record p { resting = p.resting - 1 }
    else grown (if gained_nothing p then record p { resting = REST } else p)
