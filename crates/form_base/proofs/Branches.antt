-- The blocks of branches are no deeper than all of these.
use Rattle.std.proofs.Common.{ℕ, ◌<◌, ◌≤◌, max, List, length, get_or, arith}
use Rattle.form_base.specs.declared.block.Branch.{Branch}
use denote.Param.Weighed.{most, at_most}

pub branch_at_most : {C X : Type 0} (size : X → ℕ) (bs : List (Branch C (List X))) (i : ℕ) (d : Branch C (List X)) → i < length bs
    → most size (get_or bs i d).block ≤ most (λ (b : Branch C (List X)). max 0 (max (most size b.block) 0)) bs
branch_at_most {C} {X} size bs i d h = let all = at_most (λ (b : Branch C (List X)). max 0 (max (most size b.block) 0)) bs i d h in omega arith
