-- Joined terms that stand for whatever others stand for.
use Rattle.std.proofs.Common.{◌≡◌, List, ◌++◌, subst}
use Rattle.std.specs.List.Sorted.{IsPermutation}
use Rattle.form_gathered.specs.Joined.{IsShare, IsJoined, Stand}
use Rattle.form_gathered.specs.declared.joined.JoinedTerm.{JoinedTerm}
use Rattle.form_gathered.proofs.Joining.{split, beside, moved, exchanged}

pub stand_itself : (js : List JoinedTerm) → Stand js js
stand_itself js n lists h = h

pub stand_same : (js ks : List JoinedTerm) → js ≡ ks → Stand js ks
stand_same js ks e n lists h = subst (λ l. IsJoined n l lists) e h

pub stand_on : (js ks ls : List JoinedTerm) → Stand js ks → Stand ks ls → Stand js ls
stand_on js ks ls f g n lists h = g n lists (f n lists h)

-- in another order
pub stand_moved : (js ks : List JoinedTerm) → IsPermutation js ks → Stand js ks
stand_moved js ks p n lists h = exchanged (IsShare n) n js ks lists p h

-- some beside others
pub stand_beside : (js ks js2 ks2 : List JoinedTerm) → Stand js js2 → Stand ks ks2 → Stand (js ++ ks) (js2 ++ ks2)
stand_beside js ks js2 ks2 f g n lists h =
    let s = split (IsShare n) n js ks lists h in
    moved (IsShare n) n (js2 ++ ks2) (λ k. s.first k ++ s.second k) lists s.whole (beside (IsShare n) n js2 ks2 s.first s.second (f n s.first s.left) (g n s.second s.right))
