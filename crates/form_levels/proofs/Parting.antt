-- Joined terms that are parted by a condition, one by one.
use Rattle.std.proofs.Common.{◌≡◌, true, false, List, [], ◌∷◌, ◌++◌, sym, ap, subst, ◌∙◌, append_assoc, append-nil}
use Rattle.std.specs.List.Sorted.{IsPermutation}
use Rattle.std.proofs.lemmas.List.Sorted.{IsPermutation-trans, IsPermutation-append_left, IsPermutation-append_right, IsPermutation-append_comm}
use Rattle.form_gathered.specs.Joined.{item_of}
use Rattle.form_gathered.specs.declared.joined.JoinedTerm.{JoinedTerm}
use Rattle.form_gathered.proofs.Shuffled.{all_joined}
use Rattle.form_flow.specs.Ready.{Choice}
use Rattle.form_flow.specs.Statements.{is_so}
use Rattle.form_levels.specs.Parting.{AreSo, IsParted}
use Rattle.form_levels.specs.declared.choosing.Parted.{Parted}
use Rattle.form_levels.proofs.Standing.{stand_moved}

-- those that were parted, and those that are left
pub record IsBegun (q : Choice) (js these others left : List JoinedTerm) : Type 0 where
  pub taken : AreSo q true these
  pub passed : AreSo q false others
  pub all : IsPermutation js ((these ++ others) ++ left)

-- the next one is taken
pub one_taken : (q : Choice) (js these others left rest more : List JoinedTerm) (j : JoinedTerm) → IsBegun q js these others left → left ≡ j ∷ rest → is_so q (item_of j) ≡ true → more ≡ these ++ j ∷ []
    → IsBegun q js more others rest
one_taken q js these others left rest more j h next e is =
    let behind : (these ++ others) ++ left ≡ (these ++ (others ++ j ∷ [])) ++ rest =
    ap (λ l. (these ++ others) ++ l) next ∙ sym (append_assoc (these ++ others) (j ∷ []) rest) ∙ ap (λ l. l ++ rest) (append_assoc these others (j ∷ [])) in
    let moved = IsPermutation-append_right these (others ++ j ∷ []) (j ∷ others) (IsPermutation-append_comm others (j ∷ [])) in
    subst (λ l. IsBegun q js l others rest) (sym is) (record {
      taken = all_joined (λ k. is_so q (item_of k) ≡ true) these (j ∷ []) h.taken (e, tt);
      passed = h.passed;
      all = IsPermutation-trans js ((these ++ (others ++ j ∷ [])) ++ rest) (((these ++ j ∷ []) ++ others) ++ rest) (subst (IsPermutation js) behind h.all)
          (IsPermutation-append_left rest (these ++ (others ++ j ∷ [])) ((these ++ j ∷ []) ++ others)
          (subst (IsPermutation (these ++ (others ++ j ∷ []))) (sym (append_assoc these (j ∷ []) others)) moved));
    })

pub all_parted : (q : Choice) (js left : List JoinedTerm) (p : Parted) → IsBegun q js p.taken.items p.passed.items left → left ≡ [] → IsParted q js p
all_parted q js left p h none =
    let all = p.taken.items ++ p.passed.items in
    record {
      taken = h.taken;
      passed = h.passed;
      all = stand_moved js all (subst (IsPermutation js) (ap (λ l. all ++ l) none ∙ append-nil all) h.all);
    }
