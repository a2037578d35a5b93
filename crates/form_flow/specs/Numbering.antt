-- How far the numbers of dummies are known to be taken.
use Rattle.std.specs.Prelude.{◌≡◌, ℕ, ◌+◌, ◌*◌, ◌<◌, ◌≤◌, List, length, true}
use Rattle.std.specs.List.{list_any}
use Rattle.form_term.specs.declared.index.Index.{Index}
use Rattle.form_term.specs.Term.{largest_size}
use Rattle.form_flow.specs.Indices.{is_dummy}

-- Of the indices of a term each number from 1 up to this one is that of a dummy.
pub record AreNumbered (there : List Index) (next : ℕ) : Type 0 where
  pub few : length there ≤ 2 * largest_size
  pub from : 1 ≤ next
  pub reach : next ≤ 2 * largest_size + 2
  pub taken : (n : ℕ) → 1 ≤ n → n < next → list_any (is_dummy n) there ≡ true
