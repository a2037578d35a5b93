-- What the factors of a product have.
use Rattle.std.specs.Prelude.{◌≡◌, ◌<◌, ◌≤◌, ◌+◌, ◌^◌, nat_abs, Bool, false, not, List, ◌++◌, map, sum, All}
use Rattle.std.specs.List.{list_any}
use Rattle.std.specs.List.Sorted.{IsStrictlySortedBy}
use Rattle.std.specs.Ordering.{is_gt}
use Rattle.form_term.specs.declared.power.Power.{Power}
use Rattle.form_term.specs.Pieces.{deepest}
use Rattle.form_term.specs.Term.{Term, Call, Others, RiseFrom, RisesBy, IsCall, pair_order, index_order, component_order, delta_order, call_order, nothing, of_others, depth_of_calls, depth_of_others, size, size_of_call, size_of_others, largest_exponent, largest_size, largest_depth}
use Rattle.form_term.specs.Terms.{term}
use Rattle.form_normal.specs.Product.{is_fixed}

abbrev pub IsPresent : Power → Type 0
IsPresent p = 0 < nat_abs p.exponent

abbrev pub IsInRange : Power → Type 0
IsInRange p = nat_abs p.exponent ≤ largest_exponent

-- what holds of the powers of symbols in a factor
pub record IsProductive (ps : List Power) : Type 0 where
  pub rising : RiseFrom 0 ps
  pub present : All IsPresent ps
  pub in_range : All IsInRange ps

-- what holds of the other factors of a product, whose exponents may be past their limits
pub record AreJoined (o : Others) : Type 0 where
  pub dots_rise : IsStrictlySortedBy pair_order o.dots
  pub dots_present : All (λ d. 0 < nat_abs d.exponent) o.dots
  pub dots_turned : All (λ d. d.left ≤ d.right) o.dots
  pub components_rise : RisesBy component_order o.components
  pub deltas_rise : RisesBy delta_order o.deltas
  pub deltas_turned : All (λ d. is_gt (index_order d.first d.second) ≡ false) o.deltas
  pub functions_rise : RisesBy call_order o.functions
  pub functions : All IsCall o.functions
  pub word : All IsCall o.word
  pub shallow : depth_of_others o < largest_depth
  pub small : size_of_others o < 2 ^ 32

-- What holds of each of the factors of a term, in whatever order they are and however large.
pub record AreEachLawful (o : Others) : Type 0 where
  pub dots_present : All (λ d. 0 < nat_abs d.exponent) o.dots
  pub dots_turned : All (λ d. d.left ≤ d.right) o.dots
  pub deltas_turned : All (λ d. is_gt (index_order d.first d.second) ≡ false) o.deltas
  pub functions : All IsCall o.functions
  pub word : All IsCall o.word

-- A function may be a further factor of a term as it stands: the limits of size and depth are kept, and no delta of the
-- term has two fixed indices, which would be 1 or 0 in a product.
pub record HasRoom (t : Term) (c : Call) : Type 0 where
  pub small : size t + size_of_call c ≤ largest_size
  pub shallow : deepest 0 c.pieces < largest_depth
  pub unfixed : list_any is_fixed t.others.deltas ≡ false

-- a term is a product of non-commuting functions alone
abbrev pub IsWord : Term → Type 0
IsWord t = t ≡ of_others (record nothing { word = t.others.word })

-- A word may stand behind a term as it stands, as a function may.
pub record HasRoomForWord (t : Term) (word : Term) : Type 0 where
  pub small : size t + size word ≤ largest_size
  pub unfixed : list_any is_fixed t.others.deltas ≡ false

-- a term with these behind its own non-commuting functions
abbrev pub words_put : List Call → Term → Term
words_put cs t = term t.symbols (record t.others { word = t.others.word ++ cs })

-- Non-commuting functions may stand behind those of a term as it stands.
pub record HasRoomForWords (t : Term) (cs : List Call) : Type 0 where
  pub calls : All IsCall cs
  pub small : size t + sum (map size_of_call cs) ≤ largest_size
  pub shallow : depth_of_calls cs < largest_depth
  pub unfixed : list_any is_fixed t.others.deltas ≡ false

-- a function is no higher than another
abbrev pub is_upto : Call → Call → Bool
is_upto c d = not (is_gt (call_order c d))

-- a term has powers of symbols and commuting functions alone
abbrev pub IsPlain : Term → Type 0
IsPlain t = t.others ≡ record nothing { functions = t.others.functions }
