-- What becomes of a joined term by what is taken out of it.
use Rattle.std.specs.Prelude.{◌≡◌, ℕ, List, [], ◌∷◌, flat_map, replicate, Option, Some}
use Rattle.form_term.specs.Term.{Term}
use Rattle.form_term.specs.declared.monomial.Monomial.{Monomial}
use Rattle.form_bindings.specs.Values.{Binding}
use Rattle.form_expand.specs.Listing.{Listing}
use Rattle.form_expand.specs.Meanings.{Meanings}
use Rattle.form_expand.specs.Walks.{all_of}
use Rattle.form_rewrite.specs.declared.taken.Origin.{Origin}
use Rattle.form_rewrite.specs.declared.taken.Taken.{Taken}
use Rattle.form_flow.specs.Ready.{Part}
use Rattle.form_flow.specs.Rests.{put_in_named}
use Rattle.form_flow.specs.Rewriting.{and_part, and_taken, right_with, untouched}
use Rattle.form_flow.specs.Statement.{Limits}
use Rattle.form_gathered.specs.declared.joined.JoinedTerm.{JoinedTerm}
use Rattle.form_joined.specs.Goes.{Goes}
use Rattle.form_joined.specs.Powers.{AreKept}
use Rattle.form_joined.specs.declared.powers.Powers.{Powers}
use Rattle.form_levels.specs.declared.rewriting.Known.{Known}
use Rattle.form_levels.specs.declared.rewriting.Rewritten.{Rewritten}
use Rattle.form_levels.specs.declared.rewriting.Rewritten.TheVariants.{Untouched, Acted, Unknown}
use Rattle.form_levels.specs.declared.rewriting.Rule.{Rule}
use Rattle.form_levels.specs.Rows.{row_from}
use Rattle.form_levels.specs.Rules.{IsRewritten}

-- what is known of a joined term besides the term, and the joined term of which it is known
abbrev pub known_of : JoinedTerm → Known
known_of j = record { sum = j.sum; weight = j.weight; count = j.count }

abbrev pub joined_by : Known → Term → JoinedTerm
joined_by k t = record { term = t; sum = k.sum; weight = k.weight; count = k.count }

-- what a part takes out of a term
abbrev pub Takes : ℕ → Part → Term → Option Taken → Type 0
Takes max p t x = and_taken max p.right (untouched t) x ≡ and_part max (untouched t) p

-- what becomes of a joined term of which this is known, where this is taken out of it
abbrev pub Becomes : Rule → Known → Taken → Rewritten → Type 0
Becomes r k x made = (at : Limits) (j : JoinedTerm) → at.terms ≡ r.limit → known_of j ≡ k → Takes r.limit r.part.now j.term (Some x) → IsRewritten at (r.part.now ∷ []) j made

-- what comes of lists in a row behind a front, where it is told
abbrev pub IsRowOf : ℕ → List Listing → JoinedTerm → Rewritten → Type 0
IsRowOf max lists front (Untouched left) = ⊥
IsRowOf max lists front (Acted made) = Goes (λ m. row_from max front.term lists m.coefficient) (front ∷ []) made.items
IsRowOf max lists front Unknown = Unit {0}

-- the right side with the bindings of a match, so many times, and with those of each of some
abbrev pub right_by : Rule → ℕ → List Binding → List Listing
right_by r times bs = replicate times (right_with r.limit r.part.now.right bs)

abbrev pub right_by_each : Rule → ℕ → List (List Binding) → List Listing
right_by_each r times matches = flat_map (right_by r times) matches

-- what is put in at a cut, by what names stand for in each match
abbrev pub put_named : Rule → List (Option Meanings) → Origin → Listing
put_named r names o = put_in_named r.limit r.part.now.right [] names o

-- the list of the right side of the only part, where nothing is bound in it
abbrev pub IsListOf : ℕ → List Part → List Monomial → Type 0
IsListOf max [] list = ⊥
IsListOf max (p ∷ []) list = right_with max p.right [] ≡ all_of list
IsListOf max (p ∷ q ∷ ps) list = ⊥

-- what is kept are powers of that list
abbrev pub AreFor : ℕ → List Part → Powers → Type 0
AreFor max ps powers = (list : List Monomial) → IsListOf max ps list → AreKept list powers
