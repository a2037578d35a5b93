-- Functions and their arguments, read from the front.
use Rattle.std.specs.Prelude.{◌≡◌, ◌<◌, ◌≤◌, ℕ, Bool, List, [], ◌∷◌, length}
use Rattle.form_term.specs.declared.arguments.Arguments.{Arguments}
use Rattle.form_term.specs.Term.{Argument, pieces_of_arguments}
use Rattle.form_tree.specs.declared.tree.Piece.{Piece}
use Rattle.form_expand.specs.Calls.{IsFurther, called}
use Rattle.form_expand.specs.Listing.{Listing, powers}
use Rattle.form_expand.specs.Meanings.{Meanings}
use Rattle.form_expand.specs.Readers.{IsReadFunction, list_of_calling}
use Rattle.form_expand.specs.Reading.{calling, fresh, in_function, in_sum, read_from}
use Rattle.form_joined.specs.Products.{HasList}
use Rattle.form_sides.specs.Parts.{HasFactor}
use Rattle.form_sides.specs.declared.sums.Argued.{Argued}
use Rattle.form_sides.specs.declared.sums.Argued.TheVariants as argued
use Rattle.form_sides.specs.declared.sums.Read.{Read}
use Rattle.form_sides.specs.declared.sums.Read.TheVariants.{Further, Unknown}

-- a function is read whose arguments have these pieces
abbrev pub ReadsFunction : ℕ → Meanings → ℕ → Bool → List Piece → Read → Type 0
ReadsFunction max all f is_commuting ps (Further js rest) = HasFactor max (IsReadFunction f is_commuting max all ps) js.items rest.now
ReadsFunction max all f is_commuting ps Unknown = Unit {0}

-- a power of this list was made, with these pieces behind it
abbrev pub HasPowers : ℕ → Listing → ℕ → List Piece → Read → Type 0
HasPowers max l n ps (Further js rest) = HasList (powers max l n) js.items × (rest.now ≡ ps)
HasPowers max l n ps Unknown = Unit {0}

-- these are all arguments that these pieces give, whatever the function is
abbrev pub AreArgued : ℕ → Meanings → List Piece → Arguments → Type 0
AreArgued max all ps args = (f : ℕ) (is_commuting : Bool) → IsFurther max all (list_of_calling all (calling max f is_commuting) ps) f is_commuting args []

-- these and one more were read of what has this list, whatever the function is
abbrev pub ReadsArgumentBy : (ℕ → Bool → List Argument → Listing) → ℕ → Meanings → Arguments → Argued → Type 0
ReadsArgumentBy list max all old (argued.Further new rest) = (f : ℕ) (is_commuting : Bool) (args : List Argument) → old ≡ pieces_of_arguments args → IsFurther max all (list f is_commuting args) f is_commuting new rest.now
ReadsArgumentBy list max all old argued.Unknown = Unit {0}

-- the argument that these pieces begin with
abbrev pub ReadsArgument : ℕ → Meanings → List Piece → Arguments → Argued → Type 0
ReadsArgument max all ps = ReadsArgumentBy (λ f is_commuting args. list_of_calling all (called max f is_commuting args) ps) max all

-- the rest of an argument that is an expression, which was begun
abbrev pub ReadsExpression : ℕ → Meanings → List Piece → Arguments → Argued → Type 0
ReadsExpression max all ps = ReadsArgumentBy (λ f is_commuting args. read_from all (record { top = in_sum (fresh max); outer = in_function (called max f is_commuting args) ∷ [] }) ps) max all

-- what is left is shorter, or no longer
abbrev pub argues_shorter : List Piece → Argued → Type 0
argues_shorter ps (argued.Further new rest) = length rest.now < length ps
argues_shorter ps argued.Unknown = Unit {0}

abbrev pub argues_no_longer : List Piece → Argued → Type 0
argues_no_longer ps (argued.Further new rest) = length rest.now ≤ length ps
argues_no_longer ps argued.Unknown = Unit {0}
