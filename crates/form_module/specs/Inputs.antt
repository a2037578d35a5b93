-- What is left of the terms that statements are carried out on.
use Rattle.std.specs.Prelude.{◌≡◌, ℕ, List, drop, Option, Some, None}
use Rattle.form_tree.specs.Tree.{Sum, pieces_of_sum}
use Rattle.form_tree.specs.declared.tree.Piece.{Piece}
use Rattle.form_expand.specs.Expanding.{list_of_sum}
use Rattle.form_expand.specs.Listing.{Listing}
use Rattle.form_expand.specs.Meanings.{Meanings, terms_of}
use Rattle.form_module.specs.declared.inputs.Inputs.{Inputs}
use Rattle.form_module.specs.declared.inputs.Inputs.TheVariants.{Tree, Terms}
use Rattle.form_module.specs.declared.inputs.Kept.{Kept}

abbrev pub terms_left : Kept → Listing
terms_left k = record { terms = drop k.taken k.terms.now; end = None }

abbrev pub inputs_left : Inputs → Listing
inputs_left (Tree list) = list
inputs_left (Terms k) = terms_left k

-- a right side, where there is one, is that of a tree
abbrev pub IsTreeOf : Option (List Piece) → Option Sum → Type 0
IsTreeOf None None = Unit {0}
IsTreeOf (Some right) (Some tree) = right ≡ pieces_of_sum tree
IsTreeOf None (Some tree) = ⊥
IsTreeOf (Some right) None = ⊥

-- the terms of a tree, or those that the expression stands for
abbrev pub inputs_of : ℕ → Meanings → ℕ → Option Sum → Listing
inputs_of max names expression (Some tree) = list_of_sum max names tree
inputs_of max names expression None = record { terms = terms_of names expression; end = None }
