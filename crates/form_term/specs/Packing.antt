-- What a function holds as it lies in memory: its size and its depth as they are kept, its name, and its pieces.
use Rattle.std.specs.Prelude.{◌≡◌, ℕ, List, []}
use Rattle.std.specs.Arc.{arc_value}
use Rattle.form_term.specs.declared.packed.Packed.{Packed}
use Rattle.form_term.specs.declared.packed.Packed.TheVariants.{Bare, One, Two, Three, Four, Five, Six, Seven, Eight, Nine, Many}
use Rattle.form_term.specs.declared.piece.Piece.{Piece}

abbrev pub size_in : Packed → ℕ
size_in (Bare s d f) = s
size_in (One s d f ps) = s
size_in (Two s d f ps) = s
size_in (Three s d f ps) = s
size_in (Four s d f ps) = s
size_in (Five s d f ps) = s
size_in (Six s d f ps) = s
size_in (Seven s d f ps) = s
size_in (Eight s d f ps) = s
size_in (Nine s d f ps) = s
size_in (Many s d f ps) = s

abbrev pub depth_in : Packed → ℕ
depth_in (Bare s d f) = d
depth_in (One s d f ps) = d
depth_in (Two s d f ps) = d
depth_in (Three s d f ps) = d
depth_in (Four s d f ps) = d
depth_in (Five s d f ps) = d
depth_in (Six s d f ps) = d
depth_in (Seven s d f ps) = d
depth_in (Eight s d f ps) = d
depth_in (Nine s d f ps) = d
depth_in (Many s d f ps) = d

abbrev pub function_in : Packed → ℕ
function_in (Bare s d f) = f
function_in (One s d f ps) = f
function_in (Two s d f ps) = f
function_in (Three s d f ps) = f
function_in (Four s d f ps) = f
function_in (Five s d f ps) = f
function_in (Six s d f ps) = f
function_in (Seven s d f ps) = f
function_in (Eight s d f ps) = f
function_in (Nine s d f ps) = f
function_in (Many s d f ps) = f

abbrev pub pieces_in : Packed → List Piece
pieces_in (Bare s d f) = []
pieces_in (One s d f ps) = arc_value ps
pieces_in (Two s d f ps) = arc_value ps
pieces_in (Three s d f ps) = arc_value ps
pieces_in (Four s d f ps) = arc_value ps
pieces_in (Five s d f ps) = arc_value ps
pieces_in (Six s d f ps) = arc_value ps
pieces_in (Seven s d f ps) = arc_value ps
pieces_in (Eight s d f ps) = arc_value ps
pieces_in (Nine s d f ps) = arc_value ps
pieces_in (Many s d f ps) = (arc_value ps).items

abbrev pub IsPacked : ℕ → ℕ → ℕ → List Piece → Packed → Type 0
IsPacked size depth function pieces p = (size_in p ≡ size) × (depth_in p ≡ depth) × (function_in p ≡ function) × (pieces_in p ≡ pieces)
