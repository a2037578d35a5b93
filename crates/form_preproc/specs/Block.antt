-- The lines of a text that is taken up, nested into blocks by their keywords.
use Rattle.std.specs.Prelude.{ℕ, zero, suc, ◌==◌, ◌||◌, ◌&&◌, not, nat_le, Bool, true, false, if◌then◌else◌, List, [], ◌∷◌, length, map, drop, Option, Some, None, Result, Ok, Err}
use Rattle.form_base.specs.declared.cause.Cause.{Cause}
use Rattle.form_base.specs.declared.cause.Cause.TheVariants.{BadByte, BadInstruction, Unclosed}
use Rattle.form_base.specs.declared.spot.Spot.{Spot}
use Rattle.form_lines.specs.Text.{PhysicalLine, lines_but_commentary}
use Rattle.form_preproc.specs.Key.{key_of}
use Rattle.form_preproc.specs.declared.key.Key.{Key}
use Rattle.form_preproc.specs.declared.key.Key.TheVariants.{Do, If, Ifdef, Ifndef, Procedure, Elseif, Else, Enddo, Endif, Endprocedure}
use Rattle.form_preproc.specs.declared.nesting.Kind.{Kind}
use Rattle.form_preproc.specs.declared.nesting.Kind.TheVariants as kind
use Rattle.form_preproc.specs.declared.nesting.Open.{Open}

-- a line of a text: the number of that text and of the line in it, the text's name, and the bytes
pub record Line : Type 0 where
  pub spot : Spot
  pub file : List ℕ
  pub text : List ℕ

abbrev pub key_in : Line → Key
key_in line = key_of line.text

-- a block begins
abbrev pub is_opening : Key → Bool
is_opening Do = true
is_opening If = true
is_opening Ifdef = true
is_opening Ifndef = true
is_opening Procedure = true
is_opening _ = false

-- a block ends
abbrev pub is_end : Key → Bool
is_end Enddo = true
is_end Endif = true
is_end Endprocedure = true
is_end _ = false

-- a block ends, or a further part of it begins
abbrev pub is_closer : Key → Bool
is_closer Elseif = true
is_closer Else = true
is_closer key = is_end key

-- From the first of the lines on at which the block, in which this many others are open, ends or a further part of it begins.
unfoldable pub to_closer : {A : Type 0} → (A → Key) → ℕ → List A → List A
to_closer key depth [] = []
to_closer key zero (x ∷ xs) = if is_closer (key x) then x ∷ xs else (if is_opening (key x) then to_closer key 1 xs else to_closer key 0 xs)
to_closer key (suc depth) (x ∷ xs) = if is_end (key x) then to_closer key depth xs else (if is_opening (key x) then to_closer key (suc (suc depth)) xs else to_closer key (suc depth) xs)

-- from the line on that ends it
unfoldable pub to_end : {A : Type 0} → (A → Key) → ℕ → List A → List A
to_end key depth [] = []
to_end key zero (x ∷ xs) = if is_end (key x) then x ∷ xs else (if is_opening (key x) then to_end key 1 xs else to_end key 0 xs)
to_end key (suc depth) (x ∷ xs) = if is_end (key x) then to_end key depth xs else (if is_opening (key x) then to_end key (suc (suc depth)) xs else to_end key (suc depth) xs)

-- ---- how lines nest

abbrev pub kind_of : Key → Kind
kind_of Do = kind.Loop
kind_of Enddo = kind.Loop
kind_of Procedure = kind.Procedure
kind_of Endprocedure = kind.Procedure
kind_of _ = kind.Choice

abbrev pub is_same_kind : Kind → Kind → Bool
is_same_kind kind.Loop kind.Loop = true
is_same_kind kind.Choice kind.Choice = true
is_same_kind kind.Procedure kind.Procedure = true
is_same_kind _ _ = false

abbrev pub most_blocks : ℕ
most_blocks = 64

-- the innermost open block ends, if it is of this kind
abbrev pub ended : Kind → List Open → Option (List Open)
ended k [] = None
ended k (o ∷ blocks) = if is_same_kind o.kind k then Some blocks else None

-- a further part of the innermost open block begins: not behind its last one
abbrev pub continued : Bool → List Open → Option (List Open)
continued is_last [] = None
continued is_last (o ∷ blocks) = if is_same_kind o.kind kind.Choice && not o.has_last then Some (record { kind = o.kind; has_last = is_last; number = o.number } ∷ blocks) else None

abbrev pub begun : Kind → ℕ → List Open → Option (List Open)
begun k number blocks = if nat_le most_blocks (length blocks) then None else Some (record { kind = k; has_last = false; number = number } ∷ blocks)

abbrev pub block_behind : Key → ℕ → List Open → Option (List Open)
block_behind key number blocks =
    if is_opening key then begun (kind_of key) number blocks
    else if is_end key then ended (kind_of key) blocks
    else Some blocks

-- what is open behind a line; none where the line can't stand there
abbrev pub open_behind : Key → ℕ → List Open → Option (List Open)
open_behind Elseif number blocks = continued false blocks
open_behind Else number blocks = continued true blocks
open_behind key number blocks = block_behind key number blocks

abbrev pub unclosed : List Open → Option (Cause × ℕ)
unclosed [] = None
unclosed (o ∷ blocks) = Some (Unclosed, o.number)

abbrev pub or_bad : (List Open → Option (Cause × ℕ)) → ℕ → Option (List Open) → Option (Cause × ℕ)
or_bad rest number None = Some (BadInstruction, number)
or_bad rest number (Some blocks) = rest blocks

-- The first line that doesn't nest, or the innermost opening that has no end, with these blocks open.
unfoldable pub misnested : {A : Type 0} → (A → Key) → (A → ℕ) → List Open → List A → Option (Cause × ℕ)
misnested key number blocks [] = unclosed blocks
misnested key number blocks (x ∷ xs) = or_bad (λ more. misnested key number more xs) (number x) (open_behind (key x) (number x) blocks)

-- ---- taking up a text

abbrev pub placed : List ℕ → ℕ → PhysicalLine → Line
placed file text line = record { spot = record { text = text; line = line.number }; file = file; text = line.text }

abbrev pub unless_misnested : {A : Type 0} → A → Option (Cause × ℕ) → Result A (Cause × ℕ)
unless_misnested lines None = Ok lines
unless_misnested lines (Some refusal) = Err refusal

abbrev pub nested : List ℕ → ℕ → Result (List PhysicalLine) ℕ → Result (List Line) (Cause × ℕ)
nested file text (Err bad) = Err (BadByte, bad)
nested file text (Ok lines) = unless_misnested (map (placed file text) lines) (misnested (λ line. key_of line.text) (λ line. line.number) [] lines)

-- The lines of a text of this name, which is the one of that number: or the cause and the line of its refusal.
abbrev pub taken_up : List ℕ → ℕ → List ℕ → Result (List Line) (Cause × ℕ)
taken_up file text bytes = nested file text (lines_but_commentary bytes)
