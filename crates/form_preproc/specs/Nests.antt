-- Lines that nest: a tree of blocks.
use Rattle.std.specs.Prelude.{◌≡◌, ℕ, suc, ◌<◌, true, false, List, [], ◌∷◌, ◌++◌, Some}
use Rattle.form_base.specs.declared.cause.Cause.TheVariants.{BadInstruction}
use Rattle.form_preproc.specs.Block.{is_opening, is_end, is_closer, kind_of, is_same_kind, most_blocks, misnested}
use Rattle.form_preproc.specs.declared.key.Key.{Key}
use Rattle.form_preproc.specs.declared.key.Key.TheVariants.{Else, Elseif}
use Rattle.form_preproc.specs.declared.nesting.Kind.{Kind}
use Rattle.form_preproc.specs.declared.nesting.Kind.TheVariants as kind

mutual
  -- Where so many blocks are open around them: lines that begin, end and part nothing, and blocks, each from the line that begins
  -- it to the one of its kind that ends it.
  pub data AreNested {A : Type 0} (key : A → Key) : ℕ → List A → Type 0 where
    nothing : (depth : ℕ) → AreNested key depth []
    line : (depth : ℕ) (x : A) (xs : List A) → is_opening (key x) ≡ false → is_closer (key x) ≡ false → AreNested key depth xs → AreNested key depth (x ∷ xs)
    block : (depth : ℕ) (x last : A) (body xs : List A) → is_opening (key x) ≡ true → depth < most_blocks → AreParts key (kind_of (key x)) (suc depth) body
        → is_end (key last) ≡ true → is_same_kind (kind_of (key x)) (kind_of (key last)) ≡ true → AreNested key depth xs → AreNested key depth (x ∷ (body ++ last ∷ xs))

  -- what stands in a block of this kind: such lines, and of a choice several of them, parted by `#elseif` and at last by `#else`
  pub data AreParts {A : Type 0} (key : A → Key) : Kind → ℕ → List A → Type 0 where
    one : (k : Kind) (depth : ℕ) (xs : List A) → AreNested key depth xs → AreParts key k depth xs
    before_elseif : (depth : ℕ) (x : A) (xs ys : List A) → key x ≡ Elseif → AreNested key depth xs → AreParts key kind.Choice depth ys → AreParts key kind.Choice depth (xs ++ x ∷ ys)
    before_else : (depth : ℕ) (x : A) (xs ys : List A) → key x ≡ Else → AreNested key depth xs → AreNested key depth ys → AreParts key kind.Choice depth (xs ++ x ∷ ys)

-- The first line that fits into no tree, by its number: no line before it is one, and no tree begins with the lines up to it.
pub record IsMisfit {A : Type 0} (key : A → Key) (number : A → ℕ) (lines : List A) (n : ℕ) : Type 0 where
  pub front : List A
  pub misfit : A
  pub rest : List A
  pub is : lines ≡ front ++ misfit ∷ rest
  pub at : number misfit ≡ n
  pub none : (more : List A) → AreNested key 0 (front ++ misfit ∷ more) → ⊥
  pub first : (k : ℕ) → misnested key number [] front ≡ Some (BadInstruction, k) → ⊥

-- The innermost line that begins a block without an end, by its number: what follows it are parts of that block.
pub record IsUnended {A : Type 0} (key : A → Key) (number : A → ℕ) (lines : List A) (n : ℕ) : Type 0 where
  pub front : List A
  pub opening : A
  pub rest : List A
  pub is : lines ≡ front ++ opening ∷ rest
  pub at : number opening ≡ n
  pub opens : is_opening (key opening) ≡ true
  pub depth : ℕ
  pub parts : AreParts key (kind_of (key opening)) depth rest
