-- Lines are well nested where they are a tree of blocks; else a line fits into none, or a block is without its end.
use Rattle.std.proofs.Common.{◌≡◌, ℕ, suc, ◌<◌, Bool, true, false, if◌then◌else◌, List, [], ◌∷◌, ◌++◌, length, Option, Some, None, ◌⊎◌, inl, inr, refl, sym, ap, ◌∙◌, subst, append_assoc, append-nil}
use Rattle.std.specs.Prelude.{nat_le, not, ◌&&◌}
use Rattle.std.proofs.lemmas.Bool.{and_parts, leb-false, lt-leb}
use Rattle.std.proofs.lemmas.Option.{same_Some}
use Rattle.form_preproc.specs.Block.{is_opening, is_end, is_closer, kind_of, is_same_kind, most_blocks, ended, continued, begun, open_behind, unclosed, or_bad, misnested}
use Rattle.form_preproc.specs.Nests.{AreNested, nothing, line, block, AreParts, one, before_elseif, before_else, IsMisfit, IsUnended}
use Rattle.form_base.specs.declared.cause.Cause.{Cause}
use Rattle.form_base.specs.declared.cause.Cause.TheVariants.{BadInstruction, Unclosed}
use Rattle.form_preproc.specs.declared.key.Key.{Key}
use Rattle.form_preproc.specs.declared.key.Key.TheVariants.{Plain, Do, If, Ifdef, Ifndef, Procedure, Elseif, Else, Enddo, Endif, Endprocedure, Define, Redefine, Undefine, Call, Include, Sign, Unknown}
use Rattle.form_preproc.specs.declared.nesting.Kind.{Kind}
use Rattle.form_preproc.specs.declared.nesting.Kind.TheVariants as kind
use Rattle.form_preproc.specs.declared.nesting.Open.{Open}

-- ---- what a line does to the open blocks

abbrev new_block : Key → ℕ → Open
new_block k number = record { kind = kind_of k; has_last = false; number = number }

abbrev with_last : Bool → Open → Open
with_last is_last o = record { kind = o.kind; has_last = is_last; number = o.number }

-- one of four
data Step (k : Key) (number : ℕ) (blocks : List Open) (more : List Open) : Type 0 where
  passes : is_opening k ≡ false → is_closer k ≡ false → blocks ≡ more → Step k number blocks more
  opens : is_opening k ≡ true → length blocks < most_blocks → new_block k number ∷ blocks ≡ more → Step k number blocks more
  ends : (o : Open) → is_end k ≡ true → is_same_kind o.kind (kind_of k) ≡ true → blocks ≡ o ∷ more → Step k number blocks more
  parts : (o : Open) (rest : List Open) (is_last : Bool) → k ≡ (if is_last then Else else Elseif) → o.kind ≡ kind.Choice → o.has_last ≡ false → blocks ≡ o ∷ rest → with_last is_last o ∷ rest ≡ more → Step k number blocks more

opened : (k : Key) (number : ℕ) (blocks more : List Open) → is_opening k ≡ true → begun (kind_of k) number blocks ≡ Some more → Step k number blocks more
opened k number blocks more is e = by (nat_le most_blocks (length blocks)) refl e
  where
    by : (full : Bool) → nat_le most_blocks (length blocks) ≡ full → (if full then None else Some (new_block k number ∷ blocks)) ≡ Some more → Step k number blocks more
    by true f e = absurd cc
    by false f e = opens is (leb-false most_blocks (length blocks) f) (same_Some (new_block k number ∷ blocks) more e)

closed : (k : Key) (number : ℕ) (blocks more : List Open) → is_end k ≡ true → ended (kind_of k) blocks ≡ Some more → Step k number blocks more
closed k number [] more is e = absurd cc
closed k number (o ∷ blocks) more is e = by (is_same_kind o.kind (kind_of k)) refl e
  where
    by : (same : Bool) → is_same_kind o.kind (kind_of k) ≡ same → (if same then Some blocks else None) ≡ Some more → Step k number (o ∷ blocks) more
    by true f e = ends o is f (ap (λ (bs : List Open). o ∷ bs) (same_Some blocks more e))
    by false f e = absurd cc

only_choice : (k : Kind) → is_same_kind k kind.Choice ≡ true → k ≡ kind.Choice
only_choice kind.Loop e = absurd cc
only_choice kind.Choice e = refl
only_choice kind.Procedure e = absurd cc

parted : (is_last : Bool) (number : ℕ) (blocks more : List Open) → continued is_last blocks ≡ Some more → Step (if is_last then Else else Elseif) number blocks more
parted is_last number [] more e = absurd cc
parted is_last number (o ∷ blocks) more e = by (is_same_kind o.kind kind.Choice && not o.has_last) refl e
  where
    open_still : (b : Bool) → not b ≡ true → b ≡ false
    open_still true f = absurd cc
    open_still false f = refl

    by : (may : Bool) → (is_same_kind o.kind kind.Choice && not o.has_last) ≡ may → (if may then Some (with_last is_last o ∷ blocks) else None) ≡ Some more → Step (if is_last then Else else Elseif) number (o ∷ blocks) more
    by true f e =
        let both = and_parts (is_same_kind o.kind kind.Choice) (not o.has_last) f in
        parts o blocks is_last refl (only_choice o.kind both.0) (open_still o.has_last both.1) refl (same_Some (with_last is_last o ∷ blocks) more e)
    by false f e = absurd cc

stepped : (k : Key) (number : ℕ) (blocks more : List Open) → open_behind k number blocks ≡ Some more → Step k number blocks more
stepped Elseif number blocks more e = parted false number blocks more e
stepped Else number blocks more e = parted true number blocks more e
stepped Do number blocks more e = opened Do number blocks more refl e
stepped If number blocks more e = opened If number blocks more refl e
stepped Ifdef number blocks more e = opened Ifdef number blocks more refl e
stepped Ifndef number blocks more e = opened Ifndef number blocks more refl e
stepped Procedure number blocks more e = opened Procedure number blocks more refl e
stepped Enddo number blocks more e = closed Enddo number blocks more refl e
stepped Endif number blocks more e = closed Endif number blocks more refl e
stepped Endprocedure number blocks more e = closed Endprocedure number blocks more refl e
stepped Plain number blocks more e = passes refl refl (same_Some blocks more e)
stepped Define number blocks more e = passes refl refl (same_Some blocks more e)
stepped Redefine number blocks more e = passes refl refl (same_Some blocks more e)
stepped Undefine number blocks more e = passes refl refl (same_Some blocks more e)
stepped Call number blocks more e = passes refl refl (same_Some blocks more e)
stepped Include number blocks more e = passes refl refl (same_Some blocks more e)
stepped Sign number blocks more e = passes refl refl (same_Some blocks more e)
stepped Unknown number blocks more e = passes refl refl (same_Some blocks more e)

-- ---- a tree from lines of which none is misnested

-- what may still stand in a block of this kind, whose last part has begun or not
abbrev MayFollow : {A : Type 0} → (A → Key) → Bool → Kind → ℕ → List A → Type 0
MayFollow key true k depth body = AreNested key depth body
MayFollow key false k depth body = AreParts key k depth body

-- lines up to the end of the innermost open block, that line, and what follows it
record Rest {A : Type 0} (key : A → Key) (o : Open) (depth : ℕ) (xs : List A) (Others : List A → Type 0) : Type 0 where
  body : List A
  last : A
  others : List A
  is : xs ≡ body ++ last ∷ others
  follow : MayFollow key o.has_last o.kind depth body
  end : is_end (key last) ≡ true
  same : is_same_kind o.kind (kind_of (key last)) ≡ true
  behind : Others others

-- lines that end all open blocks, and stand in a tree behind them
abbrev AreRest : {A : Type 0} → (A → Key) → List Open → List A → Type 0
AreRest key [] xs = AreNested key 0 xs
AreRest key (o ∷ blocks) xs = Rest key o (suc (length blocks)) xs (AreRest key blocks)

module _ {A : Type 0} (key : A → Key) (number : A → ℕ) where
  line_followed : (is_last : Bool) (k : Kind) (depth : ℕ) (x : A) (body : List A) → is_opening (key x) ≡ false → is_closer (key x) ≡ false → MayFollow key is_last k depth body → MayFollow key is_last k depth (x ∷ body)
  line_followed true k depth x body e f h = line depth x body e f h
  line_followed false k depth x body e f (one _ _ _ h) = one k depth (x ∷ body) (line depth x body e f h)
  line_followed false _ depth x _ e f (before_elseif _ y xs ys is h more) = before_elseif depth y (x ∷ xs) ys is (line depth x xs e f h) more
  line_followed false _ depth x _ e f (before_else _ y xs ys is h more) = before_else depth y (x ∷ xs) ys is (line depth x xs e f h) more

  block_followed : (is_last : Bool) (k : Kind) (depth : ℕ) (x last : A) (inner body : List A) → is_opening (key x) ≡ true → depth < most_blocks → AreParts key (kind_of (key x)) (suc depth) inner
      → is_end (key last) ≡ true → is_same_kind (kind_of (key x)) (kind_of (key last)) ≡ true → MayFollow key is_last k depth body → MayFollow key is_last k depth (x ∷ (inner ++ last ∷ body))
  block_followed true k depth x last inner body e lt h f g more = block depth x last inner body e lt h f g more
  block_followed false k depth x last inner body e lt h f g (one _ _ _ more) = one k depth (x ∷ (inner ++ last ∷ body)) (block depth x last inner body e lt h f g more)
  block_followed false _ depth x last inner _ e lt h f g (before_elseif _ y xs ys is front more) =
      subst (λ (t : List A). AreParts key kind.Choice depth (x ∷ t)) (append_assoc inner (last ∷ xs) (y ∷ ys))
      (before_elseif depth y (x ∷ (inner ++ last ∷ xs)) ys is (block depth x last inner xs e lt h f g front) more)
  block_followed false _ depth x last inner _ e lt h f g (before_else _ y xs ys is front more) =
      subst (λ (t : List A). AreParts key kind.Choice depth (x ∷ t)) (append_assoc inner (last ∷ xs) (y ∷ ys))
      (before_else depth y (x ∷ (inner ++ last ∷ xs)) ys is (block depth x last inner xs e lt h f g front) more)

  -- with a line, or a block, in front
  line_before : (o : Open) (depth : ℕ) (x : A) (xs : List A) (Others : List A → Type 0) → is_opening (key x) ≡ false → is_closer (key x) ≡ false → Rest key o depth xs Others → Rest key o depth (x ∷ xs) Others
  line_before o depth x xs Others e f h = record {
    body = x ∷ h.body;
    last = h.last;
    others = h.others;
    is = ap (λ (ys : List A). x ∷ ys) h.is;
    follow = line_followed o.has_last o.kind depth x h.body e f h.follow;
    end = h.end;
    same = h.same;
    behind = h.behind;
  }

  block_before : (o : Open) (depth : ℕ) (x last : A) (inner others : List A) (Others : List A → Type 0) → is_opening (key x) ≡ true → depth < most_blocks → AreParts key (kind_of (key x)) (suc depth) inner
      → is_end (key last) ≡ true → is_same_kind (kind_of (key x)) (kind_of (key last)) ≡ true → Rest key o depth others Others → Rest key o depth (x ∷ (inner ++ last ∷ others)) Others
  block_before o depth x last inner others Others e lt h f g more = record {
    body = x ∷ (inner ++ last ∷ more.body);
    last = more.last;
    others = more.others;
    is = ap (λ (ys : List A). x ∷ (inner ++ last ∷ ys)) more.is ∙ ap (λ (ys : List A). x ∷ ys) (sym (append_assoc inner (last ∷ more.body) (more.last ∷ more.others)));
    follow = block_followed o.has_last o.kind depth x last inner more.body e lt h f g more.follow;
    end = more.end;
    same = more.same;
    behind = more.behind;
  }

  line_rest : (x : A) (blocks : List Open) (xs : List A) → is_opening (key x) ≡ false → is_closer (key x) ≡ false → AreRest key blocks xs → AreRest key blocks (x ∷ xs)
  line_rest x [] xs e f h = line 0 x xs e f h
  line_rest x (o ∷ blocks) xs e f h = line_before o (suc (length blocks)) x xs (AreRest key blocks) e f h

  block_rest : (x last : A) (blocks : List Open) (inner others : List A) → is_opening (key x) ≡ true → length blocks < most_blocks → AreParts key (kind_of (key x)) (suc (length blocks)) inner
      → is_end (key last) ≡ true → is_same_kind (kind_of (key x)) (kind_of (key last)) ≡ true → AreRest key blocks others → AreRest key blocks (x ∷ (inner ++ last ∷ others))
  block_rest x last [] inner others e lt h f g more = block 0 x last inner others e lt h f g more
  block_rest x last (o ∷ blocks) inner others e lt h f g more = block_before o (suc (length blocks)) x last inner others (AreRest key blocks) e lt h f g more

  -- a further part of the innermost block
  part_follows : (is_last : Bool) (k : Kind) (depth : ℕ) (x : A) (body : List A) → key x ≡ (if is_last then Else else Elseif) → k ≡ kind.Choice → MayFollow key is_last k depth body → AreParts key k depth (x ∷ body)
  part_follows true k depth x body e choice h = subst (λ (c : Kind). AreParts key c depth (x ∷ body)) (sym choice) (before_else depth x [] body e (nothing depth) h)
  part_follows false k depth x body e choice h =
      subst (λ (c : Kind). AreParts key c depth (x ∷ body)) (sym choice) (before_elseif depth x [] body e (nothing depth) (subst (λ (c : Kind). AreParts key c depth body) choice h))

  part_in : (o : Open) (is_last : Bool) (depth : ℕ) (x : A) (body : List A) → key x ≡ (if is_last then Else else Elseif) → o.kind ≡ kind.Choice → o.has_last ≡ false → MayFollow key is_last o.kind depth body → MayFollow key o.has_last o.kind depth (x ∷ body)
  part_in o is_last depth x body e choice unfinished h = subst (λ (b : Bool). MayFollow key b o.kind depth (x ∷ body)) (sym unfinished) (part_follows is_last o.kind depth x body e choice h)

  none_follows : (is_last : Bool) (k : Kind) (depth : ℕ) → MayFollow key is_last k depth []
  none_follows true k depth = nothing depth
  none_follows false k depth = one k depth [] (nothing depth)

  part_before : (o : Open) (is_last : Bool) (depth : ℕ) (x : A) (xs : List A) (Others : List A → Type 0) → key x ≡ (if is_last then Else else Elseif) → o.kind ≡ kind.Choice → o.has_last ≡ false
      → Rest key (with_last is_last o) depth xs Others → Rest key o depth (x ∷ xs) Others
  part_before o is_last depth x xs Others e choice unfinished rest = record {
    body = x ∷ rest.body;
    last = rest.last;
    others = rest.others;
    is = ap (λ (ys : List A). x ∷ ys) rest.is;
    follow = part_in o is_last depth x rest.body e choice unfinished rest.follow;
    end = rest.end;
    same = rest.same;
    behind = rest.behind;
  }

  ended_by : (o : Open) (depth : ℕ) (x : A) (xs : List A) (Others : List A → Type 0) → is_end (key x) ≡ true → is_same_kind o.kind (kind_of (key x)) ≡ true → Others xs → Rest key o depth (x ∷ xs) Others
  ended_by o depth x xs Others e same h = record { body = []; last = x; others = xs; is = refl; follow = none_follows o.has_last o.kind depth; end = e; same = same; behind = h }

  abbrev Falls : List A → Type 0
  Falls xs = (blocks : List Open) → misnested key number blocks xs ≡ None → AreRest key blocks xs

  further : (x : A) (xs : List A) → Falls xs → (blocks more : List Open) → Step (key x) (number x) blocks more → misnested key number more xs ≡ None → AreRest key blocks (x ∷ xs)
  further x xs falls blocks more (passes e f same) h = line_rest x blocks xs e f (falls blocks (ap (λ (bs : List Open). misnested key number bs xs) same ∙ h))
  further x xs falls blocks more (opens e lt same) h =
      let rest = falls (new_block (key x) (number x) ∷ blocks) (ap (λ (bs : List Open). misnested key number bs xs) same ∙ h) in
      subst (λ (ys : List A). AreRest key blocks (x ∷ ys)) (sym rest.is) (block_rest x rest.last blocks rest.body rest.others e lt rest.follow rest.end rest.same rest.behind)
  further x xs falls blocks more (ends o e same is) h =
      subst (λ (bs : List Open). AreRest key bs (x ∷ xs)) (sym is) (ended_by o (suc (length more)) x xs (AreRest key more) e same (falls more h))
  further x xs falls blocks more (parts o others is_last e kind_is unfinished is same) h =
      let rest = falls (with_last is_last o ∷ others) (ap (λ (bs : List Open). misnested key number bs xs) same ∙ h) in
      subst (λ (bs : List Open). AreRest key bs (x ∷ xs)) (sym is) (part_before o is_last (suc (length others)) x xs (AreRest key others) e kind_is unfinished rest)

  all_closed : (blocks : List Open) → unclosed blocks ≡ None → AreRest key blocks []
  all_closed [] e = nothing 0
  all_closed (o ∷ blocks) e = absurd cc

  falls : (xs : List A) → Falls xs
  unfolding misnested
  falls [] blocks h = all_closed blocks h
  falls (x ∷ xs) blocks h = by (λ more step e. further x xs (λ bs e. falls xs bs e) blocks more step e) (open_behind (key x) (number x) blocks) refl h
    where
      by : ((more : List Open) → Step (key x) (number x) blocks more → misnested key number more xs ≡ None → AreRest key blocks (x ∷ xs))
          → (o : Option (List Open)) → open_behind (key x) (number x) blocks ≡ o → or_bad (λ more. misnested key number more xs) (number x) o ≡ None → AreRest key blocks (x ∷ xs)
      by go None e h = absurd cc
      by go (Some more) e h = go more (stepped (key x) (number x) blocks more e) h

pub nested_from : {A : Type 0} (key : A → Key) (number : A → ℕ) (xs : List A) → misnested key number [] xs ≡ None → AreNested key 0 xs
nested_from key number xs e = falls key number xs [] e

-- ---- a tree is passed over

plain_step : (k : Key) (number : ℕ) (blocks : List Open) → is_opening k ≡ false → is_closer k ≡ false → open_behind k number blocks ≡ Some blocks
plain_step Plain number blocks e f = refl
plain_step Define number blocks e f = refl
plain_step Redefine number blocks e f = refl
plain_step Undefine number blocks e f = refl
plain_step Call number blocks e f = refl
plain_step Include number blocks e f = refl
plain_step Sign number blocks e f = refl
plain_step Unknown number blocks e f = refl
plain_step k number blocks e f = cc

has_room : (k : Key) (number : ℕ) (blocks : List Open) → length blocks < most_blocks → begun (kind_of k) number blocks ≡ Some (new_block k number ∷ blocks)
has_room k number blocks lt = ap (λ (b : Bool). if b then None else Some (new_block k number ∷ blocks)) (lt-leb most_blocks (length blocks) lt)

opening_step : (k : Key) (number : ℕ) (blocks : List Open) → is_opening k ≡ true → length blocks < most_blocks → open_behind k number blocks ≡ Some (new_block k number ∷ blocks)
opening_step Do number blocks e lt = has_room Do number blocks lt
opening_step If number blocks e lt = has_room If number blocks lt
opening_step Ifdef number blocks e lt = has_room Ifdef number blocks lt
opening_step Ifndef number blocks e lt = has_room Ifndef number blocks lt
opening_step Procedure number blocks e lt = has_room Procedure number blocks lt
opening_step k number blocks e lt = cc

end_step : (k : Key) (number : ℕ) (o : Open) (blocks : List Open) → is_end k ≡ true → is_same_kind o.kind (kind_of k) ≡ true → open_behind k number (o ∷ blocks) ≡ Some blocks
end_step Enddo number o blocks e same = ap (λ (b : Bool). if b then Some blocks else None) same
end_step Endif number o blocks e same = ap (λ (b : Bool). if b then Some blocks else None) same
end_step Endprocedure number o blocks e same = ap (λ (b : Bool). if b then Some blocks else None) same
end_step k number o blocks e same = cc

part_step : (is_last : Bool) (k : Key) (number : ℕ) (o : Open) (blocks : List Open) → k ≡ (if is_last then Else else Elseif) → o.kind ≡ kind.Choice → o.has_last ≡ false → open_behind k number (o ∷ blocks) ≡ Some (with_last is_last o ∷ blocks)
part_step is_last k number o blocks e choice unfinished = ap (λ (x : Key). open_behind x number (o ∷ blocks)) e ∙ by is_last
  where
    may : (is_same_kind o.kind kind.Choice && not o.has_last) ≡ true
    may = ap (λ (c : Kind). is_same_kind c kind.Choice && not o.has_last) choice ∙ ap not unfinished

    by : (is_last : Bool) → open_behind (if is_last then Else else Elseif) number (o ∷ blocks) ≡ Some (with_last is_last o ∷ blocks)
    by true = ap (λ (b : Bool). if b then Some (with_last true o ∷ blocks) else None) may
    by false = ap (λ (b : Bool). if b then Some (with_last false o ∷ blocks) else None) may

module _ {A : Type 0} (key : A → Key) (number : A → ℕ) where
  one_passed : (x : A) (xs : List A) (blocks more : List Open) → open_behind (key x) (number x) blocks ≡ Some more → misnested key number blocks (x ∷ xs) ≡ misnested key number more xs
  unfolding misnested
  one_passed x xs blocks more e = ap (λ o. or_bad (λ bs. misnested key number bs xs) (number x) o) e

  -- what is open behind the parts of a block is that block still
  record Passed (o : Open) (blocks : List Open) (xs rest : List A) : Type 0 where
    now : Open
    same : now.kind ≡ o.kind
    passes : misnested key number (o ∷ blocks) (xs ++ rest) ≡ misnested key number (now ∷ blocks) rest

  mutual
    nested_passes : (depth : ℕ) (xs : List A) → AreNested key depth xs → (blocks : List Open) → length blocks ≡ depth → (rest : List A) → misnested key number blocks (xs ++ rest) ≡ misnested key number blocks rest
    nested_passes _ _ (nothing depth) blocks s rest = refl
    nested_passes _ _ (line depth x xs e f h) blocks s rest =
        one_passed x (xs ++ rest) blocks blocks (plain_step (key x) (number x) blocks e f) ∙ nested_passes depth xs h blocks s rest
    nested_passes _ _ (block depth x last body xs e lt h f g more) blocks s rest =
        let o = new_block (key x) (number x) in
        let p = parts_pass (kind_of (key x)) (suc depth) body h o blocks refl refl (ap (λ (n : ℕ). suc n) s) (last ∷ (xs ++ rest)) in
        ap (λ (t : List A). misnested key number blocks (x ∷ t)) (append_assoc body (last ∷ xs) rest)
        ∙ one_passed x (body ++ last ∷ (xs ++ rest)) blocks (o ∷ blocks) (opening_step (key x) (number x) blocks e (subst (λ (n : ℕ). n < most_blocks) (sym s) lt))
        ∙ p.passes
        ∙ one_passed last (xs ++ rest) (p.now ∷ blocks) blocks (end_step (key last) (number last) p.now blocks f (subst (λ (k : Kind). is_same_kind k (kind_of (key last)) ≡ true) (sym p.same) g))
        ∙ nested_passes depth xs more blocks s rest

    parts_pass : (k : Kind) (depth : ℕ) (xs : List A) → AreParts key k depth xs → (o : Open) (blocks : List Open) → o.kind ≡ k → o.has_last ≡ false → suc (length blocks) ≡ depth → (rest : List A) → Passed o blocks xs rest
    parts_pass _ _ _ (one k depth xs h) o blocks is unfinished s rest = record { now = o; same = refl; passes = nested_passes depth xs h (o ∷ blocks) s rest }
    parts_pass _ _ _ (before_elseif depth x xs ys e h more) o blocks is unfinished s rest =
        let p = parts_pass kind.Choice depth ys more (with_last false o) blocks is refl s rest in
        record {
          now = p.now;
          same = p.same;
          passes = ap (λ (t : List A). misnested key number (o ∷ blocks) t) (append_assoc xs (x ∷ ys) rest)
              ∙ nested_passes depth xs h (o ∷ blocks) s (x ∷ (ys ++ rest))
              ∙ one_passed x (ys ++ rest) (o ∷ blocks) (with_last false o ∷ blocks) (part_step false (key x) (number x) o blocks e is unfinished)
              ∙ p.passes;
        }
    parts_pass _ _ _ (before_else depth x xs ys e h more) o blocks is unfinished s rest = record {
      now = with_last true o;
      same = refl;
      passes = ap (λ (t : List A). misnested key number (o ∷ blocks) t) (append_assoc xs (x ∷ ys) rest)
          ∙ nested_passes depth xs h (o ∷ blocks) s (x ∷ (ys ++ rest))
          ∙ one_passed x (ys ++ rest) (o ∷ blocks) (with_last true o ∷ blocks) (part_step true (key x) (number x) o blocks e is unfinished)
          ∙ nested_passes depth ys more (with_last true o ∷ blocks) s rest;
    }

  none_left : misnested key number [] [] ≡ None
  unfolding misnested
  none_left = refl

  all_pass : (xs : List A) → AreNested key 0 xs → misnested key number [] xs ≡ None
  all_pass xs h = ap (λ (t : List A). misnested key number [] t) (sym (append-nil xs)) ∙ nested_passes 0 xs h [] refl [] ∙ none_left

pub nested_to : {A : Type 0} (key : A → Key) (number : A → ℕ) (xs : List A) → AreNested key 0 xs → misnested key number [] xs ≡ None
nested_to key number xs h = all_pass key number xs h

-- ---- the first line that fits into no tree

no_bad_end : (blocks : List Open) (n : ℕ) → unclosed blocks ≡ Some (BadInstruction, n) → ⊥
no_bad_end [] n e = cc
no_bad_end (o ∷ blocks) n e = let causes : Unclosed ≡ BadInstruction = ap (λ (p : Cause × ℕ). p.0) (same_Some (Unclosed, o.number) (BadInstruction, n) e) in cc

module _ {A : Type 0} (key : A → Key) (number : A → ℕ) where
  stopped_at : (x : A) (xs : List A) (blocks : List Open) → open_behind (key x) (number x) blocks ≡ None → misnested key number blocks (x ∷ xs) ≡ Some (BadInstruction, number x)
  unfolding misnested
  stopped_at x xs blocks e = ap (λ o. or_bad (λ bs. misnested key number bs xs) (number x) o) e

  no_bad : (blocks : List Open) (n : ℕ) → misnested key number blocks [] ≡ Some (BadInstruction, n) → ⊥
  unfolding misnested
  no_bad blocks n e = no_bad_end blocks n e

  record Stops (blocks : List Open) (xs : List A) (n : ℕ) : Type 0 where
    front : List A
    misfit : A
    rest : List A
    is : xs ≡ front ++ misfit ∷ rest
    at : number misfit ≡ n
    always : (more : List A) → misnested key number blocks (front ++ misfit ∷ more) ≡ Some (BadInstruction, n)
    first : (k : ℕ) → misnested key number blocks front ≡ Some (BadInstruction, k) → ⊥

  stops : (xs : List A) (blocks : List Open) (n : ℕ) → misnested key number blocks xs ≡ Some (BadInstruction, n) → Stops blocks xs n
  stops [] blocks n e = absurd (no_bad blocks n e)
  stops (x ∷ xs) blocks n e = by (λ more h. stops xs more n h) (open_behind (key x) (number x) blocks) refl
    where
      by : ((more : List Open) → misnested key number more xs ≡ Some (BadInstruction, n) → Stops more xs n) → (o : Option (List Open)) → open_behind (key x) (number x) blocks ≡ o → Stops blocks (x ∷ xs) n
      by others None f =
          let here : number x ≡ n = ap (λ (p : Cause × ℕ). p.1) (same_Some (BadInstruction, number x) (BadInstruction, n) (sym (stopped_at x xs blocks f) ∙ e)) in
          record {
            front = [];
            misfit = x;
            rest = xs;
            is = refl;
            at = here;
            always = λ more. stopped_at x more blocks f ∙ ap (λ (m : ℕ). Some (BadInstruction, m)) here;
            first = no_bad blocks;
          }
      by others (Some more) f =
          let b = others more (sym (one_passed key number x xs blocks more f) ∙ e) in
          record {
            front = x ∷ b.front;
            misfit = b.misfit;
            rest = b.rest;
            is = ap (λ (ys : List A). x ∷ ys) b.is;
            at = b.at;
            always = λ ys. one_passed key number x (b.front ++ b.misfit ∷ ys) blocks more f ∙ b.always ys;
            first = λ k h. b.first k (sym (one_passed key number x b.front blocks more f) ∙ h);
          }

pub misfit_from : {A : Type 0} (key : A → Key) (number : A → ℕ) (xs : List A) (n : ℕ) → misnested key number [] xs ≡ Some (BadInstruction, n) → IsMisfit key number xs n
misfit_from {A = A} key number xs n e =
    let s = stops key number xs [] n e in
    record { front = s.front; misfit = s.misfit; rest = s.rest; is = s.is; at = s.at; none = λ more h. no_tree (s.front ++ s.misfit ∷ more) (s.always more) h; first = s.first }
  where
    no_tree : (ys : List A) → misnested key number [] ys ≡ Some (BadInstruction, n) → AreNested key 0 ys → ⊥
    no_tree ys f h = let passes : misnested key number [] ys ≡ None = nested_to key number ys h in cc

-- ---- the innermost block without an end

module _ {A : Type 0} (key : A → Key) (number : A → ℕ) (n : ℕ) where
  -- lines within the block of this number, which ends nowhere among them, while those that are open in it end
  abbrev Within : List Open → List A → Type 0
  Within [] xs = ⊥
  Within (o ∷ blocks) xs = ((o.number ≡ n) × MayFollow key o.has_last o.kind (suc (length blocks)) xs) ⊎ Rest key o (suc (length blocks)) xs (Within blocks)

  abbrev Unended : List Open → List A → Type 0
  Unended blocks xs = Within blocks xs ⊎ IsUnended key number xs n

  later : (x : A) (xs : List A) → IsUnended key number xs n → IsUnended key number (x ∷ xs) n
  later x xs u = record { front = x ∷ u.front; opening = u.opening; rest = u.rest; is = ap (λ (ys : List A). x ∷ ys) u.is; at = u.at; opens = u.opens; depth = u.depth; parts = u.parts }

  line_within : (x : A) (blocks : List Open) (xs : List A) → is_opening (key x) ≡ false → is_closer (key x) ≡ false → Within blocks xs → Within blocks (x ∷ xs)
  line_within x [] xs e f w = w
  line_within x (o ∷ blocks) xs e f (inl w) = inl (w.0, line_followed key number o.has_last o.kind (suc (length blocks)) x xs e f w.1)
  line_within x (o ∷ blocks) xs e f (inr w) = inr (line_before key number o (suc (length blocks)) x xs (Within blocks) e f w)

  block_within : (x last : A) (blocks : List Open) (inner others : List A) → is_opening (key x) ≡ true → length blocks < most_blocks → AreParts key (kind_of (key x)) (suc (length blocks)) inner
      → is_end (key last) ≡ true → is_same_kind (kind_of (key x)) (kind_of (key last)) ≡ true → Within blocks others → Within blocks (x ∷ (inner ++ last ∷ others))
  block_within x last [] inner others e lt h f g w = w
  block_within x last (o ∷ blocks) inner others e lt h f g (inl w) = inl (w.0, block_followed key number o.has_last o.kind (suc (length blocks)) x last inner others e lt h f g w.1)
  block_within x last (o ∷ blocks) inner others e lt h f g (inr w) = inr (block_before key number o (suc (length blocks)) x last inner others (Within blocks) e lt h f g w)

  unended_step : (x : A) (xs : List A) (blocks more : List Open) → Step (key x) (number x) blocks more → Unended more xs → Unended blocks (x ∷ xs)
  unended_step x xs blocks more step (inr u) = inr (later x xs u)
  unended_step x xs blocks more (passes e f same) (inl w) = inl (line_within x blocks xs e f (subst (λ (bs : List Open). Within bs xs) (sym same) w))
  unended_step x xs blocks more (opens e lt same) (inl w) = by (subst (λ (bs : List Open). Within bs xs) (sym same) w)
    where
      by : Within (new_block (key x) (number x) ∷ blocks) xs → Unended blocks (x ∷ xs)
      by (inl w) = inr (record { front = []; opening = x; rest = xs; is = refl; at = w.0; opens = e; depth = suc (length blocks); parts = w.1 })
      by (inr rest) = inl (subst (λ (ys : List A). Within blocks (x ∷ ys)) (sym rest.is) (block_within x rest.last blocks rest.body rest.others e lt rest.follow rest.end rest.same rest.behind))
  unended_step x xs blocks more (ends o e same is) (inl w) =
      inl (subst (λ (bs : List Open). Within bs (x ∷ xs)) (sym is) (inr (ended_by key number o (suc (length more)) x xs (Within more) e same w)))
  unended_step x xs blocks more (parts o others is_last e kind_is unfinished is same) (inl w) =
      inl (subst (λ (bs : List Open). Within bs (x ∷ xs)) (sym is) (by (subst (λ (bs : List Open). Within bs xs) (sym same) w)))
    where
      by : Within (with_last is_last o ∷ others) xs → Within (o ∷ others) (x ∷ xs)
      by (inl w) = inl (w.0, part_in key number o is_last (suc (length others)) x xs e kind_is unfinished w.1)
      by (inr rest) = inr (part_before key number o is_last (suc (length others)) x xs (Within others) e kind_is unfinished rest)

  open_at_end : (blocks : List Open) → unclosed blocks ≡ Some (Unclosed, n) → Unended blocks []
  open_at_end [] e = absurd cc
  open_at_end (o ∷ blocks) e = inl (inl (ap (λ (p : Cause × ℕ). p.1) (same_Some (Unclosed, o.number) (Unclosed, n) e), none_follows key number o.has_last o.kind (suc (length blocks))))

  unended : (xs : List A) (blocks : List Open) → misnested key number blocks xs ≡ Some (Unclosed, n) → Unended blocks xs
  unfolding misnested
  unended [] blocks h = open_at_end blocks h
  unended (x ∷ xs) blocks h = by (λ more step e. unended_step x xs blocks more step (unended xs more e)) (open_behind (key x) (number x) blocks) refl h
    where
      by : ((more : List Open) → Step (key x) (number x) blocks more → misnested key number more xs ≡ Some (Unclosed, n) → Unended blocks (x ∷ xs))
          → (o : Option (List Open)) → open_behind (key x) (number x) blocks ≡ o → or_bad (λ more. misnested key number more xs) (number x) o ≡ Some (Unclosed, n) → Unended blocks (x ∷ xs)
      by go None e h = let causes : BadInstruction ≡ Unclosed = ap (λ (p : Cause × ℕ). p.0) (same_Some (BadInstruction, number x) (Unclosed, n) h) in absurd cc
      by go (Some more) e h = go more (stepped (key x) (number x) blocks more e) h

pub unended_from : {A : Type 0} (key : A → Key) (number : A → ℕ) (xs : List A) (n : ℕ) → misnested key number [] xs ≡ Some (Unclosed, n) → IsUnended key number xs n
unended_from key number xs n e = by (unended key number n xs [] e)
  where
    by : (⊥ ⊎ IsUnended key number xs n) → IsUnended key number xs n
    by (inl w) = absurd w
    by (inr u) = u
