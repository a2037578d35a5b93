-- Lines, and what is asked for, end in one way.
use Rattle.std.proofs.Common.{◌≡◌, ℕ, zero, suc, Bool, true, false, List, [], ◌∷◌, Option, Some, None, Result, Ok, Err, MatchBool, refl, sym, ap, ◌∙◌, subst}
use Rattle.form_base.specs.declared.cause.Cause.{Cause}
use Rattle.form_outside.specs.Texts.{Texts, text_of}
use Rattle.form_preproc.specs.Block.{Line, key_in, is_closer, taken_up}
use Rattle.form_preproc.specs.Expansion.{State, Ending, goes, ends, stops, After, Request, finished, inside, tries, Acts, over, further, broken, Does, done, tried, returned, left, requested, behind, trying, resumed, depth_in, is_over, is_going, begun, Expansion, refusal, concluded, AreExpanded, IsTextExpanded, IsExpanded, longest_text}

same_state : (a b : State) → goes a ≡ goes b → a ≡ b
same_state a b e = cc

-- ---- what the second way may be

over_once : (texts : Texts) (depth : ℕ) (s : State) (lines : List Line) (f : Ending) → is_over lines ≡ true → Acts texts depth s lines f → goes s ≡ f
over_once texts depth s lines f o (over _ _ _ p) = refl
over_once texts depth s lines f o (further _ _ line rest next _ c h t) = absurd cc
over_once texts depth s lines f o (broken _ _ line rest _ c g h) = absurd cc

further_once : (texts : Texts) (depth : ℕ) (s : State) (line : Line) (rest : List Line) (next : State) (e f : Ending) → is_closer (key_in line) ≡ false
    → ((f : Ending) → Does texts depth (requested texts depth s line rest) f → goes next ≡ f) → ((f : Ending) → Acts texts depth next (behind line rest) f → e ≡ f)
    → Acts texts depth s (line ∷ rest) f → e ≡ f
further_once texts depth s line rest next e f c first others (over _ _ _ o) = absurd cc
further_once texts depth s line rest next e f c first others (further _ _ _ _ again _ d h t) =
    let same : next ≡ again = same_state next again (first (goes again) h) in
    others f (subst (λ (x : State). Acts texts depth x (behind line rest) f) (sym same) t)
further_once texts depth s line rest next e f c first others (broken _ _ _ _ _ d g h) =
    let same : goes next ≡ f = first f h in
    let no_way : true ≡ false = ap is_going same ∙ g in absurd cc

broken_once : (texts : Texts) (depth : ℕ) (s : State) (line : Line) (rest : List Line) (e f : Ending) → is_closer (key_in line) ≡ false → is_going e ≡ false
    → ((f : Ending) → Does texts depth (requested texts depth s line rest) f → e ≡ f) → Acts texts depth s (line ∷ rest) f → e ≡ f
broken_once texts depth s line rest e f c g first (over _ _ _ o) = absurd cc
broken_once texts depth s line rest e f c g first (further _ _ _ _ again _ d h t) =
    let same : e ≡ goes again = first (goes again) h in
    let no_way : false ≡ true = sym g ∙ ap is_going same in absurd cc
broken_once texts depth s line rest e f c g first (broken _ _ _ _ _ d k h) = first f h

done_once : (texts : Texts) (depth : ℕ) (e f : Ending) → Does texts depth (finished e) f → e ≡ f
done_once texts depth e f (done _ _) = refl

tried_once : (texts : Texts) (depth : ℕ) (s : State) (lines : List Line) (e f : Ending) → ((f : Ending) → Does texts depth (trying s lines) f → e ≡ f) → Does texts depth (tries s lines) f → e ≡ f
tried_once texts depth s lines e f first (tried _ _ _ _ h) = first f h

returned_once : (texts : Texts) (depth : ℕ) (s : State) (lines : List Line) (after : After) (next : State) (e f : Ending)
    → ((f : Ending) → Acts texts (depth_in after depth) s lines f → goes next ≡ f) → ((f : Ending) → Does texts depth (resumed after next) f → e ≡ f) → Does texts depth (inside s lines after) f → e ≡ f
returned_once texts depth s lines after next e f first others (returned _ _ _ _ again _ h t) =
    let same : next ≡ again = same_state next again (first (goes again) h) in
    others f (subst (λ (x : State). Does texts depth (resumed after x) f) (sym same) t)
returned_once texts depth s lines after next e f first others (left _ _ _ _ _ g h) =
    let same : goes next ≡ f = first f h in
    let no_way : true ≡ false = ap is_going same ∙ g in absurd cc

left_once : (texts : Texts) (depth : ℕ) (s : State) (lines : List Line) (after : After) (e f : Ending) → is_going e ≡ false
    → ((f : Ending) → Acts texts (depth_in after depth) s lines f → e ≡ f) → Does texts depth (inside s lines after) f → e ≡ f
left_once texts depth s lines after e f g first (returned _ _ _ _ again _ h t) =
    let same : e ≡ goes again = first (goes again) h in
    let no_way : false ≡ true = sym g ∙ ap is_going same in absurd cc
left_once texts depth s lines after e f g first (left _ _ _ _ _ k h) = first f h

mutual
  pub acts_once : (texts : Texts) (depth : ℕ) (s : State) (lines : List Line) (e : Ending) → Acts texts depth s lines e → (f : Ending) → Acts texts depth s lines f → e ≡ f
  acts_once texts depth s lines e (over _ _ _ o) f b = over_once texts depth s lines f o b
  acts_once texts depth s lines e (further _ _ line rest next _ c h t) f b =
      further_once texts depth s line rest next e f c (λ x y. does_once texts depth (requested texts depth s line rest) (goes next) h x y) (λ x y. acts_once texts depth next (behind line rest) e t x y) b
  acts_once texts depth s lines e (broken _ _ line rest _ c g h) f b =
      broken_once texts depth s line rest e f c g (λ x y. does_once texts depth (requested texts depth s line rest) e h x y) b

  pub does_once : (texts : Texts) (depth : ℕ) (r : Request) (e : Ending) → Does texts depth r e → (f : Ending) → Does texts depth r f → e ≡ f
  does_once texts depth r e (done _ _) f b = done_once texts depth e f b
  does_once texts depth r e (tried _ s lines _ h) f b = tried_once texts depth s lines e f (λ x y. does_once texts depth (trying s lines) e h x y) b
  does_once texts depth r e (returned _ s lines after next _ h t) f b =
      returned_once texts depth s lines after next e f (λ x y. acts_once texts (depth_in after depth) s lines (goes next) h x y) (λ x y. does_once texts depth (resumed after next) e t x y) b
  does_once texts depth r e (left _ s lines after _ g h) f b =
      left_once texts depth s lines after e f g (λ x y. acts_once texts (depth_in after depth) s lines e h x y) b

-- ---- a file

lines_once : (texts : Texts) (file bytes : List ℕ) (taken : Result (List Line) (Cause × ℕ)) (x y : Expansion) → AreExpanded texts file bytes taken x → AreExpanded texts file bytes taken y → x ≡ y
lines_once texts file bytes (Err bad) x y a b = a ∙ sym b
lines_once texts file bytes (Ok lines) x y a b = a.2 ∙ ap (concluded file bytes) (acts_once texts 0 (begun file) lines a.0 a.1 b.0 b.1) ∙ sym b.2

long_once : (long : Bool) (P : Expansion → Type 0) (z x y : Expansion) → ((x y : Expansion) → P x → P y → x ≡ y) → MatchBool long (x ≡ z) (P x) → MatchBool long (y ≡ z) (P y) → x ≡ y
long_once true P z x y once a b = a ∙ sym b
long_once false P z x y once a b = once x y a b

text_once : (texts : Texts) (file : List ℕ) (found : Option (List ℕ)) (x y : Expansion) → IsTextExpanded texts file found x → IsTextExpanded texts file found y → x ≡ y
text_once texts file None x y a b = a ∙ sym b
text_once texts file (Some bytes) x y a b = long_once _ (AreExpanded texts file bytes (taken_up file 0 bytes)) _ x y (lines_once texts file bytes (taken_up file 0 bytes)) a b

pub expanded_once : (texts : Texts) (file : List ℕ) (x y : Expansion) → IsExpanded texts file x → IsExpanded texts file y → x ≡ y
expanded_once texts file x y a b = text_once texts file (text_of texts file) x y a b
