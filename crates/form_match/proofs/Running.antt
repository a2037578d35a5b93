-- The search as it runs: what is left of it once a choice is left, a step is made, or the last choice is taken.
use Rattle.std.proofs.Common.{◌≡◌, ℕ, false, ◌+◌, ◌≤◌, List, [], ◌∷◌, ◌++◌, length, take, drop, Option, Some, None, refl, sym, ap, subst, ◌∙◌, append_assoc, arith, length-append, length-take}
use Rattle.std.specs.Prelude.{flat_map}
use Rattle.std.proofs.lemmas.List.{same_from_push, drop-drop}
use Rattle.std.proofs.Math.Seq.{take-append_seam, take-length}
use Rattle.form_term.specs.declared.piece.Piece.{Piece}
use Rattle.form_tree.specs.declared.pattern.PatternPiece.{PatternPiece}
use Rattle.form_tree.specs.declared.pattern.PatternPiece.TheVariants as pieces
use Rattle.form_match.specs.declared.matching.Match.{Match}
use Rattle.form_match.specs.declared.places.Frame.{Frame}
use Rattle.form_match.specs.declared.places.Inner.{Inner}
use Rattle.form_match.specs.declared.trail.Choice.{Choice}
use Rattle.form_match.specs.declared.trail.Standing.{Standing}
use Rattle.form_match.specs.declared.trail.Taken.{Taken}
use Rattle.form_match.specs.declared.trail.Trail.{Trail}
use Rattle.form_match.specs.declared.uses.Use.{Use}
use Rattle.form_match.specs.Candidates.{from}
use Rattle.form_match.specs.Places.{Ground, Stands, cut, uses_at}
use Rattle.form_match.specs.Running.{AreLeft, IsCandidateOf, IsFound, IsOn, IsRetreat, IsRunning, ahead, all_left}
use Rattle.form_match.specs.States.{Open, factors, arguments, calls, State, state, first_found, reach}
use Rattle.form_bindings.specs.Values.{Binding}
use Rattle.form_match.proofs.Reaching.{reach_first, reach_none}
use Rattle.form_match.proofs.Standing.{taken_is}
use Rattle.form_match.proofs.Told.{take_take}
use Rattle.form_match.proofs.Trails.{from_all}

-- ---- pieces

-- pieces from one on, and those behind it
pub behind_piece : (n : ℕ) (ps rest : List PatternPiece) (p : PatternPiece) → drop n ps ≡ p ∷ rest → drop (n + 1) ps ≡ rest
behind_piece n ps rest p e = sym (drop-drop 1 n ps) ∙ ap (drop 1) e

-- the first candidate may always be stood at
pub first_stands : (ps : List PatternPiece) (os : List Open) → IsCandidateOf ps os 0
first_stands [] os = tt
first_stands (pieces.Symbol n k ∷ ps) os = tt
first_stands (pieces.Whole n m ∷ ps) os = tt
first_stands (pieces.Dot p q k ∷ ps) os = tt
first_stands (pieces.Component v i ∷ ps) os = tt
first_stands (pieces.Delta i j ∷ ps) os = tt
first_stands (pieces.Function n ∷ ps) os = tt
first_stands (pieces.Word n ∷ ps) os = tt
first_stands (pieces.Call n ∷ ps) os = refl
first_stands (pieces.EndOfArguments ∷ ps) os = refl
first_stands (pieces.EndOfWord ∷ ps) os = refl
first_stands (pieces.Fixed k ∷ ps) os = refl
first_stands (pieces.Any sort n ∷ ps) os = refl
first_stands (pieces.Field w ∷ ps) [] = refl
first_stands (pieces.Field w ∷ ps) (factors h us ∷ os) = refl
first_stands (pieces.Field w ∷ ps) (arguments xs ∷ os) = (0, omega arith, refl)
first_stands (pieces.Field w ∷ ps) (calls cs ∷ os) = refl
first_stands (pieces.Product ∷ ps) os = refl
first_stands (pieces.EndOfProduct ∷ ps) os = refl

-- from the first candidate on pieces lead to all that they lead to
pub from_first : (table : List (Option (List Piece))) (ps : List PatternPiece) (os : List Open) (bs : List Binding) → reach table ps (state os bs) ≡ ahead table ps os bs 0
from_first table [] os bs = reach_none table (state os bs)
from_first table (p ∷ ps) os bs = reach_first table p ps (state os bs) ∙ ap (flat_map (reach table ps)) (sym (from_all table p os bs))

-- ---- what is left stays

-- a list goes on as it was
abbrev pub GoesOnAs : {A : Type 0} → (old new : List A) → Type 0
GoesOnAs old new = take (length old) new ≡ old

pub as_it_is : {A : Type 0} (xs : List A) → GoesOnAs xs xs
as_it_is xs = take-length xs

pub one_longer : {A : Type 0} (xs : List A) (x : A) → GoesOnAs xs (xs ++ x ∷ [])
one_longer xs x = take-append_seam xs (x ∷ [])

begins_so : {A : Type 0} (old new : List A) (n : ℕ) → GoesOnAs old new → n ≤ length old → take n new ≡ take n old
begins_so old new n longer within = sym (take_take n (length old) new within) ∙ ap (take n) longer

long : {A : Type 0} (old new : List A) (n : ℕ) → GoesOnAs old new → n ≤ length old → n ≤ length new
long old new n longer within =
    let as_long : length (take (length old) new) ≡ length old = ap length longer in
    omega (arith, within, as_long, length-take (length old) new)

-- of each of three things another one that is the same
three : {A B C : Type 0} (P : A → B → C → Type 0) (a d : A) (b e : B) (c f : C) → d ≡ a → e ≡ b → f ≡ c → P a b c → P d e f
three P a d b e c f first second third holds =
    subst (λ (x : _). P x e f) (sym first) (subst (λ (y : _). P a y f) (sym second) (subst (λ (z : _). P a b z) (sym third) holds))

module _ (table : List (Option (List Piece))) (ps : List PatternPiece) where
  -- what was left stays left where more is made, taken and bound
  left_longer : (trail : List (List State)) (g h : Ground) (ts us : List Taken) (bs cs : List Binding) (choices : List Choice) → h.outer ≡ g.outer
      → GoesOnAs g.inners h.inners → GoesOnAs ts us → GoesOnAs bs cs → AreLeft table ps trail g ts bs choices → AreLeft table ps trail h us cs choices
  left_longer [] g h ts us bs cs choices outer made taken bound l = l
  left_longer (states ∷ trail) g h ts us bs cs choices outer made taken bound l =
      let ground : cut h l.last.terms ≡ cut g l.last.terms =
      ap (λ (x : _). record { outer = x; inners = take l.last.terms h.inners }) outer ∙ ap (λ (x : List Inner). record { outer = g.outer; inners = x }) (begins_so g.inners h.inners l.last.terms made l.terms) in
      let uses : take l.last.taken us ≡ take l.last.taken ts = begins_so ts us l.last.taken taken l.taken in
      let bindings : take l.last.bound cs ≡ take l.last.bound bs = begins_so bs cs l.last.bound bound l.bound in
      record {
        before = l.before;
        last = l.last;
        opens = l.opens;
        parts = l.parts;
        terms = long g.inners h.inners l.last.terms made l.terms;
        taken = long ts us l.last.taken taken l.taken;
        bound = long bs cs l.last.bound bound l.bound;
        stands = subst (λ (x : Ground). Stands x (take l.last.taken us) l.last.at.frame l.opens) (sym ground) (subst (λ (x : List Taken). Stands (cut g l.last.terms) x l.last.at.frame l.opens) (sym uses) l.stands);
        candidate = l.candidate;
        leads = l.leads ∙ ap (λ (x : List Binding). ahead table (drop l.last.at.piece ps) l.opens x l.last.at.candidate) (sym bindings);
        earlier = three (λ x y z. AreLeft table ps trail x y z l.before) (cut g l.last.terms) (cut h l.last.terms) (take l.last.taken ts) (take l.last.taken us) (take l.last.bound bs) (take l.last.bound cs) ground uses bindings l.earlier;
      }

  module _ (found : Option Match) where
    pub found_longer : (g h : Ground) (ts us : List Taken) (bs cs : List Binding) (choices : List Choice) (states : List State) → h.outer ≡ g.outer
        → GoesOnAs g.inners h.inners → GoesOnAs ts us → GoesOnAs bs cs → IsFound table ps found g ts bs choices states → IsFound table ps found h us cs choices states
    found_longer g h ts us bs cs choices states outer made taken bound f =
        record { trail = f.trail; left = left_longer f.trail g h ts us bs cs choices outer made taken bound f.left; finds = f.finds }

    module _ (g : Ground) (ts : List Taken) (bs : List Binding) (choices : List Choice) where
      pub found_same : (states others : List State) → states ≡ others → IsFound table ps found g ts bs choices states → IsFound table ps found g ts bs choices others
      found_same states others same f = subst (IsFound table ps found g ts bs choices) same f

      -- a choice is left
      pub found_keeping : (at : Standing) (c : ℕ) (os : List Open) (states : List State) (new : List Choice) → Stands g ts at.frame os → IsCandidateOf (drop at.piece ps) os c
          → new ≡ choices ++ record { at = record at { candidate = c }; terms = length g.inners; taken = length ts; bound = length bs } ∷ []
          → IsFound table ps found g ts bs choices (states ++ ahead table (drop at.piece ps) os bs c) → IsFound table ps found g ts bs new states
      found_keeping at c os states new stands candidate is f =
          let ground : cut g (length g.inners) ≡ g = ap (λ (x : List Inner). record { outer = g.outer; inners = x }) (take-length g.inners) in
          let uses : take (length ts) ts ≡ ts = take-length ts in
          let bindings : take (length bs) bs ≡ bs = take-length bs in
          record {
            trail = ahead table (drop at.piece ps) os bs c ∷ f.trail;
            left = record {
              before = choices;
              last = record { at = record at { candidate = c }; terms = length g.inners; taken = length ts; bound = length bs };
              opens = os;
              parts = is;
              terms = omega arith;
              taken = omega arith;
              bound = omega arith;
              stands = subst (λ (x : Ground). Stands x (take (length ts) ts) at.frame os) (sym ground) (subst (λ (x : List Taken). Stands g x at.frame os) (sym uses) stands);
              candidate = candidate;
              leads = ap (λ (x : List Binding). ahead table (drop at.piece ps) os x c) (sym bindings);
              earlier = three (λ x y z. AreLeft table ps f.trail x y z choices) g (cut g (length g.inners)) ts (take (length ts) ts) bs (take (length bs) bs) ground uses bindings f.left;
            };
            finds = f.finds ∙ ap first_found (append_assoc states (ahead table (drop at.piece ps) os bs c) (all_left f.trail));
          }

      -- the search goes on at a piece
      pub found_at : (piece : ℕ) (frame : Frame) (os : List Open) → Stands g ts frame os → IsFound table ps found g ts bs choices (reach table (drop piece ps) (state os bs))
          → IsRunning table ps found g ts bs choices (record { piece = piece; candidate = 0; frame = frame })
      found_at piece frame os stands f = record {
        opens = os;
        stands = stands;
        candidate = first_stands (drop piece ps) os;
        finds = found_same (reach table (drop piece ps) (state os bs)) (ahead table (drop piece ps) os bs 0) (from_first table (drop piece ps) os bs) f;
      }

      -- what the search stands before, by the pieces that are there
      pub found_here : (at : Standing) (p : PatternPiece) (behind : List PatternPiece) (r : IsRunning table ps found g ts bs choices at) → drop at.piece ps ≡ p ∷ behind
          → IsFound table ps found g ts bs choices (flat_map (reach table behind) (from table p r.opens bs at.candidate))
      found_here at p behind r here = subst (λ (l : List PatternPiece). IsFound table ps found g ts bs choices (ahead table l r.opens bs at.candidate)) here r.finds

      -- all pieces are gone through
      pub found_all : (at : Standing) (r : IsRunning table ps found g ts bs choices at) → drop at.piece ps ≡ [] → found ≡ Some (record { takes = uses_at ts 0; bindings = bs })
      found_all at r none =
          r.finds.finds
          ∙ ap (λ (l : List PatternPiece). first_found (ahead table l r.opens bs at.candidate ++ all_left r.finds.trail)) none
          ∙ ap (λ (us : List Use). Some (record { takes = us; bindings = bs })) (taken_is g ts (length g.inners) false at.frame r.opens r.stands.0)

    -- the last choice is taken
    pub found_back : (g h : Ground) (old new : Trail) (r : Option Standing) → IsRetreat r g h old new → IsFound table ps found g old.takes.items old.bindings old.choices.items []
        → IsOn r table ps found h new.takes.items new.bindings new.choices.items
    found_back g h old new None back f = by f.trail f.left f.finds
      where
        by : (trail : List (List State)) → AreLeft table ps trail g old.takes.items old.bindings old.choices.items → found ≡ first_found (all_left trail) → found ≡ None
        by [] l is = is
        by (states ∷ trail) l is =
            let short : length (l.before ++ l.last ∷ []) ≡ 0 = ap length (sym l.parts ∙ back.0) in
            absurd (omega (arith, short, length-append l.before (l.last ∷ [])))
    found_back g h old new (Some at) back f = by f.trail f.left f.finds
      where
        by : (trail : List (List State)) → AreLeft table ps trail g old.takes.items old.bindings old.choices.items → found ≡ first_found (all_left trail)
            → IsRunning table ps found h new.takes.items new.bindings new.choices.items at
        by [] l is =
            let short : length (new.choices.items ++ back.0 ∷ []) ≡ 0 = ap length (sym back.2.0 ∙ l) in
            absurd (omega (arith, short, length-append new.choices.items (back.0 ∷ [])))
        by (states ∷ trail) l is =
            let same = same_from_push l.before new.choices.items l.last back.0 (sym l.parts ∙ back.2.0) in
            let there : IsRunning table ps found (cut g l.last.terms) (take l.last.taken old.takes.items) (take l.last.bound old.bindings) l.before l.last.at = record {
              opens = l.opens;
              stands = l.stands;
              candidate = l.candidate;
              finds = record { trail = trail; left = l.earlier; finds = is ∙ ap (λ (x : List State). first_found (x ++ all_left trail)) l.leads };
            } in
            let moved : IsRunning table ps found (cut g back.0.terms) (take back.0.taken old.takes.items) (take back.0.bound old.bindings) new.choices.items back.0.at =
            subst (λ (c : Choice). IsRunning table ps found (cut g c.terms) (take c.taken old.takes.items) (take c.bound old.bindings) new.choices.items c.at) same.1
            (subst (λ (x : List Choice). IsRunning table ps found (cut g l.last.terms) (take l.last.taken old.takes.items) (take l.last.bound old.bindings) x l.last.at) same.0 there) in
            subst (IsRunning table ps found h new.takes.items new.bindings new.choices.items) (sym back.1)
            (three (λ x y z. IsRunning table ps found x y z new.choices.items back.0.at) (cut g back.0.terms) h (take back.0.taken old.takes.items) new.takes.items (take back.0.bound old.bindings) new.bindings back.3 back.2.1 back.2.2 moved)
