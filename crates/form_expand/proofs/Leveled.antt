-- How a product goes on, level by level.
use Rattle.std.proofs.Common.{◌≡◌, ℕ, zero, suc, ◌+◌, ◌-◌, ◌<◌, ◌≤◌, List, [], ◌∷◌, ◌++◌, length, get_or, map, set, refl, sym, ap, subst, ◌∙◌, append-nil, append_assoc, arith}
use Rattle.std.proofs.lemmas.List.{map-append}
use Rattle.std.specs.Prelude.{Option, Some, None, Ok, Err, option_to_list}
use Rattle.form_base.specs.declared.cause.Cause.{Cause}
use Rattle.form_term.specs.declared.monomial.Monomial.{Monomial}
use Rattle.form_expand.specs.declared.error.ExpandError.{ExpandError}
use Rattle.form_expand.specs.declared.error.ExpandError.TheVariants.{Refused, Memory}
use Rattle.form_expand.specs.declared.list.List as lists
use Rattle.form_expand.specs.declared.product.Level as levels
use Rattle.form_expand.specs.Left.{Level, Waiting, left_at, left_past, row, row_behind, times_by}
use Rattle.form_expand.specs.Listing.{Listing, nothing, refusal, before, single, limited, followed, times, pairs}
use Rattle.form_expand.specs.Lists.{list_whole}
use Rattle.form_expand.specs.Next.{Gives}
use Rattle.form_expand.specs.Products.{ChangesAt, IsBegun, IsClosed, IsTaken, level_left, level_of, level_waiting, left_behind, levels_behind, list_waiting}
use Rattle.form_expand.proofs.Levels.{opened_at, refused_past, nothing_past, left_past_first}
use Rattle.form_expand.proofs.Listings.{followed_last, limited_within, pairs_before, pairs_nothing}
use Rattle.form_expand.proofs.Rows.{times_length}

abbrev first_or : Waiting → List Waiting → Waiting
first_or w [] = w
first_or w (v ∷ vs) = v

abbrev rest_of : List Waiting → List Waiting
rest_of [] = []
rest_of (v ∷ vs) = vs

-- ---- lists of levels

pub changed_set : (P : levels.Level → levels.Level → Type 0) (k : ℕ) (ls : List levels.Level) (l n : levels.Level) → k < length ls → l ≡ get_or ls k l → P l n → ChangesAt P k ls (set ls k n)
changed_set P k [] l n within is h = absurd (omega (arith, within))
changed_set P zero (x ∷ ls) l n within is h = (subst (λ (y : levels.Level). P y n) is h, refl)
changed_set P (suc k) (x ∷ ls) l n within is h = (refl, changed_set P k ls l n (omega (arith, within)) is h)

pub changed_length : (P : levels.Level → levels.Level → Type 0) (k : ℕ) (old new : List levels.Level) → ChangesAt P k old new → length new ≡ length old
changed_length P k [] new h = absurd h
changed_length P k (l ∷ old) [] h = absurd h
changed_length P zero (l ∷ old) (n ∷ new) h = ap (λ (xs : List levels.Level). suc (length xs)) h.1
changed_length P (suc k) (l ∷ old) (n ∷ new) h = ap suc (changed_length P k old new h.1)

-- a term may stand at the front where there is room for one
room_for_front : (max : ℕ) (m : Monomial) → (max ≡ 0 → Some m ≡ None) → 1 ≤ max
room_for_front zero m h = let none : Some m ≡ None = h refl in absurd cc
room_for_front (suc k) m h = omega arith

-- ---- lists that wait

refused_behind : (max : ℕ) (cause : Cause) (ws : List Waiting) → left_behind max (refusal cause) ws ≡ refusal cause
unfolding left_behind
refused_behind max cause [] = refl
refused_behind max cause (w ∷ ws) = ap (λ (front : Listing). left_behind max front ws) (refused_past max w.count w.list cause) ∙ refused_behind max cause ws

nothing_behind : (max : ℕ) (ws : List Waiting) → left_behind max nothing ws ≡ nothing
unfolding left_behind
nothing_behind max [] = refl
nothing_behind max (w ∷ ws) = ap (λ (front : Listing). left_behind max front ws) (nothing_past max w.count w.list) ∙ nothing_behind max ws

-- ---- a step

module _ (max : ℕ) where
  -- a refusal
  pub product_refused : (cause : Cause) (place : ℕ) (old new : List levels.Level) (front : Listing) → ChangesAt (IsTaken max (Err (Refused cause))) place old new → levels_behind max front old place ≡ refusal cause
  unfolding levels_behind
  product_refused cause place [] new front h = absurd h
  product_refused cause place (l ∷ old) [] front h = absurd h
  product_refused cause zero (l ∷ old) (n ∷ new) front h = ap (λ (x : Listing). left_behind max x (map (level_waiting max) old)) (h.0.next front) ∙ refused_behind max cause (map (level_waiting max) old)
  product_refused cause (suc place) (l ∷ old) (n ∷ new) front h = product_refused cause place old new (left_at max (level_of max l) front) h.1

  -- a term of the last level
  pub product_gives : (m : Monomial) (place : ℕ) (old new : List levels.Level) (front : Listing) → ChangesAt (IsTaken max (Ok (Some m))) place old new → suc place ≡ length old
      → levels_behind max front old place ≡ before m (levels_behind max front new place)
  unfolding levels_behind left_behind
  product_gives m place [] new front h last = absurd h
  product_gives m place (l ∷ old) [] front h last = absurd h
  product_gives m zero (l ∷ []) (n ∷ new) front h last = h.0.next front ∙ ap (λ (ls : List levels.Level). before m (left_behind max (left_at max (level_of max n) front) (map (level_waiting max) ls))) (sym h.1)
  product_gives m zero (l ∷ k ∷ old) (n ∷ new) front h last = absurd (omega (arith, last))
  product_gives m (suc place) (l ∷ old) (n ∷ new) front h last =
      product_gives m place old new (left_at max (level_of max l) front) h.1 (omega (arith, last))
      ∙ ap (λ (x : levels.Level). before m (levels_behind max (left_at max (level_of max x) front) new place)) (sym h.0)

  -- a term for the next level
  pub product_opens : (m : Monomial) (place : ℕ) (old new begun : List levels.Level) (front : Listing) → ChangesAt (IsTaken max (Ok (Some m))) place old new → ChangesAt (IsBegun (Some m)) (suc place) new begun
      → levels_behind max front begun (suc place) ≡ levels_behind max front old place
  unfolding levels_behind left_behind
  product_opens m place [] new begun front h b = absurd h
  product_opens m place (l ∷ old) [] begun front h b = absurd h
  product_opens m place (l ∷ old) (n ∷ new) [] front h b = absurd b
  product_opens m zero (l ∷ old) (n ∷ []) (p ∷ begun) front h b = absurd b.1
  product_opens m zero (l ∷ old) (n ∷ x ∷ new) (p ∷ []) front h b = absurd b.1
  product_opens m zero (l ∷ old) (n ∷ x ∷ new) (p ∷ q ∷ begun) front h b =
      let here = left_at max (level_of max n) front in
      let rest = map (level_waiting max) new in
      let list = list_whole max x.list in
      ap (λ (y : levels.Level). left_behind max (left_at max (level_of max q) (left_at max (level_of max y) front)) (map (level_waiting max) begun)) b.0
      ∙ ap (λ (ls : List levels.Level). left_behind max (left_at max (level_of max q) here) (map (level_waiting max) ls)) b.1.1
      ∙ ap (λ (s : Level). left_behind max (left_at max s here) rest) (b.1.0 max)
      ∙ ap (λ (y : Listing). left_behind max y rest) (sym (opened_at max x.count list m here))
      ∙ ap (λ (y : Listing). left_behind max (left_past max (level_waiting max x) y) rest) (sym (h.0.next front))
      ∙ ap (λ (ls : List levels.Level). left_behind max (left_at max (level_of max l) front) (map (level_waiting max) ls)) h.1
  product_opens m (suc place) (l ∷ old) (n ∷ new) (p ∷ begun) front h b =
      ap (λ (y : levels.Level). levels_behind max (left_at max (level_of max y) front) begun (suc place)) (b.0 ∙ h.0)
      ∙ product_opens m place old new begun (left_at max (level_of max l) front) h.1 b.1

  -- no further term of a level
  pub product_closes : (place : ℕ) (old new : List levels.Level) (front : Listing) → ChangesAt (IsTaken max (Ok None)) (suc place) old new → levels_behind max front new place ≡ levels_behind max front old (suc place)
  unfolding levels_behind left_behind
  product_closes place [] new front h = absurd h
  product_closes place (l ∷ old) [] front h = absurd h
  product_closes zero (l ∷ []) (n ∷ new) front h = absurd h.1
  product_closes zero (l ∷ k ∷ old) (n ∷ []) front h = absurd h.1
  product_closes zero (l ∷ k ∷ old) (n ∷ o ∷ new) front h =
      ap (λ (x : levels.Level). left_behind max (left_past max (level_waiting max o) (left_at max (level_of max x) front)) (map (level_waiting max) new)) h.0
      ∙ ap (λ (y : Listing). left_behind max y (map (level_waiting max) new)) (sym (h.1.0.next (left_at max (level_of max l) front)))
      ∙ ap (λ (ls : List levels.Level). left_behind max (left_at max (level_of max k) (left_at max (level_of max l) front)) (map (level_waiting max) ls)) h.1.1
  product_closes (suc place) (l ∷ old) (n ∷ new) front h =
      ap (λ (x : levels.Level). levels_behind max (left_at max (level_of max x) front) new place) h.0
      ∙ product_closes place old new (left_at max (level_of max l) front) h.1

  -- nor of the first
  first_closes : (old new : List levels.Level) → ChangesAt (IsTaken max (Ok None)) zero old new → levels_behind max nothing old zero ≡ nothing
  unfolding levels_behind
  first_closes [] new h = absurd h
  first_closes (l ∷ old) [] h = absurd h
  first_closes (l ∷ old) (n ∷ new) h =
      ap (λ (x : Listing). left_behind max x (map (level_waiting max) old)) (h.0.next nothing ∙ nothing_past max n.count (list_whole max n.list))
      ∙ nothing_behind max (map (level_waiting max) old)

  -- a level is closed
  pub product_closed : (place k : ℕ) (old new closed : List levels.Level) → ChangesAt (IsTaken max (Ok None)) place old new → IsClosed place new k closed → levels_behind max nothing closed k ≡ levels_behind max nothing old place
  unfolding levels_behind
  product_closed zero k old new closed h c = ap (λ (ls : List levels.Level). levels_behind max nothing ls k) c ∙ sym (first_closes old new h)
  product_closed (suc place) k old new closed h c =
      ap (λ (j : ℕ). levels_behind max nothing closed j) c.0 ∙ ap (λ (ls : List levels.Level). levels_behind max nothing ls place) c.1 ∙ product_closes place old new nothing h

  -- a term for the next level, by its place
  pub product_opened : (m : Monomial) (place k : ℕ) (old new begun : List levels.Level) → ChangesAt (IsTaken max (Ok (Some m))) place old new → k ≡ suc place → ChangesAt (IsBegun (Some m)) k new begun
      → levels_behind max nothing begun k ≡ levels_behind max nothing old place
  product_opened m place k old new begun h next b =
      ap (λ (j : ℕ). levels_behind max nothing begun j) next ∙ product_opens m place old new begun nothing h (subst (λ (j : ℕ). ChangesAt (IsBegun (Some m)) j new begun) next b)

  -- past the last level nothing is left
  pub product_past : (place : ℕ) (ls : List levels.Level) (front : Listing) → length ls ≤ place → levels_behind max front ls place ≡ nothing
  unfolding levels_behind
  product_past place [] front h = refl
  product_past zero (l ∷ ls) front h = absurd (omega (arith, h))
  product_past (suc place) (l ∷ ls) front h = product_past place ls (left_at max (level_of max l) front) (omega (arith, h))

  -- no term of a level
  pub product_unmade : (e : ExpandError) (place : ℕ) (old new : List levels.Level) (start then : Listing) → ChangesAt (IsTaken max (Err e)) place old new → levels_behind max nothing old place ≡ start → Gives (Err e) start then
  product_unmade (Refused cause) place old new start then h is = sym is ∙ product_refused cause place old new nothing h
  product_unmade Memory place old new start then h is = tt

  -- ---- how many steps are left

  -- so often a number
  abbrev many : ℕ → ℕ → ℕ
  many zero c = 0
  many (suc n) c = c + many n c

  many_le : (a b c : ℕ) → a ≤ b → many a c ≤ many b c
  many_le zero b c h = omega arith
  many_le (suc a) zero c h = absurd (omega (arith, h))
  many_le (suc a) (suc b) c h = let rest = many_le a b c (omega (arith, h)) in omega (arith, rest)

  -- to go through levels that wait, and through those that are open too
  abbrev full : List levels.Level → ℕ
  full [] = 0
  full (l ∷ ls) = suc (many (length ((list_whole max l.list).terms)) (suc (full ls)))

  abbrev pub steps_ahead : List levels.Level → ℕ → ℕ
  steps_ahead [] place = 0
  steps_ahead (l ∷ ls) zero = suc (many (length ((level_left max l).terms)) (suc (full ls)))
  steps_ahead (l ∷ ls) (suc place) = suc (many (length ((level_left max l).terms)) (suc (full ls))) + steps_ahead ls place

  full_taken : (o : Option Monomial) (place : ℕ) (old new : List levels.Level) → ChangesAt (IsTaken max (Ok o)) place old new → full new ≡ full old
  full_taken o place [] new h = absurd h
  full_taken o place (l ∷ old) [] h = absurd h
  full_taken o zero (l ∷ old) (n ∷ new) h =
      ap (λ (w : Listing). suc (many (length w.terms) (suc (full new)))) h.0.whole ∙ ap (λ (ls : List levels.Level). suc (many (length ((list_whole max l.list).terms)) (suc (full ls)))) h.1
  full_taken o (suc place) (l ∷ old) (n ∷ new) h =
      ap (λ (x : levels.Level). suc (many (length ((list_whole max x.list).terms)) (suc (full new)))) h.0
      ∙ ap (λ (k : ℕ). suc (many (length ((list_whole max l.list).terms)) (suc k))) (full_taken o place old new h.1)

  full_begun : (m : Monomial) (place : ℕ) (old new : List levels.Level) → ChangesAt (IsBegun (Some m)) place old new → full new ≡ full old
  full_begun m place [] new h = absurd h
  full_begun m place (l ∷ old) [] h = absurd h
  full_begun m zero (l ∷ old) (n ∷ new) h =
      ap (λ (s : Level). suc (many (length s.list.terms) (suc (full new)))) (h.0 max) ∙ ap (λ (ls : List levels.Level). suc (many (length ((list_whole max l.list).terms)) (suc (full ls)))) h.1
  full_begun m (suc place) (l ∷ old) (n ∷ new) h =
      ap (λ (x : levels.Level). suc (many (length ((list_whole max x.list).terms)) (suc (full new)))) h.0
      ∙ ap (λ (k : ℕ). suc (many (length ((list_whole max l.list).terms)) (suc k))) (full_begun m place old new h.1)

  less : (a b n r rest behind : ℕ) → b < a → r ≤ n → rest ≡ suc (many n (suc behind)) → suc (many b (suc rest)) + suc (many r (suc behind)) < suc (many a (suc rest))
  less a b n r rest behind h k e =
      let one = many_le (suc b) a (suc rest) h in
      let two = many_le r n (suc behind) k in
      omega (arith, one, two, e)

  -- a level is opened
  opens_less : (m : Monomial) (place : ℕ) (old new begun : List levels.Level) → ChangesAt (IsTaken max (Ok (Some m))) place old new → ChangesAt (IsBegun (Some m)) (suc place) new begun → steps_ahead begun (suc place) < steps_ahead old place
  opens_less m place [] new begun h b = absurd h
  opens_less m place (l ∷ old) [] begun h b = absurd h
  opens_less m place (l ∷ old) (n ∷ new) [] h b = absurd b
  opens_less m zero (l ∷ old) (n ∷ []) (p ∷ begun) h b = absurd b.1
  opens_less m zero (l ∷ old) (n ∷ x ∷ new) (p ∷ []) h b = absurd b.1
  opens_less m zero (l ∷ old) (n ∷ x ∷ new) (p ∷ q ∷ begun) h b =
      let list = list_whole max x.list in
      let opened : length ((level_left max q).terms) ≡ length ((times m list).terms) = ap (λ (s : Level). length s.opened.terms) (b.1.0 max) in
      let fewer = times_length m list.terms list.end in
      let first : length ((level_left max p).terms) ≡ length ((level_left max n).terms) = ap (λ (y : levels.Level). length ((level_left max y).terms)) b.0 in
      let rest : full (q ∷ begun) ≡ full (x ∷ new) = full_begun m zero (x ∷ new) (q ∷ begun) b.1 in
      let behind : full begun ≡ full new = ap full b.1.1 in
      let whole : full old ≡ full (x ∷ new) = ap full (sym h.1) in
      let step = less (length ((level_left max l).terms)) (length ((level_left max p).terms)) (length list.terms) (length ((level_left max q).terms)) (full (x ∷ new)) (full new)
      (omega (arith, first, h.0.fewer)) (omega (arith, opened, fewer)) refl in
      subst (λ (k : ℕ). suc (many (length ((level_left max p).terms)) (suc (full (q ∷ begun)))) + suc (many (length ((level_left max q).terms)) (suc (full begun))) < suc (many (length ((level_left max l).terms)) (suc k))) (sym whole)
      (subst (λ (k : ℕ). suc (many (length ((level_left max p).terms)) (suc k)) + suc (many (length ((level_left max q).terms)) (suc (full begun))) < suc (many (length ((level_left max l).terms)) (suc (full (x ∷ new))))) (sym rest)
      (subst (λ (k : ℕ). suc (many (length ((level_left max p).terms)) (suc (full (x ∷ new)))) + suc (many (length ((level_left max q).terms)) (suc k)) < suc (many (length ((level_left max l).terms)) (suc (full (x ∷ new))))) (sym behind) step))
  opens_less m (suc place) (l ∷ old) (n ∷ new) (p ∷ begun) h b =
      let rest = opens_less m place old new begun h.1 b.1 in
      let same = full_begun m (suc place) new begun b.1 ∙ full_taken (Some m) place old new h.1 in
      let first = ap (λ (x : levels.Level). suc (many (length ((level_left max x).terms)) (suc (full begun)))) (b.0 ∙ h.0) ∙ ap (λ (k : ℕ). suc (many (length ((level_left max l).terms)) (suc k))) same in
      omega (arith, rest, first)

  pub opened_less : (m : Monomial) (place k : ℕ) (old new begun : List levels.Level) → ChangesAt (IsTaken max (Ok (Some m))) place old new → k ≡ suc place → ChangesAt (IsBegun (Some m)) k new begun → steps_ahead begun k < steps_ahead old place
  opened_less m place k old new begun h next b =
      subst (λ (j : ℕ). steps_ahead begun j < steps_ahead old place) (sym next) (opens_less m place old new begun h (subst (λ (j : ℕ). ChangesAt (IsBegun (Some m)) j new begun) next b))

  closes_less : (place : ℕ) (old new : List levels.Level) → ChangesAt (IsTaken max (Ok None)) (suc place) old new → steps_ahead new place < steps_ahead old (suc place)
  closes_less place [] new h = absurd h
  closes_less place (l ∷ old) [] h = absurd h
  closes_less zero (l ∷ []) (n ∷ new) h = absurd h.1
  closes_less zero (l ∷ k ∷ old) (n ∷ new) h =
      let same = full_taken None zero (k ∷ old) new h.1 in
      let first = ap (λ (x : levels.Level). suc (many (length ((level_left max x).terms)) (suc (full new)))) h.0 ∙ ap (λ (j : ℕ). suc (many (length ((level_left max l).terms)) (suc j))) same in
      omega (arith, first)
  closes_less (suc place) (l ∷ old) (n ∷ new) h =
      let rest = closes_less place old new h.1 in
      let same = full_taken None (suc place) old new h.1 in
      let first = ap (λ (x : levels.Level). suc (many (length ((level_left max x).terms)) (suc (full new)))) h.0 ∙ ap (λ (j : ℕ). suc (many (length ((level_left max l).terms)) (suc j))) same in
      omega (arith, rest, first)

  -- a level is closed
  pub closed_less : (place k : ℕ) (old new closed : List levels.Level) → ChangesAt (IsTaken max (Ok None)) place old new → IsClosed place new k closed → steps_ahead closed k < steps_ahead old place
  closed_less zero k [] new closed h c = absurd h
  closed_less zero k (l ∷ old) new closed h c =
      let none : steps_ahead closed k ≡ 0 = ap (λ (ls : List levels.Level). steps_ahead ls k) c in
      omega (arith, none)
  closed_less (suc place) k old new closed h c =
      let same : steps_ahead closed k ≡ steps_ahead new place = ap (λ (j : ℕ). steps_ahead closed j) c.0 ∙ ap (λ (ls : List levels.Level). steps_ahead ls place) c.1 in
      let less = closes_less place old new h in
      omega (arith, same, less)

  -- ---- a product at its beginning

  waits_row : (ls : List lists.List) (front : Listing) → left_behind max front (map (list_waiting max) ls) ≡ row_behind max front (map (list_whole max) ls)
  unfolding left_behind row_behind
  waits_row [] front = refl
  waits_row (l ∷ ls) front =
      ap (λ (x : Listing). left_behind max x (map (list_waiting max) ls)) (left_past_first max (list_whole max l) front)
      ∙ waits_row ls (limited max (pairs front (list_whole max l)))

  first_row : (front : Option Monomial) (w : Listing) (ls : List Listing) → (max ≡ 0 → front ≡ None)
      → row_behind max (left_at max (record { count = 0; list = w; opened = times_by front w }) nothing) ls ≡ row max (map single (option_to_list front) ++ w ∷ ls)
  unfolding left_at row row_behind
  first_row None w ls some =
      let all : max - 0 ≡ max = omega arith in
      rw (all, pairs_nothing w, followed_last w) refl
  first_row (Some m) w ls some =
      let all : max - 0 ≡ max = omega arith in
      let one = limited_within max (single m) (room_for_front max m some) in
      ap (λ (x : Listing). row_behind max x ls)
      (rw (all, pairs_nothing w, followed_last (times m w)) refl
      ∙ ap (limited max) (sym (pairs_before m nothing w ∙ ap (λ (x : Listing). followed (times m w) x) (pairs_nothing w) ∙ followed_last (times m w)))
      ∙ ap (λ (x : Listing). limited max (pairs x w)) (sym one))

  pub product_begins : (front : Option Monomial) (ls : List lists.List) (made begun : List levels.Level) → (max ≡ 0 → front ≡ None) → map (level_waiting max) made ≡ map (list_waiting max) ls
      → ChangesAt (IsBegun front) zero made begun → levels_behind max nothing begun zero ≡ row max (map single (option_to_list front) ++ map (list_whole max) ls)
  unfolding levels_behind
  product_begins front ls [] begun some same b = absurd b
  product_begins front ls (l ∷ made) [] some same b = absurd b
  product_begins front [] (l ∷ made) (n ∷ begun) some same b = let none : suc (length (map (level_waiting max) made)) ≡ 0 = ap length same in absurd (omega (arith, none))
  product_begins front (x ∷ ls) (l ∷ made) (n ∷ begun) some same b =
      let heads : level_waiting max l ≡ list_waiting max x = ap (first_or (list_waiting max x)) same in
      let tails : map (level_waiting max) made ≡ map (list_waiting max) ls = ap rest_of same in
      let w = list_whole max x in
      let begins : level_of max n ≡ record { count = 0; list = w; opened = times_by front w } =
      b.0 max ∙ ap (λ (v : Waiting). record { count = v.count; list = v.list; opened = times_by front v.list }) heads in
      ap (λ (k : List levels.Level). left_behind max (left_at max (level_of max n) nothing) (map (level_waiting max) k)) b.1
      ∙ ap (λ (s : Level). left_behind max (left_at max s nothing) (map (level_waiting max) made)) begins
      ∙ ap (λ (ws : List Waiting). left_behind max (left_at max (record { count = 0; list = w; opened = times_by front w }) nothing) ws) tails
      ∙ waits_row ls (left_at max (record { count = 0; list = w; opened = times_by front w }) nothing)
      ∙ first_row front w (map (list_whole max) ls) some

  -- without lists there is nothing before them
  pub none_wait : (front : Option Monomial) (ls : List lists.List) (made : List levels.Level) → made ≡ [] → (ls ≡ [] → front ≡ None) → map (level_waiting max) made ≡ map (list_waiting max) ls
      → levels_behind max nothing made 0 ≡ row max (map single (option_to_list front) ++ map (list_whole max) ls)
  unfolding levels_behind row
  none_wait front [] [] none first same = ap (λ (o : Option Monomial). row max (map single (option_to_list o) ++ [])) (sym (first refl))
  none_wait front (l ∷ ls) [] none first same = let long : 0 ≡ suc (length (map (list_waiting max) ls)) = ap length same in absurd (omega (arith, long))
  none_wait front ls (l ∷ made) none first same = let long : suc (length made) ≡ 0 = ap length none in absurd (omega (arith, long))

  -- levels that are made one by one
  pub waits_push : (ks made : List levels.Level) (l : levels.Level) (x : lists.List) (ls rest : List lists.List) (all : List Waiting) → made ≡ ks ++ l ∷ [] → ls ≡ x ∷ rest → level_waiting max l ≡ list_waiting max x
      → map (level_waiting max) ks ++ map (list_waiting max) ls ≡ all → map (level_waiting max) made ++ map (list_waiting max) rest ≡ all
  waits_push ks made l x ls rest all is parts same h =
      ap (λ (js : List levels.Level). map (level_waiting max) js ++ map (list_waiting max) rest) is
      ∙ ap (λ (ws : List Waiting). ws ++ map (list_waiting max) rest) (map-append (level_waiting max) ks (l ∷ []))
      ∙ append_assoc (map (level_waiting max) ks) (level_waiting max l ∷ []) (map (list_waiting max) rest)
      ∙ ap (λ (w : Waiting). map (level_waiting max) ks ++ (w ∷ map (list_waiting max) rest)) same
      ∙ ap (λ (qs : List lists.List). map (level_waiting max) ks ++ map (list_waiting max) qs) (sym parts)
      ∙ h

  pub waits_done : (ks : List levels.Level) (ls : List lists.List) (all : List Waiting) → ls ≡ [] → map (level_waiting max) ks ++ map (list_waiting max) ls ≡ all → map (level_waiting max) ks ≡ all
  waits_done ks ls all none h =
      sym (append-nil (map (level_waiting max) ks)) ∙ ap (λ (qs : List lists.List). map (level_waiting max) ks ++ map (list_waiting max) qs) (sym none) ∙ h

pub closed_first : (place k : ℕ) (old new : List levels.Level) → place ≡ 0 → new ≡ [] → IsClosed place old k new
closed_first zero k old new e h = h
closed_first (suc n) k old new e h = absurd (omega (arith, e))

pub closed_before : (place k : ℕ) (old new : List levels.Level) → (place ≡ 0 → ⊥) → k ≡ place - 1 → new ≡ old → IsClosed place old k new
closed_before zero k old new some e h = absurd (some refl)
closed_before (suc n) k old new some e h = (omega (arith, e), h)
