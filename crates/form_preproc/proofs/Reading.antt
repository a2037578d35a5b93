-- Reading a line of which only the names are kept once it is too long.
use Rattle.std.proofs.Common.{◌≡◌, ◌≢◌, ℕ, ◌<◌, ◌≤◌, Bool, true, false, cond, ltb, List, [], ◌∷◌, ◌++◌, length, drop, get_or, Some, Result, Ok, Err, refl, sym, ap, ◌∙◌, subst, arith, length-append}
use Rattle.std.proofs.lemmas.Bool.{lt-ltb}
use Rattle.form_lines.specs.Program.{most_bytes}
use Rattle.form_base.specs.declared.cause.Cause.{Cause}
use Rattle.form_base.specs.declared.cause.Cause.TheVariants.{LineLimit}
use Rattle.form_preproc.specs.Variables.{Values, newest}
use Rattle.form_preproc.specs.Putting.{and_then, step, closed, quoted, quote, valued, opened, with_text, begun, read, put_in, end_of, end_in, AreNoQuotes, IsAtQuote}
use Rattle.form_preproc.proofs.Quotes.{read_plain, read_over, read_name}
use Rattle.form_preproc.specs.Answers.{Gives}
use Rattle.form_preproc.specs.Passing.{LikeIn, IsLike, AreSame, IsRead, IsReadOn}
use Rattle.form_preproc.specs.declared.error.LineError.{LineError}
use Rattle.form_preproc.specs.declared.error.LineError.TheVariants.{Refused, Memory}
use Rattle.form_preproc.specs.declared.putting.Putting.{Putting}

-- ---- steps

pub longer_than_most : (text more : List ℕ) → most_bytes < length text → most_bytes < length (text ++ more)
longer_than_most text more lt = omega (arith, lt, length-append text more)

pub opened_same : (is_long : Bool) (p q : Putting) → AreSame is_long p q → AreSame is_long (opened p) (opened q)
opened_same true p q same = (refl, same)
opened_same false p q same = ap opened same

step_quote : (values : Values) (p : Putting) (opens : Bool) → step values p (quote opens) ≡ quoted values p opens
step_quote values p true = refl
step_quote values p false = refl

-- a quote outside all names
pub passed_quote : (values : Values) (p q : Putting) (left : List (List ℕ)) → IsLike p q → q.outer ≡ [] → left ≡ [] → (next : Putting) × (closed values p.text p.outer ≡ Ok next) × LikeIn next.text next.outer q.text left
passed_quote values p q left like none empty = by p.text p.outer q.text q.outer like none
  where
    by : (text : List ℕ) (outer : List (List ℕ)) (kept : List ℕ) (others : List (List ℕ)) → LikeIn text outer kept others → others ≡ [] → (next : Putting) × (closed values text outer ≡ Ok next) × LikeIn next.text next.outer kept left
    by text [] kept [] h e = (record { outer = []; text = text ++ 39 ∷ [] }, refl, subst (λ (xs : List (List ℕ)). LikeIn (text ++ 39 ∷ []) [] kept xs) (sym empty) (longer_than_most text (39 ∷ []) h))
    by text [] kept (k ∷ others) h e = absurd h
    by text (before ∷ outer) kept [] h e = absurd h
    by text (before ∷ outer) kept (k ∷ others) h e = absurd cc

-- a name within others
pub passed_inner : (values : Values) (p q kept : Putting) (before value : List ℕ) (others : List (List ℕ)) → IsLike p q → q.outer ≡ before ∷ others → 0 < length others → newest values q.text ≡ Some value
    → kept.outer ≡ others → kept.text ≡ before ++ value → (next : Putting) × (closed values p.text p.outer ≡ Ok next) × IsLike next kept
passed_inner values p q kept before value others like is some found outer_is text_is = by p.text p.outer q.text q.outer kept.text kept.outer others like is some found outer_is text_is
  where
    by : (text : List ℕ) (outer : List (List ℕ)) (old : List ℕ) (rest : List (List ℕ)) (new : List ℕ) (left others : List (List ℕ)) → LikeIn text outer old rest → rest ≡ before ∷ others → 0 < length others → newest values old ≡ Some value
        → left ≡ others → new ≡ before ++ value → (next : Putting) × (closed values text outer ≡ Ok next) × LikeIn next.text next.outer new left
    by text [] old [] new left others h e s n o t = absurd cc
    by text [] old (k ∷ rest) new left others h e s n o t = absurd h
    by text (b ∷ outer) old [] new left others h e s n o t = absurd h
    by text (b ∷ []) old (k ∷ []) new left [] h e s n o t = absurd (omega (arith, s))
    by text (b ∷ []) old (k ∷ []) new left (x ∷ others) h e s n o t = absurd cc
    by text (b ∷ []) old (k ∷ l ∷ rest) new left others h e s n o t = absurd h.1
    by text (b ∷ c ∷ outer) old (k ∷ []) new left others h e s n o t = absurd h.1
    by text (b ∷ c ∷ outer) old (k ∷ l ∷ rest) new left others h e s n o t =
        let first : k ≡ before = ap (λ (xs : List (List ℕ)). get_or xs 0 []) e in
        let behind : l ∷ rest ≡ others = ap (λ (xs : List (List ℕ)). drop 1 xs) e in (
          record { outer = c ∷ outer; text = b ++ value },
          ap (λ u. valued u b (c ∷ outer) (newest values u)) h.0 ∙ ap (valued old b (c ∷ outer)) n,
          subst (λ (xs : List (List ℕ)). LikeIn (b ++ value) (c ∷ outer) new xs) (behind ∙ sym o) (ap (λ u. u ++ value) (h.1.0 ∙ first) ∙ sym t, h.1.1),
        )

-- a name outside all others
pub passed_outer : (values : Values) (p q kept : Putting) (before value : List ℕ) (others : List (List ℕ)) → IsLike p q → q.outer ≡ before ∷ others → length others ≤ 0 → newest values q.text ≡ Some value
    → kept.outer ≡ others → (next : Putting) × (closed values p.text p.outer ≡ Ok next) × IsLike next kept
passed_outer values p q kept before value others like is none found outer_is = by p.text p.outer q.text q.outer kept.text kept.outer others like is none found outer_is
  where
    by : (text : List ℕ) (outer : List (List ℕ)) (old : List ℕ) (rest : List (List ℕ)) (new : List ℕ) (left others : List (List ℕ)) → LikeIn text outer old rest → rest ≡ before ∷ others → length others ≤ 0 → newest values old ≡ Some value
        → left ≡ others → (next : Putting) × (closed values text outer ≡ Ok next) × LikeIn next.text next.outer new left
    by text [] old [] new left others h e s n o = absurd cc
    by text [] old (k ∷ rest) new left others h e s n o = absurd h
    by text (b ∷ outer) old [] new left others h e s n o = absurd h
    by text (b ∷ outer) old (k ∷ rest) new left (x ∷ others) h e s n o = absurd (omega (arith, s))
    by text (b ∷ []) old (k ∷ []) new left [] h e s n o = (
      record { outer = []; text = b ++ value },
      ap (λ u. valued u b [] (newest values u)) h.0 ∙ ap (valued old b []) n,
      subst (λ (xs : List (List ℕ)). LikeIn (b ++ value) [] new xs) (sym o) (longer_than_most b value h.1),
    )
    by text (b ∷ []) old (k ∷ l ∷ rest) new left [] h e s n o = absurd h.1
    by text (b ∷ c ∷ outer) old (k ∷ []) new left [] h e s n o = absurd h.1
    by text (b ∷ c ∷ outer) old (k ∷ l ∷ rest) new left [] h e s n o = absurd cc

-- a text outside all names, and in one
pub passed_text : (p q : Putting) (text : List ℕ) → IsLike p q → length q.outer ≡ 0 → IsLike (with_text p text) q
passed_text p q text like none = by p.text p.outer q.text q.outer like none
  where
    by : (old : List ℕ) (outer : List (List ℕ)) (kept : List ℕ) (others : List (List ℕ)) → LikeIn old outer kept others → length others ≡ 0 → LikeIn (old ++ text) outer kept others
    by old [] kept [] h e = longer_than_most old text h
    by old [] kept (k ∷ others) h e = absurd h
    by old (b ∷ outer) kept [] h e = absurd h
    by old (b ∷ outer) kept (k ∷ others) h e = absurd (omega (arith, e))

pub kept_text : (p q : Putting) (text : List ℕ) → IsLike p q → length q.outer ≢ 0 → IsLike (with_text p text) (with_text q text)
kept_text p q text like some = by p.text p.outer q.text q.outer like some
  where
    by : (old : List ℕ) (outer : List (List ℕ)) (kept : List ℕ) (others : List (List ℕ)) → LikeIn old outer kept others → length others ≢ 0 → LikeIn (old ++ text) outer (kept ++ text) others
    by old [] kept [] h s = absurd (s refl)
    by old [] kept (k ∷ others) h s = absurd h
    by old (b ∷ outer) kept [] h s = absurd h
    by old (b ∷ outer) kept (k ∷ others) h s = (ap (λ u. u ++ text) h.0, h.1)

-- ---- the end

pub long_fails : (p q : Putting) (cause : Cause) → IsLike p q → end_of q ≡ Err cause → end_of p ≡ Err cause
long_fails p q cause like is = by p.text p.outer q.text q.outer like is
  where
    limit : (b : Bool) (kept : List ℕ) → cond b (Err LineLimit) (Ok kept) ≡ Err cause → ◌≡◌ {A = Result (List ℕ) Cause} (Err LineLimit) (Err cause)
    limit true kept e = e
    limit false kept e = absurd cc

    by : (t : List ℕ) (outer : List (List ℕ)) (kept : List ℕ) (others : List (List ℕ)) → LikeIn t outer kept others → end_in kept others ≡ Err cause → end_in t outer ≡ Err cause
    by t [] kept [] h e = rw (lt-ltb most_bytes (length t) h) (limit (ltb most_bytes (length kept)) kept e)
    by t [] kept (k ∷ others) h e = absurd h
    by t (b ∷ outer) kept [] h e = absurd h
    by t (b ∷ outer) kept (k ∷ others) h e = e

-- ---- a line

pub record IsReadTo (values : Values) (text rest : List ℕ) (is_long : Bool) (kept : Putting) : Type 0 where
  pub line : Putting
  pub same : AreSame is_long line kept
  pub ahead : read values begun text ≡ read values line rest

read_quoted : (values : Values) (p : Putting) (opens : Bool) (behind : List ℕ) → read values p (quote opens ∷ behind) ≡ and_then (quoted values p opens) (λ next. read values next behind)
unfolding read
read_quoted values p opens behind = ap (λ r. and_then r (λ next. read values next behind)) (step_quote values p opens)

-- a text without quotes, and the quote behind it
pub read_to : (values : Values) (p : Putting) (text : List ℕ) (opens : Bool) (behind : List ℕ) → AreNoQuotes text
    → read values p (text ++ quote opens ∷ behind) ≡ and_then (quoted values (with_text p text) opens) (λ next. read values next behind)
read_to values p text opens behind none = read_over values p text (quote opens ∷ behind) none ∙ read_quoted values (with_text p text) opens behind

-- and the name that it opens
pub read_named : (values : Values) (p : Putting) (text behind name rest : List ℕ) → AreNoQuotes text → IsAtQuote behind name false rest
    → read values p (text ++ 96 ∷ behind) ≡ and_then (valued name (p.text ++ text) p.outer (newest values name)) (λ next. read values next rest)
read_named values p text behind name rest none is =
    read_over values p text (96 ∷ behind) none
    ∙ ap (λ t. read values (with_text p text) (96 ∷ t)) is.0
    ∙ read_name values (with_text p text) name rest is.1

pub reads_on : (values : Values) (whole : Result Putting Cause) (meant : Result Putting Cause) (rest : List ℕ) (is_long : Bool) (new next : Putting)
    → whole ≡ and_then meant (λ next. read values next rest) → meant ≡ Ok next → AreSame is_long next new → IsReadOn values is_long new rest whole
reads_on values whole meant rest is_long new next to is same = (next, to ∙ ap (λ r. and_then r (λ next. read values next rest)) is, same)

pub stops_at : (values : Values) (whole meant : Result Putting Cause) (rest : List ℕ) (new : Putting) (error : LineError)
    → whole ≡ and_then meant (λ next. read values next rest) → IsRead new (Err error) meant → Gives {X = Putting} (Err error) whole
stops_at values whole meant rest new (Refused cause) to is = to ∙ ap (λ r. and_then r (λ next. read values next rest)) is
stops_at values whole meant rest new Memory to is = is

pub read_further : (values : Values) (text rest behind : List ℕ) (is_long now_long : Bool) (kept new : Putting) (whole : List ℕ) (h : IsReadTo values text rest is_long kept)
    → rest ≡ whole → IsReadOn values now_long new behind (read values h.line whole) → IsReadTo values text behind now_long new
read_further values text rest behind is_long now_long kept new whole h at r = record { line = r.0; same = r.2; ahead = h.ahead ∙ ap (read values h.line) at ∙ r.1 }

-- a step that fails is all that the line comes to
pub read_stops : (values : Values) (text rest whole : List ℕ) (is_long : Bool) (kept : Putting) (error : LineError) (h : IsReadTo values text rest is_long kept)
    → rest ≡ whole → Gives {X = Putting} (Err error) (read values h.line whole) → Gives {X = List ℕ} (Err error) (put_in values text)
read_stops values text rest whole is_long kept (Refused cause) h at is = ap (λ r. and_then r end_of) (h.ahead ∙ ap (read values h.line) at ∙ is)
read_stops values text rest whole is_long kept Memory h at is = is

pub end_fails : (is_long : Bool) (p q : Putting) (error : LineError) → AreSame is_long p q → Gives {X = List ℕ} (Err error) (end_of q) → Gives {X = List ℕ} (Err error) (end_of p)
end_fails true p q (Refused cause) same h = long_fails p q cause same h
end_fails true p q Memory same h = h
end_fails false p q error same h = subst (λ k. Gives {X = List ℕ} (Err error) (end_of k)) (sym same) h

pub read_all : (values : Values) (text rest : List ℕ) (is_long : Bool) (kept : Putting) (h : IsReadTo values text rest is_long kept) → AreNoQuotes rest → put_in values text ≡ end_of (with_text h.line rest)
read_all values text rest is_long kept h none = ap (λ r. and_then r end_of) (h.ahead ∙ read_plain values h.line rest none)
