-- Readers of trees: what one finds stands in the text as a tree writes it, and what a tree writes is read as that tree.
use Rattle.std.proofs.Common.{◌≡◌, ℕ, zero, suc, ◌+◌, ◌≤◌, ◌<◌, Bool, true, false, if◌then◌else◌, List, [], ◌∷◌, ◌++◌, length, length-append, Option, Some, None, refl, sym, ap, subst, ◌∙◌, append_assoc, append-nil, arith}
use Rattle.std.specs.Prelude.{◌==◌, option_and_then}
use Rattle.std.specs.List.{list_all}
use Rattle.std.proofs.lemmas.Bool.{eqb-true}
use Rattle.std.proofs.lemmas.Option.{same_Some, option_and_then_some}
use Rattle.form_calc.specs.Reading.{most_open, is_blank, after_blanks, if_read, chained, chain, closing_in, closing, with_rest, closed, within, ended, at_end, read_whole}
use Rattle.form_calc.proofs.Spaces.{read_as, over_blanks, all_blank, nothing_behind, StopsAt, behind_blanks}

-- a token that is taken from a text
pub record Taken (Token : Type 0) (Are : List ℕ → List Token → Type 0) (IsWritten : Token → List ℕ → Type 0) (text : List ℕ) (token : Token) (more : List Token) : Type 0 where
  pub blanks : List ℕ
  pub written : List ℕ
  pub rest : List ℕ
  pub text_is : text ≡ blanks ++ (written ++ rest)
  pub only_blanks : list_all is_blank blanks ≡ true
  pub is_written : IsWritten token written
  pub behind : Are rest more

-- tokens, how a text has them, and what trees of them come to
pub record Language : Type 1 where
  pub Token : Type 0
  pub Value : Type 0
  pub Are : List ℕ → List Token → Type 0
  pub IsWritten : Token → List ℕ → Type 0
  pub nothing : (text : List ℕ) → Are text [] → list_all is_blank text ≡ true
  pub blank : (text : List ℕ) → list_all is_blank text ≡ true → Are text []
  pub take : (text : List ℕ) (token : Token) (more : List Token) → Are text (token ∷ more) → Taken Token Are IsWritten text token more
  pub put : (text written rest : List ℕ) (token : Token) (more : List Token) → after_blanks text ≡ written ++ rest → IsWritten token written → Are rest more → Are text (token ∷ more)
  pub some : (token : Token) (written : List ℕ) → IsWritten token written → 1 ≤ length written
  pub close : Token
  pub close_written : IsWritten close (41 ∷ [])
  pub close_is : (written : List ℕ) → IsWritten close written → written ≡ 41 ∷ []

-- a kind of trees: how they are written, what they come to, and which are lawful
pub record Kind (l : Language) (T : Type 0) : Type 1 where
  pub tokens : T → List l.Token
  pub value : T → l.Value
  pub IsLawful : T → Type 0

pub record Found (l : Language) (T : Type 0) (k : Kind l T) (text : List ℕ) (v : l.Value) (rest : List ℕ) : Type 0 where
  pub tree : T
  pub stands : (more : List l.Token) → l.Are rest more → l.Are text (k.tokens tree ++ more)
  pub value_is : v ≡ k.value tree
  pub lawful : k.IsLawful tree

pub record ReadsTo (l : Language) (read : Option (l.Value × List ℕ)) (v : l.Value) (more : List l.Token) : Type 0 where
  pub rest : List ℕ
  pub read_is : read ≡ Some (v, rest)
  pub behind : l.Are rest more

pub record IsReader (l : Language) (T : Type 0) (k : Kind l T) (Ends : List l.Token → Type 0) (read : List ℕ → Option (l.Value × List ℕ)) : Type 0 where
  pub finds : (text rest : List ℕ) (v : l.Value) → read text ≡ Some (v, rest) → Found l T k text v rest
  pub reads : (t : T) (text : List ℕ) (more : List l.Token) → k.IsLawful t → Ends more → l.Are text (k.tokens t ++ more) → ReadsTo l (read text) (k.value t) more

-- a reader of tokens, each of which tells something
pub record IsMark (l : Language) (O : Type 0) (token : O → l.Token) (read : List ℕ → Option (O × List ℕ)) : Type 0 where
  pub finds : (text rest : List ℕ) (o : O) (more : List l.Token) → read text ≡ Some (o, rest) → l.Are rest more → l.Are text (token o ∷ more)
  pub reads : (text : List ℕ) (o : O) (more : List l.Token) → l.Are text (token o ∷ more) → (rest : List ℕ) × (read text ≡ Some (o, rest)) × l.Are rest more

pub moved : (l : Language) (a b : Option (l.Value × List ℕ)) (v : l.Value) (more : List l.Token) → a ≡ b → ReadsTo l b v more → ReadsTo l a v more
moved l a b v more e r = record { rest = r.rest; read_is = e ∙ r.read_is; behind = r.behind }

pub as_read : (l : Language) (T : Type 0) (k : Kind l T) (text : List ℕ) (v w : l.Value) (t rest : List ℕ) → read_as v t ≡ read_as w rest → Found l T k text v t → Found l T k text w rest
as_read l T k text v w t rest e h = subst (λ (x : l.Value × List ℕ). Found l T k text x.0 x.1) (same_Some _ _ e) h

-- ---- tokens

module _ (l : Language) where
  pub first_is : (text : List ℕ) (token : l.Token) (more : List l.Token) (mark : List ℕ) (h : l.Are text (token ∷ more)) → (l.take text token more h).written ≡ mark → after_blanks text ≡ after_blanks (mark ++ (l.take text token more h).rest)
  first_is text token more mark h e =
      let t = l.take text token more h in
      ap after_blanks t.text_is ∙ over_blanks t.blanks (t.written ++ t.rest) t.only_blanks ∙ ap (λ w. after_blanks (w ++ t.rest)) e

  -- what doesn't go on with a token
  pub stops : (passes : ℕ → Bool) (text : List ℕ) (token : l.Token) (more : List l.Token) (h : l.Are text (token ∷ more)) → passes 32 ≡ false → passes 9 ≡ false
      → StopsAt passes ((l.take text token more h).written ++ (l.take text token more h).rest) → StopsAt passes text
  stops passes text token more h s t k =
      let a = l.take text token more h in
      subst (StopsAt passes) (sym a.text_is) (behind_blanks passes a.blanks (a.written ++ a.rest) s t a.only_blanks k)

  -- each token takes a character at least
  tokens_fit : (tokens : List l.Token) (text : List ℕ) → l.Are text tokens → length tokens ≤ length text
  tokens_fit [] text h = omega arith
  tokens_fit (token ∷ tokens) text h =
      let t = l.take text token tokens h in
      let i : length tokens ≤ length t.rest = tokens_fit tokens t.rest t.behind in
      let w : 1 ≤ length t.written = l.some token t.written t.is_written in
      let e : length text ≡ length t.blanks + (length t.written + length t.rest) = ap length t.text_is ∙ length-append t.blanks (t.written ++ t.rest) ∙ ap (λ k. length t.blanks + k) (length-append t.written t.rest) in
      omega arith

  -- marks by what writes them
  pub marks : (O : Type 0) (token : O → l.Token) (text_of : O → List ℕ) (read_in : List ℕ → Option (O × List ℕ)) → ((t rest : List ℕ) (o : O) → read_in t ≡ Some (o, rest) → t ≡ text_of o ++ rest)
      → ((o : O) (t : List ℕ) → read_in (after_blanks (text_of o ++ t)) ≡ Some (o, t)) → ((o : O) → l.IsWritten (token o) (text_of o)) → ((o : O) (w : List ℕ) → l.IsWritten (token o) w → w ≡ text_of o) → IsMark l O token (λ text. read_in (after_blanks text))
  marks O token text_of read_in is stands written only = record {
    finds = λ text rest o more e h. l.put text (text_of o) rest (token o) more (is (after_blanks text) rest o e) (written o) h;
    reads = λ text o more h.
        let t = l.take text (token o) more h in
        (t.rest, ap read_in (first_is text (token o) more (text_of o) h (only o t.written t.is_written)) ∙ stands o t.rest, t.behind);
  }

-- ---- parts that operators join

-- trees of parts, one behind another
pub record IsChain (l : Language) (F T O : Type 0) (part : Kind l F) (all : Kind l T) (token : O → l.Token) (apply : O → l.Value → l.Value → l.Value) : Type 1 where
  pub one : F → T
  pub grow : T → O → F → T
  pub induct : (P : T → Type 0) → ((f : F) → P (one f)) → ((t : T) (o : O) (f : F) → P t → P (grow t o f)) → (t : T) → P t
  pub one_is : (f : F) → (all.tokens (one f) ≡ part.tokens f) × (all.value (one f) ≡ part.value f) × (part.IsLawful f → all.IsLawful (one f)) × (all.IsLawful (one f) → part.IsLawful f)
  pub grow_is : (t : T) (o : O) (f : F) → (all.tokens (grow t o f) ≡ all.tokens t ++ token o ∷ part.tokens f) × (all.value (grow t o f) ≡ apply o (all.value t) (part.value f))
  pub grow_lawful : (t : T) (o : O) (f : F) → all.IsLawful t → part.IsLawful f → all.IsLawful (grow t o f)
  pub lawful_grow : (t : T) (o : O) (f : F) → all.IsLawful (grow t o f) → all.IsLawful t × part.IsLawful f

-- nothing follows that the operators join
abbrev pub EndsChain : (l : Language) (O : Type 0) → (List l.Token → Type 0) → (List ℕ → Option (O × List ℕ)) → List l.Token → Type 0
EndsChain l O EndsPart operator more = EndsPart more × ((text : List ℕ) → l.Are text more → operator text ≡ None)

module _ (l : Language) (F T O : Type 0) (part : Kind l F) (all : Kind l T) (token : O → l.Token) (apply : O → l.Value → l.Value → l.Value) (c : IsChain l F T O part all token apply)
    (operator : List ℕ → Option (O × List ℕ)) (mark : IsMark l O token operator) (EndsPart : List l.Token → Type 0) (read : List ℕ → Option (l.Value × List ℕ)) (parts : IsReader l F part EndsPart read)
    (goes_on : (o : O) (more : List l.Token) → EndsPart (token o ∷ more)) where
  abbrev Read : Type 0
  Read = Option (l.Value × List ℕ)

  abbrev more : List ℕ → l.Value → List ℕ → Read
  more turns v text = chained operator apply read turns v text

  -- what is read next, by what is found of it
  abbrev begun : List ℕ → Read → Read
  begun turns p = option_and_then (λ p. more turns p.0 p.1) p

  abbrev joined : List ℕ → l.Value → O → Read → Read
  joined turns v o p = option_and_then (λ p. more turns (apply o v p.0) p.1) p

  abbrev at : List ℕ → l.Value → List ℕ → Option (O × List ℕ) → Read
  at turns v text o = if_read o (Some (v, text)) (λ o. joined turns v o.0 (read o.1))

  -- ---- what is found

  abbrev All : List ℕ → l.Value → List ℕ → Type 0
  All text v rest = Found l T all text v rest

  grown : (text t behind rest : List ℕ) (v w : l.Value) (o : O) → All text v t → operator t ≡ Some (o, behind) → Found l F part behind w rest → All text (apply o v w) rest
  grown text t behind rest v w o a e f = record {
    tree = c.grow a.tree o f.tree;
    stands = λ tokens h.
        subst (l.Are text) (sym (ap (λ ts. ts ++ tokens) (c.grow_is a.tree o f.tree).0 ∙ append_assoc (all.tokens a.tree) (token o ∷ part.tokens f.tree) tokens))
        (a.stands (token o ∷ (part.tokens f.tree ++ tokens)) (mark.finds t behind o (part.tokens f.tree ++ tokens) e (f.stands tokens h)));
    value_is = ap (λ x. apply o x w) a.value_is ∙ ap (apply o (all.value a.tree)) f.value_is ∙ sym (c.grow_is a.tree o f.tree).1;
    lawful = c.grow_lawful a.tree o f.tree a.lawful f.lawful;
  }

  more_found : (turns text t rest : List ℕ) (v w : l.Value) → All text v t → more turns v t ≡ Some (w, rest) → All text w rest
  unfolding chained
  more_found [] text t rest v w a h = as_read l T all text v w t rest h a
  more_found (turn ∷ turns) text t rest v w a h = by (operator t) refl (λ x u b k. more_found turns text u rest x w b k) h
    where
      by : (q : Option (O × List ℕ)) → operator t ≡ q → ((x : l.Value) (u : List ℕ) → All text x u → more turns x u ≡ Some (w, rest) → All text w rest) → at turns v t q ≡ Some (w, rest) → All text w rest
      by None e again k = as_read l T all text v w t rest k a
      by (Some o) e again k =
          option_and_then_some (λ p. more turns (apply o.0 v p.0) p.1) (read o.1) (w, rest) k (λ x g m. again (apply o.0 v x.0) x.1 (grown text t o.1 x.1 v x.0 o.0 a e (parts.finds o.1 x.1 x.0 g)) m)

  all_found : (text rest : List ℕ) (v : l.Value) → begun text (read text) ≡ Some (v, rest) → All text v rest
  all_found text rest v h = option_and_then_some (λ p. more text p.0 p.1) (read text) (v, rest) h (λ x g m.
      let f = parts.finds text x.1 x.0 g in
      more_found text text x.1 rest x.0 v (record {
        tree = c.one f.tree;
        stands = λ tokens h. subst (λ ts. l.Are text (ts ++ tokens)) (sym (c.one_is f.tree).0) (f.stands tokens h);
        value_is = f.value_is ∙ sym (c.one_is f.tree).1;
        lawful = (c.one_is f.tree).2 f.lawful;
      }) m)

  -- ---- what is read

  abbrev Goes : List l.Token → l.Value → l.Value → List l.Token → Type 0
  Goes tokens v w last = (turns rest : List ℕ) → length tokens ≤ length turns → l.Are rest tokens → ReadsTo l (more turns v rest) w last

  next : (turns : List ℕ) (v : l.Value) (o : O) (f : F) (text : List ℕ) (tokens : List l.Token) (w : l.Value) (last : List l.Token) → part.IsLawful f → EndsPart tokens
      → length (token o ∷ (part.tokens f ++ tokens)) ≤ length turns → l.Are text (token o ∷ (part.tokens f ++ tokens)) → Goes tokens (apply o v (part.value f)) w last → ReadsTo l (more turns v text) w last
  unfolding chained
  next [] v o f text tokens w last d k n h go = absurd (omega arith)
  next (turn ∷ turns) v o f text tokens w last d k n h go =
      let b = mark.reads text o (part.tokens f ++ tokens) h in
      let r = parts.reads f b.0 tokens d k b.2 in
      moved l (more (turn ∷ turns) v text) (more turns (apply o v (part.value f)) r.rest) w last (ap (at turns v text) b.1 ∙ ap (joined turns v o) r.read_is)
      (go turns r.rest (omega (arith, length-append (part.tokens f) tokens)) r.behind)

  -- a tree is read, and then what is read behind it
  abbrev IsPassed : T → Type 0
  IsPassed t = (turns text : List ℕ) (tokens : List l.Token) (w : l.Value) (last : List l.Token) → all.IsLawful t → EndsPart tokens → length (all.tokens t ++ tokens) ≤ length turns → l.Are text (all.tokens t ++ tokens)
      → Goes tokens (all.value t) w last → ReadsTo l (begun turns (read text)) w last

  one_passed : (f : F) → IsPassed (c.one f)
  one_passed f = λ turns text tokens w last d k n h go.
      let r = parts.reads f text tokens ((c.one_is f).3 d) k (subst (λ ts. l.Are text (ts ++ tokens)) (c.one_is f).0 h) in
      let m : length (part.tokens f ++ tokens) ≤ length turns = subst (λ ts. length (ts ++ tokens) ≤ length turns) (c.one_is f).0 n in
      moved l (begun turns (read text)) (more turns (all.value (c.one f)) r.rest) w last (ap (begun turns) (r.read_is ∙ ap (λ v. read_as v r.rest) (sym (c.one_is f).1)))
      (go turns r.rest (omega (arith, length-append (part.tokens f) tokens)) r.behind)

  grow_passed : (t : T) (o : O) (f : F) → IsPassed t → IsPassed (c.grow t o f)
  grow_passed t o f again = λ turns text tokens w last d k n h go.
      let e : all.tokens (c.grow t o f) ++ tokens ≡ all.tokens t ++ (token o ∷ (part.tokens f ++ tokens)) = ap (λ ts. ts ++ tokens) (c.grow_is t o f).0 ∙ append_assoc (all.tokens t) (token o ∷ part.tokens f) tokens in
      let p = c.lawful_grow t o f d in
      again turns text (token o ∷ (part.tokens f ++ tokens)) w last p.0 (goes_on o (part.tokens f ++ tokens)) (subst (λ ts. length ts ≤ length turns) e n) (subst (l.Are text) e h)
      (λ us rest m a. next us (all.value t) o f rest tokens w last p.1 k m a (subst (λ v. Goes tokens v w last) (c.grow_is t o f).1 go))

  stopped : (turns : List ℕ) (v : l.Value) (text : List ℕ) → operator text ≡ None → more turns v text ≡ Some (v, text)
  unfolding chained
  stopped [] v text e = refl
  stopped (turn ∷ turns) v text e = ap (at turns v text) e

  pub chain_reader : IsReader l T all (EndsChain l O EndsPart operator) (chain operator apply read)
  chain_reader = record {
    finds = all_found;
    reads = λ t text tokens d k h.
        c.induct IsPassed one_passed grow_passed t text text tokens (all.value t) tokens d k.0 (tokens_fit l (all.tokens t ++ tokens) text h) h
        (λ turns rest n a. record { rest = rest; read_is = stopped turns (all.value t) rest (k.1 rest a); behind = a });
  }

-- ---- parentheses

abbrev pub enclosed : (l : Language) (T : Type 0) → (ℕ → Kind l T) → ℕ → Kind l T
enclosed l T kind opened = record {
  tokens = λ t. (kind (opened + 1)).tokens t ++ l.close ∷ [];
  value = λ t. (kind (opened + 1)).value t;
  IsLawful = λ t. (opened < most_open) × (kind (opened + 1)).IsLawful t;
}

abbrev pub IsInner : (l : Language) (T : Type 0) → (ℕ → Kind l T) → ℕ → (List ℕ → Option (l.Value × List ℕ)) → Type 0
IsInner l T kind opened inner = IsReader l T (enclosed l T kind opened) (λ more. Unit {0}) inner

closing_is : (t rest : List ℕ) → closing_in t ≡ Some rest → t ≡ 41 ∷ rest
closing_is [] rest h = absurd cc
closing_is (c ∷ cs) rest h = by (c == 41) refl h
  where
    by : (q : Bool) → (c == 41) ≡ q → (if q then Some cs else None) ≡ Some rest → c ∷ cs ≡ 41 ∷ rest
    by true e k = ap (λ b. b ∷ cs) (eqb-true c 41 e) ∙ ap (λ r. 41 ∷ r) (same_Some cs rest k)
    by false e k = absurd cc

module _ (l : Language) (T : Type 0) (kind : ℕ → Kind l T) (Ends : List l.Token → Type 0) (all : (List ℕ → Option (l.Value × List ℕ)) → List ℕ → Option (l.Value × List ℕ))
    (reader : (opened : ℕ) (inner : List ℕ → Option (l.Value × List ℕ)) → opened ≤ most_open → IsInner l T kind opened inner → IsReader l T (kind opened) Ends (all inner)) (close_ends : (more : List l.Token) → Ends (l.close ∷ more)) (nothing_ends : Ends []) where
  -- what is found before the end of a parenthesis
  inside_found : (opened : ℕ) (text rest : List ℕ) (w : l.Value) → opened < most_open → (q : Option (l.Value × List ℕ)) → ((v : l.Value) (t : List ℕ) → q ≡ Some (v, t) → Found l T (kind (opened + 1)) text v t) → closed q ≡ Some (w, rest) → Found l T (enclosed l T kind opened) text w rest
  inside_found opened text rest w o q finds k =
      option_and_then_some (λ p. with_rest p.0 (closing p.1)) q (w, rest) k (λ p e k.
      option_and_then_some (read_as p.0) (closing p.1) (w, rest) k (λ u g k.
      let f = finds p.0 p.1 e in
      as_read l T (enclosed l T kind opened) text p.0 w u rest k (record {
        tree = f.tree;
        stands = λ more h.
            subst (l.Are text) (sym (append_assoc ((kind (opened + 1)).tokens f.tree) (l.close ∷ []) more))
            (f.stands (l.close ∷ more) (l.put p.1 (41 ∷ []) u l.close more (closing_is (after_blanks p.1) u g) l.close_written h));
        value_is = f.value_is;
        lawful = (o, f.lawful);
      })))

  close_read : (v : l.Value) (more : List l.Token) (q : Option (l.Value × List ℕ)) → ReadsTo l q v (l.close ∷ more) → ReadsTo l (closed q) v more
  close_read v more q p =
      let c = l.take p.rest l.close more p.behind in
      record { rest = c.rest; read_is = ap closed p.read_is ∙ ap (λ u. with_rest v (closing_in u)) (first_is l p.rest l.close more (41 ∷ []) p.behind (l.close_is c.written c.is_written)); behind = c.behind }

  pub parentheses : (n opened : ℕ) → opened + n ≡ most_open → IsInner l T kind opened (within all n)
  unfolding within
  parentheses zero opened e = record { finds = λ text rest v h. absurd cc; reads = λ t text more d k h. let o : opened < most_open = d.0 in absurd (omega arith) }
  parentheses (suc n) opened e =
      let f : (opened + 1) + n ≡ most_open = omega arith in
      let o : opened < most_open = omega arith in
      let b : opened + 1 ≤ most_open = omega arith in
      let r = reader (opened + 1) (within all n) b (parentheses n (opened + 1) f) in
      record {
        finds = λ text rest v h. inside_found opened text rest v o (all (within all n) text) (λ x t k. r.finds text t x k) h;
        reads = λ t text more d k h.
            close_read ((kind (opened + 1)).value t) more (all (within all n) text)
            (r.reads t text (l.close ∷ more) d.1 (close_ends more) (subst (l.Are text) (append_assoc ((kind (opened + 1)).tokens t) (l.close ∷ []) more) h));
      }

  outermost : IsReader l T (kind 0) Ends (all (within all most_open))
  outermost = let b : 0 ≤ most_open = omega arith in reader 0 (within all most_open) b (parentheses most_open 0 refl)

  pub whole_read : (text : List ℕ) (t : T) → (kind 0).IsLawful t → l.Are text ((kind 0).tokens t) → read_whole all text ≡ Some ((kind 0).value t)
  whole_read text t d h =
      let r = outermost.reads t text [] d nothing_ends (subst (l.Are text) (sym (append-nil ((kind 0).tokens t))) h) in
      ap at_end r.read_is ∙ ap (ended ((kind 0).value t)) (all_blank r.rest (l.nothing r.rest r.behind))

  pub whole_found : (text : List ℕ) (v : l.Value) → read_whole all text ≡ Some v → (t : T) × (kind 0).IsLawful t × l.Are text ((kind 0).tokens t) × (v ≡ (kind 0).value t)
  whole_found text v h = option_and_then_some (λ p. ended p.0 (after_blanks p.1)) (all (within all most_open) text) v h (λ p e k. ends_at p.1 (after_blanks p.1) p.0 refl k (outermost.finds text p.1 p.0 e))
    where
      ends_at : (t u : List ℕ) (x : l.Value) → after_blanks t ≡ u → ended x u ≡ Some v → Found l T (kind 0) text x t → (t : T) × (kind 0).IsLawful t × l.Are text ((kind 0).tokens t) × (v ≡ (kind 0).value t)
      ends_at t (c ∷ cs) x e k f = absurd cc
      ends_at t [] x e k f = (f.tree, f.lawful, subst (l.Are text) (append-nil ((kind 0).tokens f.tree)) (f.stands [] (l.blank t (nothing_behind t e))), sym (same_Some x v k) ∙ f.value_is)
