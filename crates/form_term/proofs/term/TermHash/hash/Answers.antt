-- A term's powers are those of its exponents.
use Rattle.std.proofs.Common.{◌≡◌, ◌∙◌, ◌++◌, List, [], refl, ap, sym, subst, Bool, true, false, fold, if◌then◌else◌, rules}
use Rattle.std.proofs.lemmas.List.Sums.{fold-append}
use Rattle.form_term.specs.Term.{is_nothing}
use Rattle.form_term.specs.Terms.{rest_of}
use Rattle.form_term.specs.Feeding.{fed_powers, fed_calls, fed_rest, fed_others}
use Rattle.form_term.specs.SymbolLaws.{powers_normal}
use Rattle.form_term.proofs.term.TermHash.hash.Goals as goal

-- what is fed in two parts
fed_then : {A B : Type 0} (w : B → A → B) (before between after : B) (xs ys : List A) → between ≡ fold w before xs → after ≡ fold w between ys → after ≡ fold w before (xs ++ ys)
fed_then w before between after xs ys e f = f ∙ ap (λ s. fold w s ys) e ∙ sym (fold-append w before xs ys)

-- what is there is fed
fed_some : {A B : Type 0} (w : B → A → B) (before after : B) (none : Bool) (xs : List A) → none ≡ false → after ≡ fold w before xs → after ≡ fold w before (if none then [] else xs)
fed_some w before after none xs there e = subst (λ (b : Bool). after ≡ fold w before (if b then [] else xs)) (sym there) e

fed_none : {A B : Type 0} (w : B → A → B) (before : B) (none : Bool) (xs : List A) → none ≡ true → before ≡ fold w before (if none then [] else xs)
fed_none w before none xs absent = subst (λ (b : Bool). before ≡ fold w before (if b then [] else xs)) (sym absent) refl

pub returns-then-has_only_symbols : goal.returns-then-has_only_symbols
returns-then-has_only_symbols g c =
    let t = c.args.self.now in
    let w = g.H.Hasher.write in
    let none : is_nothing t.others ≡ true = search rules in
    let symbols = rw c.powers.ensures.powers at c.hash.ensures in
    rw (powers_normal t.symbols (c.powers.ensures.lawful.rising, c.powers.ensures.lawful.present))
    (fed_then w c.args.state.now c.hash.new.state c.hash.new.state (fed_powers t.symbols) (if is_nothing t.others then [] else fed_others t.others) symbols
    (fed_none w c.hash.new.state (is_nothing t.others) (fed_others t.others) none))

pub returns-then-has_rest : goal.returns-then-has_rest
returns-then-has_rest g c =
    let t = c.args.self.now in
    let w = g.H.Hasher.write in
    let some : is_nothing t.others ≡ false = search rules in
    let more : is_nothing (rest_of t.others) ≡ false = search rules in
    let symbols = rw c.powers.ensures.powers at c.hash.ensures in
    let functions = rw c.functions.ensures at c.hash-2.ensures in
    let rest = fed_some w c.hash-2.new.state c.feed_rest.new.state (is_nothing (rest_of t.others)) (fed_rest t.others) more c.feed_rest.ensures in
    let others = fed_then w c.hash.new.state c.hash-2.new.state c.feed_rest.new.state (fed_calls t.others.functions) (if is_nothing (rest_of t.others) then [] else fed_rest t.others) functions rest in
    rw (powers_normal t.symbols (c.powers.ensures.lawful.rising, c.powers.ensures.lawful.present))
    (fed_then w c.args.state.now c.hash.new.state c.feed_rest.new.state (fed_powers t.symbols) (if is_nothing t.others then [] else fed_others t.others) symbols
    (fed_some w c.hash.new.state c.feed_rest.new.state (is_nothing t.others) (fed_others t.others) some others))

pub returns-else-has_rest : goal.returns-else-has_rest
returns-else-has_rest g c =
    let t = c.args.self.now in
    let w = g.H.Hasher.write in
    let some : is_nothing t.others ≡ false = search rules in
    let none : is_nothing (rest_of t.others) ≡ true = search rules in
    let symbols = rw c.powers.ensures.powers at c.hash.ensures in
    let functions = rw c.functions.ensures at c.hash-2.ensures in
    let rest = fed_none w c.hash-2.new.state (is_nothing (rest_of t.others)) (fed_rest t.others) none in
    let others = fed_then w c.hash.new.state c.hash-2.new.state c.hash-2.new.state (fed_calls t.others.functions) (if is_nothing (rest_of t.others) then [] else fed_rest t.others) functions rest in
    rw (powers_normal t.symbols (c.powers.ensures.lawful.rising, c.powers.ensures.lawful.present))
    (fed_then w c.args.state.now c.hash.new.state c.hash-2.new.state (fed_powers t.symbols) (if is_nothing t.others then [] else fed_others t.others) symbols
    (fed_some w c.hash.new.state c.hash-2.new.state (is_nothing t.others) (fed_others t.others) some others))
