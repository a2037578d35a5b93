-- One function after the other is put in its place.
use Rattle.std.proofs.Common.{◌≡◌, ◌++◌, ℕ, List, ap, sym, ◌∙◌}
use Rattle.std.specs.List.{insert, prefix_len}
use Rattle.std.proofs.lemmas.List.{nil_from_length}
use Rattle.form_term.specs.Term.{Call, call_order}
use Rattle.form_normal.specs.Factors.{is_upto}
use Rattle.form_normal.specs.Lists.{in_order}
use Rattle.form_normal.proofs.Functions.{placed_more, placed_all}
use Rattle.form_normal.proofs.factors.put_among.Goals as goal

pub loop-call-preserved : goal.loop-call-preserved
loop-call-preserved c =
    let fs = c.loop-call.functions.items in
    let call = c.in-Some.call.now in
    let place : c.place_of-place.result ≡ prefix_len (λ other. is_upto other call) fs = c.place_of-place.ensures.place ∙ ap (prefix_len (λ other. is_upto other call)) c.deref.ensures.value in
    let put : c.insert.new.self.items ≡ insert fs (prefix_len (λ other. is_upto other call) fs) call =
    c.in_ok-insert.ensures.items ∙ ap (λ (n : ℕ). insert fs n c.in_ok-own.own) place ∙ ap (insert fs (prefix_len (λ other. is_upto other call) fs)) c.in_ok-own.ensures.cases in
    let whole = ap (λ (cs : List Call). in_order call_order (fs ++ cs)) (sym c.in-Some.ensures.cases.0) ∙ c.loop-call.invariant.whole in
    let h = placed_more fs call c.in-Some.others.now _ c.insert.new.self.items c.loop-call.invariant.rises whole put in
    record { whole = h.0; rises = h.1 }

pub returns : goal.returns
returns c =
    let fs = c.loop-call.functions.items in
    let none = nil_from_length c.loop-call.rest.now c.in_default.ensures.cases in
    placed_all fs _ c.loop-call.invariant.rises (ap (λ (cs : List Call). in_order call_order (fs ++ cs)) (sym none) ∙ c.loop-call.invariant.whole)
