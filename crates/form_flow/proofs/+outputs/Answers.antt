use Rattle.std.proofs.Common.{◌+◌, suc, Ok, Err, map, option_map, refl, subst, sym, ap, ◌∙◌, arith, ◌≡◌, ℕ, Bool, false, List, [], ◌∷◌, ◌++◌, length, drop, length-append}
use Rattle.form_flow.specs.Arguments.{in_arguments, Progress, so_far, is_picked, argument_behind, arguments_behind, call_behind, calls_behind, numbered_behind, outcome_of_terms, with_functions}
use Rattle.form_flow.specs.Left.{Begins, Moves, Passes, Refuses, Steps, left, limits_of, on_way, pending}
use Rattle.form_flow.specs.Nearing.{Nears, Spends, Starts, two_to, way_weight}
use Rattle.form_flow.specs.Sources.{HasEffect}
use Rattle.form_flow.specs.Statements.{action, branch_by, first_branch, run}
use Rattle.form_flow.specs.Ways.{acts_of}
use Rattle.form_flow.specs.Weight.{block_weight, branches_weight, weight_of}
use Rattle.form_flow.proofs.Acting.{of_choose, of_plain, of_repeat, of_within, weight_of_choose, weight_of_plain, weight_of_repeat, weight_of_within}
use Rattle.form_flow.proofs.Ahead.{spends_waits, stepped_moves, stepped_nears, two_least, two_passed, two_within}
use Rattle.form_flow.proofs.Most.{arguments_most, effect_most}
use Rattle.form_flow.proofs.Waiting.{err_moves, passed}
use Rattle.std.specs.Prelude.{◌||◌, All, if◌then◌else◌}
use Rattle.std.specs.Global.{Vec}
use Rattle.std.specs.List.Sorted.{IsStrictlySortedBy}
use Rattle.std.specs.Ordering.{on}
use Rattle.std.proofs.lemmas.List.{nil_from_length}
use Rattle.std.proofs.lemmas.List.Elements.{All-append, All-cons, All-nil}
use Rattle.form_frac.specs.Fraction.{is_zero}
use Rattle.form_normal.specs.Product.{product}
use Rattle.form_term.proofs.ReadBack.{call_arguments}
use Rattle.form_term.specs.Arguments.{arguments_of}
use Rattle.form_term.specs.Calls.{call}
use Rattle.form_term.specs.declared.monomial.Monomial.{Monomial}
use Rattle.form_term.specs.declared.piece.Piece.{Piece}
use Rattle.form_term.specs.Monomial.{summands_of}
use Rattle.form_term.specs.Term.{Argument, AreArguments, Call, IsCall, expression, order, pieces_of_argument}
use Rattle.form_flow.specs.Outcome.{Outcome, done, has_acted, listing_of}
use Rattle.form_flow.specs.Within.{Adds, Reaches, and_pieces_far, going_by, most_of}
use Rattle.form_flow.proofs.Firsts.{first_lawful, rest_shorter}
use Rattle.form_flow.proofs.Outcomes.{Passed, adds_same, all_drained, all_passed, error_drained, end_drained, is_done, limit_drained, listing_unmarked, none_drained, none_passed, one_drained, one_passed, term_refused}
use Rattle.form_flow.proofs.Reached.{all_anew, behind_far, behind_none_far, call_ends, call_next, call_reached, call_stopped, calls_reached, effect_made, effect_refused, far_ends, far_next, far_written, functions_stopped, no_sum, still_ends, sum_reached, sum_stopped, sum_taken, word_stopped, written_far}
use Rattle.form_flow.proofs.Untaken.{call_left, term_left}
use Rattle.form_flow.proofs.+outputs.Goals as goal

-- ---- outputs

pub descent::Descent::next-through-requires : goal.descent::Descent::next-through-requires
descent::Descent::next-through-requires t c =
    let begins = subst (λ r. Begins (Ok r) (left c.loop-item.self) c.next_waiting.new.self) c.in-Ok-Some.field-0-is c.in-Ok-Some.ensures.begins in
    let starts = subst (λ r. Starts (Ok r) c.loop-item.self c.next_waiting.new.self) c.in-Ok-Some.field-0-is c.in-Ok-Some.ensures.ahead in
    (omega (arith, starts, c.loop-item.invariant.fewer, c.decreases), begins.1)

pub descent::Descent::next-returns-in-Ok-None-clause-gives : goal.descent::Descent::next-returns-in-Ok-None-clause-gives
descent::Descent::next-returns-in-Ok-None-clause-gives t c =
    let begins = subst (λ r. Begins (Ok r) (left c.loop-item.self) c.next_waiting.new.self) c.in-Ok-None.field-0-is c.in-Ok-None.ensures.begins in
    (sym c.loop-item.invariant.stands ∙ begins.0, begins.1)

pub descent::Descent::next-returns-in-Err-clause-gives : goal.descent::Descent::next-returns-in-Err-clause-gives
descent::Descent::next-returns-in-Err-clause-gives t c =
    subst (λ o. Refuses c.in-Err.error o) c.loop-item.invariant.stands c.in-Err.ensures.begins

pub descent::Descent::next-returns-in-Ok-Some-through-clause-gives : goal.descent::Descent::next-returns-in-Ok-Some-through-clause-gives
descent::Descent::next-returns-in-Ok-Some-through-clause-gives t c =
    let begins = subst (λ r. Begins (Ok r) (left c.loop-item.self) c.next_waiting.new.self) c.in-Ok-Some.field-0-is c.in-Ok-Some.ensures.begins in
    let passes = subst (λ r. Passes (Ok r) (on_way c.in-Ok-Some.item c.next_waiting.new.self) c.through.new.self) c.in-Ok-Some-through.field-0-is c.in-Ok-Some-through.ensures.passes in
    sym c.loop-item.invariant.stands ∙ begins.0 ∙ passes

pub descent::Descent::next-returns-in-Ok-Some-through-clause-ahead : goal.descent::Descent::next-returns-in-Ok-Some-through-clause-ahead
descent::Descent::next-returns-in-Ok-Some-through-clause-ahead t c =
    let starts = subst (λ r. Starts (Ok r) c.loop-item.self c.next_waiting.new.self) c.in-Ok-Some.field-0-is c.in-Ok-Some.ensures.ahead in
    omega (arith, starts, c.in-Ok-Some-through.ensures.ahead, c.loop-item.invariant.fewer)

pub descent::Descent::next-returns-in-Err-through-clause-gives : goal.descent::Descent::next-returns-in-Err-through-clause-gives
descent::Descent::next-returns-in-Err-through-clause-gives t c =
    let begins = subst (λ r. Begins (Ok r) (left c.loop-item.self) c.next_waiting.new.self) c.in-Ok-Some.field-0-is c.in-Ok-Some.ensures.begins in
    subst (λ o. Refuses c.in-Err-through.error o) (sym begins.0 ∙ c.loop-item.invariant.stands) c.in-Err-through.ensures.passes

pub descent::Descent::next-loop-item-preserved : goal.descent::Descent::next-loop-item-preserved
descent::Descent::next-loop-item-preserved t c =
    let begins = subst (λ r. Begins (Ok r) (left c.loop-item.self) c.next_waiting.new.self) c.in-Ok-Some.field-0-is c.in-Ok-Some.ensures.begins in
    let starts = subst (λ r. Starts (Ok r) c.loop-item.self c.next_waiting.new.self) c.in-Ok-Some.field-0-is c.in-Ok-Some.ensures.ahead in
    let passes = subst (λ r. Passes (Ok r) (on_way c.in-Ok-Some.item c.next_waiting.new.self) c.through.new.self) c.in-Ok-None-through.field-0-is c.in-Ok-None-through.ensures.passes in
    record {
      stands = sym (begins.0 ∙ passes) ∙ c.loop-item.invariant.stands;
      fewer = omega (arith, starts, c.in-Ok-None-through.ensures.ahead, c.loop-item.invariant.fewer);
    }

pub descent::Descent::next-loop-item-smaller : goal.descent::Descent::next-loop-item-smaller
descent::Descent::next-loop-item-smaller t c =
    let starts = subst (λ r. Starts (Ok r) c.loop-item.self c.next_waiting.new.self) c.in-Ok-Some.field-0-is c.in-Ok-Some.ensures.ahead in
    omega (arith, starts, c.in-Ok-None-through.ensures.ahead)

-- ---- statement by statement

pub descent::Descent::through-step-requires : goal.descent::Descent::through-step-requires
descent::Descent::through-step-requires t c = (omega (arith, c.loop-next.invariant.fewer, c.decreases), c.loop-next.invariant.first)

pub descent::Descent::through-returns-in-Ok-Out-clause-passes : goal.descent::Descent::through-returns-in-Ok-Out-clause-passes
descent::Descent::through-returns-in-Ok-Out-clause-passes t c =
    let steps = subst (λ s. Steps (Ok s) (on_way c.loop-next.item c.loop-next.self) c.step.new.self) c.in-Ok-Out.field-0-is c.in-Ok-Out.ensures.steps in
    sym c.loop-next.invariant.stands ∙ steps

pub descent::Descent::through-returns-in-Ok-Out-clause-ahead : goal.descent::Descent::through-returns-in-Ok-Out-clause-ahead
descent::Descent::through-returns-in-Ok-Out-clause-ahead t c =
    let nears = subst (λ s. Nears (Ok s) c.loop-next.self c.step.new.self) c.in-Ok-Out.field-0-is c.in-Ok-Out.ensures.nearer in
    omega (arith, nears, c.loop-next.invariant.fewer)

pub descent::Descent::through-returns-in-Ok-Gone-clause-passes : goal.descent::Descent::through-returns-in-Ok-Gone-clause-passes
descent::Descent::through-returns-in-Ok-Gone-clause-passes t c =
    let steps = subst (λ s. Steps (Ok s) (on_way c.loop-next.item c.loop-next.self) c.step.new.self) c.in-Ok-Gone.field-0-is c.in-Ok-Gone.ensures.steps in
    sym c.loop-next.invariant.stands ∙ steps.0

pub descent::Descent::through-returns-in-Ok-Gone-clause-ahead : goal.descent::Descent::through-returns-in-Ok-Gone-clause-ahead
descent::Descent::through-returns-in-Ok-Gone-clause-ahead t c =
    let nears = subst (λ s. Nears (Ok s) c.loop-next.self c.step.new.self) c.in-Ok-Gone.field-0-is c.in-Ok-Gone.ensures.nearer in
    omega (arith, nears, c.loop-next.invariant.fewer)

pub descent::Descent::through-returns-in-Err-clause-passes : goal.descent::Descent::through-returns-in-Err-clause-passes
descent::Descent::through-returns-in-Err-clause-passes t c =
    subst (λ o. Refuses c.in-Err.error o) c.loop-next.invariant.stands c.in-Err.ensures.steps

pub descent::Descent::through-loop-next-preserved : goal.descent::Descent::through-loop-next-preserved
descent::Descent::through-loop-next-preserved t c =
    let steps = subst (λ s. Steps (Ok s) (on_way c.loop-next.item c.loop-next.self) c.step.new.self) c.in-Ok-On.field-0-is c.in-Ok-On.ensures.steps in
    let nears = subst (λ s. Nears (Ok s) c.loop-next.self c.step.new.self) c.in-Ok-On.field-0-is c.in-Ok-On.ensures.nearer in
    record {
      first = steps.1;
      stands = sym steps.0 ∙ c.loop-next.invariant.stands;
      fewer = omega (arith, nears, c.loop-next.invariant.fewer);
    }

pub descent::Descent::through-loop-next-smaller : goal.descent::Descent::through-loop-next-smaller
descent::Descent::through-loop-next-smaller t c =
    subst (λ s. Nears (Ok s) c.loop-next.self c.step.new.self) c.in-Ok-On.field-0-is c.in-Ok-On.ensures.nearer

-- ---- one step

pub descent::Descent::step-leave-requires-clause-end : goal.descent::Descent::step-leave-requires-clause-end
descent::Descent::step-leave-requires-clause-end t c =
    let ended = c.in_default.ensures.next (action (limits_of c.args.self.now)) in
    ap (λ p. p.here.rest.now) ended.1 ∙ ended.0

pub descent::Descent::step-act-requires : goal.descent::Descent::step-act-requires
descent::Descent::step-act-requires t c =
    let d = c.args.self.now in
    let at = limits_of d in
    let mid = record d { path = c.next.new.self } in
    let less = two_passed (way_weight d) (weight_of at c.in-Some.action.now) (way_weight mid) (c.in-Some.ensures.weight at) in
    (omega (arith, less, c.decreases), c.requires)

pub descent::Descent::step-returns-in_default-clause-steps : goal.descent::Descent::step-returns-in_default-clause-steps
descent::Descent::step-returns-in_default-clause-steps t c =
    let d = c.args.self.now in
    let ended = c.in_default.ensures.next (action (limits_of d)) in
    subst (λ x. Steps c.leave.result x c.leave.new.self) (ap (λ p. on_way c.args.item (record d { path = p })) ended.1) c.leave.ensures.steps

pub descent::Descent::step-returns-in_default-clause-nearer : goal.descent::Descent::step-returns-in_default-clause-nearer
descent::Descent::step-returns-in_default-clause-nearer t c =
    let d = c.args.self.now in
    let ended = c.in_default.ensures.next (action (limits_of d)) in
    subst (λ p. Nears c.leave.result (record d { path = p }) c.leave.new.self) ended.1 c.leave.ensures.nearer

pub descent::Descent::step-returns-clause-steps : goal.descent::Descent::step-returns-clause-steps
descent::Descent::step-returns-clause-steps t c =
    let d = c.args.self.now in
    let act = action (limits_of d) in
    let m = c.args.item in
    let on = passed d c.next.new.self m (act c.in-Some.action.now m) (c.in-Some.ensures.next act m) in
    subst (λ r. Steps r (on_way m d) c.act.new.self) (sym c.stepped.ensures)
    (stepped_moves c.act.result (on_way m d) c.act.new.self (subst (λ x. Moves c.act.result x c.act.new.self) (sym on) c.act.ensures.moves))

pub descent::Descent::step-returns-clause-nearer : goal.descent::Descent::step-returns-clause-nearer
descent::Descent::step-returns-clause-nearer t c =
    let d = c.args.self.now in
    let at = limits_of d in
    let a = c.in-Some.action.now in
    let mid = record d { path = c.next.new.self } in
    subst (λ r. Nears r d c.act.new.self) (sym c.stepped.ensures)
    (stepped_nears c.act.result (weight_of at a) (pending (action at a c.args.item) mid) d mid c.act.new.self c.act.ensures.ahead (c.in-Some.ensures.weight at) refl c.act.ensures.moves)

-- ---- a statement

pub descent::Descent::act-act_within-requires : goal.descent::Descent::act-act_within-requires
descent::Descent::act-act_within-requires t c =
    let d = c.args.self.now in
    let at = limits_of d in
    let same = ap (λ n. two_to (n + way_weight d)) (ap (weight_of at) c.in-Within.is ∙ weight_of_within at c.in-Within.functions c.in-Within.block) in
    (omega (arith, same, c.decreases), c.requires)

pub descent::Descent::act-returns-in-Plain-clause-moves : goal.descent::Descent::act-returns-in-Plain-clause-moves
descent::Descent::act-returns-in-Plain-clause-moves t c =
    let d = c.args.self.now in
    let at = limits_of d in
    subst (λ o. Moves c.carry_out.result (pending o d) c.carry_out.new.self)
    (sym (ap (λ a. action at a c.args.item) c.in-Plain.is ∙ of_plain at c.in-Plain.leaf c.args.item)) c.carry_out.ensures.moves

pub descent::Descent::act-returns-in-Plain-clause-ahead : goal.descent::Descent::act-returns-in-Plain-clause-ahead
descent::Descent::act-returns-in-Plain-clause-ahead t c =
    let d = c.args.self.now in
    let at = limits_of d in
    subst (λ n. Spends c.carry_out.result n d c.carry_out.new.self) (sym (ap (weight_of at) c.in-Plain.is ∙ weight_of_plain at c.in-Plain.leaf)) c.carry_out.ensures.ahead

pub descent::Descent::act-returns-in-Repeat-clause-moves : goal.descent::Descent::act-returns-in-Repeat-clause-moves
descent::Descent::act-returns-in-Repeat-clause-moves t c =
    let d = c.args.self.now in
    let at = limits_of d in
    subst (λ o. Moves c.repeat.result (pending o d) c.repeat.new.self)
    (sym (ap (λ a. action at a c.args.item) c.in-Repeat.is ∙ of_repeat at c.in-Repeat.block c.args.item)) c.repeat.ensures.moves

pub descent::Descent::act-returns-in-Repeat-clause-ahead : goal.descent::Descent::act-returns-in-Repeat-clause-ahead
descent::Descent::act-returns-in-Repeat-clause-ahead t c =
    let d = c.args.self.now in
    let at = limits_of d in
    subst (λ n. Spends c.repeat.result n d c.repeat.new.self) (sym (ap (weight_of at) c.in-Repeat.is ∙ weight_of_repeat at c.in-Repeat.block)) c.repeat.ensures.ahead

pub descent::Descent::act-returns-in-Choose-clause-moves : goal.descent::Descent::act-returns-in-Choose-clause-moves
descent::Descent::act-returns-in-Choose-clause-moves t c =
    let d = c.args.self.now in
    let at = limits_of d in
    let act = action at in
    subst (λ o. Moves c.choose.result (pending o d) c.choose.new.self)
    (sym (ap (λ a. act a c.args.item) c.in-Choose.is
    ∙ of_choose at c.in-Choose.branches c.in-Choose.last c.args.item
    ∙ ap (λ bs. first_branch (map (branch_by act) bs) (option_map (acts_of act) c.in-Choose.last) c.args.item) (sym c.as_slice.ensures)))
    (c.choose.ensures.moves act refl)

pub descent::Descent::act-returns-in-Choose-clause-ahead : goal.descent::Descent::act-returns-in-Choose-clause-ahead
descent::Descent::act-returns-in-Choose-clause-ahead t c =
    let d = c.args.self.now in
    let at = limits_of d in
    subst (λ n. Spends c.choose.result n d c.choose.new.self)
    (sym (ap (weight_of at) c.in-Choose.is
    ∙ weight_of_choose at c.in-Choose.branches c.in-Choose.last
    ∙ ap (λ bs. suc (branches_weight at bs c.in-Choose.last)) (sym c.as_slice.ensures)))
    c.choose.ensures.ahead

pub descent::Descent::act-returns-in-Within-clause-moves : goal.descent::Descent::act-returns-in-Within-clause-moves
descent::Descent::act-returns-in-Within-clause-moves t c =
    let d = c.args.self.now in
    let at = limits_of d in
    subst (λ o. Moves c.act_within.result (pending o d) c.act_within.new.self)
    (sym (ap (λ a. action at a c.args.item) c.in-Within.is ∙ of_within at c.in-Within.functions c.in-Within.block c.args.item)) c.act_within.ensures.moves

pub descent::Descent::act-returns-in-Within-clause-ahead : goal.descent::Descent::act-returns-in-Within-clause-ahead
descent::Descent::act-returns-in-Within-clause-ahead t c =
    let d = c.args.self.now in
    let at = limits_of d in
    subst (λ n. Spends c.act_within.result n d c.act_within.new.self)
    (sym (ap (weight_of at) c.in-Within.is ∙ weight_of_within at c.in-Within.functions c.in-Within.block)) c.act_within.ensures.ahead

-- ---- a block within arguments

pub descent::Descent::act_within-in_arguments-requires : goal.descent::Descent::act_within-in_arguments-requires
descent::Descent::act_within-in_arguments-requires t c =
    let d = c.args.self.now in
    let b = block_weight (limits_of d) c.args.block.now in
    let least = two_least (suc b) in
    let less = two_within b (way_weight d) in
    (omega (arith, least, less, c.decreases), tt)

pub descent::Descent::act_within-returns-in-Ok-clause-moves : goal.descent::Descent::act_within-returns-in-Ok-clause-moves
descent::Descent::act_within-returns-in-Ok-clause-moves t c =
    let d = c.args.self.now in
    let at = limits_of d in
    c.take.ensures.moves (in_arguments at.terms c.args.functions.now (run at c.args.block.now) c.args.item)
    (subst (λ ps. HasEffect (Ok c.in-Ok.effect) (in_arguments at.terms ps (run at c.args.block.now) c.args.item)) c.as_slice.ensures c.in-Ok.ensures)

pub descent::Descent::act_within-returns-in-Ok-clause-ahead : goal.descent::Descent::act_within-returns-in-Ok-clause-ahead
descent::Descent::act_within-returns-in-Ok-clause-ahead t c =
    let d = c.args.self.now in
    let at = limits_of d in
    let n = suc (suc (block_weight at c.args.block.now)) in
    let one = arguments_most at.terms c.as_slice.result.now (run at c.args.block.now) c.args.item in
    spends_waits c.take.result n d c.take.new.self
    (c.take.ensures.ahead n (effect_most c.in-Ok.effect (in_arguments at.terms c.as_slice.result.now (run at c.args.block.now) c.args.item) n c.in-Ok.ensures (omega (arith, one))))

pub descent::Descent::act_within-returns-in-Err-clause-moves : goal.descent::Descent::act_within-returns-in-Err-clause-moves
descent::Descent::act_within-returns-in-Err-clause-moves t c =
    let d = c.args.self.now in
    let at = limits_of d in
    err_moves c.in-Err.error (in_arguments at.terms c.args.functions.now (run at c.args.block.now) c.args.item) d
    (subst (λ ps. HasEffect (Err c.in-Err.error) (in_arguments at.terms ps (run at c.args.block.now) c.args.item)) c.as_slice.ensures c.in-Err.ensures)

-- ---- a term

pub within::in_arguments-returns-then-is_left : goal.within::in_arguments-returns-then-is_left
within::in_arguments-returns-then-is_left t c =
    let m = c.args.item in
    term_left c.args.compiled.now.limits.terms c.args.functions.now (run c.args.compiled.now.limits c.args.block.now) m c.laws.ensures.lowest c.laws.ensures.lawful (sym c.is_left.ensures ∙ c.if-is_left.true)

pub within::in_arguments-returns-in-Err : goal.within::in_arguments-returns-in-Err
within::in_arguments-returns-in-Err t c =
    let go = run c.args.compiled.now.limits c.args.block.now in
    let max = c.args.compiled.now.limits.terms in
    let ps = c.args.functions.now in
    functions_stopped max ps go c.args.item c.in-Err.error c.calls_behind.new.has_acted
    (subst (λ (cs : List Call). Reaches (λ (list : Vec Call). list.items) (Err c.in-Err.error) c.calls_behind.new.has_acted (calls_behind max go ps false cs)) c.functions.ensures c.in-Err.ensures.made)

pub within::in_arguments-returns-in-Err-calls_behind : goal.within::in_arguments-returns-in-Err-calls_behind
within::in_arguments-returns-in-Err-calls_behind t c =
    let go = run c.args.compiled.now.limits c.args.block.now in
    let max = c.args.compiled.now.limits.terms in
    let ps = c.args.functions.now in
    let acted = c.calls_behind.new.has_acted in
    let first : calls_behind max go ps false c.args.item.term.others.functions ≡ so_far c.in-Ok.functions.items acted = subst (λ (cs : List Call). calls_behind max go ps false cs ≡ so_far c.in-Ok.functions.items acted) c.functions.ensures c.in-Ok.ensures.made in
    word_stopped max ps go c.args.item c.in-Ok.functions acted first c.in-Err-calls_behind.error c.calls_behind-2.new.has_acted
    (subst (λ (cs : List Call). Reaches (λ (list : Vec Call). list.items) (Err c.in-Err-calls_behind.error) c.calls_behind-2.new.has_acted (calls_behind max go ps acted cs)) c.word.ensures c.in-Err-calls_behind.ensures.made)

pub within::in_arguments-returns-in-Ok-with_calls : goal.within::in_arguments-returns-in-Ok-with_calls
within::in_arguments-returns-in-Ok-with_calls t c =
    let go = run c.args.compiled.now.limits c.args.block.now in
    let max = c.args.compiled.now.limits.terms in
    let ps = c.args.functions.now in
    let acted = c.calls_behind.new.has_acted in
    let also = c.calls_behind-2.new.has_acted in
    let m = c.args.item in
    let fs = c.in-Ok.functions in
    let ws = c.in-Ok-calls_behind.word in
    let first : calls_behind max go ps false m.term.others.functions ≡ so_far fs.items acted = subst (λ (cs : List Call). calls_behind max go ps false cs ≡ so_far fs.items acted) c.functions.ensures c.in-Ok.ensures.made in
    let second : calls_behind max go ps acted m.term.others.word ≡ so_far ws.items also = subst (λ (cs : List Call). calls_behind max go ps acted cs ≡ so_far ws.items also) c.word.ensures c.in-Ok-calls_behind.ensures.made in
    effect_made also c.in-Ok-with_calls.made (product (with_functions m fs.items ws.items ∷ [])) (in_arguments max ps go m) c.effect_of_made.result c.in-Ok-with_calls.ensures (all_anew max ps go m fs acted first ws also second) c.effect_of_made.ensures

pub within::in_arguments-returns-in-Err-with_calls : goal.within::in_arguments-returns-in-Err-with_calls
within::in_arguments-returns-in-Err-with_calls t c =
    let go = run c.args.compiled.now.limits c.args.block.now in
    let max = c.args.compiled.now.limits.terms in
    let ps = c.args.functions.now in
    let acted = c.calls_behind.new.has_acted in
    let also = c.calls_behind-2.new.has_acted in
    let m = c.args.item in
    let fs = c.in-Ok.functions in
    let ws = c.in-Ok-calls_behind.word in
    let first : calls_behind max go ps false m.term.others.functions ≡ so_far fs.items acted = subst (λ (cs : List Call). calls_behind max go ps false cs ≡ so_far fs.items acted) c.functions.ensures c.in-Ok.ensures.made in
    let second : calls_behind max go ps acted m.term.others.word ≡ so_far ws.items also = subst (λ (cs : List Call). calls_behind max go ps acted cs ≡ so_far ws.items also) c.word.ensures c.in-Ok-calls_behind.ensures.made in
    effect_refused also c.in-Err-with_calls.error (product (with_functions m fs.items ws.items ∷ [])) (in_arguments max ps go m) c.in-Err-with_calls.ensures (all_anew max ps go m fs acted first ws also second)

-- ---- functions

pub within::calls_behind-loop-call-init : goal.within::calls_behind-loop-call-init
within::calls_behind-loop-call-init t c =
    let w = c.args.walk.now in
    let none = sym c.in_ok-list.ensures.items in
    let all = calls_behind (most_of w) (going_by w) w.functions.now c.args.has_acted.now c.args.calls.now in (
      behind_none_far all ∙ ap (λ (xs : List Call). behind_far xs all) none,
      subst (All IsCall) none (All-nil IsCall),
    )

pub within::calls_behind-returns-in-Err-clause-made : goal.within::calls_behind-returns-in-Err-clause-made
within::calls_behind-returns-in-Err-clause-made t c =
    let w = c.args.walk.now in
    let max = most_of w in
    let go = going_by w in
    let ps = w.functions.now in
    let cs = c.args.calls.now in
    let i = c.loop-call.call-index in
    let here = c.call-item.result in
    let all = calls_behind max go ps c.args.has_acted.now cs in
    still_ends (λ (x : Call). x) (λ (list : Vec Call). list.items) c.in-Err.error c.call_behind.new.has_acted (call_behind max go ps c.loop-call.has_acted here) all
    (λ cause e. call_ends max go ps cs c.loop-call.list.items i c.loop-call.has_acted all c.loop-call.invariant.0 here cause c.loop-call-test.true c.call-item.is e)
    c.in-Err.ensures.made

pub within::calls_behind-loop-call-preserved : goal.within::calls_behind-loop-call-preserved
within::calls_behind-loop-call-preserved t c =
    let w = c.args.walk.now in
    let max = most_of w in
    let go = going_by w in
    let ps = w.functions.now in
    let cs = c.args.calls.now in
    let i = c.loop-call.call-index in
    let here = c.call-item.result in
    let also = c.call_behind.new.has_acted in
    let put = sym c.in_ok-push-in-Ok.ensures.items in (
      call_next max go ps cs c.loop-call.list.items i c.loop-call.has_acted (calls_behind max go ps c.args.has_acted.now cs) c.loop-call.invariant.0 here c.in-Ok.made also c.loop-call-test.true c.call-item.is c.in-Ok.ensures.made
          ∙ ap (λ (xs : List Call). behind_far xs (calls_behind max go ps also (drop (i + 1) cs))) put,
      subst (All IsCall) put (All-append IsCall c.loop-call.list.items (c.in-Ok.made ∷ []) c.loop-call.invariant.1 (All-cons IsCall c.in-Ok.made [] c.in-Ok.ensures.lawful (All-nil IsCall))),
    )

pub within::calls_behind-returns-clause-made : goal.within::calls_behind-returns-clause-made
within::calls_behind-returns-clause-made t c =
    let w = c.args.walk.now in
    let max = most_of w in
    let go = going_by w in
    let ps = w.functions.now in
    let cs = c.args.calls.now in
    calls_reached max go ps cs c.loop-call.list.items c.loop-call.call-index c.loop-call.has_acted (calls_behind max go ps c.args.has_acted.now cs) c.loop-call.invariant.0 c.loop-call-test.false

-- ---- a function

pub within::call_behind-returns-then-not-takes-clause-made : goal.within::call_behind-returns-then-not-takes-clause-made
within::call_behind-returns-then-not-takes-clause-made t c =
    let w = c.args.walk.now in
    let f = c.args.call.now in
    let same : c.in_ok-own.own ≡ f = c.in_ok-own.ensures.cases in
    call_left (most_of w) (going_by w) w.functions.now c.args.has_acted.now f (subst IsCall same c.pieces.ensures.lawful) (sym c.takes.ensures ∙ c.if-not-takes.true)
    ∙ ap (λ (x : Call). so_far x c.args.has_acted.now) (sym same)

pub within::call_behind-loop-part-init : goal.within::call_behind-loop-part-init
within::call_behind-loop-part-init t c =
    let w = c.args.walk.now in
    let own = c.pieces-rest.ensures.pieces in
    let made : List Piece → Progress (List Piece) = λ (qs : List Piece). written_far (arguments_behind (most_of w) (going_by w) w.functions.now c.args.call.now.function 1 c.args.has_acted.now (arguments_of qs)) in
    record {
      reached =
          behind_none_far (made c.args.call.now.pieces) ∙ ap (λ (qs : List Piece). behind_far [] (made qs)) (sym own) ∙ ap (λ (xs : List Piece). behind_far xs (made c.pieces-rest.result.now)) (sym c.in_ok-arguments.ensures);
      lawful = subst AreArguments (sym own) (call_arguments c.args.call.now c.pieces-rest.ensures.lawful);
      number = omega (arith, c.room_for.ensures);
    }

pub within::call_behind-with_argument-requires : goal.within::call_behind-with_argument-requires
within::call_behind-with_argument-requires t c = (omega (arith, c.decreases), c.in-Some.ensures.front_lawful)

pub within::call_behind-returns-in-Err-clause-made : goal.within::call_behind-returns-in-Err-clause-made
within::call_behind-returns-in-Err-clause-made t c =
    let w = c.args.walk.now in
    let max = most_of w in
    let go = going_by w in
    let ps = w.functions.now in
    let f = c.args.call.now.function in
    let h = c.in-Some.ensures in
    let rest = c.loop-part.rest.now in
    let part = c.in-Some.part.now in
    let more = c.in-Some.behind.now in
    let k = c.loop-part.number in
    let acted = c.loop-part.has_acted in
    let old = c.loop-part.arguments in
    let taken : c.is_picked-is_taken.result ≡ is_picked ps f k = c.is_picked-is_taken.ensures ∙ ap (λ (g : ℕ). is_picked ps g k) c.function-function.ensures in
    still_ends (λ (x : List Piece). x) (λ (x : Call). x) c.in-Err.error c.with_argument.new.has_acted (and_pieces_far old (numbered_behind max go ps f k acted h.first)) (call_behind max go ps c.args.has_acted.now c.args.call.now)
    (λ cause e. call_stopped (arguments_behind max go ps f 1 c.args.has_acted.now (arguments_of c.args.call.now.pieces)) f cause (c.loop-part.invariant.reached ∙ far_ends max go ps f k acted rest part more h old cause e))
    (subst (λ (b : Bool). Reaches (λ (x : List Piece). x) (Err c.in-Err.error) c.with_argument.new.has_acted (and_pieces_far old (if b then argument_behind max go acted h.first else so_far h.first acted))) taken
    (c.in-Err.ensures h.first h.front_is (first_lawful rest part more h c.loop-part.invariant.lawful)))

pub within::call_behind-overflow_add-number : goal.within::call_behind-overflow_add-number
within::call_behind-overflow_add-number t c = omega (arith, c.loop-part.invariant.number)

pub within::call_behind-loop-part-smaller : goal.within::call_behind-loop-part-smaller
within::call_behind-loop-part-smaller t c = rest_shorter c.loop-part.rest.now c.in-Some.part.now c.in-Some.behind.now c.in-Some.ensures

pub within::call_behind-loop-part-preserved : goal.within::call_behind-loop-part-preserved
within::call_behind-loop-part-preserved t c =
    let w = c.args.walk.now in
    let max = most_of w in
    let go = going_by w in
    let ps = w.functions.now in
    let f = c.args.call.now.function in
    let h = c.in-Some.ensures in
    let rest = c.loop-part.rest.now in
    let part = c.in-Some.part.now in
    let more = c.in-Some.behind.now in
    let k = c.loop-part.number in
    let acted = c.loop-part.has_acted in
    let also = c.with_argument.new.has_acted in
    let old = c.loop-part.arguments in
    let taken : c.is_picked-is_taken.result ≡ is_picked ps f k = c.is_picked-is_taken.ensures ∙ ap (λ (g : ℕ). is_picked ps g k) c.function-function.ensures in
    record {
      reached = c.loop-part.invariant.reached
          ∙ far_next max go ps f k acted rest part more h old c.in-Ok.more also (k + 1) refl
          (subst (λ (b : Bool). and_pieces_far old (if b then argument_behind max go acted h.first else so_far h.first acted) ≡ so_far c.in-Ok.more also) taken
          (c.in-Ok.ensures h.first h.front_is (first_lawful rest part more h c.loop-part.invariant.lawful)));
      lawful = h.behind_lawful;
      number = omega (arith, c.loop-part.invariant.number, h.some, length-append part more, ap length h.parts);
    }

pub within::call_behind-returns-clause-made : goal.within::call_behind-returns-clause-made
within::call_behind-returns-clause-made t c =
    let w = c.args.walk.now in
    let max = most_of w in
    let go = going_by w in
    let ps = w.functions.now in
    let f = c.args.call.now.function in
    let written = c.loop-part.arguments in
    let acted = c.loop-part.has_acted in
    let all = arguments_behind max go ps f 1 c.args.has_acted.now (arguments_of c.args.call.now.pieces) in
    call_reached all f written acted (far_written max go ps f c.loop-part.number acted c.loop-part.rest.now written (written_far all) c.in_default.ensures c.loop-part.invariant.reached)
    ∙ ap (λ (g : ℕ). so_far (call g written) acted) (sym c.function-function.ensures)
    ∙ ap (λ (x : Call). so_far x acted) (sym c.in_ok-made.ensures)

-- ---- an argument

pub within::with_argument-with_sum-requires : goal.within::with_argument-with_sum-requires
within::with_argument-with_sum-requires t c = (omega (arith, c.decreases), c.requires)

pub within::with_argument-returns-then-takes_sum : goal.within::with_argument-returns-then-takes_sum
within::with_argument-returns-then-takes_sum t c = λ a is lawful.
    let w = c.args.walk.now in
    subst (λ (p : Progress Argument). Reaches (λ (x : List Piece). x) c.with_sum.result c.with_sum.new.has_acted (and_pieces_far c.args.arguments p))
    (sum_taken (most_of w) (going_by w) c.args.has_acted.now c.args.is_taken c.args.part.now a lawful is (sym c.takes_sum.ensures ∙ c.if-takes_sum.true))
    c.with_sum.ensures

pub within::with_argument-returns : goal.within::with_argument-returns
within::with_argument-returns t c = λ a is lawful.
    let w = c.args.walk.now in
    no_sum (most_of w) (going_by w) c.args.has_acted.now c.args.arguments c.in_ok-with_pieces.field-0 c.args.part.now a is c.in_ok-with_pieces.ensures c.args.is_taken (sym c.takes_sum.ensures ∙ c.if-takes_sum.false)

pub within::with_sum-with_expression-requires-clause-rising : goal.within::with_sum-with_expression-requires-clause-rising
within::with_sum-with_expression-requires-clause-rising t c = subst (IsStrictlySortedBy (on (λ (m : Monomial). m.term) order)) (sym c.deref.ensures.value) c.in-Ok.ensures.0.rising

pub within::with_sum-with_expression-requires-clause-present : goal.within::with_sum-with_expression-requires-clause-present
within::with_sum-with_expression-requires-clause-present t c = subst (All (λ (m : Monomial). is_zero m.coefficient ≡ false)) (sym c.deref.ensures.value) c.in-Ok.ensures.0.present

pub within::with_sum-returns-in_ok-with_expression-in-Ok : goal.within::with_sum-returns-in_ok-with_expression-in-Ok
within::with_sum-returns-in_ok-with_expression-in-Ok t c =
    let w = c.args.walk.now in
    sum_reached (most_of w) (going_by w) c.args.has_acted.now c.args.arguments (arguments_of c.args.part.now) c.in_ok-terms.terms.items c.in_ok-terms.ensures.first c.in-Ok.made c.terms_behind.new.has_acted c.in_ok-with_expression-in-Ok.field-0 c.in-Ok.ensures
    (c.in_ok-with_expression-in-Ok.ensures ∙ ap (λ (ms : List Monomial). c.args.arguments ++ pieces_of_argument (expression (summands_of ms))) c.deref.ensures.value)

pub within::with_sum-returns-in-Err : goal.within::with_sum-returns-in-Err
within::with_sum-returns-in-Err t c =
    let w = c.args.walk.now in
    sum_stopped (most_of w) (going_by w) c.args.has_acted.now c.args.arguments (arguments_of c.args.part.now) c.in_ok-terms.terms.items c.in_ok-terms.ensures.first (λ (x : List Piece). x) c.in-Err.error c.terms_behind.new.has_acted c.in-Err.ensures

-- ---- the terms of an argument

pub within::terms_behind-loop-term-init : goal.within::terms_behind-loop-term-init
within::terms_behind-loop-term-init t c =
    let w = c.args.walk.now in
    let acted = c.args.has_acted.now in
    let whole = outcome_of_terms (going_by w) c.args.terms.items in
    subst (λ (ms : List Monomial). Passed (most_of w) acted c.new-collector.result 0 acted whole (outcome_of_terms (going_by w) ms)) (sym c.into_iter-term-iterator.ensures.into_iter_gives.0)
    (none_passed (most_of w) acted c.new-collector.result whole c.new-collector.ensures)

pub within::terms_behind-returns-in-Err : goal.within::terms_behind-returns-in-Err
within::terms_behind-returns-in-Err t c =
    let w = c.args.walk.now in
    let go = going_by w in
    let old = c.loop-term.term-iterator.rest.items in
    let next = c.next.new.self.rest.items in
    term_refused (most_of w) c.args.has_acted.now c.loop-term.collector c.loop-term.given c.loop-term.has_acted (outcome_of_terms go c.args.terms.items) (outcome_of_terms go old) c.loop-term.invariant
    (go c.in-Some.term) (outcome_of_terms go next) (ap (outcome_of_terms go) c.in-Some.ensures.steps.0) c.term_behind.new.collector c.term_behind.new.has_acted c.in-Err.error c.in-Err.ensures.adds

pub within::terms_behind-loop-term-preserved : goal.within::terms_behind-loop-term-preserved
within::terms_behind-loop-term-preserved t c =
    let w = c.args.walk.now in
    let go = going_by w in
    let old = c.loop-term.term-iterator.rest.items in
    let next = c.next.new.self.rest.items in
    one_passed (most_of w) c.args.has_acted.now c.loop-term.collector c.loop-term.given c.loop-term.has_acted (outcome_of_terms go c.args.terms.items) (outcome_of_terms go old) c.loop-term.invariant
    (go c.in-Some.term) (outcome_of_terms go next) (ap (outcome_of_terms go) c.in-Some.ensures.steps.0) c.term_behind.new.collector c.in-Ok.more c.term_behind.new.has_acted
    c.in-Ok.ensures.adds c.in-Ok.ensures.end c.in-Ok.ensures.acted

pub within::terms_behind-returns : goal.within::terms_behind-returns
within::terms_behind-returns t c =
    let w = c.args.walk.now in
    let go = going_by w in
    let items = c.loop-term.term-iterator.rest.items in
    all_passed (most_of w) c.args.has_acted.now c.loop-term.collector c.loop-term.given c.loop-term.has_acted (outcome_of_terms go c.args.terms.items) (outcome_of_terms go items) c.loop-term.invariant
    c.terms_of.result (ap (outcome_of_terms go) (nil_from_length items (omega (arith, c.in-None.ensures.steps.0)))) c.terms_of.ensures

-- ---- a term of an argument

pub within::term_behind-returns-in-Ok-clause-adds : goal.within::term_behind-returns-in-Ok-clause-adds
within::term_behind-returns-in-Ok-clause-adds t c =
    let w = c.args.walk.now in
    let o = going_by w c.args.term in
    adds_same (most_of w) c.args.given c.args.collector.now c.add_outputs.new.collector (Ok c.in-Ok.more) (left c.new-outputs.result) o (ap listing_of c.new-outputs.ensures.left ∙ listing_unmarked o)
    (subst (λ (n : ℕ). Adds n c.args.collector.now c.args.given (Ok c.in-Ok.more) c.add_outputs.new.collector (left c.new-outputs.result)) c.limit-limit.ensures c.in-Ok.ensures.adds)

pub within::term_behind-returns-in-Ok-clause-end : goal.within::term_behind-returns-in-Ok-clause-end
within::term_behind-returns-in-Ok-clause-end t c =
    let o = going_by c.args.walk.now c.args.term in
    is_done o.end c.add_outputs.new.outputs.has_acted (sym (ap (λ (x : Outcome). x.end) c.new-outputs.ensures.left) ∙ c.in-Ok.ensures.end)

pub within::term_behind-returns-in-Ok-clause-acted : goal.within::term_behind-returns-in-Ok-clause-acted
within::term_behind-returns-in-Ok-clause-acted t c =
    let o = going_by c.args.walk.now c.args.term in
    let ended : o.end ≡ done c.add_outputs.new.outputs.has_acted = sym (ap (λ (x : Outcome). x.end) c.new-outputs.ensures.left) ∙ c.in-Ok.ensures.end in
    c.either-now.ensures ∙ ap (λ (b : Bool). c.args.has_acted.now || b) (c.has_acted-acted.ensures ∙ sym (ap has_acted ended))

pub within::term_behind-returns-clause-adds : goal.within::term_behind-returns-clause-adds
within::term_behind-returns-clause-adds t c =
    let w = c.args.walk.now in
    let o = going_by w c.args.term in
    adds_same (most_of w) c.args.given c.args.collector.now c.add_outputs.new.collector (Err c.in-Err.error) (left c.new-outputs.result) o (ap listing_of c.new-outputs.ensures.left ∙ listing_unmarked o)
    (subst (λ (n : ℕ). Adds n c.args.collector.now c.args.given (Err c.in-Err.error) c.add_outputs.new.collector (left c.new-outputs.result)) c.limit-limit.ensures c.in-Err.ensures.adds)

pub within::term_behind-add_outputs-requires : goal.within::term_behind-add_outputs-requires
within::term_behind-add_outputs-requires t c = (omega (arith, c.new-outputs.ensures.ahead, c.decreases), tt)

-- ---- the outputs of a term

pub within::add_outputs-next-requires : goal.within::add_outputs-next-requires
within::add_outputs-next-requires t c = (omega (arith, c.loop-item.invariant.nearer, c.decreases), tt)

pub within::add_outputs-loop-item-init : goal.within::add_outputs-loop-item-init
within::add_outputs-loop-item-init t c = record {
  drained = none_drained c.args.limit c.args.collector.now c.args.given (left c.args.outputs.now);
  nearer = omega arith;
}

pub within::add_outputs-returns-in-Ok-None-clause-adds : goal.within::add_outputs-returns-in-Ok-None-clause-adds
within::add_outputs-returns-in-Ok-None-clause-adds t c =
    let gave = rw c.in-Ok-None.field-0-is at c.in-Ok-None.ensures.gives in
    all_drained c.args.limit c.args.collector.now c.args.given (left c.args.outputs.now) c.loop-item.collector c.loop-item.count (left c.loop-item.outputs) c.loop-item.invariant.drained c.next.new.self.has_acted gave.0

pub within::add_outputs-returns-in-Ok-None-clause-end : goal.within::add_outputs-returns-in-Ok-None-clause-end
within::add_outputs-returns-in-Ok-None-clause-end t c =
    let gave = rw c.in-Ok-None.field-0-is at c.in-Ok-None.ensures.gives in
    end_drained c.args.limit c.args.collector.now c.args.given (left c.args.outputs.now) c.loop-item.collector c.loop-item.count (left c.loop-item.outputs) c.loop-item.invariant.drained c.next.new.self.has_acted gave.0

pub within::add_outputs-returns-in-Err-clause-adds : goal.within::add_outputs-returns-in-Err-clause-adds
within::add_outputs-returns-in-Err-clause-adds t c =
    error_drained c.args.limit c.args.collector.now c.args.given (left c.args.outputs.now) c.loop-item.collector c.loop-item.count (left c.loop-item.outputs) c.loop-item.invariant.drained c.in-Err.error c.next.new.self c.in-Err.ensures.gives

pub within::add_outputs-returns-then-count-limit-clause-adds : goal.within::add_outputs-returns-then-count-limit-clause-adds
within::add_outputs-returns-then-count-limit-clause-adds t c =
    limit_drained c.args.limit c.args.collector.now c.args.given (left c.args.outputs.now) c.loop-item.collector c.loop-item.count (left c.loop-item.outputs) c.loop-item.invariant.drained c.in-Ok-Some.item (left c.next.new.self)
    (rw c.in-Ok-Some.field-0-is at c.in-Ok-Some.ensures.gives) c.if-count-limit.true

pub within::add_outputs-loop-item-smaller : goal.within::add_outputs-loop-item-smaller
within::add_outputs-loop-item-smaller t c = rw c.in-Ok-Some.field-0-is at c.in-Ok-Some.ensures.ahead

pub within::add_outputs-loop-item-preserved : goal.within::add_outputs-loop-item-preserved
within::add_outputs-loop-item-preserved t c =
    let less = rw c.in-Ok-Some.field-0-is at c.in-Ok-Some.ensures.ahead in
    record {
      drained = one_drained c.args.limit c.args.collector.now c.args.given (left c.args.outputs.now) c.loop-item.collector c.loop-item.count (left c.loop-item.outputs) c.loop-item.invariant.drained c.add.new.self c.in-Ok-Some.item (left c.next.new.self)
          (rw c.in-Ok-Some.field-0-is at c.in-Ok-Some.ensures.gives) c.if-count-limit.false c.in_ok-add.ensures.ok;
      nearer = omega (arith, less, c.loop-item.invariant.nearer);
    }
