use Rattle.std.proofs.Common.{◌≡◌, ℕ, List, [], ◌∷◌, ◌++◌, replicate, sym, ap, subst, ◌∙◌, append_assoc, append-nil, arith, rules}
use Rattle.std.proofs.lemmas.List.{replicate_more}
use Rattle.form_expand.specs.Listing.{Listing}
use Rattle.form_expand.specs.Walks.{all_of}
use Rattle.form_levels.specs.Rows.{AreFronts}
use Rattle.form_levels.proofs.fronts.Fronts.times_often.Goals as goal

pub loop-made-init : goal.loop-made-init
loop-made-init c = record {
  limit = search rules;
  fronts = λ t lists j h. subst (λ (ls : List Listing). AreFronts t ls j c.args.self) (sym (append-nil lists)) h;
}

pub loop-made-preserved : goal.loop-made-preserved
loop-made-preserved c =
    let l = all_of c.args.list.now in
    let n = c.loop-made._made in
    record {
      limit = search rules;
      fronts = λ t lists j h.
          subst (λ (ls : List Listing). AreFronts t ls j c.in-Some.more) (append_assoc lists (replicate n l) (l ∷ []) ∙ ap (λ (ls : List Listing). lists ++ ls) (replicate_more n l))
          (search rules);
    }

pub returns-clause-fronts : goal.returns-clause-fronts
returns-clause-fronts c = λ t lists j h.
    let all : c.loop-made._made ≡ c.args.times = omega arith in
    subst (λ (n : ℕ). AreFronts t (lists ++ replicate n (all_of c.args.list.now)) j c.loop-made.fronts) all (c.loop-made.invariant.fronts t lists j h)
