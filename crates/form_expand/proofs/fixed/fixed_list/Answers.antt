use Rattle.std.proofs.Common.{◌≡◌, subst, ◌∙◌}
use Rattle.std.specs.Prelude.{IfOk, IfSome}
use Rattle.form_expand.specs.Listing.{Listing}
use Rattle.form_expand.specs.Walks.{all_of}
use Rattle.form_expand.proofs.fixed.fixed_list.Goals as goal

pub returns-clause-some : goal.returns-clause-some
returns-clause-some c = λ s is.
    subst (λ (l : Listing). IfOk c.short_list.result (λ made. IfSome made (λ terms. l ≡ all_of terms.items))) (c.expand_tree-list.ensures s is) c.short_list.ensures.some

pub returns-clause-none : goal.returns-clause-none
returns-clause-none c = λ s is none terms short whole. c.short_list.ensures.none none terms short (c.expand_tree-list.ensures s is ∙ whole)
