use Rattle.std.proofs.Common.{◌≡◌, ◌∙◌, Bool, true, false, not, refl, sym}
use Rattle.std.specs.Bool.{beq}
use Rattle.std.proofs.lemmas.Bool.{false≢true, not-true, not_from_false, false_from_ne_true}
use Rattle.css_model.proofs.ForCallers.{decl_decides}
use Rattle.order_laws.specs.Members.{same_decl}
use Rattle.window_order.proofs.weighing.decls_weigh.Goals as goal

equal : (a b : Bool) → not (beq a b) ≡ false → a ≡ b
equal true true e = refl
equal true false e = absurd (false≢true (sym e))
equal false true e = absurd (false≢true (sym e))
equal false false e = refl

pub returns : goal.returns
returns c =
    let is : c.ne.result ≡ not (same_decl c.args.first.now c.args.second.now) = c.ne.ensures in (
      λ h. record {
        different = λ e. false≢true (sym (not-true (same_decl c.args.first.now c.args.second.now) (sym is ∙ h)) ∙ (decl_decides c.args.first.now c.args.second.now).1 e);
        names = c.related.ensures.exact.0 c.if-not-related.false;
        importance = equal c.args.first.now.important c.args.second.now.important c.if-first-second.false;
      },
      λ w. is ∙ not_from_false (same_decl c.args.first.now c.args.second.now) (false_from_ne_true (same_decl c.args.first.now c.args.second.now) (λ e. w.different ((decl_decides c.args.first.now c.args.second.now).0 e))),
    )
