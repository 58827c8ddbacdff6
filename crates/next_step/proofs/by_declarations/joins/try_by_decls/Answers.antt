use Rattle.step_laws.specs.declared.step.Step.TheVariants.{JoinDeclUp, JoinDeclDown, Share}
use Rattle.next_step.specs.Viewed.{CoversIn, Grows}
use Rattle.next_step.proofs.Looking.{all_by_decls, grows_both, kept_covers}
use Rattle.next_step.proofs.Results.{on_both, on_ok}
use Rattle.next_step.proofs.by_declarations.joins.try_by_decls.Goals as goal

pub returns-clause-grows : goal.returns-clause-grows
returns-clause-grows c = on_ok c.try_share.result (Grows c.args.view.now c.try_decl_joins.new.found c.try_share.new.found) _
    (grows_both c.args.view.now c.args.found.now c.try_decl_joins.new.found c.try_share.new.found c.in_ok-try_decl_joins.ensures.grows) c.try_share.ensures.grows

pub returns-clause-covers : goal.returns-clause-covers
returns-clause-covers c = on_both c.try_share.result (Grows c.args.view.now c.try_decl_joins.new.found c.try_share.new.found)
    (CoversIn c.args.view.now c.try_share.new.found (Share c.args.partners.now.upper c.args.partners.now.lower)) _
    (λ grows covers.
    all_by_decls c.args.view.now c.try_share.new.found c.args.partners.now.upper c.args.partners.now.lower
    (kept_covers c.args.view.now c.try_decl_joins.new.found c.try_share.new.found grows (JoinDeclUp c.args.partners.now.upper c.args.partners.now.lower) c.in_ok-try_decl_joins.ensures.up)
    (kept_covers c.args.view.now c.try_decl_joins.new.found c.try_share.new.found grows (JoinDeclDown c.args.partners.now.upper c.args.partners.now.lower) c.in_ok-try_decl_joins.ensures.down)
    covers) c.try_share.ensures.grows c.try_share.ensures.covers
