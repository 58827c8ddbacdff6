use Rattle.std.proofs.Common.{◌≡◌, ◌⊎◌, inl, inr, true}
use Rattle.indexed_sheet.specs.Facts.{HasOwnDecls, HasOwnSelectors}
use Rattle.next_step.specs.Viewed.{Grows}
use Rattle.next_step.proofs.Looking.{grows_both, kept_covers}
use Rattle.next_step.proofs.NoCut.{own_pairs_of}
use Rattle.next_step.proofs.Owned.{all_covered}
use Rattle.next_step.proofs.next.look_at.Goals as goal

pub look_at_decls-requires-clause-focus : goal.look_at_decls-requires-clause-focus
look_at_decls-requires-clause-focus c = record {
  rule = c.requires.focus.rule;
  there = c.requires.focus.there;
  order_key = c.requires.focus.order_key;
  owned = c.requires.focus.owned;
  own_selectors = c.has_own_selectors-own_selectors.ensures;
  once = c.in_ok-parts.ensures.once;
}

pub look_at_selectors-requires-clause-focus : goal.look_at_selectors-requires-clause-focus
look_at_selectors-requires-clause-focus c = record {
  rule = c.requires.focus.rule;
  there = c.requires.focus.there;
  order_key = c.requires.focus.order_key;
  owned = c.requires.focus.owned;
  own_selectors = c.has_own_selectors-own_selectors.ensures;
  once = c.in_ok-parts.ensures.once;
}

pub returns-clause-facts : goal.returns-clause-facts
returns-clause-facts c = record {
  no_cut = c.in_ok-parts.ensures.uncut;
  own_selectors = c.has_own_selectors-own_selectors.ensures;
  own_decls = c.in_ok-own_decls.ensures.alone;
  own_pairs = λ known. own_pairs_of c.args.view.now.indexed.now.items c.args.focus.now.number (c.in_ok-parts.ensures.once (c.has_own_pairs.ensures.once known)) (c.in_ok-parts.ensures.selectors_once (c.has_own_pairs.ensures.selectors_once known))
      (either (c.has_own_parts.ensures (c.has_own_pairs.ensures.own known)));
}
  where
    either : (c.has_own_selectors-own_selectors.result ≡ true) ⊎ (c.in_ok-own_decls.own_decls ≡ true) → HasOwnSelectors c.args.view.now.indexed.now.items c.args.focus.now.number ⊎ HasOwnDecls c.args.view.now.indexed.now.items c.args.focus.now.number
    either (inl h) = inl (c.has_own_selectors-own_selectors.ensures h)
    either (inr h) = inr (c.in_ok-own_decls.ensures.alone h)

pub returns-clause-grows : goal.returns-clause-grows
returns-clause-grows c =
    grows_both c.args.view.now c.args.found.now c.look_at_cuts.new.found c.look_at_selectors.new.found c.in_ok-parts.ensures.grows
    (grows_both c.args.view.now c.look_at_cuts.new.found c.look_at_decls.new.found c.look_at_selectors.new.found c.in_ok-own_decls.ensures.grows c.in_ok-look_at_selectors.ensures.grows)

pub returns-clause-covers : goal.returns-clause-covers
returns-clause-covers c =
    let second : Grows c.args.view.now c.look_at_decls.new.found c.look_at_selectors.new.found = c.in_ok-look_at_selectors.ensures.grows in
    let both : Grows c.args.view.now c.look_at_cuts.new.found c.look_at_selectors.new.found = grows_both c.args.view.now c.look_at_cuts.new.found c.look_at_decls.new.found c.look_at_selectors.new.found c.in_ok-own_decls.ensures.grows second in
    all_covered c.args.view.now c.args.focus.now c.requires.focus c.marks-marks.ensures.are_marks c.marks-marks.ensures.as_many c.look_at_selectors.new.found
    (λ k two first. kept_covers c.args.view.now c.look_at_cuts.new.found c.look_at_selectors.new.found both k (c.in_ok-parts.ensures.covers k two first))
    (λ k by here. kept_covers c.args.view.now c.look_at_decls.new.found c.look_at_selectors.new.found second k (c.in_ok-own_decls.ensures.covers k by here))
    c.in_ok-look_at_selectors.ensures.covers
