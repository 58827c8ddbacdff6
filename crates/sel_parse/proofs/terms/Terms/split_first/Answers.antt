use Rattle.std.proofs.Common.{◌≡◌, ◌-◌, length, take, drop, sym, ap, ◌∙◌}
use Rattle.css_model.specs.Selectors.Terms.{more_of_term, terms_from}
use Rattle.sel_parse.proofs.TermLemmas.{first_and_rest, terms_from-cons}
use Rattle.sel_parse.proofs.terms.Terms.split_first.Goals as goal

pub returns-in-len1-up : goal.returns-in-len1-up
returns-in-len1-up c =
    let tokens = c.self.inside.tokens.now in
    let x = c.token-item.result in
    let xs = take (length tokens - 1) (drop 1 tokens) in
    let rest : c.split_at.result.1.now ≡ drop (more_of_term x xs) xs = c.split_at.ensures.back ∙ c.more_of_term.ensures.rest in
    sym c.self.view_is
    ∙ ap (terms_from c.self.inside.depth 0) (first_and_rest tokens x c.in-len1-up.len_at_least c.token-item.is)
    ∙ terms_from-cons c.self.inside.depth c.depth_behind_term-depth.result x xs c.split_at.result.1.now c.kind.result c.gap_of_term.result c.counted_gap-gap.result c.first_kind.result
    c.depth_behind_term-depth.ensures.depth c.kind.ensures c.gap_of_term.ensures c.first_kind.ensures c.counted_gap-gap.ensures rest
