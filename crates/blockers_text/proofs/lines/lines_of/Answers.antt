use Rattle.std.proofs.Common.{List, ℕ, ◌++◌, ap₂, ◌∙◌}
use Rattle.std.specs.List.{flat_map}
use Rattle.blockers_text.proofs.lines.lines_of.Goals as goal
use Rattle.blockers_text.specs.declared.totals.Weighed.{Weighed}
use Rattle.blockers_text.specs.Lines.{Ranked, totals_text}

pub returns : goal.returns
returns c =
    let sorted = c.in_ok-sorted.sorted.items in
    let totals = c.in_ok-push_totals.ensures
    ∙ ap₂ (λ (out : List ℕ) (ws : List Weighed). out ++ totals_text ws) c.new-out.ensures.items c.deref.ensures.value in
    record {
      sorted = sorted;
      ranked = c.in_ok-sorted.ensures;
      text_is = c.in_ok-push_lines.ensures ∙ ap₂ (λ (out : List ℕ) (rs : List Ranked). out ++ flat_map (λ r. r.lines) rs) totals c.deref-2.ensures.value;
    }
