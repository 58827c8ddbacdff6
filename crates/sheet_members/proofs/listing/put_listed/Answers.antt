use Rattle.std.proofs.Common.{true, cond, ap, ◌∙◌}
use Rattle.std.specs.List.{list_any}
use Rattle.sheet_members.specs.Labels.{Label, same_label}
use Rattle.sheet_members.proofs.Listed.{listed_with}
use Rattle.sheet_members.proofs.listing.put_listed.Goals as goal

pub returns : goal.returns
returns c = λ others are.
    listed_with others c.args.listed.now.keys c.insert.new.self.keys c.args.o.now are
    (λ q. c.in_ok-insert.ensures.updates.0 q ∙ ap (λ (l : Label). cond (same_label l q) true (list_any (same_label q) c.args.listed.now.keys)) c.label_of.ensures)
