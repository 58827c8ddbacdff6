use Rattle.std.proofs.Common.{List, map, reverse, ap, ◌∙◌}
use Rattle.std.proofs.lemmas.List.{reverse-reverse}
use Rattle.sheet_members.specs.Members.{Member, lasts, member_of}
use Rattle.sheet_members.proofs.Listed.{reverse_map}
use Rattle.sheet_members.proofs.listing.lasts.Goals as goal

pub returns : goal.returns
returns c =
    c.reverse.ensures.items ∙ ap (λ (ms : List Member). reverse ms) c.in_ok-found.ensures ∙ reverse_map (reverse (lasts c.args.occurrences.now))
    ∙ ap (map member_of) (reverse-reverse (lasts c.args.occurrences.now))
