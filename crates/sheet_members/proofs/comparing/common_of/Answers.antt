use Rattle.std.proofs.Common.{List, ap, ◌∙◌}
use Rattle.std.specs.Option.{option_map}
use Rattle.std.specs.Prelude.{slice_get}
use Rattle.sheet_members.specs.Compared.{twin_in}
use Rattle.sheet_members.specs.Members.{Member}
use Rattle.sheet_members.proofs.Placing.{common_there, first_of, never_nowhere}
use Rattle.sheet_members.proofs.comparing.common_of.Goals as goal

pub returns-in-None-member_at : goal.returns-in-None-member_at
returns-in-None-member_at c =
    never_nowhere c.args.others.now c.args.m.now c.in-Some.there
    (c.in-Some.ensures.place ∙ ap (λ (m : Member). option_map first_of (twin_in c.args.others.now m.label)) c.m.view_is)
    (c.in-None-member_at.ensures ∙ ap (λ (ms : List Member). slice_get ms c.in-Some.there) c.others.view_is)

pub returns-in-Some-member_at : goal.returns-in-Some-member_at
returns-in-Some-member_at c =
    common_there c.args.others.now c.args.m.now c.in-Some-member_at.yours.now c.in-Some.there
    (c.in-Some.ensures.place ∙ ap (λ (m : Member). option_map first_of (twin_in c.args.others.now m.label)) c.m.view_is)
    (c.in-Some-member_at.ensures ∙ ap (λ (ms : List Member). slice_get ms c.in-Some.there) c.others.view_is)
