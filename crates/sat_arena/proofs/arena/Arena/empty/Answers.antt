use Rattle.std.proofs.Common.{rules, ◌≡◌, ◌+◌, replicate}
use Rattle.sat_arena.proofs.ModelLemmas.{is-arena}
use Rattle.sat_arena.proofs.AttachLemmas.{empty-inside}
use Rattle.sat_arena.proofs.arena.Arena.empty.Goals as goal

pub invariant_of-result : goal.invariant_of-result
invariant_of-result c =
    let zero : c.in_ok-words.words.items ≡ replicate 1 0 = search rules in
    let zeros : c.in_ok-firsts.firsts.items ≡ replicate (c.args.vars + c.args.vars) 0 = search rules in
    empty-inside c.args.vars c.in_ok-words.words.items c.in_ok-firsts.firsts.items _ c.requires zero zeros (search rules)

pub returns-clause-arena : goal.returns-clause-arena
returns-clause-arena c =
    let zero : c.in_ok-words.words.items ≡ replicate 1 0 = search rules in
    let zeros : c.in_ok-firsts.firsts.items ≡ replicate (c.args.vars + c.args.vars) 0 = search rules in
    is-arena c.args.vars c.in_ok-words.words.items c.in_ok-firsts.firsts.items c.new.result.items (empty-inside c.args.vars c.in_ok-words.words.items c.in_ok-firsts.firsts.items c.new.result.items c.requires zero zeros (search rules))
