use Rattle.std.proofs.Common.{rules, ◌≡◌, ◌++◌, ◌∷◌, []}
use Rattle.std.specs.Prelude.{codes}
use Rattle.std.specs.Option.{option_copied}
use Rattle.diff_text.specs.Lines as spec
use Rattle.diff_text.proofs.Pieces.{winners_put}
use Rattle.diff_text.proofs.telling.put_winners.Goals as goal

pub returns : goal.returns
returns c =
    let first : c.put_named.new.out.items ≡ (c.args.out.now.items ++ codes "first ") ++ spec.winner_text c.args.sides.now.text (option_copied c.args.mine) = search rules in
    let second : c.put_named-2.new.out.items ≡ (c.put_named.new.out.items ++ codes "\nsecond ") ++ spec.winner_text c.args.sides.now.other (option_copied c.args.yours) = search rules in
    let third : c.push.new.self.items ≡ c.put_named-2.new.out.items ++ 10 ∷ [] = search rules in
    winners_put c.args.sides.now (option_copied c.args.mine) (option_copied c.args.yours) c.args.out.now.items c.put_named.new.out.items c.put_named-2.new.out.items c.push.new.self.items first second third
