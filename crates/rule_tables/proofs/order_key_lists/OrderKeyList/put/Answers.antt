use Rattle.std.proofs.Common.{[], ◌∷◌, sym, subst}
use Rattle.rule_tables.specs.Entries.{Puts}
use Rattle.rule_tables.proofs.Ascending.{puts_inserted}
use Rattle.rule_tables.proofs.EntrySets.{then_ok}
use Rattle.rule_tables.proofs.order_key_lists.OrderKeyList.put.Goals as goal

pub returns-in-Err-clause-ok : goal.returns-in-Err-clause-ok
returns-in-Err-clause-ok c =
    then_ok c.put_at.result (λ is. subst (Puts c.args.self.now (c.args.order_key ∷ [])) (sym is) (puts_inserted c.args.self.now c.args.order_key c.in-Err.place)) c.put_at.ensures.ok
