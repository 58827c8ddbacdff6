use Rattle.std.proofs.Common.{◌<◌, ℕ, subst, sym}
use Rattle.rule_tables.proofs.ForCallers.{none_then, some_then}
use Rattle.next_step.proofs.Telling.{order_key_index, order_key_within, number_lacks}
use Rattle.next_step.proofs.queue.naming.item_number.Goals as goal

pub returns-clause-some : goal.returns-clause-some
returns-clause-some c = some_then c.number_of.result _ _ (λ n at. order_key_index c.args.indexed.now.marks n c.args.order_key at) c.number_of.ensures.some

pub returns-clause-there : goal.returns-clause-there
returns-clause-there c = some_then c.number_of.result _ _ (λ n at. subst (λ (m : ℕ). n < m) c.marks-marks.ensures.as_many (order_key_within c.args.indexed.now.marks n c.args.order_key at)) c.number_of.ensures.some

pub returns-clause-none : goal.returns-clause-none
returns-clause-none c =
    none_then c.number_of.result (λ lacks n less named. number_lacks c.args.indexed.now.marks n c.args.order_key (subst (λ (m : ℕ). n < m) (sym c.marks-marks.ensures.as_many) less) named lacks) c.number_of.ensures.none
