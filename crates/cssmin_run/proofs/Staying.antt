-- The answers that are held stay while more is asked.
use Rattle.std.proofs.Common.{map, refl, subst}
use Rattle.std.specs.List.{Contains}
use Rattle.order_laws.proofs.ForCallers.{map_has, map_from}
use Rattle.overlap.specs.PairsParts.{PairsParts}
use Rattle.sheet_order.specs.Allowing.{Stays}
use Rattle.sheet_order.specs.Laws.{answer_seen}
use Rattle.step_laws.specs.Free as steps

pub stays_itself : (p : PairsParts) → Stays p p
stays_itself p = record { budget = refl; held = λ x y answer h. h }

pub among : (p q : PairsParts) → Stays p q → steps.AreAmong (map answer_seen p.answers) (map answer_seen q.answers)
among p q stays a inside =
    let from = map_from answer_seen p.answers a inside in
    subst (λ (x : steps.Answered). Contains (map answer_seen q.answers) x) from.2 (map_has answer_seen q.answers from.0 (stays.held from.0.left from.0.right from.0.answer from.1))
