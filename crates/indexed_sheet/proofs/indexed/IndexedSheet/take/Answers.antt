use Rattle.std.proofs.Common.{◌≡◌, ℕ, true, sym, subst}
use Rattle.std.specs.Prelude.{IfSome}
use Rattle.indexed_sheet.proofs.indexed.IndexedSheet.take.Goals as goal
use Rattle.indexed_sheet.proofs.Learnt.{facts_behind}
use Rattle.indexed_sheet.specs.IndexedParts.{IndexedParts}
use Rattle.indexed_sheet.specs.Facts.{AreLearntOf, AreTrueOfBoth, HasOwnPairs}
use Rattle.step_laws.specs.Steps.{HasStep, first_item, last_item}
use Rattle.step_savings.specs.Apart.{StepApart}

pub invariant_of-result : goal.invariant_of-result
invariant_of-result c =
    let has : HasStep c.self.inside.marked.items c.args.step.now = subst (λ (b : IndexedParts). HasStep b.items c.args.step.now) (sym c.self.view_is) c.requires.is_step in
    let next : AreLearntOf c.self.inside.facts.items c.in_ok-facts.facts.items c.self.inside.marked.next c.in_ok-marked.marked.next c.facts_of_join-known.result c.are_pairs_own-own_pairs.result =
    subst (λ (n : ℕ). AreLearntOf c.self.inside.facts.items c.in_ok-facts.facts.items n c.in_ok-marked.marked.next c.facts_of_join-known.result c.are_pairs_own-own_pairs.result) c.next-item_id.ensures.next
    (subst (λ (n : ℕ). AreLearntOf c.self.inside.facts.items c.in_ok-facts.facts.items c.next-item_id.result n c.facts_of_join-known.result c.are_pairs_own-own_pairs.result) c.next.ensures.next c.in_ok-facts.ensures)
    in
    facts_behind c.no_cut_comes.ensures c.own_parts_stay.ensures c.joined_has_no_cut.ensures c.joined_has_own_parts.ensures c.own_pairs_go_on.ensures c.self.inside.marked c.in_ok-marked.marked c.args.step.now has.0 has.1
    (c.in_ok-marked.ensures.marks has.0 has.1) c.self.inside.facts.items c.in_ok-facts.facts.items c.facts_of_join-known.result c.are_pairs_own-own_pairs.result c.next-item_id.ensures.are_marks c.next-item_id.ensures.as_many c.self.invariant
    (c.in_ok-marked.ensures.items has.0 has.1) c.in_ok-marked.ensures.more c.in_ok-marked.ensures.created
    (subst (λ (b : IndexedParts). IfSome c.facts_of_join-known.result (AreTrueOfBoth b.items c.args.step.now)) (sym c.self.view_is) c.facts_of_join-known.ensures)
    (subst (λ (b : IndexedParts). c.are_pairs_own-own_pairs.result ≡ true → HasOwnPairs b.items (first_item c.args.step.now)) (sym c.self.view_is) c.are_pairs_own-own_pairs.ensures.first)
    (subst (λ (b : IndexedParts). c.are_pairs_own-own_pairs.result ≡ true → HasOwnPairs b.items (last_item c.args.step.now)) (sym c.self.view_is) c.are_pairs_own-own_pairs.ensures.last)
    next

pub take-requires-clause-apart : goal.take-requires-clause-apart
take-requires-clause-apart c = subst (λ (b : IndexedParts). c.is_known_apart-apart.result ≡ true → StepApart b.items c.args.step.now) (sym c.self.view_is) c.is_known_apart-apart.ensures
