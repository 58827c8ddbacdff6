use Rattle.std.proofs.Common.{◌≡◌, ◌∙◌, sym, subst}
use Rattle.std.specs.List.{Contains}
use Rattle.std.proofs.lemmas.Bool.{false≢true}
use Rattle.list_facts.proofs.Elements.{member}
use Rattle.order_index.proofs.Around.{are_listed}
use Rattle.order_index.proofs.EntryFacts.{moved_is_moving, pair_is_entry, pair_of_entry}
use Rattle.order_index.proofs.Telling.{none_of, one_told_ok}
use Rattle.order_index.proofs.walking.of_pair.Goals as goal
use Rattle.order_index.specs.Afterwards.{after, edit_at}
use Rattle.order_index.specs.Listed.{IsListed}
use Rattle.order_index.specs.Told.{reversed_by}
use Rattle.order_laws.specs.Places.{last_pairs}
use Rattle.order_laws.specs.Reversed.{Reversal, with_pair}
use Rattle.sheet_order.proofs.ForCallers.{all_askable}
use Rattle.sheet_order.specs.Allowing.{IsAskable}

pub is_known_turned-requires-clause-first : goal.is_known_turned-requires-clause-first
is_known_turned-requires-clause-first c =
    moved_is_moving c.listed_is_reversed.ensures c.listed_stands_last.ensures c.args.change.now.window.items.now c.args.change.now.step c.read_selectors_keep_the_limits.ensures c.requires.planned c.args.p.now c.requires.moved

pub is_known_turned-requires-clause-second : goal.is_known_turned-requires-clause-second
is_known_turned-requires-clause-second c =
    let items = c.args.change.now.window.items.now in
    member (IsListed items) (last_pairs items) c.args.q.now (are_listed c.listed_stands_last.ensures c.read_selectors_keep_the_limits.ensures items c.requires.planned) c.requires.other

pub returns-then-not-is_known_turned-clause-told : goal.returns-then-not-is_known_turned-clause-told
returns-then-not-is_known_turned-clause-told c =
    let items = c.args.change.now.window.items.now in
    let k = c.args.change.now.step in
    none_of c.args.pairs.now.answers (reversed_by items k) (λ r. r ≡ with_pair c.args.p.now c.args.q.now)
    (λ r there is. false≢true (sym c.if-not-is_known_turned.true ∙ c.is_known_turned.ensures.told
    ∙ (pair_of_entry c.listed_is_reversed.ensures c.listed_stands_last.ensures items k c.weighing_is_decided.ensures c.order_is_decided.ensures c.args.p.now c.args.q.now (subst (λ (x : Reversal). Contains (reversed_by items k) x) is there)).1))

pub ask-requires : goal.ask-requires
ask-requires c =
    let items = c.args.change.now.window.items.now in
    let k = c.args.change.now.step in
    let there = pair_is_entry c.listed_is_reversed.ensures c.listed_stands_last.ensures items k c.weighing_is_decided.ensures c.order_is_decided.ensures c.args.p.now c.args.q.now c.requires.moved c.requires.other (sym c.is_known_turned.ensures.told ∙ c.if-not-is_known_turned.false) in
    member IsAskable (reversed_by items k) (with_pair c.args.p.now c.args.q.now)
    (all_askable c.selectors_are_in_the_profile.ensures.all c.parts_are_few.ensures c.listed_is_reversed.ensures items (after items k) (edit_at items k).moved c.requires.planned) there

pub returns-clause-told : goal.returns-clause-told
returns-clause-told c =
    let items = c.args.change.now.window.items.now in
    let k = c.args.change.now.step in
    let there = pair_is_entry c.listed_is_reversed.ensures c.listed_stands_last.ensures items k c.weighing_is_decided.ensures c.order_is_decided.ensures c.args.p.now c.args.q.now c.requires.moved c.requires.other (sym c.is_known_turned.ensures.told ∙ c.if-not-is_known_turned.false) in
    one_told_ok c.ask.new.pairs.answers (reversed_by items k) (with_pair c.args.p.now c.args.q.now) there c.ask.result c.ask.ensures.allowed
