use Rattle.std.proofs.Common.{◌≡◌, ◌∙◌, ℕ, sym, ap, subst}
use Rattle.std.specs.List.{Contains}
use Rattle.std.proofs.lemmas.Bool.{false≢true}
use Rattle.css_model.specs.declared.sheet.Item.{Item}
use Rattle.cascade_laws.proofs.ForCallers.{some-same}
use Rattle.order_index.proofs.EntryFacts.{kept_is_entry, kept_of_entry, moved_is_moving}
use Rattle.order_index.proofs.Telling.{kept_told, none_of}
use Rattle.order_index.proofs.walking.of_kept.Goals as goal
use Rattle.order_index.specs.Afterwards.{after}
use Rattle.order_index.specs.Told.{IsToldOf, reversed_by}
use Rattle.order_laws.specs.Reversed.{KeptAt, Reversal, is_reversed_kept}
use Rattle.sheet_order.specs.declared.permitting.Allowed.TheVariants.{Blocked}
use Rattle.step_laws.specs.declared.cause.BlockCause.TheVariants.{Kept}

pub is_known_turned_kept-requires-clause-first : goal.is_known_turned_kept-requires-clause-first
is_known_turned_kept-requires-clause-first c =
    moved_is_moving c.listed_is_reversed.ensures c.listed_stands_last.ensures c.args.change.now.window.items.now c.args.change.now.step c.read_selectors_keep_the_limits.ensures c.requires.planned c.args.p.now c.requires.moved

pub returns-then-is_known_turned_kept-clause-told : goal.returns-then-is_known_turned_kept-clause-told
returns-then-is_known_turned_kept-clause-told c =
    let items = c.args.change.now.window.items.now in
    let k = c.args.change.now.step in
    let n = c.args.kept.now.0 in
    let number : c.kept.inside.number ≡ n = ap (λ (x : ℕ × Item). x.0) c.kept.view_is in
    let there = kept_is_entry c.listed_is_reversed.ensures c.listed_stands_last.ensures items k c.weighing_is_decided.ensures c.order_is_decided.ensures c.args.p.now n c.args.kept.now.1 c.requires.moved c.requires.kept.at c.requires.kept.kept
    (sym c.is_known_turned_kept.ensures.told ∙ c.if-is_known_turned_kept.true) in
    λ answers. subst (λ (m : ℕ). IsToldOf answers (reversed_by items k) (λ r. r ≡ record { moved = c.args.p.now; other = KeptAt n }) (Blocked (Kept m))) (sym number) (kept_told answers (reversed_by items k) c.args.p.now n there)

pub returns-else-is_known_turned_kept-clause-told : goal.returns-else-is_known_turned_kept-clause-told
returns-else-is_known_turned_kept-clause-told c =
    let items = c.args.change.now.window.items.now in
    let k = c.args.change.now.step in
    let n = c.args.kept.now.0 in
    λ answers. none_of answers (reversed_by items k) (λ r. r ≡ record { moved = c.args.p.now; other = KeptAt n })
    (λ r there is.
    let h = kept_of_entry c.listed_is_reversed.ensures c.listed_stands_last.ensures items k c.weighing_is_decided.ensures c.order_is_decided.ensures c.args.p.now n (subst (λ (x : Reversal). Contains (reversed_by items k) x) is there) in
    let same : h.0 ≡ c.args.kept.now.1 = some-same (sym h.1 ∙ c.requires.kept.at) in
    false≢true (sym c.if-is_known_turned_kept.false ∙ c.is_known_turned_kept.ensures.told ∙ ap (λ (x : Item). is_reversed_kept items (after items k) c.args.p.now.pair (n, x)) (sym same) ∙ h.3))
