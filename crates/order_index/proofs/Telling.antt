-- What is told of classes of entries.
use Rattle.std.proofs.Common.{◌≡◌, ℕ, true, List, [], ◌∷◌, ◌++◌, None, Result, Ok, Err, IfOk, refl, sym, ◌∙◌, subst}
use Rattle.std.specs.List.{Contains}
use Rattle.std.proofs.lemmas.Bool.{false≢true}
use Rattle.cascade_laws.proofs.ForCallers.{exceeds-irreflexive}
use Rattle.css_model.specs.Cascade.Winner.{exceeds}
use Rattle.css_model.specs.Documents.SelectorParts.{SelectorParts}
use Rattle.list_facts.proofs.Zips.{cons_head, cons_not_empty, cons_tail}
use Rattle.order_index.proofs.InTurn.{parted}
use Rattle.order_index.specs.InTurn.{AllPass}
use Rattle.order_index.specs.Told.{Hinders, IsToldOf, Passes}
use Rattle.order_laws.specs.Edits.{Moved}
use Rattle.order_laws.specs.Places.{PlacedPair}
use Rattle.css_model.specs.declared.sheet.Item.{Item}
use Rattle.order_laws.specs.Reversed.{AnotherPair, KeptAt, KeysTellApart, ListedAscends, Other, Reversal, reversed, sort_key}
use Rattle.overlap.specs.declared.answer.Answer.TheVariants.{Apart}
use Rattle.overlap.specs.PairsParts.{Answered, PairsParts}
use Rattle.sheet_order.proofs.ForCallers.{all_members}
use Rattle.sheet_order.specs.Allowing.{IsAllowed, JudgesOther, Stays}
use Rattle.sheet_order.specs.declared.permitting.Allowed.{Allowed}
use Rattle.sheet_order.specs.declared.permitting.Allowed.TheVariants.{Free, Blocked}
use Rattle.step_laws.specs.declared.cause.BlockCause.TheVariants.{Kept}

-- what passes goes on to
stay_other : (p q : PairsParts) → Stays p q → (x : SelectorParts) (o : Other) → JudgesOther p.answers x o None → JudgesOther q.answers x o None
stay_other p q stays x (AnotherPair y) h = stays.held x y.pair.selector Apart h
stay_other p q stays x (KeptAt n) h = h

pub passes_stay : (p q : PairsParts) → Stays p q → (r : Reversal) → Passes p.answers r → Passes q.answers r
passes_stay p q stays r h = stay_other p q stays r.moved.pair.selector r.other h

-- classes of the same entries
pub told_as : (answers : List Answered) (entries : List Reversal) (K L : Reversal → Type 0) → ((r : Reversal) → Contains entries r → K r → L r) → ((r : Reversal) → Contains entries r → L r → K r) → (a : Allowed) → IsToldOf answers entries K a → IsToldOf answers entries L a
told_as answers entries K L to from Free h = λ r there of. h r there (from r there of)
told_as answers entries K L to from (Blocked cause) h = record { entry = h.entry; among = h.among; of = to h.entry h.among h.of; blocks = h.blocks; before = λ s there of less. h.before s there (from s there of) less }

pub told_as_ok : {E : Type 0} (answers : List Answered) (entries : List Reversal) (K L : Reversal → Type 0) → ((r : Reversal) → Contains entries r → K r → L r) → ((r : Reversal) → Contains entries r → L r → K r) → (a : Result Allowed E) →
    IfOk a (λ x. IsToldOf answers entries K x) → IfOk a (λ x. IsToldOf answers entries L x)
told_as_ok answers entries K L to from (Ok a) h = told_as answers entries K L to from a h
told_as_ok answers entries K L to from (Err x) h = tt

-- a class without entries
pub none_of : (answers : List Answered) (entries : List Reversal) (K : Reversal → Type 0) → ((r : Reversal) → Contains entries r → K r → ⊥) → AllPass (Passes answers) entries K
none_of answers entries K none r there of = absurd (none r there of)

-- ---- One entry

no_more : (before : List Reversal) (entry : Reversal) (behind : List Reversal) → [] ≡ before ++ entry ∷ behind → ⊥
no_more [] entry behind is = cons_not_empty entry behind (sym is)
no_more (s ∷ before) entry behind is = cons_not_empty s (before ++ entry ∷ behind) (sym is)

one_entry : (r : Reversal) (before : List Reversal) (entry : Reversal) (behind : List Reversal) → r ∷ [] ≡ before ++ entry ∷ behind → entry ≡ r
one_entry r [] entry behind is = sym (cons_head r entry [] behind is)
one_entry r (s ∷ before) entry behind is = absurd (no_more before entry behind (cons_tail r s [] (before ++ entry ∷ behind) is))

not_before : (r s : Reversal) → s ≡ r → exceeds (sort_key r) (sort_key s) ≡ true → ⊥
not_before r s is less = false≢true (sym (exceeds-irreflexive (sort_key r)) ∙ subst (λ (x : Reversal). exceeds (sort_key r) (sort_key x) ≡ true) is less)

-- what is told of the list of one entry
pub one_told : (answers : List Answered) (entries : List Reversal) (r : Reversal) → Contains entries r → (a : Allowed) → IsAllowed answers (r ∷ []) a → IsToldOf answers entries (λ s. s ≡ r) a
one_told answers entries r there Free h = λ s inside is. subst (Passes answers) (sym is) h.0
one_told answers entries r there (Blocked cause) h = record { entry = r; among = there; of = refl; blocks = subst (Hinders answers cause) (one_entry r h.before h.entry h.behind h.parts) h.blocks; before = λ s inside is less. absurd (not_before r s is less) }

pub one_told_ok : {E : Type 0} (answers : List Answered) (entries : List Reversal) (r : Reversal) → Contains entries r → (a : Result Allowed E) → IfOk a (λ x. IsAllowed answers (r ∷ []) x) → IfOk a (λ x. IsToldOf answers entries (λ s. s ≡ r) x)
one_told_ok answers entries r there (Ok a) h = one_told answers entries r there a h
one_told_ok answers entries r there (Err x) h = tt

-- ---- All entries

pub all_told : ListedAscends → KeysTellApart → (answers : List Answered) (items items' : List Item) (m : Moved) (a : Allowed) → IsToldOf answers (reversed items items' m) (λ r. Unit {0}) a → IsAllowed answers (reversed items items' m) a
all_told ascend tell answers items items' m Free h = all_members (Passes answers) (reversed items items' m) (λ r there. h r there tt)
all_told ascend tell answers items items' m (Blocked cause) h =
    let w = parted (Passes answers) (reversed items items' m) (ascend items items' m) (tell items items' m) h.entry h.among (λ s there less. h.before s there tt less) in
    record { before = w.before; entry = h.entry; behind = w.behind; parts = w.parts; free = w.pass; blocks = h.blocks }

-- ---- A kept item

-- a moved pair that is reversed with a kept item
pub kept_told : (answers : List Answered) (entries : List Reversal) (p : PlacedPair) (n : ℕ) → Contains entries (record { moved = p; other = KeptAt n }) → IsToldOf answers entries (λ s. s ≡ record { moved = p; other = KeptAt n }) (Blocked (Kept n))
kept_told answers entries p n there = record { entry = record { moved = p; other = KeptAt n }; among = there; of = refl; blocks = refl; before = λ s inside is less. absurd (not_before (record { moved = p; other = KeptAt n }) s is less) }
