-- What the example that is built shows.
use Rattle.std.proofs.Common.{List, None, Some, [], arith, length, subst, suc, sym, zero, ℕ, ◌∷◌, ◌≡◌, ◌≤◌}
use Rattle.std.proofs.lemmas.List.Elements.{All-contains}
use Rattle.std.specs.List.{All, AllByRecursion, slice_get}
use Rattle.std.specs.Prelude.{Contains}
use Rattle.css_model.specs.Documents.SelectorParts.{SelectorParts}
use Rattle.css_model.specs.Sheets.Limits.{max_compounds}
use Rattle.css_model.specs.declared.example.Example.{Example}
use Rattle.compound_fit.specs.Conditions.{IsFittable}
use Rattle.compound_fit.specs.Ids.{HasPlainIds}
use Rattle.compound_fit.specs.Table.{groups}
use Rattle.shape_laws.proofs.ForCallers.{short, shows}
use Rattle.shape_laws.specs.Document.Laws.{ShowsMeeting}
use Rattle.shape_laws.specs.Document.SlotElements.{AreSlotElements}
use Rattle.element_laws.proofs.ForCallers.{elements_suit}
use Rattle.element_laws.specs.Names.{HaveNames}
use Rattle.example_doc.proofs.Table.{group_there}
use Rattle.example_doc.specs.Built.{IsBuilt, most_lines}
use Rattle.example_doc.specs.Groups.{group_in}
use Rattle.list_facts.proofs.Members.{Contains-here, Contains-there}
use Rattle.slot_plan.specs.ShapeParts.{ShapeParts}
use Rattle.slot_plan.specs.ValidShape.{ValidShape, simples_in}

-- what is read in a list is in it
read_in : {X : Type 0} (xs : List X) (i : ℕ) (x : X) → slice_get xs i ≡ Some x → Contains xs x
read_in [] i x e = absurd (let bad : None ≡ Some x = e in cc)
read_in (y ∷ ys) zero x e = subst (Contains (y ∷ ys)) (let q : y ≡ x = cc in q) (Contains-here y ys)
read_in (y ∷ ys) (suc i) x e = Contains-there y ys x (read_in ys i x e)

-- the ids in each slot are tested for presence and equality alone
plain_ids : (x y : SelectorParts) (shape : ShapeParts) → ValidShape x y shape → All IsFittable (groups x.chain y.chain) → (k : ℕ) → k ≤ length shape.steps → HasPlainIds (simples_in x y shape k)
plain_ids x y shape valid fittable k h =
    (All-contains IsFittable (groups x.chain y.chain) (simples_in x y shape k) fittable (read_in (groups x.chain y.chain) (group_in x y shape k) (simples_in x y shape k) (group_there x y shape k valid h))).ids

-- its elements suit the slots
suit : (x y : SelectorParts) (shape : ShapeParts) (e : Example) → ValidShape x y shape → All IsFittable (groups x.chain y.chain) → AllByRecursion HaveNames x.chain → AllByRecursion HaveNames y.chain → (b : IsBuilt x y shape e) → AreSlotElements x y shape b.elements
suit x y shape e valid fittable left right b = elements_suit x y shape b.elements valid (plain_ids x y shape valid fittable) left right b.chosen

pub shows_built : (x y : SelectorParts) (shape : ShapeParts) (e : Example) → ValidShape x y shape → All IsFittable (groups x.chain y.chain) → AllByRecursion HaveNames x.chain → AllByRecursion HaveNames y.chain → IsBuilt x y shape e → ShowsMeeting x y e
shows_built x y shape e valid fittable left right b = subst (ShowsMeeting x y) (sym b.is) (shows x y shape b.elements valid (suit x y shape e valid fittable left right b))

pub few_built : (x y : SelectorParts) (shape : ShapeParts) (e : Example) → ValidShape x y shape → All IsFittable (groups x.chain y.chain) → AllByRecursion HaveNames x.chain → AllByRecursion HaveNames y.chain → length x.chain ≤ max_compounds → length y.chain ≤ max_compounds →
    IsBuilt x y shape e → length e.doc.lines ≤ most_lines
few_built x y shape e valid fittable left right few-x few-y b =
    subst (λ (d : Example). length d.doc.lines ≤ most_lines) (sym b.is) (let h = short x y shape b.elements valid (suit x y shape e valid fittable left right b) in omega arith)
