-- Where a valid shape exists, one with small gaps and counts does.
use Rattle.std.proofs.Common.{List, [], arith, get_or, length, refl, subst, suc, sym, ℕ, ◌+◌, ◌<◌, ◌^◌, ◌∷◌, ◌≡◌, ◌≤◌}
use Rattle.std.proofs.lemmas.List.Elements.{All-from_recursion, AllZip-get_or, Contains-get_or}
use Rattle.css_model.specs.Documents.SelectorParts.{SelectorParts}
use Rattle.css_model.specs.Sheets.Limits.{max_compounds}
use Rattle.nth_positions.specs.Gaps.{bounds_of, period_of, reduced, threshold_of}
use Rattle.slot_plan.specs.Counts.{CountsFit}
use Rattle.slot_plan.specs.Parts.{pair_parts}
use Rattle.slot_plan.specs.ShapeParts.{ShapeParts}
use Rattle.slot_plan.specs.ValidShape.{ValidShape, is_root_slot, simples_in}
use Rattle.shape_laws.proofs.Gaps.Alike.{Alike, Reduces, gap_alike, same_fit}
use Rattle.shape_laws.proofs.Gaps.AskedParts.{in_parts}
use Rattle.shape_laws.proofs.Gaps.FewSlots.{IsWide, counts_length, fit_width, slots_few, slots_length}
use Rattle.shape_laws.proofs.Gaps.Pumping.{pump}
use Rattle.shape_laws.specs.Shrinking.{IsSmall}

-- the shape with the numbers that pumping gives; steps and slots stay
pub small : (x y : SelectorParts) (shape : ShapeParts) → Reduces (pair_parts x y) (threshold_of (pair_parts x y) + period_of (pair_parts x y)) (reduced (bounds_of (pair_parts x y))) → IsWide (pair_parts x y) →
    length x.chain ≤ max_compounds → length y.chain ≤ max_compounds → ValidShape x y shape → (shape' : ShapeParts) × ValidShape x y shape' × IsSmall (bounds_of (pair_parts x y)) shape'
small x y shape reduces wide hx hy v = by shape.before shape.after refl refl v.counts
  where
    by : (bs aa : List ℕ) → shape.before ≡ bs → shape.after ≡ aa → CountsFit shape.steps bs aa → (shape' : ShapeParts) × ValidShape x y shape' × IsSmall (bounds_of (pair_parts x y)) shape'
    by [] aa eb ea fit = absurd (let l = counts_length shape.steps [] aa fit in let w : 0 ≡ suc (length shape.steps) = l.0 in omega arith)
    by (b ∷ bs) [] eb ea fit = absurd (let l = counts_length shape.steps (b ∷ bs) [] fit in let w : 0 ≡ suc (length shape.steps) = l.1 in omega arith)
    by (b ∷ bs) (a ∷ aa) eb ea fit =
        let parts = pair_parts x y in
        let r = reduced (bounds_of parts) in
        let bound = threshold_of parts + period_of parts in
        let p = pump parts bound r reduces 1 shape.steps b bs a aa (r a) fit (gap_alike parts bound r reduces a) (let h = reduces.below a in omega arith) in
        let shape' : ShapeParts = record shape { before = p.b0 ∷ p.bs'; after = r a ∷ p.aa' } in
        let few = slots_few x y shape v in
        let lx = slots_length x.chain x.links shape.steps shape.left v.left in
        let ly = slots_length y.chain y.links shape.steps shape.right v.right in
        let l = counts_length shape.steps (b ∷ bs) (a ∷ aa) fit in
        let like_b : (k : ℕ) → k ≤ length shape.steps → Alike parts (get_or shape.before k 0) (get_or (p.b0 ∷ p.bs') k 0) =
        λ k h. subst (λ vs. Alike parts (get_or vs k 0) (get_or (p.b0 ∷ p.bs') k 0)) (sym eb) (AllZip-get_or (Alike parts) (b ∷ bs) (p.b0 ∷ p.bs') k 0 0 p.before_alike (let w = l.0 in omega arith)) in
        let like_a : (k : ℕ) → k ≤ length shape.steps → Alike parts (get_or shape.after k 0) (get_or (r a ∷ p.aa') k 0) =
        λ k h. subst (λ vs. Alike parts (get_or vs k 0) (get_or (r a ∷ p.aa') k 0)) (sym ea) (AllZip-get_or (Alike parts) (a ∷ aa) (r a ∷ p.aa') k 0 0 p.after_alike (let w = l.1 in omega arith)) in (
          shape',
          record {
            left = v.left;
            right = v.right;
            used = v.used;
            inside = v.inside;
            counts = p.fit;
            root = λ top. let f = v.root top in record { on_line = f.on_line; before = (like_b (length shape.steps) (omega arith)).zeros.0 f.before; after = (like_a (length shape.steps) (omega arith)).zeros.0 f.after };
            positions = λ k h i d less. same_fit parts (is_root_slot shape k) shape.root_is_child (get_or shape.before k 0) (get_or (p.b0 ∷ p.bs') k 0) (get_or shape.after k 0) (get_or (r a ∷ p.aa') k 0) _ (like_b k h) (like_a k h)
                (in_parts x y shape k _ (Contains-get_or (simples_in x y shape k) i d less)) (v.positions k h i d less);
            empties = v.empties;
            features = v.features;
            ids = v.ids;
            pseudo = v.pseudo;
          },
          record {
            gaps = p.gaps;
            right_gap = reduces.below a;
            before = All-from_recursion (λ n. n < 2 ^ (bounds_of parts).width) (p.b0 ∷ p.bs') (fit_width parts (suc (length shape.steps)) (p.b0 ∷ p.bs') (omega arith) reduces wide p.before_small);
            after = All-from_recursion (λ n. n < 2 ^ (bounds_of parts).width) (r a ∷ p.aa') (fit_width parts (1 + length shape.steps) (r a ∷ p.aa') (omega arith) reduces wide p.after_small);
          },
        )
