-- Numbers of siblings along steps, with every gap made small.
use Rattle.std.proofs.Common.{List, [], arith, length, refl, subst, suc, sym, ℕ, ◌*◌, ◌+◌, ◌<◌, ◌∷◌, ◌≤◌}
use Rattle.std.specs.List.{AllByRecursion, AllZip}
use Rattle.css_model.specs.declared.position.AnB.{AnB}
use Rattle.slot_plan.specs.Counts.{CountsFit}
use Rattle.slot_plan.specs.declared.shape.SlotStep.{SlotStep}
use Rattle.slot_plan.specs.declared.shape.SlotStep.TheVariants.{Further, NextTo, UpMore, UpOne}
use Rattle.shape_laws.proofs.Gaps.Alike.{Alike, Reduces, gap_alike, more_alike, next_alike}
use Rattle.shape_laws.specs.Shrinking.{GapsBelow}

-- the counts with every gap made small; n slots of the row may stand to the right
pub record Pumped (parts : List AnB) (bound n : ℕ) (ss : List SlotStep) (b : ℕ) (bs : List ℕ) (a : ℕ) (aa : List ℕ) (a0 : ℕ) : Type 0 where
  pub b0 : ℕ
  pub bs' : List ℕ
  pub aa' : List ℕ
  pub fit : CountsFit ss (b0 ∷ bs') (a0 ∷ aa')
  pub gaps : GapsBelow bound ss (b0 ∷ bs') (a0 ∷ aa')
  pub before_alike : AllZip (Alike parts) (b ∷ bs) (b0 ∷ bs')
  pub after_alike : AllZip (Alike parts) (a ∷ aa) (a0 ∷ aa')
  pub before_small : AllByRecursion (λ m. m < suc (length ss) * bound) (b0 ∷ bs')
  pub after_small : AllByRecursion (λ m. m < (n + length ss) * bound) (a0 ∷ aa')

-- a greater bound
weaker : (m n : ℕ) (ks : List ℕ) → m ≤ n → AllByRecursion (λ k. k < m) ks → AllByRecursion (λ k. k < n) ks
weaker m n [] h _ = tt
weaker m n (k ∷ ks) h (here, more) = (omega arith, weaker m n ks h more)

-- One recursion along the steps: the numbers behind are made on the way in, those before on the way out. Each
-- gap is reduced by r, so each number, a sum of gaps, keeps what the parts can tell of it.
pub pump : (parts : List AnB) (bound : ℕ) (r : ℕ → ℕ) → Reduces parts bound r → (n : ℕ) (ss : List SlotStep) (b : ℕ) (bs : List ℕ) (a : ℕ) (aa : List ℕ) (a0 : ℕ) →
    CountsFit ss (b ∷ bs) (a ∷ aa) → Alike parts a a0 → a0 < n * bound → Pumped parts bound n ss b bs a aa a0
pump parts bound r red n [] b [] a [] a0 fit like small = record {
  b0 = r b;
  bs' = [];
  aa' = [];
  fit = tt;
  gaps = red.below b;
  before_alike = (gap_alike parts bound r red b, tt);
  after_alike = (like, tt);
  before_small = ((let h = red.below b in omega arith), tt);
  after_small = (omega arith, tt);
}
pump parts bound r red n [] b [] a (a' ∷ aa) a0 fit like small = absurd fit
pump parts bound r red n [] b (b' ∷ bs) a aa a0 fit like small = absurd fit
pump parts bound r red n (s ∷ ss) b [] a aa a0 fit like small = absurd fit
pump parts bound r red n (s ∷ ss) b (b' ∷ bs) a [] a0 fit like small = absurd fit
pump parts bound r red n (NextTo ∷ ss) b (b' ∷ bs) a (a' ∷ aa) a0 (step, fit) like small =
    let h = red.below 0 in
    let rest = pump parts bound r red (suc n) ss b' bs a' aa (suc a0) fit (subst (λ m. Alike parts m (suc a0)) (sym step.1) (next_alike parts a a0 like)) (omega arith) in
    record {
      b0 = suc rest.b0;
      bs' = rest.b0 ∷ rest.bs';
      aa' = suc a0 ∷ rest.aa';
      fit = ((refl, refl), rest.fit);
      gaps = (tt, rest.gaps);
      before_alike = (subst (λ m. Alike parts m (suc rest.b0)) (sym step.0) (next_alike parts b' rest.b0 rest.before_alike.0), rest.before_alike);
      after_alike = (like, rest.after_alike);
      before_small = ((let m = rest.before_small.0 in omega arith), weaker (suc (length ss) * bound) (suc (suc (length ss)) * bound) (rest.b0 ∷ rest.bs') (omega arith) rest.before_small);
      after_small = (omega arith, weaker ((suc n + length ss) * bound) ((n + suc (length ss)) * bound) (suc a0 ∷ rest.aa') (omega arith) rest.after_small);
    }
pump parts bound r red n (Further ∷ ss) b (b' ∷ bs) a (a' ∷ aa) a0 ((gap, some, is, is'), fit) like small =
    let h = red.below gap in
    let more = more_alike parts bound r red a a0 gap like in
    let rest = pump parts bound r red (suc n) ss b' bs a' aa (a0 + suc (r gap)) fit (subst (λ m. Alike parts m (a0 + suc (r gap))) (sym is') more) (omega arith) in
    record {
      b0 = rest.b0 + suc (r gap);
      bs' = rest.b0 ∷ rest.bs';
      aa' = (a0 + suc (r gap)) ∷ rest.aa';
      fit = ((r gap, (let z = red.zeros gap in grind (arith, z)), refl, refl), rest.fit);
      gaps = (omega arith, rest.gaps);
      before_alike = (subst (λ m. Alike parts m (rest.b0 + suc (r gap))) (sym is) (more_alike parts bound r red b' rest.b0 gap rest.before_alike.0), rest.before_alike);
      after_alike = (like, rest.after_alike);
      before_small = ((let m = rest.before_small.0 in omega arith), weaker (suc (length ss) * bound) (suc (suc (length ss)) * bound) (rest.b0 ∷ rest.bs') (omega arith) rest.before_small);
      after_small = (omega arith, weaker ((suc n + length ss) * bound) ((n + suc (length ss)) * bound) ((a0 + suc (r gap)) ∷ rest.aa') (omega arith) rest.after_small);
    }
pump parts bound r red n (UpOne ∷ ss) b (b' ∷ bs) a (a' ∷ aa) a0 (step, fit) like small =
    let h = red.below b in let h' = red.below a' in
    let rest = pump parts bound r red (suc n) ss b' bs a' aa (r a') fit (gap_alike parts bound r red a') (omega arith) in
    record {
      b0 = r b;
      bs' = rest.b0 ∷ rest.bs';
      aa' = r a' ∷ rest.aa';
      fit = (tt, rest.fit);
      gaps = ((h, h'), rest.gaps);
      before_alike = (gap_alike parts bound r red b, rest.before_alike);
      after_alike = (like, rest.after_alike);
      before_small = (omega arith, weaker (suc (length ss) * bound) (suc (suc (length ss)) * bound) (rest.b0 ∷ rest.bs') (omega arith) rest.before_small);
      after_small = (omega arith, weaker ((suc n + length ss) * bound) ((n + suc (length ss)) * bound) (r a' ∷ rest.aa') (omega arith) rest.after_small);
    }
pump parts bound r red n (UpMore ∷ ss) b (b' ∷ bs) a (a' ∷ aa) a0 (step, fit) like small =
    let h = red.below b in let h' = red.below a' in
    let rest = pump parts bound r red (suc n) ss b' bs a' aa (r a') fit (gap_alike parts bound r red a') (omega arith) in
    record {
      b0 = r b;
      bs' = rest.b0 ∷ rest.bs';
      aa' = r a' ∷ rest.aa';
      fit = (tt, rest.fit);
      gaps = ((h, h'), rest.gaps);
      before_alike = (gap_alike parts bound r red b, rest.before_alike);
      after_alike = (like, rest.after_alike);
      before_small = (omega arith, weaker (suc (length ss) * bound) (suc (suc (length ss)) * bound) (rest.b0 ∷ rest.bs') (omega arith) rest.before_small);
      after_small = (omega arith, weaker ((suc n + length ss) * bound) ((n + suc (length ss)) * bound) (r a' ∷ rest.aa') (omega arith) rest.after_small);
    }
