-- The writes of a move: the cut out of the old list, and the clause's new watch with its link.
use Rattle.std.proofs.Common.{◌≡◌, ◌+◌, ◌-◌, ◌<◌, ◌≤◌, ℕ, List, length, set, get_or, refl, sym, ap, subst, ◌∙◌, inl, inr, arith}
use Rattle.std.specs.List.{Contains}
use Rattle.std.proofs.lemmas.Bool.{cases_eq}
use Rattle.std.proofs.lemmas.List.{get_or-set_same, get_or-set_other, length-set}
use Rattle.sat_arena.specs.Links.{slot, link}
use Rattle.sat_arena.specs.Words.{AreInOrder, Watches}
use Rattle.sat_arena.proofs.LinkLemmas.{slot-cases, slot-one, slot-other, link-set_other}
use Rattle.sat_arena.proofs.WordLemmas.{in_order-at, in_order-same}
use Rattle.sat_arena.proofs.WriteLemmas.{SameHead, SameBodies, head-then, head-link, head-set, bodies-size, bodies-then, bodies-set}
use Rattle.sat_arena.proofs.MoveLemmas.{Moved}

-- what the words say after the cut
pub record Cut (words between starts : List ℕ) (c lit : ℕ) : Type 0 where
  pub bodies : SameBodies words between starts
  pub heads : (d : ℕ) → Contains starts d → (get_or between d 0 ≡ get_or words d 0) × (get_or between (d + 2) 0 ≡ get_or words (d + 2) 0)
  pub own : SameHead words between c
  pub links : (d m : ℕ) → Contains starts d → Watches words m d → (m ≡ lit → ⊥) → link between m d ≡ link words m d

-- at a list's head no word is written
pub cut-head : (words starts : List ℕ) (c lit : ℕ) → Cut words words starts c lit
cut-head words starts c lit = record {
  bodies = record { size = refl; rest = λ d k h l. refl };
  heads = λ d h. (refl, refl);
  own = record { one = refl; one_link = refl; other = refl; other_link = refl };
  links = λ d m h w n. refl;
}

pub cut-behind : (words starts : List ℕ) (p c lit v : ℕ) → AreInOrder words 1 starts → Contains starts p → Contains starts c → (c ≡ p → ⊥) → Watches words lit p → Cut words (set words (slot words lit p) v) starts c lit
cut-behind words starts p c lit v s hp hc ne w =
    let i = slot words lit p in
    let low : p ≤ i = elim (slot-cases words lit p) [ inl e ↦ omega arith | inr e ↦ omega arith ] in
    let high : i < p + 4 = elim (slot-cases words lit p) [ inl e ↦ omega arith | inr e ↦ omega arith ] in
    let not_one : p ≡ i → ⊥ = elim (slot-cases words lit p) [ inl e ↦ λ q. omega arith | inr e ↦ λ q. omega arith ] in
    let not_other : p + 2 ≡ i → ⊥ = elim (slot-cases words lit p) [ inl e ↦ λ q. omega arith | inr e ↦ λ q. omega arith ] in
    record {
      bodies = bodies-set words starts p i v s hp low high;
      heads = λ d h. elim (cases_eq d p) [
        | inl e ↦ let P : ℕ → Type 0 = λ x. (get_or (set words i v) x 0 ≡ get_or words x 0) × (get_or (set words i v) (x + 2) 0 ≡ get_or words (x + 2) 0) in subst P (sym e) (get_or-set_other words i p v 0 not_one, get_or-set_other words i (p + 2) v 0 not_other)
        | inr n ↦ let k = head-set words starts p i v d s hp low high h n in (k.one, k.other)
      ];
      own = head-set words starts p i v c s hp low high hc ne;
      links = λ d m h wd nm. elim (cases_eq d p) [
        | inl e ↦
            let wm : Watches words m p = subst (Watches words m) e wd in
            let P : ℕ → Type 0 = λ x. link (set words i v) m x ≡ link words m x in
            subst P (sym e) (elim w.1 [
              | inl a ↦ (link-set_other words lit m p v a (λ q. nm (sym q))).0
              | inr b ↦ elim wm.1 [
                | inl a ↦ (link-set_other words m lit p v a nm).1
                | inr b' ↦ absurd (nm (sym b' ∙ b))
              ]
            ])
        | inr n ↦ head-link words (set words i v) d m (head-set words starts p i v d s hp low high h n)
      ];
    }

-- what the words say after all writes
pub record Written (words between after starts : List ℕ) (c lit to head : ℕ) : Type 0 where
  pub moved : Moved words after starts c lit to
  pub front : link after to c ≡ head
  pub far : (d : ℕ) → Contains starts d → (d ≡ c → ⊥) → SameHead between after d

-- the two writes to the clause, the first of which is at place w
two-writes : (words between starts : List ℕ) (c w lit to head : ℕ) → AreInOrder words 1 starts → Contains starts c → Cut words between starts c lit → c ≤ w → w + 1 < c + 4 → SameBodies words (set (set between w to) (w + 1) head) starts × ((d : ℕ) → Contains starts d → (d ≡ c → ⊥) → SameHead between (set (set between w to) (w + 1) head) d)
two-writes words between starts c w lit to head s hc k low high =
    let s1 = in_order-same words between 1 starts k.bodies.size (λ d h. bodies-size words between starts d k.bodies h) s in
    let b1 = bodies-set between starts c w to s1 hc low (omega arith) in
    let s2 = in_order-same between (set between w to) 1 starts b1.size (λ d h. bodies-size between (set between w to) starts d b1 h) s1 in
    let b2 = bodies-set (set between w to) starts c (w + 1) head s2 hc (omega arith) high in (
      bodies-then words between (set (set between w to) (w + 1) head) starts k.bodies (bodies-then between (set between w to) (set (set between w to) (w + 1) head) starts b1 b2),
      λ d h ne. head-then between (set between w to) (set (set between w to) (w + 1) head) d (head-set between starts c w to d s1 hc low (omega arith) h ne) (head-set (set between w to) starts c (w + 1) head d s2 hc (omega arith) high h ne),
    )

both-heads : (words between after starts : List ℕ) (c lit : ℕ) → Cut words between starts c lit → ((d : ℕ) → Contains starts d → (d ≡ c → ⊥) → SameHead between after d) → (d : ℕ) → Contains starts d → (d ≡ c → ⊥) → (get_or after d 0 ≡ get_or words d 0) × (get_or after (d + 2) 0 ≡ get_or words (d + 2) 0)
both-heads words between after starts c lit k f d h ne = let g = f d h ne in let e = k.heads d h in (g.one ∙ e.0, g.other ∙ e.1)

pub written : (words between starts : List ℕ) (c lit to head : ℕ) → AreInOrder words 1 starts → Contains starts c → Cut words between starts c lit → Watches words lit c → (get_or words c 0 ≡ to → ⊥) → (get_or words (c + 2) 0 ≡ to → ⊥) → Written words between (set (set between (slot words lit c - 1) to) (slot words lit c) head) starts c lit to head
written words between starts c lit to head s hc k w new_one new_other =
    let inside = (in_order-at words 1 starts c s hc).1 in
    let size = k.bodies.size in
    elim (cases_eq (get_or words c 0) lit) [
      | inl is ↦
          let P : ℕ → Type 0 = λ i. Written words between (set (set between (i - 1) to) i head) starts c lit to head in
          let e1 : c + 1 - 1 ≡ c = omega arith in
          let Q : ℕ → Type 0 = λ j. Written words between (set (set between j to) (c + 1) head) starts c lit to head in
          subst P (sym (slot-one words lit c is)) (subst Q (sym e1) (first is inside size))
      | inr isnt ↦
          let P : ℕ → Type 0 = λ i. Written words between (set (set between (i - 1) to) i head) starts c lit to head in
          let e1 : c + 3 - 1 ≡ c + 2 = omega arith in
          let e3 : c + 2 + 1 ≡ c + 3 = omega arith in
          let Q : ℕ → Type 0 = λ j. Written words between (set (set between j to) (c + 3) head) starts c lit to head in
          let R : ℕ → Type 0 = λ j. Written words between (set (set between (c + 2) to) j head) starts c lit to head in
          subst P (sym (slot-other words lit c isnt)) (subst Q (sym e1) (subst R e3 (second (elim w.1 [ inl q ↦ absurd (isnt q) | inr q ↦ q ]) isnt inside size)))
    ]
  where
    first : get_or words c 0 ≡ lit → c + 5 + get_or words (c + 4) 0 ≤ length words → length between ≡ length words → Written words between (set (set between c to) (c + 1) head) starts c lit to head
    first is inside size =
        let mid = set between c to in
        let after = set mid (c + 1) head in
        let n : length mid ≡ length between = length-set between c to in
        let at_c : get_or after c 0 ≡ to = get_or-set_other mid (c + 1) c head 0 (λ q. omega arith) ∙ get_or-set_same between c to 0 (omega arith) in
        let at_1 : get_or after (c + 1) 0 ≡ head = get_or-set_same mid (c + 1) head 0 (omega arith) in
        let at_2 : get_or after (c + 2) 0 ≡ get_or words (c + 2) 0 = get_or-set_other mid (c + 1) (c + 2) head 0 (λ q. omega arith) ∙ (get_or-set_other between c (c + 2) to 0 (λ q. omega arith) ∙ k.own.other) in
        let at_3 : get_or after (c + 3) 0 ≡ get_or words (c + 3) 0 = get_or-set_other mid (c + 1) (c + 3) head 0 (λ q. omega arith) ∙ (get_or-set_other between c (c + 3) to 0 (λ q. omega arith) ∙ k.own.other_link) in
        let both = two-writes words between starts c c lit to head s hc k (omega arith) (omega arith) in
        record {
          moved = record {
            there = hc;
            two = w.0;
            new_one = new_one;
            new_other = new_other;
            bodies = both.0;
            heads = both-heads words between after starts c lit k both.1;
            own = inl (is, (at_c, at_2));
            links = λ d m h wd nm. elim (cases_eq d c) [
              | inl e ↦
                  let wm : Watches words m c = subst (Watches words m) e wd in
                  let m_is : get_or words (c + 2) 0 ≡ m = elim wm.1 [ inl q ↦ absurd (nm (sym q ∙ is)) | inr q ↦ q ] in
                  let s_after : slot after m c ≡ c + 3 = slot-other after m c (λ q. new_other (m_is ∙ (sym q ∙ at_c))) in
                  let s_words : slot words m c ≡ c + 3 = slot-other words m c (λ q. nm (sym q ∙ is)) in
                  let P : ℕ → Type 0 = λ x. link after m x ≡ link words m x in
                  subst P (sym e) (ap (λ i. get_or after i 0) s_after ∙ (at_3 ∙ sym (ap (λ i. get_or words i 0) s_words)))
              | inr ne ↦ head-link between after d m (both.1 d h ne) ∙ k.links d m h wd nm
            ];
          };
          front = ap (λ i. get_or after i 0) (slot-one after to c at_c) ∙ at_1;
          far = both.1;
        }

    second : get_or words (c + 2) 0 ≡ lit → (get_or words c 0 ≡ lit → ⊥) → c + 5 + get_or words (c + 4) 0 ≤ length words → length between ≡ length words → Written words between (set (set between (c + 2) to) (c + 2 + 1) head) starts c lit to head
    second is isnt inside size =
        let mid = set between (c + 2) to in
        let after = set mid (c + 2 + 1) head in
        let n : length mid ≡ length between = length-set between (c + 2) to in
        let at_c : get_or after c 0 ≡ get_or words c 0 = get_or-set_other mid (c + 2 + 1) c head 0 (λ q. omega arith) ∙ (get_or-set_other between (c + 2) c to 0 (λ q. omega arith) ∙ k.own.one) in
        let at_1 : get_or after (c + 1) 0 ≡ get_or words (c + 1) 0 = get_or-set_other mid (c + 2 + 1) (c + 1) head 0 (λ q. omega arith) ∙ (get_or-set_other between (c + 2) (c + 1) to 0 (λ q. omega arith) ∙ k.own.one_link) in
        let at_2 : get_or after (c + 2) 0 ≡ to = get_or-set_other mid (c + 2 + 1) (c + 2) head 0 (λ q. omega arith) ∙ get_or-set_same between (c + 2) to 0 (omega arith) in
        let at_3 : get_or after (c + 2 + 1) 0 ≡ head = get_or-set_same mid (c + 2 + 1) head 0 (omega arith) in
        let both = two-writes words between starts c (c + 2) lit to head s hc k (omega arith) (omega arith) in
        let three : c + 3 ≡ c + 2 + 1 = omega arith in
        record {
          moved = record {
            there = hc;
            two = w.0;
            new_one = new_one;
            new_other = new_other;
            bodies = both.0;
            heads = both-heads words between after starts c lit k both.1;
            own = inr (is, (at_c, at_2));
            links = λ d m h wd nm. elim (cases_eq d c) [
              | inl e ↦
                  let wm : Watches words m c = subst (Watches words m) e wd in
                  let m_is : get_or words c 0 ≡ m = elim wm.1 [ inl q ↦ q | inr q ↦ absurd (nm (sym q ∙ is)) ] in
                  let s_after : slot after m c ≡ c + 1 = slot-one after m c (at_c ∙ m_is) in
                  let s_words : slot words m c ≡ c + 1 = slot-one words m c m_is in
                  let P : ℕ → Type 0 = λ x. link after m x ≡ link words m x in
                  subst P (sym e) (ap (λ i. get_or after i 0) s_after ∙ (at_1 ∙ sym (ap (λ i. get_or words i 0) s_words)))
              | inr ne ↦ head-link between after d m (both.1 d h ne) ∙ k.links d m h wd nm
            ];
          };
          front = ap (λ i. get_or after i 0) (slot-other after to c (λ q. new_one (sym at_c ∙ q))) ∙ (ap (λ i. get_or after i 0) three ∙ at_3);
          far = both.1;
        }
