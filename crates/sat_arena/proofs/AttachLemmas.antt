-- A clause behind all others keeps an arena.
use Rattle.std.proofs.Common.{◌≡◌, ◌≢◌, ◌+◌, ◌<◌, ◌≤◌, ◌⊎◌, ◌^◌, ◌&&◌, ◌||◌, not, ℕ, cond, eqb, IsTrue, suc, zero, List, [], ◌∷◌, ◌++◌, length, map, replicate, set, get_or, refl, sym, ap, subst, ◌∙◌, inl, inr, arith}
use Rattle.std.specs.List.{Contains}
use Rattle.std.proofs.lemmas.Bool.{cases_Bool, cases_eq, cases_lt, cond-true, cond-false, eq-eqb, ne_eqb, and_parts}
use Rattle.std.proofs.lemmas.List.{get_or-replicate, length-replicate, get_or-set_same, get_or-set_other, length-set, get_or_append_left, get_or-append-add, length-append, length-map, get_or-map}
use Rattle.std.proofs.lemmas.List.Elements.{Contains-append_left, Contains-push, Contains-push_cases}
use Rattle.cnf.specs.declared.lit.Lit.{Lit}
use Rattle.cnf.specs.Lits.{is_below, are_below}
use Rattle.sat_arena.specs.Arena.{WatchedClause, indexes, watch_list, last_or, last_unlike_or, last_watch, next_watch, new_clause, with_new, IsArena}
use Rattle.sat_arena.specs.Links.{Linked, link, firsts_after_attach, link_of_new}
use Rattle.sat_arena.specs.Words.{lits_in, clause_in, list_from, watched_clauses, AreInOrder, IsNumberIn, IsClause, Watches, IsList, IsArenaInside, clause_words}
use Rattle.sat_arena.proofs.Members.{contains-none, contains-here, contains-there, contains-cases, distinct-none, distinct-more}
use Rattle.sat_arena.proofs.LinkLemmas.{linked-same, slot-one, slot-other}
use Rattle.sat_arena.proofs.WordLemmas.{in_order-end, in_order-at, lits_in-same, lits_in-is, clause-eq, list_from-is}
use Rattle.sat_arena.proofs.ReadLemmas.{below-number, start-known, numbered_list, list-at, list-there}
use Rattle.sat_arena.proofs.ModelLemmas.{list-past, is-arena}
use Rattle.sat_arena.proofs.WriteLemmas.{SameHead, head-link}

-- ---- the words in front stay

front : (words p : List ℕ) (i : ℕ) → i < length words → get_or (words ++ p) i 0 ≡ get_or words i 0
front words p i b = get_or_append_left words p 0 i b

front-in_order : (words p : List ℕ) (at : ℕ) (cs : List ℕ) → length words + 5 + get_or (words ++ p) (length words + 4) 0 ≤ length (words ++ p) → AreInOrder words at cs → AreInOrder (words ++ p) at (cs ++ length words ∷ [])
front-in_order words p at [] b s = (s, b)
front-in_order words p at (c ∷ cs) b s =
    let end = in_order-end words (c + 5 + get_or words (c + 4) 0) cs s.1 in
    let P : ℕ → Type 0 = λ x. AreInOrder (words ++ p) (c + 5 + x) (cs ++ length words ∷ []) in
    (s.0, subst P (sym (front words p (c + 4) (omega arith))) (front-in_order words p (c + 5 + get_or words (c + 4) 0) cs b s.1))

front-head : (words p : List ℕ) (d : ℕ) → d + 5 ≤ length words → SameHead words (words ++ p) d
front-head words p d b = record { one = front words p d (omega arith); one_link = front words p (d + 1) (omega arith); other = front words p (d + 2) (omega arith); other_link = front words p (d + 3) (omega arith) }

front-watches : (words p : List ℕ) (d m : ℕ) → d + 5 ≤ length words → (Watches words m d → Watches (words ++ p) m d) × (Watches (words ++ p) m d → Watches words m d)
front-watches words p d m b =
    let e = front-head words p d b in
    let W : ℕ → ℕ → Type 0 = λ a b. (a ≢ b) × ((a ≡ m) ⊎ (b ≡ m)) in (
      λ w. subst (λ x. W x (get_or (words ++ p) (d + 2) 0)) (sym e.one) (subst (λ x. W (get_or words d 0) x) (sym e.other) w),
      λ w. subst (λ x. W x (get_or words (d + 2) 0)) e.one (subst (λ x. W (get_or (words ++ p) d 0) x) e.other w),
    )

front-clause : (vars : ℕ) (words p : List ℕ) (d : ℕ) → d + 5 + get_or words (d + 4) 0 ≤ length words → IsClause vars words d → IsClause vars (words ++ p) d
front-clause vars words p d b q =
    let size = front words p (d + 4) (omega arith) in
    let one = front words p d (omega arith) in
    let other = front words p (d + 2) (omega arith) in
    let number : (x y : ℕ) → y ≡ x → IsNumberIn words d x → IsNumberIn (words ++ p) d y = λ x y e h. let k = h.1 in (h.0, omega (arith, size, k), front words p (d + 5 + h.0) (omega arith) ∙ (h.2 ∙ sym e)) in
    record {
      lits = λ k l. let low : k < get_or words (d + 4) 0 = omega (arith, size, l) in let e = front words p (d + 5 + k) (omega arith) in let f = q.lits k low in omega (arith, e, f);
      one = let f = q.one in omega (arith, one, f);
      other = let f = q.other in omega (arith, other, f);
      two = λ n. let t = q.two (λ e. n (one ∙ (e ∙ sym other))) in (number _ _ one t.0, number _ _ other t.1);
      short = λ e k l. let low : k < get_or words (d + 4) 0 = omega (arith, size, l) in front words p (d + 5 + k) (omega arith) ∙ (q.short (sym one ∙ (e ∙ other)) k low ∙ sym one);
    }

-- ---- the new clause's words

-- the last literal that is different from one: there is none, or it stands among them
unlike-cases : (one other : Lit) (ls : List Lit) → ((last_unlike_or one other ls ≡ other) × ((k : ℕ) (d : Lit) → k < length ls → (get_or ls k d).0 ≡ one.0)) ⊎ ((one.0 ≡ (last_unlike_or one other ls).0 → ⊥) × ((k : ℕ) × (k < length ls) × ((d : Lit) → get_or ls k d ≡ last_unlike_or one other ls)))
unlike-cases one other [] = inl (refl, λ k d b. absurd (omega arith))
unlike-cases one other (l ∷ ls) =
    elim (cases_eq l.0 one.0) [
      | inl e ↦
          let is : last_unlike_or one other (l ∷ ls) ≡ last_unlike_or one other ls = ap (λ x. last_unlike_or one x ls) (cond-true (eqb l.0 one.0) other l (eq-eqb _ _ e)) in
          elim (unlike-cases one other ls) [
            | inl h ↦ inl (is ∙ h.0, λ k d b. first_or k d b e h.1)
            | inr h ↦ inr (λ q. h.0 (q ∙ ap (λ (x : Lit). x.0) is), (suc h.1.0, omega (arith, h.1.1), λ d. h.1.2 d ∙ sym is))
          ]
      | inr ne ↦
          let is : last_unlike_or one other (l ∷ ls) ≡ last_unlike_or one l ls = ap (λ x. last_unlike_or one x ls) (cond-false (eqb l.0 one.0) other l (ne_eqb _ _ ne)) in
          elim (unlike-cases one l ls) [
            | inl h ↦ inr (λ q. ne (sym (q ∙ ap (λ (x : Lit). x.0) (is ∙ h.0))), (0, omega arith, λ d. sym (is ∙ h.0)))
            | inr h ↦ inr (λ q. h.0 (q ∙ ap (λ (x : Lit). x.0) is), (suc h.1.0, omega (arith, h.1.1), λ d. h.1.2 d ∙ sym is))
          ]
    ]
  where
    first_or : (k : ℕ) (d : Lit) → k < length (l ∷ ls) → l.0 ≡ one.0 → ((j : ℕ) (d : Lit) → j < length ls → (get_or ls j d).0 ≡ one.0) → (get_or (l ∷ ls) k d).0 ≡ one.0
    first_or zero d b e h = e
    first_or (suc k) d b e h = h k d (omega arith)

-- the last literal stands among them
last-at : (other l : Lit) (ls : List Lit) → (k : ℕ) × (k < length (l ∷ ls)) × ((d : Lit) → get_or (l ∷ ls) k d ≡ last_or other (l ∷ ls))
last-at other l [] = (0, omega arith, λ d. refl)
last-at other l (m ∷ ms) = let rest = last-at l m ms in let b = rest.1 in (suc rest.0, omega arith, rest.2)

last-there : (ls : List Lit) → 0 < length ls → (k : ℕ) × (k < length ls) × ((d : Lit) → get_or ls k d ≡ last_watch ls)
last-there [] b = absurd (omega arith)
last-there (l ∷ ls) b = last-at (record { 0 = 0 }) l ls

below-at : (vars : ℕ) (ls : List Lit) (k : ℕ) (d : Lit) → IsTrue (are_below vars ls) → k < length ls → IsTrue (is_below vars (get_or ls k d))
below-at vars [] k d h b = absurd (omega arith)
below-at vars (l ∷ ls) zero d h b = (and_parts (is_below vars l) (are_below vars ls) h).0
below-at vars (l ∷ ls) (suc k) d h b = below-at vars ls k d (and_parts (is_below vars l) (are_below vars ls) h).1 (omega arith)

last-small : (vars : ℕ) (ls : List Lit) → vars ≤ 2 ^ 30 → IsTrue (are_below vars ls) → (last_watch ls).0 < 2 ^ 32
last-small vars [] s h = omega arith
last-small vars (l ∷ ls) s h =
    let at = last-at (record { 0 = 0 }) l ls in
    let d : Lit = record { 0 = 0 } in
    let w = below-number vars (get_or (l ∷ ls) at.0 d) (below-at vars (l ∷ ls) at.0 d h at.1) in
    let e = ap (λ (x : Lit). x.0) (at.2 d) in
    omega (arith, w, e, s)

get_or-after_five : (a b c d e : ℕ) (xs : List ℕ) (k : ℕ) → get_or (a ∷ b ∷ c ∷ d ∷ e ∷ xs) (5 + k) 0 ≡ get_or xs k 0
get_or-after_five a b c d e xs k = get_or-append-add (a ∷ b ∷ c ∷ d ∷ e ∷ []) xs k 0

-- the words of a clause that stand behind others
pub record Holds (words p : List ℕ) (ls : List Lit) (one one_link other other_link : ℕ) : Type 0 where
  pub one_at : get_or (words ++ p) (length words) 0 ≡ one
  pub one_link_at : get_or (words ++ p) (length words + 1) 0 ≡ one_link
  pub other_at : get_or (words ++ p) (length words + 2) 0 ≡ other
  pub other_link_at : get_or (words ++ p) (length words + 3) 0 ≡ other_link
  pub size_at : get_or (words ++ p) (length words + 4) 0 ≡ length ls
  pub lits_at : (k : ℕ) (d : Lit) → k < length ls → get_or (words ++ p) (length words + 5 + k) 0 ≡ (get_or ls k d).0
  pub whole : length (words ++ p) ≡ length words + 5 + length ls

clause_words-hold : (words : List ℕ) (ls : List Lit) (one one_link other other_link : ℕ) → Holds words (clause_words ls one one_link other other_link) ls one one_link other other_link
clause_words-hold words ls one one_link other other_link =
    let p = clause_words ls one one_link other other_link in
    let n = length words in
    let zero_at : n + 0 ≡ n = omega arith in
    let P : ℕ → Type 0 = λ i. get_or (words ++ p) i 0 ≡ one in
    record {
      one_at = subst P zero_at (get_or-append-add words p 0 0);
      one_link_at = get_or-append-add words p 1 0;
      other_at = get_or-append-add words p 2 0;
      other_link_at = get_or-append-add words p 3 0;
      size_at = get_or-append-add words p 4 0;
      lits_at = λ k d b. let e : n + (5 + k) ≡ n + 5 + k = omega arith in let Q : ℕ → Type 0 = λ i. get_or (words ++ p) i 0 ≡ (get_or ls k d).0 in subst Q e (get_or-append-add words p (5 + k) 0 ∙ (get_or-after_five one one_link other other_link (length ls) (map (λ (x : Lit). x.0) ls) k ∙ get_or-map (λ (x : Lit). x.0) ls k d 0 b));
      whole = length-append words p ∙ (let m : length (map (λ (x : Lit). x.0) ls) ≡ length ls = simp length-map in omega (arith, m));
    }

-- what follows of the new clause
pub record IsNew (vars : ℕ) (words p : List ℕ) (one other : ℕ) : Type 0 where
  pub clause : IsClause vars (words ++ p) (length words)
  pub inside : length words + 5 + get_or (words ++ p) (length words + 4) 0 ≤ length (words ++ p)
  pub one_is : get_or (words ++ p) (length words) 0 ≡ one
  pub other_is : get_or (words ++ p) (length words + 2) 0 ≡ other

is-new : (vars : ℕ) (words p : List ℕ) (ls : List Lit) (a b : ℕ) → vars ≤ 2 ^ 30 → IsTrue (are_below vars ls) → Holds words p ls (last_watch ls).0 a (next_watch ls).0 b → IsNew vars words p (last_watch ls).0 (next_watch ls).0
is-new vars words p ls a b s h q =
    let n = length words in
    let one = last_watch ls in
    let other = next_watch ls in
    let d0 : Lit = record { 0 = 0 } in
    let size = q.size_at in
    let small : (k : ℕ) → k < length ls → (get_or ls k d0).0 < vars + vars = λ k l. below-number vars (get_or ls k d0) (below-at vars ls k d0 h l) in
    let one_small = last-small vars ls s h in
    let number : (k : ℕ) (x y : ℕ) → k < length ls → (get_or ls k d0).0 ≡ x → y ≡ x → IsNumberIn (words ++ p) n y = λ k x y l e f. (k, omega (arith, size, l), q.lits_at k d0 l ∙ (e ∙ sym f)) in
    record {
      inside = let z = q.whole in omega (arith, z, size);
      one_is = q.one_at;
      other_is = q.other_at;
      clause = record {
        lits = λ k l. let low : k < length ls = omega (arith, size, l) in let e = q.lits_at k d0 low in let f = small k low in omega (arith, e, f);
        one = let e = q.one_at in omega (arith, e, one_small);
        other = elim (unlike-cases one one ls) [
          | inl c ↦ let e = q.other_at in let f = ap (λ (x : Lit). x.0) c.0 in omega (arith, e, f, one_small)
          | inr c ↦ let e = q.other_at in let f = ap (λ (x : Lit). x.0) (c.1.2 d0) in let g = small c.1.0 c.1.1 in omega (arith, e, f, g, s)
        ];
        two = λ ne. elim (unlike-cases one one ls) [
          | inl c ↦ absurd (ne (q.one_at ∙ (sym (ap (λ (x : Lit). x.0) c.0) ∙ sym q.other_at)))
          | inr c ↦ let l = c.1.1 in let l0 : 0 < length ls = omega arith in (let t = last-there ls l0 in number t.0 one.0 _ t.1 (ap (λ (x : Lit). x.0) (t.2 d0)) q.one_at, number c.1.0 other.0 _ c.1.1 (ap (λ (x : Lit). x.0) (c.1.2 d0)) q.other_at)
        ];
        short = λ e k l. elim (unlike-cases one one ls) [
          | inl c ↦ let low : k < length ls = omega (arith, size, l) in q.lits_at k d0 low ∙ (c.1 k d0 low ∙ sym q.one_at)
          | inr c ↦ absurd (c.0 (sym q.one_at ∙ (e ∙ q.other_at)))
        ];
      };
    }

-- ---- the lists

-- a list that the new clause is not in
list-kept : (vars : ℕ) (words p starts : List ℕ) (one other m at : ℕ) (cs : List ℕ) → IsNew vars words p one other → AreInOrder words 1 starts → ((one ≢ other) × ((one ≡ m) ⊎ (other ≡ m)) → ⊥) → IsList words starts m at cs → IsList (words ++ p) (starts ++ length words ∷ []) m at cs
list-kept vars words p starts one other m at cs f s never i =
    let inside : (d : ℕ) → Contains starts d → d + 5 ≤ length words = λ d o. let k = (in_order-at words 1 starts d s o).1 in omega arith in
    record {
      linked = linked-same (link words m) (link (words ++ p) m) 0 at cs (λ d k. head-link words (words ++ p) d m (front-head words p d (inside d (i.only d k).0))) i.linked;
      distinct = i.distinct;
      only = λ d k. let o = i.only d k in (Contains-append_left starts (length words ∷ []) d o.0, (front-watches words p d m (inside d o.0)).0 o.1);
      all = λ d k w. elim (Contains-push_cases starts (length words) d k) [
        | inl o ↦ i.all d o ((front-watches words p d m (inside d o)).1 w)
        | inr q ↦ let W : ℕ → Type 0 = λ x. Watches (words ++ p) m x in let v = subst W (sym q) w in absurd (never (λ z. v.0 (f.one_is ∙ (z ∙ sym f.other_is)), elim v.1 [ inl z ↦ inl (sym f.one_is ∙ z) | inr z ↦ inr (sym f.other_is ∙ z) ]))
      ];
    }

-- and one that it is in
list-more : (vars : ℕ) (words p starts : List ℕ) (one other m at : ℕ) (cs : List ℕ) → IsNew vars words p one other → AreInOrder words 1 starts → (one ≢ other) × ((one ≡ m) ⊎ (other ≡ m)) → link (words ++ p) m (length words) ≡ at → IsList words starts m at cs → IsList (words ++ p) (starts ++ length words ∷ []) m (length words) (length words ∷ cs)
list-more vars words p starts one other m at cs f s w e i =
    let c = length words in
    let inside : (d : ℕ) → Contains starts d → d + 5 ≤ length words = λ d o. let k = (in_order-at words 1 starts d s o).1 in omega arith in
    let own : Watches (words ++ p) m c = (λ z. w.0 (sym f.one_is ∙ (z ∙ f.other_is)), elim w.1 [ inl z ↦ inl (f.one_is ∙ z) | inr z ↦ inr (f.other_is ∙ z) ]) in
    let P : ℕ → Type 0 = λ x. Linked (link (words ++ p) m) 0 x cs in
    record {
      linked = (refl, subst P (sym e) (linked-same (link words m) (link (words ++ p) m) 0 at cs (λ d k. head-link words (words ++ p) d m (front-head words p d (inside d (i.only d k).0))) i.linked));
      distinct = distinct-more c cs (λ k. let b = inside c (i.only c k).0 in omega arith) i.distinct;
      only = λ d k. elim (contains-cases c cs d k) [
        | inl q ↦ let Q : ℕ → Type 0 = λ x. Contains (starts ++ c ∷ []) x × Watches (words ++ p) m x in subst Q q (Contains-push starts c, own)
        | inr o ↦ let j = i.only d o in (Contains-append_left starts (c ∷ []) d j.0, (front-watches words p d m (inside d j.0)).0 j.1)
      ];
      all = λ d k v. elim (Contains-push_cases starts c d k) [
        | inl o ↦ contains-there c cs d (i.all d o ((front-watches words p d m (inside d o)).1 v))
        | inr q ↦ let P : ℕ → Type 0 = λ x. Contains (c ∷ cs) x in subst P q (contains-here c cs)
      ];
    }

-- the heads of the lists afterwards
pub length-firsts_after_attach : (firsts : List ℕ) (c : ℕ) (one other : Lit) → length (firsts_after_attach firsts c one other) ≡ length firsts
length-firsts_after_attach firsts c one other =
    let firsts2 = set (set firsts one.0 c) other.0 c in
    elim (cases_Bool (eqb one.0 other.0)) [
      | inl t ↦ ap length (cond-true (eqb one.0 other.0) firsts firsts2 t)
      | inr t ↦ ap length (cond-false (eqb one.0 other.0) firsts firsts2 t) ∙ (length-set (set firsts one.0 c) other.0 c ∙ length-set firsts one.0 c)
    ]

-- a list with the new clause in front, where that watches its literal, by the numbers of the watches
abbrev with_number : ℕ → ℕ → ℕ → ℕ → List ℕ → List ℕ
with_number one other m c cs = cond (not (eqb one other) && (eqb one m || eqb other m)) (c ∷ cs) cs

number-short : (one other m c : ℕ) (cs : List ℕ) → one ≡ other → with_number one other m c cs ≡ cs
number-short one other m c cs e = rw (eq-eqb one other e) refl

number-one : (one other m c : ℕ) (cs : List ℕ) → (one ≡ other → ⊥) → one ≡ m → with_number one other m c cs ≡ c ∷ cs
number-one one other m c cs ne e = rw (ne_eqb one other ne, eq-eqb one m e) refl

number-other : (one other m c : ℕ) (cs : List ℕ) → (one ≡ other → ⊥) → (one ≡ m → ⊥) → other ≡ m → with_number one other m c cs ≡ c ∷ cs
number-other one other m c cs ne n1 e = rw (ne_eqb one other ne, ne_eqb one m n1, eq-eqb other m e) refl

number-none : (one other m c : ℕ) (cs : List ℕ) → (one ≡ other → ⊥) → (one ≡ m → ⊥) → (other ≡ m → ⊥) → with_number one other m c cs ≡ cs
number-none one other m c cs ne n1 n2 = rw (ne_eqb one other ne, ne_eqb one m n1, ne_eqb other m n2) refl

put : (words starts : List ℕ) (m at at' : ℕ) (cs cs' : List ℕ) → at' ≡ at → cs' ≡ cs → IsList words starts m at cs → IsList words starts m at' cs'
put words starts m at at' cs cs' e f i = let P : ℕ → Type 0 = λ x. IsList words starts m x cs' in subst P (sym e) (subst (IsList words starts m at) (sym f) i)

-- both watches are in range where they are different
new-in_range : (vars : ℕ) (words p : List ℕ) (one other : ℕ) → IsNew vars words p one other → (one ≡ other → ⊥) → (one < vars + vars) × (other < vars + vars)
new-in_range vars words p one other f ne =
    let both = f.clause.two (λ z. ne (sym f.one_is ∙ (z ∙ f.other_is))) in
    let g1 = f.clause.lits both.0.0 both.0.1 in
    let g2 = f.clause.lits both.1.0 both.1.1 in
    let e1 = both.0.2 in
    let e2 = both.1.2 in
    let i1 = f.one_is in
    let i2 = f.other_is in
    (omega (arith, g1, e1, i1), omega (arith, g2, e2, i2))

list-attached : (vars : ℕ) (words firsts starts p : List ℕ) (one other : Lit) (m : ℕ) (ls : List Lit) → IsArenaInside vars words firsts starts → IsNew vars words p one.0 other.0 → Holds words p ls one.0 (link_of_new firsts one other one) other.0 (link_of_new firsts one other other) → m < vars + vars → IsList (words ++ p) (starts ++ length words ∷ []) m (get_or (firsts_after_attach firsts (length words) one other) m 0) (with_number one.0 other.0 m (length words) (numbered_list (watched_clauses vars words firsts starts) m))
list-attached vars words firsts starts p one other m ls h f q bm =
    let c = length words in
    let cs = numbered_list (watched_clauses vars words firsts starts) m in
    let old = list-there vars words firsts starts m h bm in
    let heads = h.heads in
    let firsts2 = set (set firsts one.0 c) other.0 c in
    elim (cases_eq one.0 other.0) [
      | inl e ↦
          put (words ++ p) (starts ++ c ∷ []) m (get_or firsts m 0) _ cs _ (ap (λ xs. get_or xs m 0) (cond-true (eqb one.0 other.0) firsts firsts2 (eq-eqb one.0 other.0 e))) (number-short one.0 other.0 m c cs e)
          (list-kept vars words p starts one.0 other.0 m (get_or firsts m 0) cs f h.in_order (λ w. w.0 e) old)
      | inr ne ↦
          let t = ne_eqb one.0 other.0 ne in
          let heads_are : firsts_after_attach firsts c one other ≡ firsts2 = cond-false (eqb one.0 other.0) firsts firsts2 t in
          let small = new-in_range vars words p one.0 other.0 f ne in
          let size = length-set firsts one.0 c in
          elim (cases_eq one.0 m) [
            | inl e ↦
                let at_c : get_or firsts2 m 0 ≡ c = get_or-set_other (set firsts one.0 c) other.0 m c 0 (λ z. ne (e ∙ z)) ∙ (let P : ℕ → Type 0 = λ x. get_or (set firsts one.0 c) x 0 ≡ c in subst P e (get_or-set_same firsts one.0 c 0 (omega (arith, heads, small.0)))) in
                let next : link (words ++ p) m c ≡ get_or firsts m 0 = ap (λ j. get_or (words ++ p) j 0) (slot-one (words ++ p) m c (q.one_at ∙ e)) ∙ (q.one_link_at ∙ (cond-false (eqb one.0 other.0) 0 (get_or firsts one.0 0) t ∙ ap (λ x. get_or firsts x 0) e)) in
                put (words ++ p) (starts ++ c ∷ []) m c _ (c ∷ cs) _ (ap (λ xs. get_or xs m 0) heads_are ∙ at_c) (number-one one.0 other.0 m c cs ne e)
                (list-more vars words p starts one.0 other.0 m (get_or firsts m 0) cs f h.in_order (ne, inl e) next old)
            | inr n1 ↦
                elim (cases_eq other.0 m) [
                  | inl e ↦
                      let at_c : get_or firsts2 m 0 ≡ c = let P : ℕ → Type 0 = λ x. get_or firsts2 x 0 ≡ c in subst P e (get_or-set_same (set firsts one.0 c) other.0 c 0 (omega (arith, heads, size, small.1))) in
                      let next : link (words ++ p) m c ≡ get_or firsts m 0 = ap (λ j. get_or (words ++ p) j 0) (slot-other (words ++ p) m c (λ z. n1 (sym q.one_at ∙ z))) ∙ (q.other_link_at ∙ (cond-false (eqb one.0 other.0) 0 (get_or firsts other.0 0) t ∙ ap (λ x. get_or firsts x 0) e)) in
                      put (words ++ p) (starts ++ c ∷ []) m c _ (c ∷ cs) _ (ap (λ xs. get_or xs m 0) heads_are ∙ at_c) (number-other one.0 other.0 m c cs ne n1 e)
                      (list-more vars words p starts one.0 other.0 m (get_or firsts m 0) cs f h.in_order (ne, inr e) next old)
                  | inr n2 ↦
                      let same : get_or firsts2 m 0 ≡ get_or firsts m 0 = get_or-set_other (set firsts one.0 c) other.0 m c 0 (λ z. n2 (sym z)) ∙ get_or-set_other firsts one.0 m c 0 (λ z. n1 (sym z)) in
                      put (words ++ p) (starts ++ c ∷ []) m (get_or firsts m 0) _ cs _ (ap (λ xs. get_or xs m 0) heads_are ∙ same) (number-none one.0 other.0 m c cs ne n1 n2)
                      (list-kept vars words p starts one.0 other.0 m (get_or firsts m 0) cs f h.in_order (λ w. elim w.1 [ inl z ↦ n1 z | inr z ↦ n2 z ]) old)
                ]
          ]
    ]

-- a literal out of range is no watch
past-none : (vars : ℕ) (words p : List ℕ) (one other m c : ℕ) → IsNew vars words p one other → vars + vars ≤ m → with_number one other m c [] ≡ []
past-none vars words p one other m c f b =
    elim (cases_eq one other) [
      | inl e ↦ number-short one other m c [] e
      | inr ne ↦
          let small = new-in_range vars words p one other f ne in
          number-none one other m c [] ne (λ q. omega (arith, small.0)) (λ q. omega (arith, small.1))
    ]

-- ---- the clauses

clauses-attached : (words p ds : List ℕ) (ls : List Lit) (a b : ℕ) → Holds words p ls (last_watch ls).0 a (next_watch ls).0 b → ((d : ℕ) → Contains ds d → d + 5 + get_or words (d + 4) 0 ≤ length words) → map (clause_in (words ++ p)) (ds ++ length words ∷ []) ≡ map (clause_in words) ds ++ new_clause (length words) ls ∷ []
clauses-attached words p [] ls a b q f =
    let n = length words in
    let ls_are : lits_in (words ++ p) (n + 5) (get_or (words ++ p) (n + 4) 0) ≡ ls = ap (lits_in (words ++ p) (n + 5)) q.size_at ∙ lits_in-is (words ++ p) (n + 5) ls q.lits_at in
    ap (λ (k : WatchedClause). k ∷ []) (clause-eq n _ _ _ _ _ _ ls_are q.one_at q.other_at)
clauses-attached words p (d ∷ ds) ls a b q f =
    let i = f d (contains-here d ds) in
    let size = front words p (d + 4) (omega arith) in
    let ls_are = ap (lits_in (words ++ p) (d + 5)) size ∙ lits_in-same words (words ++ p) (d + 5) (get_or words (d + 4) 0) (λ k l. front words p (d + 5 + k) (omega arith)) in
    let one : clause_in (words ++ p) d ≡ clause_in words d = clause-eq d _ _ _ _ _ _ ls_are (front words p d (omega arith)) (front words p (d + 2) (omega arith)) in
    ap (λ k. k ∷ map (clause_in (words ++ p)) (ds ++ length words ∷ [])) one ∙ ap (λ ks. clause_in words d ∷ ks) (clauses-attached words p ds ls a b q (λ x k. f x (contains-there d ds x k)))

pub clause_lits-push : (ks : List WatchedClause) (c : ℕ) (ls : List Lit) → map (λ (k : WatchedClause). k.lits) (ks ++ new_clause c ls ∷ []) ≡ map (λ (k : WatchedClause). k.lits) ks ++ ls ∷ []
clause_lits-push [] c ls = refl
clause_lits-push (k ∷ ks) c ls = ap (λ ms. k.lits ∷ ms) (clause_lits-push ks c ls)

-- ---- the whole step

pub record Attached (vars : ℕ) (words firsts starts p : List ℕ) (ls : List Lit) : Type 0 where
  pub inside : IsArenaInside vars (words ++ p) (firsts_after_attach firsts (length words) (last_watch ls) (next_watch ls)) (starts ++ length words ∷ [])
  pub arena : IsArena (watched_clauses vars (words ++ p) (firsts_after_attach firsts (length words) (last_watch ls) (next_watch ls)) (starts ++ length words ∷ []))
  pub clauses : (watched_clauses vars (words ++ p) (firsts_after_attach firsts (length words) (last_watch ls) (next_watch ls)) (starts ++ length words ∷ [])).clauses ≡ (watched_clauses vars words firsts starts).clauses ++ new_clause (length words) ls ∷ []
  pub lists : (l : Lit) → watch_list (watched_clauses vars (words ++ p) (firsts_after_attach firsts (length words) (last_watch ls) (next_watch ls)) (starts ++ length words ∷ [])) l ≡ with_new (length words) ls l (watch_list (watched_clauses vars words firsts starts) l)

attach-done : (vars : ℕ) (words firsts starts p : List ℕ) (ls : List Lit) → IsArenaInside vars words firsts starts → IsTrue (are_below vars ls) → Holds words p ls (last_watch ls).0 (link_of_new firsts (last_watch ls) (next_watch ls) (last_watch ls)) (next_watch ls).0 (link_of_new firsts (last_watch ls) (next_watch ls) (next_watch ls)) → Attached vars words firsts starts p ls
attach-done vars words firsts starts p ls h b q =
    let one = last_watch ls in
    let other = next_watch ls in
    let a = watched_clauses vars words firsts starts in
    let c = length words in
    let f = is-new vars words p ls (link_of_new firsts one other one) (link_of_new firsts one other other) h.small b q in
    let starts2 = starts ++ c ∷ [] in
    let heads = firsts_after_attach firsts c one other in
    let in_order : AreInOrder (words ++ p) 1 starts2 = front-in_order words p 1 starts f.inside h.in_order in
    let size = length-firsts_after_attach firsts c one other in
    let known : (m : ℕ) → m < vars + vars → list_from (words ++ p) m (get_or heads m 0) ≡ with_number one.0 other.0 m c (numbered_list a m) = λ m bm. list_from-is (words ++ p) starts2 m (get_or heads m 0) _ in_order (list-attached vars words firsts starts p one other m ls h f q bm) in
    let inside : IsArenaInside vars (words ++ p) heads starts2 = record {
      small = h.small;
      heads = size ∙ h.heads;
      in_order = in_order;
      clauses = λ d o. elim (Contains-push_cases starts c d o) [
        | inl k ↦ front-clause vars words p d (in_order-at words 1 starts d h.in_order k).1 (h.clauses d k)
        | inr e ↦ let Q : ℕ → Type 0 = λ x. IsClause vars (words ++ p) x in subst Q e f.clause
      ];
      lists = λ m bm. let Q : List ℕ → Type 0 = λ zs. IsList (words ++ p) starts2 m (get_or heads m 0) zs in subst Q (sym (known m bm)) (list-attached vars words firsts starts p one other m ls h f q bm);
    } in
    record {
      inside = inside;
      arena = is-arena vars (words ++ p) heads starts2 inside;
      clauses = clauses-attached words p starts ls _ _ q (λ d k. (in_order-at words 1 starts d h.in_order k).1);
      lists = λ l. elim (cases_lt l.0 (vars + vars)) [
        | inl bm ↦ list-at vars (words ++ p) heads starts2 l.0 (let n = h.heads in omega (arith, n, size, bm)) ∙ known l.0 bm
        | inr over ↦
            let old : numbered_list a l.0 ≡ [] = list-past vars words firsts starts l.0 h.heads over in
            list-past vars (words ++ p) heads starts2 l.0 (size ∙ h.heads) over ∙ sym (ap (with_number one.0 other.0 l.0 c) old ∙ past-none vars words p one.0 other.0 l.0 c f over)
      ];
    }

-- what attaching needs and does
pub record Attaches (vars : ℕ) (words firsts starts p : List ℕ) (ls : List Lit) : Type 0 where
  pub one : (last_watch ls).0 ≢ (next_watch ls).0 → (last_watch ls).0 < length firsts
  pub other : (last_watch ls).0 ≢ (next_watch ls).0 → (next_watch ls).0 < length firsts
  pub fresh : Contains starts (length words) → ⊥
  pub known : Contains (indexes (watched_clauses vars (words ++ p) (firsts_after_attach firsts (length words) (last_watch ls) (next_watch ls)) (starts ++ length words ∷ []))) (length words)
  pub done : Attached vars words firsts starts p ls

pub attaches : (vars : ℕ) (words firsts starts : List ℕ) (ls : List Lit) → IsArenaInside vars words firsts starts → IsTrue (are_below vars ls) → Attaches vars words firsts starts (clause_words ls (last_watch ls).0 (link_of_new firsts (last_watch ls) (next_watch ls) (last_watch ls)) (next_watch ls).0 (link_of_new firsts (last_watch ls) (next_watch ls) (next_watch ls))) ls
attaches vars words firsts starts ls h b =
    let one = last_watch ls in
    let other = next_watch ls in
    let a1 = link_of_new firsts one other one in
    let a2 = link_of_new firsts one other other in
    let p = clause_words ls one.0 a1 other.0 a2 in
    let q = clause_words-hold words ls one.0 a1 other.0 a2 in
    let f = is-new vars words p ls a1 a2 h.small b q in
    let n = h.heads in
    record {
      one = λ ne. let small = (new-in_range vars words p one.0 other.0 f ne).0 in omega (arith, n, small);
      other = λ ne. let small = (new-in_range vars words p one.0 other.0 f ne).1 in omega (arith, n, small);
      fresh = λ o. let k = (in_order-at words 1 starts (length words) h.in_order o).1 in omega arith;
      known = start-known vars (words ++ p) (firsts_after_attach firsts (length words) one other) (starts ++ length words ∷ []) (length words) (Contains-push starts (length words));
      done = attach-done vars words firsts starts p ls h b q;
    }

-- an arena without clauses
pub empty-inside : (vars : ℕ) (words firsts starts : List ℕ) → vars ≤ 2 ^ 30 → words ≡ 0 ∷ [] → firsts ≡ replicate (vars + vars) 0 → starts ≡ [] → IsArenaInside vars words firsts starts
empty-inside vars words firsts starts s e f g =
    rw (e, f, g) (record {
      small = s;
      heads = length-replicate (vars + vars) 0;
      in_order = omega arith;
      clauses = λ c o. absurd (contains-none c o);
      lists = λ l b.
          let at : ◌≡◌ {A = ℕ} (get_or (replicate {A = ℕ} (vars + vars) 0) l 0) 0 = get_or-replicate (vars + vars) l 0 0 b in
          let P : ℕ → Type 0 = λ x. IsList (0 ∷ []) [] l x (list_from (0 ∷ []) l x) in
          subst P (sym at) (record { linked = refl; distinct = distinct-none; only = λ c o. absurd (contains-none c o); all = λ c o w. absurd (contains-none c o) });
    })
