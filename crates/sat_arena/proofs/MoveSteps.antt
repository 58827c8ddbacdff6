-- A move keeps the invariant of an arena, and what it does to the model.
use Rattle.std.proofs.Common.{◌≡◌, ◌≢◌, ◌+◌, ◌<◌, ◌≤◌, ◌^◌, ℕ, cond, eqb, IsTrue, Option, None, Some, List, [], ◌∷◌, ◌++◌, length, map, set, get_or, refl, sym, ap, subst, ◌∙◌, inl, inr, arith, append_assoc}
use Rattle.std.specs.Prelude.{MatchOption}
use Rattle.std.specs.List.{Contains, IsDistinct}
use Rattle.std.proofs.lemmas.Bool.{cases_eq, cases_lt, cond-true, cond-false, eq-eqb, ne_eqb}
use Rattle.std.proofs.lemmas.List.{get_or-set_same, get_or-set_other, length-set}
use Rattle.cnf.specs.declared.lit.Lit.{Lit}
use Rattle.cnf.specs.Lits.{is_below, is_among}
use Rattle.sat_arena.specs.Arena.{WatchedClause, clause_at, watch_list, IsWatching, IsArena, with_watch, IsBehind, without}
use Rattle.sat_arena.specs.Links.{Linked, slot, link, words_after_move, firsts_after_move}
use Rattle.sat_arena.specs.Words.{lits_in, clause_in, list_from, watched_clauses, AreInOrder, IsNumberIn, IsClause, Watches, IsList, IsArenaInside}
use Rattle.sat_arena.proofs.Members.{contains-here, contains-there, contains-middle, contains-wider, distinct-without, without-middle}
use Rattle.sat_arena.proofs.LinkLemmas.{linked-same, linked-behind, slot-cases, link-set}
use Rattle.sat_arena.proofs.WordLemmas.{in_order-at, in_order-same, lit-ap, lits_in-same, clause-eq, list_from-is}
use Rattle.sat_arena.proofs.ReadLemmas.{below-number, numbered_list, clause-inside, clause_at-is, list-at, list-there}
use Rattle.sat_arena.proofs.ModelLemmas.{number-from_among, watching-from_words, list-past, is-arena}
use Rattle.sat_arena.proofs.WriteLemmas.{SameBodies, head-link, head-set, bodies-size, bodies-lit}
use Rattle.sat_arena.proofs.MoveLemmas.{Moved, moved-other, moved-to, moved-from}
use Rattle.sat_arena.proofs.MoveWrites.{cut-head, cut-behind, written}

-- ---- the clauses in the words

number-same : (words after starts : List ℕ) (d l : ℕ) → SameBodies words after starts → Contains starts d → IsNumberIn words d l → IsNumberIn after d l
number-same words after starts d l b o h =
    let size = bodies-size words after starts d b o in
    let below = h.1 in
    (h.0, omega (arith, size, below), bodies-lit words after starts d h.0 b o h.1 ∙ h.2)

clause-from : (vars : ℕ) (words after starts : List ℕ) (d : ℕ) → SameBodies words after starts → Contains starts d → IsClause vars words d → get_or after d 0 < 2 ^ 32 → get_or after (d + 2) 0 < 2 ^ 32 → (get_or after d 0 ≢ get_or after (d + 2) 0 → IsNumberIn words d (get_or after d 0) × IsNumberIn words d (get_or after (d + 2) 0)) → (get_or after d 0 ≡ get_or after (d + 2) 0 → (get_or words d 0 ≡ get_or words (d + 2) 0) × (get_or after d 0 ≡ get_or words d 0)) → IsClause vars after d
clause-from vars words after starts d b o p one other two short =
    let size = bodies-size words after starts d b o in
    record {
      lits = λ k l. let below : k < get_or words (d + 4) 0 = omega (arith, size, l) in let e = bodies-lit words after starts d k b o below in let q = p.lits k below in omega (arith, e, q);
      one = one;
      other = other;
      two = λ n. let t = two n in (number-same words after starts d _ b o t.0, number-same words after starts d _ b o t.1);
      short = λ e k l. let below : k < get_or words (d + 4) 0 = omega (arith, size, l) in let s = short e in bodies-lit words after starts d k b o below ∙ (p.short s.0 k below ∙ sym s.1);
    }

clause-moved : (vars : ℕ) (words after starts : List ℕ) (c lit to d : ℕ) → Moved words after starts c lit to → vars ≤ 2 ^ 30 → IsNumberIn words c to → ((x : ℕ) → Contains starts x → IsClause vars words x) → Contains starts d → IsClause vars after d
clause-moved vars words after starts c lit to d v small h p o =
    elim (cases_eq d c) [
      | inr ne ↦
          let e = v.heads d o ne in
          let q = p d o in
          let P : ℕ → Type 0 = λ x. IsNumberIn words d x in
          clause-from vars words after starts d v.bodies o q (let k = q.one in omega (arith, e.0, k)) (let k = q.other in omega (arith, e.1, k))
          (λ n. let t = q.two (λ s. n (e.0 ∙ (s ∙ sym e.1))) in (subst P (sym e.0) t.0, subst P (sym e.1) t.1))
          (λ s. (sym e.0 ∙ (s ∙ e.1), e.0))
      | inl same ↦
          let Q : ℕ → Type 0 = λ x. IsClause vars after x in
          subst Q (sym same) (own (p c v.there))
    ]
  where
    own : IsClause vars words c → IsClause vars after c
    own q =
        let t = q.two v.two in
        let to_small : to < vars + vars = let k = q.lits h.0 h.1 in let e = h.2 in omega (arith, k, e) in
        let P : ℕ → Type 0 = λ x. IsNumberIn words c x in
        let one = q.one in
        let other = q.other in
        elim v.own [
          | inl w ↦
              clause-from vars words after starts c v.bodies v.there q (let e = w.1.0 in omega (arith, e, to_small, small)) (let e = w.1.1 in omega (arith, e, other))
              (λ n. (subst P (sym w.1.0) h, subst P (sym w.1.1) t.1))
              (λ s. absurd (v.new_other (sym w.1.1 ∙ (sym s ∙ w.1.0))))
          | inr w ↦
              clause-from vars words after starts c v.bodies v.there q (let e = w.1.0 in omega (arith, e, one)) (let e = w.1.1 in omega (arith, e, to_small, small))
              (λ n. (subst P (sym w.1.0) t.0, subst P (sym w.1.1) h))
              (λ s. absurd (v.new_one (sym w.1.0 ∙ (s ∙ w.1.1))))
        ]

-- ---- the clauses of the model

lits-same : (words after starts : List ℕ) (d : ℕ) → SameBodies words after starts → Contains starts d → lits_in after (d + 5) (get_or after (d + 4) 0) ≡ lits_in words (d + 5) (get_or words (d + 4) 0)
lits-same words after starts d b o = ap (lits_in after (d + 5)) (bodies-size words after starts d b o) ∙ lits_in-same words after (d + 5) (get_or words (d + 4) 0) (λ k l. bodies-lit words after starts d k b o l)

clause_in-moved : (words after starts : List ℕ) (c d : ℕ) (lit to : Lit) → Moved words after starts c lit.0 to.0 → Contains starts d → clause_in after d ≡ with_watch c lit to (clause_in words d)
clause_in-moved words after starts c d lit to v o =
    let old = clause_in words d in
    let ls = lits-same words after starts d v.bodies o in
    let inner = cond (eqb (get_or words d 0) lit.0) (record old { one = to }) (record old { other = to }) in
    elim (cases_eq d c) [
      | inr ne ↦
          let e = v.heads d o ne in
          clause-eq d _ _ _ _ _ _ ls e.0 e.1 ∙ sym (cond-false (eqb d c) inner old (ne_eqb d c ne))
      | inl same ↦
          let P : ℕ → Type 0 = λ x. clause_in after x ≡ cond (eqb (get_or words x 0) lit.0) (record (clause_in words x) { one = to }) (record (clause_in words x) { other = to }) in
          subst P (sym same) (own (lits-same words after starts c v.bodies v.there)) ∙ sym (cond-true (eqb d c) inner old (eq-eqb d c same))
    ]
  where
    own : lits_in after (c + 5) (get_or after (c + 4) 0) ≡ lits_in words (c + 5) (get_or words (c + 4) 0) → clause_in after c ≡ cond (eqb (get_or words c 0) lit.0) (record (clause_in words c) { one = to }) (record (clause_in words c) { other = to })
    own ls =
        let one = record (clause_in words c) { one = to } in
        let other = record (clause_in words c) { other = to } in
        elim v.own [
          | inl w ↦ clause-eq c _ _ _ _ _ _ ls w.1.0 w.1.1 ∙ sym (cond-true (eqb (get_or words c 0) lit.0) one other (eq-eqb _ _ w.0))
          | inr w ↦ clause-eq c _ _ _ _ _ _ ls w.1.0 w.1.1 ∙ sym (cond-false (eqb (get_or words c 0) lit.0) one other (ne_eqb _ _ (λ q. v.two (q ∙ sym w.0))))
        ]

clauses-moved : (words after starts ds : List ℕ) (c : ℕ) (lit to : Lit) → Moved words after starts c lit.0 to.0 → ((d : ℕ) → Contains ds d → Contains starts d) → map (clause_in after) ds ≡ map (with_watch c lit to) (map (clause_in words) ds)
clauses-moved words after starts [] c lit to v f = refl
clauses-moved words after starts (d ∷ ds) c lit to v f =
    ap (λ k. k ∷ map (clause_in after) ds) (clause_in-moved words after starts c d lit to v (f d (contains-here d ds)))
    ∙ ap (λ ks. with_watch c lit to (clause_in words d) ∷ ks) (clauses-moved words after starts ds c lit to v (λ x k. f x (contains-there d ds x k)))

-- ---- the whole move, in the words

record Stepped (words after firsts heads starts : List ℕ) (c l to : ℕ) (cs : List ℕ) : Type 0 where
  moved : Moved words after starts c l to
  front : link after to c ≡ get_or firsts to 0
  left : List ℕ
  right : List ℕ
  parts : cs ≡ left ++ c ∷ right
  linked : Linked (link after l) 0 (get_or heads l 0) (left ++ right)
  head_to : get_or heads to 0 ≡ c
  others : (m : ℕ) → (m ≡ l → ⊥) → (m ≡ to → ⊥) → get_or heads m 0 ≡ get_or firsts m 0
  heads_size : length heads ≡ length firsts

-- the clause is the first of its list
stepped-head : (words firsts starts : List ℕ) (c l to : ℕ) (cs ys : List ℕ) → AreInOrder words 1 starts → Contains starts c → Watches words l c → (get_or words c 0 ≡ to → ⊥) → (get_or words (c + 2) 0 ≡ to → ⊥) → (l ≡ to → ⊥) → l < length firsts → to < length firsts → IsList words starts l (get_or firsts l 0) cs → cs ≡ c ∷ ys → Stepped words (words_after_move words firsts l None c to) firsts (firsts_after_move words firsts l None c to) starts c l to cs
stepped-head words firsts starts c l to cs ys s hc w n1 n2 ne bl bt i e =
    let v = written words words starts c l to (get_or firsts to 0) s hc (cut-head words starts c l) w n1 n2 in
    let after = words_after_move words firsts l None c to in
    let next = link words l c in
    let P : List ℕ → Type 0 = λ zs. IsList words starts l (get_or firsts l 0) zs in
    let j : IsList words starts l (get_or firsts l 0) (c ∷ ys) = subst P e i in
    let apart = distinct-without [] c ys j.distinct in
    let rest : Linked (link words l) 0 next ys = j.linked.1 in
    let after_rest : Linked (link after l) 0 next ys = linked-same (link words l) (link after l) 0 next ys (λ d k. head-link words after d l (v.far d (j.only d (contains-there c ys d k)).0 (λ q. apart.1 (subst (Contains ys) q k)))) rest in
    let size : length (set firsts l next) ≡ length firsts = length-set firsts l next in
    let head_l : get_or (set (set firsts l next) to c) l 0 ≡ next = get_or-set_other (set firsts l next) to l c 0 ne ∙ get_or-set_same firsts l next 0 bl in
    let Q : ℕ → Type 0 = λ x. Linked (link after l) 0 x ys in
    record {
      moved = v.moved;
      front = v.front;
      left = [];
      right = ys;
      parts = e;
      linked = subst Q (sym head_l) after_rest;
      head_to = get_or-set_same (set firsts l next) to c 0 (omega (arith, size, bt));
      others = λ m nl nt. get_or-set_other (set firsts l next) to m c 0 nt ∙ get_or-set_other firsts l m next 0 nl;
      heads_size = length-set (set firsts l next) to c ∙ size;
    }

-- the clause stands behind p
stepped-behind : (words firsts starts : List ℕ) (p c l to : ℕ) (cs xs ys : List ℕ) → AreInOrder words 1 starts → Contains starts c → Watches words l c → (get_or words c 0 ≡ to → ⊥) → (get_or words (c + 2) 0 ≡ to → ⊥) → (l ≡ to → ⊥) → to < length firsts → IsList words starts l (get_or firsts l 0) cs → cs ≡ xs ++ p ∷ c ∷ ys → Stepped words (words_after_move words firsts l (Some p) c to) firsts (firsts_after_move words firsts l (Some p) c to) starts c l to cs
stepped-behind words firsts starts p c l to cs xs ys s hc w n1 n2 ne bt i e =
    let P : List ℕ → Type 0 = λ zs. IsList words starts l (get_or firsts l 0) zs in
    let j : IsList words starts l (get_or firsts l 0) (xs ++ p ∷ c ∷ ys) = subst P e i in
    let assoc : xs ++ p ∷ c ∷ ys ≡ (xs ++ p ∷ []) ++ c ∷ ys = sym (append_assoc xs (p ∷ []) (c ∷ ys)) in
    let assoc2 : xs ++ p ∷ ys ≡ (xs ++ p ∷ []) ++ ys = sym (append_assoc xs (p ∷ []) ys) in
    let apart = distinct-without (xs ++ p ∷ []) c ys (subst (IsDistinct eqb) assoc j.distinct) in
    let never : (d : ℕ) → Contains (xs ++ p ∷ ys) d → d ≡ c → ⊥ = λ d k q. let R : List ℕ → Type 0 = λ zs. Contains zs c in apart.1 (subst R assoc2 (subst (Contains (xs ++ p ∷ ys)) q k)) in
    let p_in : Contains (xs ++ p ∷ ys) p = contains-middle xs p ys in
    let there : (d : ℕ) → Contains (xs ++ p ∷ ys) d → Contains (xs ++ p ∷ c ∷ ys) d = λ d k. let R : List ℕ → Type 0 = λ zs. Contains zs d in subst R (sym assoc) (contains-wider (xs ++ p ∷ []) ys c d (subst R assoc2 k)) in
    let pp = j.only p (there p p_in) in
    let next = link words l c in
    let between = set words (slot words l p) next in
    let cut = cut-behind words starts p c l next s pp.0 hc (λ q. never p p_in (sym q)) pp.1 in
    let v = written words between starts c l to (get_or firsts to 0) s hc cut w n1 n2 in
    let after = words_after_move words firsts l (Some p) c to in
    let inside = (in_order-at words 1 starts p s pp.0).1 in
    let low : p ≤ slot words l p = elim (slot-cases words l p) [ inl q ↦ omega arith | inr q ↦ omega arith ] in
    let high : slot words l p < p + 4 = elim (slot-cases words l p) [ inl q ↦ omega arith | inr q ↦ omega arith ] in
    let at_p : link after l p ≡ next = head-link between after p l (v.far p pp.0 (never p p_in)) ∙ link-set words l p next (omega arith) in
    let linked : Linked (link after l) 0 (get_or firsts l 0) (xs ++ p ∷ ys) = linked-behind (link words l) (link after l) 0 (get_or firsts l 0) xs p c ys j.distinct (λ d k nd. let o = (j.only d (there d k)).0 in head-link between after d l (v.far d o (never d k)) ∙ head-link words between d l (head-set words starts p (slot words l p) next d s pp.0 low high o nd)) at_p j.linked in
    let head_l : get_or (set firsts to c) l 0 ≡ get_or firsts l 0 = get_or-set_other firsts to l c 0 ne in
    let Q : ℕ → Type 0 = λ x. Linked (link after l) 0 x ((xs ++ p ∷ []) ++ ys) in
    let R : List ℕ → Type 0 = λ zs. Linked (link after l) 0 (get_or firsts l 0) zs in
    record {
      moved = v.moved;
      front = v.front;
      left = xs ++ p ∷ [];
      right = ys;
      parts = e ∙ assoc;
      linked = subst Q (sym head_l) (subst R assoc2 linked);
      head_to = get_or-set_same firsts to c 0 bt;
      others = λ m nl nt. get_or-set_other firsts to m c 0 nt;
      heads_size = length-set firsts to c;
    }

-- ---- what comes of it in the model

pub record Done (vars : ℕ) (words after firsts heads starts : List ℕ) (c : ℕ) (lit to : Lit) : Type 0 where
  pub inside : IsArenaInside vars after heads starts
  pub arena : IsArena (watched_clauses vars after heads starts)
  pub clauses : (watched_clauses vars after heads starts).clauses ≡ map (with_watch c lit to) (watched_clauses vars words firsts starts).clauses
  pub list_to : watch_list (watched_clauses vars after heads starts) to ≡ c ∷ watch_list (watched_clauses vars words firsts starts) to
  pub list_lit : watch_list (watched_clauses vars after heads starts) lit ≡ without c (watch_list (watched_clauses vars words firsts starts) lit)
  pub list_others : (l : Lit) → l ≢ lit → l ≢ to → watch_list (watched_clauses vars after heads starts) l ≡ watch_list (watched_clauses vars words firsts starts) l

stepped-done : (vars : ℕ) (words after firsts heads starts : List ℕ) (c : ℕ) (lit to : Lit) → IsArenaInside vars words firsts starts → lit.0 < vars + vars → to.0 < vars + vars → (lit.0 ≡ to.0 → ⊥) → IsNumberIn words c to.0 → Stepped words after firsts heads starts c lit.0 to.0 (watch_list (watched_clauses vars words firsts starts) lit) → Done vars words after firsts heads starts c lit to
stepped-done vars words after firsts heads starts c lit to h bl bt ne number t =
    let a = watched_clauses vars words firsts starts in
    let b = watched_clauses vars after heads starts in
    let v = t.moved in
    let size = t.heads_size in
    let in_order : AreInOrder after 1 starts = in_order-same words after 1 starts v.bodies.size (λ d k. bodies-size words after starts d v.bodies k) h.in_order in
    let i_lit : IsList words starts lit.0 (get_or firsts lit.0 0) (t.left ++ c ∷ t.right) = let P : List ℕ → Type 0 = λ zs. IsList words starts lit.0 (get_or firsts lit.0 0) zs in subst P t.parts (list-there vars words firsts starts lit.0 h bl) in
    let l_lit : IsList after starts lit.0 (get_or heads lit.0 0) (t.left ++ t.right) = moved-from words after starts c lit.0 to.0 (get_or firsts lit.0 0) (get_or heads lit.0 0) t.left t.right v ne t.linked i_lit in
    let l_to : IsList after starts to.0 (get_or heads to.0 0) (c ∷ numbered_list a to.0) = let P : ℕ → Type 0 = λ x. IsList after starts to.0 x (c ∷ numbered_list a to.0) in subst P (sym t.head_to) (moved-to words after starts c lit.0 to.0 (get_or firsts to.0 0) (numbered_list a to.0) v ne t.front (list-there vars words firsts starts to.0 h bt)) in
    let l_m : (m : ℕ) → m < vars + vars → (m ≡ lit.0 → ⊥) → (m ≡ to.0 → ⊥) → IsList after starts m (get_or heads m 0) (numbered_list a m) = λ m bm nl nt. let P : ℕ → Type 0 = λ x. IsList after starts m x (numbered_list a m) in subst P (sym (t.others m nl nt)) (moved-other words after starts c lit.0 to.0 m (get_or firsts m 0) (numbered_list a m) v nl nt (list-there vars words firsts starts m h bm)) in
    let known : (m : ℕ) (zs : List ℕ) → IsList after starts m (get_or heads m 0) zs → list_from after m (get_or heads m 0) ≡ zs = λ m zs k. list_from-is after starts m (get_or heads m 0) zs in_order k in
    let kept : (m : ℕ) (zs : List ℕ) → IsList after starts m (get_or heads m 0) zs → IsList after starts m (get_or heads m 0) (list_from after m (get_or heads m 0)) = λ m zs k. let P : List ℕ → Type 0 = λ ys. IsList after starts m (get_or heads m 0) ys in subst P (sym (known m zs k)) k in
    let at : (m : ℕ) (zs : List ℕ) → m < vars + vars → IsList after starts m (get_or heads m 0) zs → numbered_list b m ≡ zs = λ m zs bm k. list-at vars after heads starts m (let n = h.heads in omega (arith, n, size, bm)) ∙ known m zs k in
    let inside : IsArenaInside vars after heads starts = record {
      small = h.small;
      heads = size ∙ h.heads;
      in_order = in_order;
      clauses = λ d o. clause-moved vars words after starts c lit.0 to.0 d v h.small number h.clauses o;
      lists = λ m bm. elim (cases_eq m lit.0) [
        | inl e ↦ let P : ℕ → Type 0 = λ x. IsList after starts x (get_or heads x 0) (list_from after x (get_or heads x 0)) in subst P (sym e) (kept lit.0 _ l_lit)
        | inr nl ↦ elim (cases_eq m to.0) [
          | inl e ↦ let P : ℕ → Type 0 = λ x. IsList after starts x (get_or heads x 0) (list_from after x (get_or heads x 0)) in subst P (sym e) (kept to.0 _ l_to)
          | inr nt ↦ kept m _ (l_m m bm nl nt)
        ]
      ];
    } in
    record {
      inside = inside;
      arena = is-arena vars after heads starts inside;
      clauses = clauses-moved words after starts starts c lit to v (λ d k. k);
      list_to = at to.0 _ bt l_to;
      list_lit = at lit.0 _ bl l_lit ∙ (sym (without-middle t.left c t.right i_lit.distinct) ∙ ap (without c) (sym t.parts));
      list_others = λ l nl nt. elim (cases_lt l.0 (vars + vars)) [
        | inl bm ↦ at l.0 _ bm (l_m l.0 bm (λ q. nl (lit-ap l.0 lit.0 q)) (λ q. nt (lit-ap l.0 to.0 q)))
        | inr over ↦ list-past vars after heads starts l.0 (size ∙ h.heads) over ∙ sym (list-past vars words firsts starts l.0 h.heads over)
      ];
    }

move-done : (vars : ℕ) (words firsts starts : List ℕ) (lit : Lit) (before : Option ℕ) (c : ℕ) (to : Lit) → IsArenaInside vars words firsts starts → lit.0 < vars + vars → to.0 < vars + vars → IsBehind (watch_list (watched_clauses vars words firsts starts) lit) before c → Contains starts c × Watches words lit.0 c → IsNumberIn words c to.0 → (get_or words c 0 ≡ to.0 → ⊥) → (get_or words (c + 2) 0 ≡ to.0 → ⊥) → (lit.0 ≡ to.0 → ⊥) → Done vars words (words_after_move words firsts lit.0 before c to.0) firsts (firsts_after_move words firsts lit.0 before c to.0) starts c lit to
move-done vars words firsts starts lit None c to h bl bt k w number n1 n2 ne =
    let n = h.heads in
    stepped-done vars words _ firsts _ starts c lit to h bl bt ne number (stepped-head words firsts starts c lit.0 to.0 (watch_list (watched_clauses vars words firsts starts) lit) k.0 h.in_order w.0 w.1 n1 n2 ne (omega (arith, n, bl)) (omega (arith, n, bt)) (list-there vars words firsts starts lit.0 h bl) k.1)
move-done vars words firsts starts lit (Some p) c to h bl bt k w number n1 n2 ne =
    let n = h.heads in
    stepped-done vars words _ firsts _ starts c lit to h bl bt ne number (stepped-behind words firsts starts p c lit.0 to.0 (watch_list (watched_clauses vars words firsts starts) lit) k.0 k.1.0 h.in_order w.0 w.1 n1 n2 ne (omega (arith, n, bt)) (list-there vars words firsts starts lit.0 h bl) k.1.1)

-- ---- the conditions of a move, read in the words

behind-member : (cs : List ℕ) (before : Option ℕ) (c : ℕ) → IsBehind cs before c → Contains cs c
behind-member cs None c k = let P : List ℕ → Type 0 = λ zs. Contains zs c in subst P (sym k.1) (contains-here c k.0)
behind-member cs (Some p) c k =
    let P : List ℕ → Type 0 = λ zs. Contains zs c in
    let assoc : (k.0 ++ p ∷ []) ++ c ∷ k.1.0 ≡ k.0 ++ p ∷ c ∷ k.1.0 = append_assoc k.0 (p ∷ []) (c ∷ k.1.0) in
    subst P (sym k.1.1) (subst P assoc (contains-middle (k.0 ++ p ∷ []) c k.1.0))

before-inside : (vars : ℕ) (words firsts starts : List ℕ) (l c : ℕ) (before : Option ℕ) → IsArenaInside vars words firsts starts → l < vars + vars → IsBehind (numbered_list (watched_clauses vars words firsts starts) l) before c → MatchOption before (Unit {0}) (λ p. p + 4 < length words)
before-inside vars words firsts starts l c None h b k = tt
before-inside vars words firsts starts l c (Some p) h b k =
    let P : List ℕ → Type 0 = λ zs. Contains zs p in
    let o = (list-there vars words firsts starts l h b).only p (subst P (sym k.1.1) (contains-middle k.0 p (c ∷ k.1.0))) in
    let i = (in_order-at words 1 starts p h.in_order o.0).1 in
    omega arith

-- what a move needs and does
pub record Moves (vars : ℕ) (words firsts starts : List ℕ) (lit : Lit) (before : Option ℕ) (c : ℕ) (to : Lit) : Type 0 where
  pub clause : c + 4 < length words
  pub behind : MatchOption before (Unit {0}) (λ p. p + 4 < length words)
  pub from_list : lit.0 < length firsts
  pub to_list : to.0 < length firsts
  pub apart : lit.0 ≡ to.0 → ⊥
  pub done : Done vars words (words_after_move words firsts lit.0 before c to.0) firsts (firsts_after_move words firsts lit.0 before c to.0) starts c lit to

pub moves : (vars : ℕ) (words firsts starts : List ℕ) (lit : Lit) (before : Option ℕ) (c : ℕ) (to : Lit) → IsArenaInside vars words firsts starts → IsTrue (is_below vars lit) → IsTrue (is_below vars to) → IsBehind (watch_list (watched_clauses vars words firsts starts) lit) before c → IsTrue (is_among (clause_at (watched_clauses vars words firsts starts) c).lits to) → (IsWatching (clause_at (watched_clauses vars words firsts starts) c) to → ⊥) → Moves vars words firsts starts lit before c to
moves vars words firsts starts lit before c to h lit_in to_in k holds unwatched =
    let bl = below-number vars lit lit_in in
    let bt = below-number vars to to_in in
    let w = (list-there vars words firsts starts lit.0 h bl).only c (behind-member _ before c k) in
    let is = clause_at-is vars words firsts starts c w.0 in
    let H : WatchedClause → Type 0 = λ x. IsTrue (is_among x.lits to) in
    let U : WatchedClause → Type 0 = λ x. IsWatching x to → ⊥ in
    let number = number-from_among words c to (subst H is holds) in
    let never : Watches words to.0 c → ⊥ = λ q. subst U is unwatched (watching-from_words words c to q) in
    let n1 : get_or words c 0 ≡ to.0 → ⊥ = λ q. never (w.1.0, inl q) in
    let n2 : get_or words (c + 2) 0 ≡ to.0 → ⊥ = λ q. never (w.1.0, inr q) in
    let ne : lit.0 ≡ to.0 → ⊥ = λ q. never (subst (λ x. Watches words x c) q w.1) in
    let n = h.heads in
    record {
      clause = let i = (clause-inside vars words firsts starts c h w.0).1 in omega (arith, i);
      behind = before-inside vars words firsts starts lit.0 c before h bl k;
      from_list = omega (arith, n, bl);
      to_list = omega (arith, n, bt);
      apart = ne;
      done = move-done vars words firsts starts lit before c to h bl bt k w number n1 n2 ne;
    }
