use Rattle.std.proofs.Common.{◌≡◌, ℕ, ◌+◌, ◌-◌, ◌<◌, ◌≤◌, ◌||◌, Bool, false, cond, eqb, IsTrue, List, length, take, set, get_or, Option, Some, None, refl, sym, ap, subst, ◌∙◌, inl, inr, arith}
use Rattle.std.specs.List.{list_any}
use Rattle.std.proofs.lemmas.Bool.{eq-eqb, cond-true, ltb-true, or_left}
use Rattle.std.proofs.lemmas.List.{length-set, get_or-set_same, get_or-set_other, take_all, get_or_default}
use Rattle.cnf.specs.declared.lit.Lit.{Lit}
use Rattle.cnf.specs.Lits.{variable}
use Rattle.cnf.specs.Propagation.{IsForced}
use Rattle.cnf.proofs.ForCallers.{variable-negation}
use Rattle.sat_arena.specs.Arena.{clause_at}
use Rattle.sat_trail.specs.declared.entry.Entry.{Entry}
use Rattle.sat_trail.specs.Trail.{Assignment, lits, entry_of, level_in, reason_in, IsTrail}
use Rattle.sat_trail.proofs.ForCallers.{in_some, entry_of-at, length-le_vars, below-get, lit-at}
use Rattle.sat_core.specs.Analysis.{is_marked, marked, marked_at, has_variable, MarkedWithin}
use Rattle.sat_watch.specs.Numbered.{Numbered, numbered, clauses_of, under}
use Rattle.sat_watch.specs.Soundness.{IsSound}
use Rattle.sat_core.proofs.ConflictLemmas.{resolved, top-level, conflict-level, marked_at-clear, marked_at-some}
use Rattle.sat_core.proofs.MarkLemmas.{marked_at-unset, marked_at-le, some-marked, is_of}
use Rattle.sat_watch.proofs.ForCallers.{known-from}
use Rattle.sat_core.proofs.ResolveLemmas.{reason-at, forced-conflict, forced-mark, within-false, within-pass, within-mark, place-within, variable-has}
use Rattle.sat_core.proofs.analysis.resolve.Goals as goal

-- the place of a mark is at least 1
some-place : (t : Assignment) (seen : List Bool) (k : ℕ) → IsTrail t → MarkedWithin seen t.entries k → 0 < marked_at seen t.level t.entries → 1 ≤ k
some-place t seen k h w some =
    let j = some-marked seen t.level t.entries some in
    let d : Entry = record { lit = record { 0 = 0 }; level = 0; reason = None } in
    let b = place-within seen t.entries k j.0 d h.distinct w j.1 (j.2 d).0 in
    omega arith

-- the marks after a clause in the place of the literal that it implied
marks-unset : (seen with after : List Bool) (clause : List Lit) (u : ℕ) → ((v : ℕ) → get_or with v false ≡ (get_or seen v false || has_variable clause v)) → after ≡ set with u false → (v : ℕ) → (v ≡ u → ⊥) → get_or after v false ≡ (get_or seen v false || has_variable clause v)
marks-unset seen with after clause u m e v ne = ap (λ s. get_or s v false) e ∙ (get_or-set_other with u v false false ne ∙ m v)

-- what is one marked entry less
one-less : (t : Assignment) (with : List Bool) (k : ℕ) (d : Entry) → IsTrail t → k < length t.entries → length with ≡ t.vars → IsTrue (is_marked with (get_or t.entries k d).lit) → (get_or t.entries k d).level ≡ t.level → marked_at (set with (variable (get_or t.entries k d).lit) false) t.level t.entries + 1 ≡ marked_at with t.level t.entries
one-less t with k d h b size on l =
    let v = variable (get_or t.entries k d).lit in
    let below = ltb-true v t.vars (below-get t.vars t.entries k d h.in_range b) in
    let off = marked_at-unset with v t.level t.entries h.distinct on (omega arith) in
    let entry = entry_of-at t.entries v k d h.distinct b refl in
    let counts = counted (entry_of t.entries v) (get_or t.entries k d) entry l in
    omega arith
  where
    counted : (o : Option Entry) (e : Entry) → o ≡ Some e → e.level ≡ t.level → ◌≡◌ {A = ℕ} (cond (is_of (level_in o) t.level) 1 0) 1
    counted o e q l =
        let P : Option Entry → Type 0 = λ o. ◌≡◌ {A = ℕ} (cond (is_of (level_in o) t.level) 1 0) 1 in
        subst P (sym q) (cond-true (eqb e.level t.level) 1 0 (eq-eqb _ _ l))

-- a mark added by a clause, and the one that it stands for taken away
pub record Stepped (formula : List (List Lit)) (t : Assignment) (after : List Bool) (k count : ℕ) : Type 0 where
  pub within : MarkedWithin after t.entries k
  pub counted : count ≡ marked_at after t.level t.entries
  pub forced : IsForced formula (marked after (lits t.entries))

stepped : (ns : List Numbered) (t : Assignment) (seen with : List Bool) (clause : List Lit) (k at count' new : ℕ) (d : Entry) → IsTrail t → IsSound ns t → length with ≡ t.vars → k < length t.entries → Some at ≡ reason_in (entry_of t.entries (variable (get_or t.entries k d).lit)) → under ns at ≡ Some clause → IsTrue (is_marked seen (get_or t.entries k d).lit) → MarkedWithin seen t.entries (k + 1) → count' ≡ marked_at seen t.level t.entries → 1 < count' → IsForced (clauses_of ns) (marked seen (lits t.entries)) → ((v : ℕ) → get_or with v false ≡ (get_or seen v false || has_variable clause v)) → marked_at seen t.level t.entries + new ≡ marked_at with t.level t.entries → Stepped (clauses_of ns) t (set with (variable (get_or t.entries k d).lit) false) k (count' + new - 1)
stepped ns t seen with clause k at count' new d h s size b e get on w count more f m counts =
    let v = variable (get_or t.entries k d).lit in
    let i = reason-at ns t k at d h s b e in
    let same_clause : clause ≡ i.clause = in_some (sym get ∙ i.is_under) in
    let m' : (v : ℕ) → get_or with v false ≡ (get_or seen v false || has_variable i.clause v) = λ v. m v ∙ ap (λ c. get_or seen v false || has_variable c v) same_clause in
    let below = ltb-true v t.vars (below-get t.vars t.entries k d h.in_range b) in
    let marks = marks-unset seen with (set with v false) i.clause v m' refl in
    let on' : IsTrue (is_marked with (get_or t.entries k d).lit) = m v ∙ or_left (get_or seen v false) (has_variable clause v) on in
    let level = top-level t seen k d h w b (omega arith) in
    let less = one-less t with k d h b size on' level in
    record {
      within = within-mark ns t.entries seen (set with v false) k at d b i w (get_or-set_same with v false false (omega arith)) marks;
      counted = omega arith;
      forced = forced-mark ns t.entries seen (set with v false) k at d h.distinct b f i marks;
    }

pub down-init : goal.down-init
down-init c =
    let t = c.args.trail.now in
    let h = c.level-level.ensures.trail in
    let seen = c.mark-open.new.seen.items in
    let conflict = c.requires.conflict in
    let clause = (clause_at c.args.arena.now c.args.conflict).lits in
    let same_clause : clause ≡ conflict.clause = (known-from c.args.arena.now c.args.conflict conflict.clause conflict.is_under).1 in
    let m : (v : ℕ) → get_or seen v false ≡ has_variable conflict.clause v = λ v. c.mark-open.ensures.marks v ∙ (ap (λ b. b || has_variable clause v) (c.clear.ensures.clear v) ∙ ap (λ cl. has_variable cl v) same_clause) in
    let zero_before = marked_at-clear c.clear.new.seen.items c.level-level.result t.entries c.clear.ensures.clear in
    let count : c.mark-open.result ≡ marked_at seen t.level t.entries = let e = ap (λ n. marked_at seen n t.entries) c.level-level.ensures.value in omega (arith, c.mark-open.ensures.count) in
    let w = conflict-level (numbered c.args.arena.now) t c.args.conflict h c.requires.sound.rests c.requires.level conflict in
    let d : Entry = record { lit = record { 0 = 0 }; level = 0; reason = None } in
    let j = w.2 in
    let at = j.2 d in
    let same_variable : variable (get_or t.entries j.0 d).lit ≡ variable w.0 = ap variable at.0 ∙ variable-negation w.0 in
    let on : IsTrue (is_marked seen (get_or t.entries j.0 d).lit) = ap (λ v. get_or seen v false) same_variable ∙ (m (variable w.0) ∙ variable-has conflict.clause w.0 w.1) in
    let some = marked_at-some seen t.level t.entries j.0 d j.1 on at.1 in
    let whole : take c.len-k.result t.entries ≡ t.entries = take_all c.len-k.result t.entries (omega (arith, c.len-k.ensures.value)) in
    record {
      same = refl;
      size = c.mark-open.ensures.size;
      place = omega (arith, c.len-k.ensures.value);
      within = λ v on. let P : List Entry → Type 0 = λ es. IsTrue (list_any (λ (e : Entry). eqb (variable e.lit) v) es) in subst P (sym whole) (within-false t.entries conflict.clause v conflict.all_false (sym (m v) ∙ on));
      count = count;
      some = omega arith;
      forced = forced-conflict (numbered c.args.arena.now) t.entries seen c.args.conflict conflict (λ v h. m v ∙ h);
    }

pub overflow_sub-k : goal.overflow_sub-k
overflow_sub-k c =
    let i = c.down.invariant in
    some-place c.args.trail.now c.down.seen.items c.down.k c.level-level.ensures.trail i.within (omega (arith, i.count, i.some))

pub mark-open-requires-clause-known : goal.mark-open-requires-clause-known
mark-open-requires-clause-known c =
    let conflict = c.requires.conflict in (known-from c.args.arena.now c.args.conflict conflict.clause conflict.is_under).0

pub mark-open-requires-in-Some-clause-known : goal.mark-open-requires-in-Some-clause-known
mark-open-requires-in-Some-clause-known c =
    let t = c.args.trail.now in
    let h = c.level-level.ensures.trail in
    let i = c.down.invariant in
    let k = c.down.k - 1 in
    let d : Entry = record { lit = record { 0 = 0 }; level = 0; reason = None } in
    let p = some-place t c.down.seen.items c.down.k h i.within (omega (arith, i.count, i.some)) in
    let v : c.variable-var.result ≡ variable (get_or t.entries k d).lit = c.variable-var.ensures ∙ ap variable (sym (lit-at t.entries k c.entry.result d (rw c.down.invariant.same at c.entry.ensures.literal))) in
    let e : Some c.in-Some.number ≡ reason_in (entry_of t.entries (variable (get_or t.entries k d).lit)) = (rw c.down.invariant.same at c.in-Some.ensures) ∙ ap (λ v. reason_in (entry_of t.entries v)) v in
    let r = reason-at (numbered c.args.arena.now) t k c.in-Some.number d h c.requires.sound (omega (arith, i.place)) e in
    (known-from c.args.arena.now c.in-Some.number r.clause r.is_under).0

pub overflow_add-open : goal.overflow_add-open
overflow_add-open c =
    let t = c.level-level.ensures.trail in
    let i = c.down.invariant in
    let few = length-le_vars c.args.trail.now.vars c.args.trail.now.entries t.in_range t.distinct in
    let bound = marked_at-le c.mark-open-in-Some.new.seen.items c.level-level.result c.args.trail.now.entries in
    let e = ap (λ n. marked_at c.down.seen.items n c.args.trail.now.entries) c.level-level.ensures.value in
    omega (arith, (rw c.down.invariant.same at c.mark-open-in-Some.ensures.count), i.count, t.small)

pub down-preserved-then-open-gt1 : goal.down-preserved-then-open-gt1
down-preserved-then-open-gt1 c =
    let t = c.args.trail.now in
    let h = c.level-level.ensures.trail in
    let i = c.down.invariant in
    let k = c.down.k - 1 in
    let seen = c.down.seen.items in
    let with = c.mark-open-in-Some.new.seen.items in
    let d : Entry = record { lit = record { 0 = 0 }; level = 0; reason = None } in
    let p = some-place t seen c.down.k h i.within (omega (arith, i.count, i.some)) in
    let v : c.variable-var.result ≡ variable (get_or t.entries k d).lit = c.variable-var.ensures ∙ ap variable (sym (lit-at t.entries k c.entry.result d (rw c.down.invariant.same at c.entry.ensures.literal))) in
    let e : Some c.in-Some.number ≡ reason_in (entry_of t.entries (variable (get_or t.entries k d).lit)) = (rw c.down.invariant.same at c.in-Some.ensures) ∙ ap (λ v. reason_in (entry_of t.entries v)) v in
    let below : k < length t.entries = omega (arith, i.place) in
    let in_marks : c.variable-var.result < length seen = let q = ltb-true _ t.vars (below-get t.vars t.entries k d h.in_range below) in omega (arith, i.size) in
    let on : IsTrue (is_marked seen (get_or t.entries k d).lit) = ap (λ v. get_or seen v false) (sym v) ∙ (get_or_default seen c.variable-var.result false _ in_marks ∙ (sym c.index.ensures ∙ c.if-index.true)) in
    let next : c.down.k ≡ k + 1 = omega arith in
    let P : ℕ → Type 0 = λ n. MarkedWithin seen t.entries n in
    let counts : marked_at seen t.level t.entries + c.mark-open-in-Some.result ≡ marked_at with t.level t.entries = let Q : ℕ → Type 0 = λ n. marked_at seen n t.entries + c.mark-open-in-Some.result ≡ marked_at with n t.entries in subst Q c.level-level.ensures.value (rw c.down.invariant.same at c.mark-open-in-Some.ensures.count) in
    let r = reason-at (numbered c.args.arena.now) t k c.in-Some.number d h c.requires.sound below e in
    let same_clause = (known-from c.args.arena.now c.in-Some.number r.clause r.is_under).1 in
    let s = stepped (numbered c.args.arena.now) t seen with (clause_at c.args.arena.now c.in-Some.number).lits k c.in-Some.number c.down.open c.mark-open-in-Some.result d h c.requires.sound (rw c.down.invariant.same at c.mark-open-in-Some.ensures.size) below e (r.is_under ∙ ap Some (sym same_clause)) on (subst P next i.within) i.count c.if-open-gt1.true i.forced c.mark-open-in-Some.ensures.marks counts in
    let S : ℕ → Type 0 = λ u. Stepped (clauses_of (numbered c.args.arena.now)) t (set with u false) k (c.down.open + c.mark-open-in-Some.result - 1) in
    let s' : Stepped (clauses_of (numbered c.args.arena.now)) t (set with c.variable-var.result false) k (c.down.open + c.mark-open-in-Some.result - 1) = subst S (sym v) s in
    record {
      same = c.bump.ensures ∙ i.same;
      size = length-set with c.variable-var.result false ∙ (rw c.down.invariant.same at c.mark-open-in-Some.ensures.size);
      place = omega arith;
      within = s'.within;
      count = s'.counted;
      some = omega (arith, c.if-open-gt1.true);
      forced = s'.forced;
    }

pub returns-in_default-clause-resolved : goal.returns-in_default-clause-resolved
returns-in_default-clause-resolved c =
    let t = c.args.trail.now in
    let h = c.level-level.ensures.trail in
    let i = c.down.invariant in
    let k = c.down.k - 1 in
    let seen = c.down.seen.items in
    let p = some-place t seen c.down.k h i.within (omega (arith, i.count, i.some)) in
    let next : c.down.k ≡ k + 1 = omega arith in
    let below : k < length t.entries = omega (arith, i.place) in
    let P : ℕ → Type 0 = λ n. MarkedWithin seen t.entries n in
    let on : (d : Entry) → IsTrue (is_marked seen (get_or t.entries k d).lit) = λ d.
    let v : c.variable-var.result ≡ variable (get_or t.entries k d).lit = c.variable-var.ensures ∙ ap variable (sym (lit-at t.entries k c.entry.result d (rw c.down.invariant.same at c.entry.ensures.literal))) in
    let in_marks : c.variable-var.result < length seen = let q = ltb-true _ t.vars (below-get t.vars t.entries k d h.in_range below) in omega (arith, i.size) in
    ap (λ v. get_or seen v false) (sym v) ∙ (get_or_default seen c.variable-var.result false _ in_marks ∙ (sym c.index.ensures ∙ c.if-index.true)) in
    resolved (clauses_of (numbered c.args.arena.now)) t seen k h i.size below i.forced on (subst P next i.within) (omega (arith, i.count, i.some)) (inl (omega (arith, i.count, c.if-open-gt1.false)))

pub returns-in_default-2-clause-resolved : goal.returns-in_default-2-clause-resolved
returns-in_default-2-clause-resolved c =
    let t = c.args.trail.now in
    let h = c.level-level.ensures.trail in
    let i = c.down.invariant in
    let k = c.down.k - 1 in
    let seen = c.down.seen.items in
    let p = some-place t seen c.down.k h i.within (omega (arith, i.count, i.some)) in
    let next : c.down.k ≡ k + 1 = omega arith in
    let below : k < length t.entries = omega (arith, i.place) in
    let P : ℕ → Type 0 = λ n. MarkedWithin seen t.entries n in
    let on : (d : Entry) → IsTrue (is_marked seen (get_or t.entries k d).lit) = λ d.
    let v : c.variable-var.result ≡ variable (get_or t.entries k d).lit = c.variable-var.ensures ∙ ap variable (sym (lit-at t.entries k c.entry.result d (rw c.down.invariant.same at c.entry.ensures.literal))) in
    let in_marks : c.variable-var.result < length seen = let q = ltb-true _ t.vars (below-get t.vars t.entries k d h.in_range below) in omega (arith, i.size) in
    ap (λ v. get_or seen v false) (sym v) ∙ (get_or_default seen c.variable-var.result false _ in_marks ∙ (sym c.index.ensures ∙ c.if-index.true)) in
    let decided : (d : Entry) → (get_or t.entries k d).reason ≡ None = λ d.
    let v : c.variable-var.result ≡ variable (get_or t.entries k d).lit = c.variable-var.ensures ∙ ap variable (sym (lit-at t.entries k c.entry.result d (rw c.down.invariant.same at c.entry.ensures.literal))) in
    let there = entry_of-at t.entries (variable (get_or t.entries k d).lit) k d h.distinct below refl in
    sym (sym c.in_default.is ∙ ((rw c.down.invariant.same at c.reason.ensures) ∙ (ap (λ v. reason_in (entry_of t.entries v)) v ∙ ap reason_in there))) in
    resolved (clauses_of (numbered c.args.arena.now)) t seen k h i.size below i.forced on (subst P next i.within) (omega (arith, i.count, i.some)) (inr decided)

pub down-smaller : goal.down-smaller
down-smaller c =
    let i = c.down.invariant in
    let p = some-place c.args.trail.now c.down.seen.items c.down.k c.level-level.ensures.trail i.within (omega (arith, i.count, i.some)) in
    omega arith

pub down-preserved : goal.down-preserved
down-preserved c =
    let t = c.args.trail.now in
    let h = c.level-level.ensures.trail in
    let i = c.down.invariant in
    let k = c.down.k - 1 in
    let seen = c.down.seen.items in
    let d : Entry = record { lit = record { 0 = 0 }; level = 0; reason = None } in
    let p = some-place t seen c.down.k h i.within (omega (arith, i.count, i.some)) in
    let v : c.variable-var.result ≡ variable (get_or t.entries k d).lit = c.variable-var.ensures ∙ ap variable (sym (lit-at t.entries k c.entry.result d (rw c.down.invariant.same at c.entry.ensures.literal))) in
    let below : k < length t.entries = omega (arith, i.place) in
    let in_marks : c.variable-var.result < length seen = let q = ltb-true _ t.vars (below-get t.vars t.entries k d h.in_range below) in omega (arith, i.size) in
    let off : get_or seen (variable (get_or t.entries k d).lit) false ≡ false = ap (λ v. get_or seen v false) (sym v) ∙ (get_or_default seen c.variable-var.result false _ in_marks ∙ (sym c.index.ensures ∙ c.if-index.false)) in
    let next : c.down.k ≡ k + 1 = omega arith in
    let P : ℕ → Type 0 = λ n. MarkedWithin seen t.entries n in
    record {
      same = i.same;
      size = i.size;
      place = omega (arith, i.place);
      within = within-pass seen t.entries k d below off (subst P next i.within);
      count = i.count;
      some = i.some;
      forced = i.forced;
    }
