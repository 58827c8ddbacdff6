-- Runs of cuts lead where they lead.
use Rattle.std.proofs.Common.{◌≡◌, ℕ, zero, suc, ◌+◌, ◌-◌, ◌≤◌, List, length, refl, sym, subst, ◌∙◌, arith}
use Rattle.css_model.specs.declared.sheet.DeclItem.{DeclItem}
use Rattle.css_model.specs.declared.sheet.Item.{Item}
use Rattle.css_model.specs.declared.sheet.SelItem.{SelItem}
use Rattle.css_model.specs.Sheets.Limits.{max_items}
use Rattle.css_model.specs.Sheets.RuleParts.{RuleParts}
use Rattle.css_model.specs.Sheets.Sound.{IsSound}
use Rattle.order_laws.proofs.ForCallers.{has_decl_is, has_selector_is}
use Rattle.order_laws.specs.Members.{has_decl, has_selector}
use Rattle.run_laws.proofs.Listed.{Compared, all_gone, compared, descends_kept, is_less, is_more, is_same, none_as_heavy, none_gone, none_heavier, one_more, total}
use Rattle.run_laws.proofs.NextCuts.{takes_decl, takes_sel}
use Rattle.run_laws.proofs.Numbered.{next_length}
use Rattle.run_laws.specs.Marks.{count_of, goes, kept}
use Rattle.run_laws.specs.Runs.{AreKept, Descend, RunsLead, decl_marks, decl_weight, parts, selector_marks, selector_weight, with_rule}
use Rattle.step_laws.proofs.ForCallers.{made_of_itself, makes_of}
use Rattle.step_laws.specs.Free.{Answered}
use Rattle.step_laws.specs.Leading.{Leads, Takes}
use Rattle.step_laws.specs.Left.{IsMadeOf}

module _ (answers : List Answered) (source : List ℕ) (before after : List Item) (kept_before : AreKept before) (kept_after : AreKept after)
    (r : RuleParts) (sound : IsSound source (with_rule before after r)) (few : length (with_rule before after r) ≤ max_items) (descend : Descend source r) where
  abbrev dm : List ℕ
  dm = decl_marks source r.decls

  abbrev sm : List ℕ
  sm = selector_marks source r.selectors

  -- some declarations and some selectors are gone: those that weigh more, and so many of those that weigh so much
  abbrev state : (l c d : ℕ) → RuleParts
  state l c d = record { selectors = kept (goes l d sm) r.selectors; decls = kept (goes l c dm) r.decls }

  -- steps lead there, as many as parts are gone
  record Reached (q : RuleParts) : Type 0 where
    steps : ℕ
    count : steps + parts q ≡ parts r
    leads : Leads answers source steps (with_rule before after r) (with_rule before after q)
    made : IsMadeOf source (with_rule before after r) (with_rule before after q)

  one_step : (q p : RuleParts) → Reached q → Takes answers source (with_rule before after q) (with_rule before after p) → parts q ≡ suc (parts p) → Reached p
  one_step q p w takes less = record {
    steps = suc w.steps;
    count = (let count = w.count in omega (arith, count, less));
    leads = (with_rule before after q, w.leads, takes);
    made = subst (IsMadeOf source (with_rule before after r)) (sym takes.3) (makes_of source (with_rule before after r) (with_rule before after q) takes.0 takes.1 takes.2.step w.made);
  }

  descends : (l c d : ℕ) → Descend source (state l c d)
  descends l c d = (
    descends_kept (λ (x : DeclItem). x.decl) (λ x xs. has_decl xs x.decl) (decl_weight source) (λ x xs. has_decl_is xs x.decl) (goes l c dm) r.decls descend.0,
    descends_kept (λ (x : SelItem). x.selector) (λ x xs. has_selector xs x.selector) (selector_weight source) (λ x xs. has_selector_is xs x.selector) (goes l d sm) r.selectors descend.1,
  )

  -- ---- Declarations of one weight

  decls_all_gone : (l c : ℕ) → count_of (suc l) dm ≤ c → kept (goes (suc l) c dm) r.decls ≡ kept (goes l 0 dm) r.decls
  decls_all_gone l c all = all_gone (λ (x : DeclItem). x.decl) (λ x xs. has_decl xs x.decl) (decl_weight source) (λ x xs. has_decl_is xs x.decl) l c r.decls all

  sels_all_gone : (l d : ℕ) → count_of (suc l) sm ≤ d → kept (goes (suc l) d sm) r.selectors ≡ kept (goes l 0 sm) r.selectors
  sels_all_gone l d all = all_gone (λ (x : SelItem). x.selector) (λ x xs. has_selector xs x.selector) (selector_weight source) (λ x xs. has_selector_is xs x.selector) l d r.selectors all

  decl_on : (l c : ℕ) → Reached (state (suc l) c 0) → Reached (state (suc l) (suc c) 0)
  decl_on l c w = which (compared c (count_of (suc l) dm))
    where
      stay : count_of (suc l) dm ≤ c → Reached (state (suc l) (suc c) 0)
      stay all =
          subst (λ (ds : List DeclItem). Reached (record { selectors = kept (goes (suc l) 0 sm) r.selectors; decls = ds }))
          (decls_all_gone l c all ∙ sym (decls_all_gone l (suc c) (omega (arith, all)))) w

      which : Compared c (count_of (suc l) dm) → Reached (state (suc l) (suc c) 0)
      which (is_more below) =
          let next = one_more (λ (x : DeclItem). x.decl) (λ x xs. has_decl xs x.decl) (decl_weight source) (λ x xs. has_decl_is xs x.decl) (suc l) c (omega arith) r.decls below in
          let less = next_length (λ (x : DeclItem). x.decl) (decl_weight source) (suc l) next.0 (kept (goes (suc l) c dm) r.decls) (kept (goes (suc l) (suc c) dm) r.decls) next.1 in
          one_step (state (suc l) c 0) (state (suc l) (suc c) 0) w
          (takes_decl answers source before after kept_before kept_after (state (suc l) c 0) w.made.sound (descends (suc l) c 0) (suc l) next.0 (omega arith) (kept (goes (suc l) (suc c) dm) r.decls) next.1
          (none_heavier (λ (x : DeclItem). x.decl) (λ x xs. has_decl xs x.decl) (decl_weight source) (λ x xs. has_decl_is xs x.decl) (suc l) c r.decls)
          (none_heavier (λ (x : SelItem). x.selector) (λ x xs. has_selector xs x.selector) (selector_weight source) (λ x xs. has_selector_is xs x.selector) (suc l) 0 r.selectors))
          (omega (arith, less))
      which (is_same e) = stay (omega (arith, e))
      which (is_less above) = stay (omega (arith, above))

  decls_on : (l c : ℕ) → Reached (state (suc l) 0 0) → Reached (state (suc l) c 0)
  decls_on l zero w = w
  decls_on l (suc c) w = decl_on l c (decls_on l c w)

  -- ---- Then selectors

  sel_on : (l c d : ℕ) → count_of (suc l) dm ≤ c → Reached (state (suc l) c d) → Reached (state (suc l) c (suc d))
  sel_on l c d all w = which (compared d (count_of (suc l) sm))
    where
      stay : count_of (suc l) sm ≤ d → Reached (state (suc l) c (suc d))
      stay none =
          subst (λ (ss : List SelItem). Reached (record { selectors = ss; decls = kept (goes (suc l) c dm) r.decls }))
          (sels_all_gone l d none ∙ sym (sels_all_gone l (suc d) (omega (arith, none)))) w

      which : Compared d (count_of (suc l) sm) → Reached (state (suc l) c (suc d))
      which (is_more below) =
          let next = one_more (λ (x : SelItem). x.selector) (λ x xs. has_selector xs x.selector) (selector_weight source) (λ x xs. has_selector_is xs x.selector) (suc l) d (omega arith) r.selectors below in
          let less = next_length (λ (x : SelItem). x.selector) (selector_weight source) (suc l) next.0 (kept (goes (suc l) d sm) r.selectors) (kept (goes (suc l) (suc d) sm) r.selectors) next.1 in
          one_step (state (suc l) c d) (state (suc l) c (suc d)) w
          (takes_sel answers source before after kept_before kept_after (state (suc l) c d) w.made.sound (descends (suc l) c d) (suc l) next.0 (omega arith) (kept (goes (suc l) (suc d) sm) r.selectors) next.1
          (none_as_heavy (λ (x : DeclItem). x.decl) (λ x xs. has_decl xs x.decl) (decl_weight source) (λ x xs. has_decl_is xs x.decl) (suc l) c r.decls all)
          (none_heavier (λ (x : SelItem). x.selector) (λ x xs. has_selector xs x.selector) (selector_weight source) (λ x xs. has_selector_is xs x.selector) (suc l) d r.selectors))
          (omega (arith, less))
      which (is_same e) = stay (omega (arith, e))
      which (is_less above) = stay (omega (arith, above))

  sels_on : (l c d : ℕ) → count_of (suc l) dm ≤ c → Reached (state (suc l) c 0) → Reached (state (suc l) c d)
  sels_on l c zero all w = w
  sels_on l c (suc d) all w = sel_on l c d all (sels_on l c d all w)

  -- ---- From one weight to the next

  down : (l : ℕ) → Reached (state (suc l) 0 0) → Reached (state l 0 0)
  down l w =
      let c : ℕ = count_of (suc l) dm in
      let d : ℕ = count_of (suc l) sm in
      subst (λ (ds : List DeclItem). Reached (record { selectors = kept (goes l 0 sm) r.selectors; decls = ds })) (decls_all_gone l c (omega arith))
      (subst (λ (ss : List SelItem). Reached (record { selectors = ss; decls = kept (goes (suc l) c dm) r.decls })) (sels_all_gone l d (omega arith))
      (sels_on l c d (omega arith) (decls_on l c w)))

  abbrev most : ℕ
  most = total (λ (x : DeclItem). x.decl) (λ x xs. has_decl xs x.decl) (decl_weight source) (λ x xs. has_decl_is xs x.decl) dm
      + total (λ (x : SelItem). x.selector) (λ x xs. has_selector xs x.selector) (selector_weight source) (λ x xs. has_selector_is xs x.selector) sm

  start : (l : ℕ) → most ≤ l → Reached (state l 0 0)
  start l high =
      subst (λ (ds : List DeclItem). Reached (record { selectors = kept (goes l 0 sm) r.selectors; decls = ds }))
      (sym (none_gone (λ (x : DeclItem). x.decl) (λ x xs. has_decl xs x.decl) (decl_weight source) (λ x xs. has_decl_is xs x.decl) l r.decls (omega (arith, high))))
      (subst (λ (ss : List SelItem). Reached (record { selectors = ss; decls = r.decls }))
      (sym (none_gone (λ (x : SelItem). x.selector) (λ x xs. has_selector xs x.selector) (selector_weight source) (λ x xs. has_selector_is xs x.selector) l r.selectors (omega (arith, high))))
      (record { steps = 0; count = omega arith; leads = refl; made = made_of_itself source (with_rule before after r) sound few }))

  from : (k l : ℕ) → most ≤ k + l → Reached (state l 0 0)
  from zero l high = start l (omega (arith, high))
  from (suc k) l high = down l (from k (suc l) (omega (arith, high)))

  ends : (l c : ℕ) → Reached (state (suc l) c (c - count_of (suc l) dm))
  ends l c = which (compared c (count_of (suc l) dm))
    where
      decls : Reached (state (suc l) c 0)
      decls = decls_on l c (from most (suc l) (omega arith))

      all : count_of (suc l) dm ≤ c → Reached (state (suc l) c (c - count_of (suc l) dm))
      all high = sels_on l c (c - count_of (suc l) dm) high decls

      which : Compared c (count_of (suc l) dm) → Reached (state (suc l) c (c - count_of (suc l) dm))
      which (is_more below) = let e : 0 ≡ c - count_of (suc l) dm = omega (arith, below) in subst (λ (d : ℕ). Reached (state (suc l) c d)) e decls
      which (is_same e) = all (omega (arith, e))
      which (is_less above) = all (omega (arith, above))

pub runs_lead : RunsLead
runs_lead answers source before after r zero count sound few kept_before kept_after descend some = absurd (omega (arith, some))
runs_lead answers source before after r (suc l) count sound few kept_before kept_after descend some =
    let w = ends answers source before after kept_before kept_after r sound few descend l count in
    (w.steps, w.count, w.leads)
