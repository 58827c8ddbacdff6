-- Each pair counts at its last place alone.
use Rattle.std.proofs.Common.{◌≡◌, ◌⊎◌, inl, inr, ℕ, Bool, true, false, not, List, [], ◌∷◌, ◌++◌, Some, None, refl, sym, ap, ◌∙◌, subst}
use Rattle.std.specs.Prelude.{if◌then◌else◌, ◌||◌, ◌&&◌}
use Rattle.std.specs.List.{AllByRecursion, Contains, list_any}
use Rattle.std.proofs.lemmas.Bool.{false≢true, true≢false}
use Rattle.std.proofs.lemmas.List.Elements.{Contains-append_left, Contains-append_right}
use Rattle.css_model.specs.declared.sheet.DeclItem.{DeclItem}
use Rattle.css_model.specs.declared.sheet.SelItem.{SelItem}
use Rattle.css_model.specs.Cascade.Winner.{Declared}
use Rattle.css_model.specs.Documents.SelectorParts.{SelectorParts}
use Rattle.list_facts.proofs.Members.{Contains-nil, Contains-cons_cases}
use Rattle.order_laws.proofs.ForCallers.{any_from}
use Rattle.sheet_members.specs.Labels.{Label, label_of, label_with, same_label}
use Rattle.sheet_members.specs.Members.{is_listed, is_pair, lasts}
use Rattle.sheet_members.specs.Occurrences.{Kept, Occurrence, Paired, Part}
use Rattle.diff_laws.proofs.Applied.{unrepeated}
use Rattle.diff_laws.proofs.Best.{over}
use Rattle.diff_laws.proofs.Flat.{chosen, chosen_absorbed, chosen_append, flat_of, given, standing, with_part}
use Rattle.sheet_members.specs.SameLabels.{label_decides}

-- ---- Those that do not repeat a selector

abbrev pub NoneRepeats : List Occurrence → Type 0
NoneRepeats os = AllByRecursion (λ (o : Occurrence). o.repeated ≡ false) os

pub unrepeated_none : (os : List Occurrence) → NoneRepeats (unrepeated os)
unrepeated_none [] = tt
unrepeated_none (o ∷ os) = which o.repeated refl (unrepeated_none os)
  where
    which : (b : Bool) → o.repeated ≡ b → NoneRepeats (unrepeated os) → NoneRepeats (if not b then o ∷ unrepeated os else unrepeated os)
    which true e rest = rest
    which false e rest = (e, rest)

pub lasts_of_unrepeated : (os : List Occurrence) → lasts os ≡ lasts (unrepeated os)
lasts_of_unrepeated [] = refl
lasts_of_unrepeated (o ∷ os) = which o.repeated refl (lasts_of_unrepeated os)
  where
    which : (b : Bool) → o.repeated ≡ b → lasts os ≡ lasts (unrepeated os) →
        (if b || is_listed (lasts os) o then lasts os else o ∷ lasts os) ≡ lasts (if not b then o ∷ unrepeated os else unrepeated os)
    which true e rest = rest
    which false e rest =
        ap (λ (ls : List Occurrence). if is_listed ls o then ls else o ∷ ls) rest
        ∙ ap (λ (b : Bool). if b || is_listed (lasts (unrepeated os)) o then lasts (unrepeated os) else o ∷ lasts (unrepeated os)) (sym e)

-- ---- A pair that comes again gives nothing more

-- the selector of a label of a part
label_of_kept : (p : Occurrence) (q : Part) (s : SelectorParts) → p.part ≡ q → (label_of p).selector ≡ Some s → is_pair q ≡ true
label_of_kept p (Paired t d) s e h = refl
label_of_kept p (Kept item) s e h =
    absurd (let g : None ≡ Some s = sym (ap (λ (r : Part). (label_with p.layer.head r false p.text).selector) e) ∙ h in cc)

module _ (matched : SelectorParts → Bool) (holds : List ℕ → Bool) where
  abbrev flat : List Occurrence → List (List Declared) → List Declared
  flat os ps = flat_of matched holds os ps

  abbrev gives : Label → List Declared
  gives l = given matched holds l

  flat_has : (os : List Occurrence) (ps : List (List Declared)) (o : Occurrence) (x : Declared) → is_pair o.part ≡ true → Contains os o → Contains (gives (label_of o)) x → Contains (flat os ps) x
  flat_has [] ps o x pair among has = absurd (Contains-nil o among)
  flat_has (p ∷ os) ps o x pair among has = which p.part refl ps (Contains-cons_cases p os o among) (λ qs g. flat_has os qs o x pair g has)
    where
      which : (q : Part) → p.part ≡ q → (ps : List (List Declared)) → (p ≡ o) ⊎ Contains os o → ((qs : List (List Declared)) → Contains os o → Contains (flat os qs) x) → Contains (with_part matched holds p q (λ qs. flat os qs) ps) x
      which (Paired s d) e ps (inl same) rest =
          Contains-append_left (gives (label_with p.layer.head (Paired s d) false p.text)) (flat os ps) x
          (subst (λ (r : Part). Contains (gives (label_with p.layer.head r false p.text)) x) e (subst (λ (r : Occurrence). Contains (gives (label_of r)) x) (sym same) has))
      which (Paired s d) e ps (inr g) rest = Contains-append_right (gives (label_with p.layer.head (Paired s d) false p.text)) (flat os ps) x (rest ps g)
      which (Kept item) e ps (inl same) rest = absurd (false≢true (ap is_pair (sym e ∙ ap (λ (r : Occurrence). r.part) same) ∙ pair))
      which (Kept item) e [] (inr g) rest = rest [] g
      which (Kept item) e (p' ∷ ps) (inr g) rest = Contains-append_right (standing matched holds p.layer.head p') (flat os ps) x (rest ps g)

  -- a pair that is listed gives what is there
  listed_inside : (os : List Occurrence) (ps : List (List Declared)) (o : Occurrence) (s : SelItem) (d : DeclItem) → o.part ≡ Paired s d → list_any (λ (p : Occurrence). same_label (label_of p) (label_of o)) os ≡ true →
      (x : Declared) → Contains (gives (label_with o.layer.head (Paired s d) false o.text)) x → Contains (flat os ps) x
  listed_inside os ps o s d e listed x has =
      let w = any_from (λ (p : Occurrence). same_label (label_of p) (label_of o)) os listed in
      let same : label_of w.0 ≡ label_of o = (label_decides (label_of w.0) (label_of o)).0 w.2 in
      let mine : label_of o ≡ label_with o.layer.head (Paired s d) false o.text = ap (λ (r : Part). label_with o.layer.head r false o.text) e in
      flat_has os ps w.0 x (label_of_kept w.0 (w.0).part s.selector refl (ap (λ (l : Label). l.selector) (same ∙ mine))) w.1
      (subst (λ (l : Label). Contains (gives l) x) (sym (same ∙ mine)) has)

  module _ (known : Declared → Bool) where
    pub lasts_flat : (os : List Occurrence) (ps : List (List Declared)) → NoneRepeats os → chosen known (flat os ps) ≡ chosen known (flat (lasts os) ps)
    lasts_flat [] ps none = refl
    lasts_flat (o ∷ os) ps none =
        which o.part refl ps (λ qs. lasts_flat os qs none.1)
        ∙ ap (λ (b : Bool). chosen known (flat (if b || is_listed (lasts os) o then lasts os else o ∷ lasts os) ps)) (sym none.0)
      where
        which : (q : Part) → o.part ≡ q → (ps : List (List Declared)) → ((qs : List (List Declared)) → chosen known (flat os qs) ≡ chosen known (flat (lasts os) qs)) →
            chosen known (with_part matched holds o q (λ qs. flat os qs) ps) ≡ chosen known (flat (if is_pair o.part && list_any (λ (p : Occurrence). same_label (label_of p) (label_of o)) (lasts os) then lasts os else o ∷ lasts os) ps)
        which (Paired s d) e ps rest =
            chosen_append known mine (flat os ps)
            ∙ ap (over (chosen known mine)) (rest ps)
            ∙ sided (list_any (λ (p : Occurrence). same_label (label_of p) (label_of o)) (lasts os)) refl
            ∙ ap (λ (r : Part). chosen known (flat (if is_pair r && list_any (λ (p : Occurrence). same_label (label_of p) (label_of o)) (lasts os) then lasts os else o ∷ lasts os) ps)) (sym e)
          where
            mine : List Declared
            mine = gives (label_with o.layer.head (Paired s d) false o.text)

            sided : (b : Bool) → list_any (λ (p : Occurrence). same_label (label_of p) (label_of o)) (lasts os) ≡ b →
                over (chosen known mine) (chosen known (flat (lasts os) ps)) ≡ chosen known (flat (if b then lasts os else o ∷ lasts os) ps)
            sided true listed = chosen_absorbed known mine (flat (lasts os) ps) (listed_inside (lasts os) ps o s d e listed)
            sided false listed = sym (chosen_append known mine (flat (lasts os) ps)) ∙ ap (λ (r : Part). chosen known (with_part matched holds o r (λ qs. flat (lasts os) qs) ps)) (sym e)
        which (Kept item) e ps rest =
            behind ps
            ∙ ap (λ (r : Part). chosen known (with_part matched holds o r (λ qs. flat (lasts os) qs) ps)) (sym e)
            ∙ ap (λ (r : Part). chosen known (flat (if is_pair r && list_any (λ (p : Occurrence). same_label (label_of p) (label_of o)) (lasts os) then lasts os else o ∷ lasts os) ps)) (sym e)
          where
            behind : (qs : List (List Declared)) → chosen known (with_part matched holds o (Kept item) (λ qs. flat os qs) qs) ≡ chosen known (with_part matched holds o (Kept item) (λ qs. flat (lasts os) qs) qs)
            behind [] = rest []
            behind (q ∷ qs) =
                chosen_append known (standing matched holds o.layer.head q) (flat os qs)
                ∙ ap (over (chosen known (standing matched holds o.layer.head q))) (rest qs)
                ∙ sym (chosen_append known (standing matched holds o.layer.head q) (flat (lasts os) qs))
