-- The declarations of a list that are among others, each once, where it stands last.
use Rattle.std.proofs.Common.{◌≡◌, ℕ, Bool, true, false, not, cond, ◌&&◌, ◌||◌, List, [], ◌∷◌, refl, sym, ap, ◌∙◌}
use Rattle.std.specs.List.{filter}
use Rattle.css_model.specs.declared.sheet.Decl.{Decl}
use Rattle.css_model.specs.declared.sheet.DeclItem.{DeclItem}
use Rattle.css_model.specs.Sheets.Printed.{printed_declaration}
use Rattle.css_model.proofs.ForCallers.{decl_decides}
use Rattle.order_laws.specs.Members.{has_decl, same_decl}
use Rattle.rule_parts.specs.LastCommon.{last_common}
use Rattle.step_laws.specs.RuleParting.{each_last}
use Rattle.step_laws.specs.Sizes.{weight}

-- what passes a test on declarations is among those that pass
passes_again : (others : List DeclItem) (ds : List DeclItem) (d : Decl) → has_decl others d ≡ true → has_decl (filter (λ x. has_decl others x.decl) ds) d ≡ has_decl ds d
passes_again others [] d k = refl
passes_again others (x ∷ ds) d k = which (same_decl x.decl d) refl (has_decl others x.decl) refl (passes_again others ds d k)
  where
    which : (s : Bool) → same_decl x.decl d ≡ s → (b : Bool) → has_decl others x.decl ≡ b → has_decl (filter (λ x. has_decl others x.decl) ds) d ≡ has_decl ds d →
        has_decl (cond (has_decl others x.decl) (x ∷ filter (λ x. has_decl others x.decl) ds) (filter (λ x. has_decl others x.decl) ds)) d ≡ has_decl (x ∷ ds) d
    which s e true g ih = ap (λ (b : Bool). has_decl (cond b (x ∷ filter (λ x. has_decl others x.decl) ds) (filter (λ x. has_decl others x.decl) ds)) d) g ∙ ap (λ (b : Bool). same_decl x.decl d || b) ih
    which true e false g ih = absurd (let same : x.decl ≡ d = (decl_decides x.decl d).0 e in let h : has_decl others x.decl ≡ has_decl others d = ap (has_decl others) same in let f : false ≡ true = sym g ∙ h ∙ k in cc)
    which false e false g ih = ap (λ (b : Bool). has_decl (cond b (x ∷ filter (λ x. has_decl others x.decl) ds) (filter (λ x. has_decl others x.decl) ds)) d) g ∙ ih ∙ sym (ap (λ (s : Bool). s || has_decl ds d) e)

last_common_is : (others ds : List DeclItem) → last_common others ds ≡ each_last (filter (λ d. has_decl others d.decl) ds)
last_common_is others [] = refl
last_common_is others (d ∷ ds) = which (has_decl others d.decl) refl (last_common_is others ds)
  where
    kept : List DeclItem
    kept = filter (λ d. has_decl others d.decl) ds

    which : (b : Bool) → has_decl others d.decl ≡ b → last_common others ds ≡ each_last (filter (λ d. has_decl others d.decl) ds) →
        cond (has_decl others d.decl && not (has_decl ds d.decl)) (d ∷ last_common others ds) (last_common others ds)
        ≡ each_last (cond (has_decl others d.decl) (d ∷ filter (λ d. has_decl others d.decl) ds) (filter (λ d. has_decl others d.decl) ds))
    which true g ih =
        ap (λ (b : Bool). cond (b && not (has_decl ds d.decl)) (d ∷ last_common others ds) (last_common others ds)) g
        ∙ again (has_decl ds d.decl) refl ih
        ∙ sym (ap (λ (b : Bool). each_last (cond b (d ∷ filter (λ d. has_decl others d.decl) ds) (filter (λ d. has_decl others d.decl) ds))) g)
      where
        again : (c : Bool) → has_decl ds d.decl ≡ c → last_common others ds ≡ each_last (filter (λ d. has_decl others d.decl) ds) →
            cond (not (has_decl ds d.decl)) (d ∷ last_common others ds) (last_common others ds)
            ≡ cond (has_decl (filter (λ d. has_decl others d.decl) ds) d.decl) (each_last (filter (λ d. has_decl others d.decl) ds)) (d ∷ each_last (filter (λ d. has_decl others d.decl) ds))
        again true e ih =
            ap (λ (b : Bool). cond (not b) (d ∷ last_common others ds) (last_common others ds)) e ∙ ih
            ∙ sym (ap (λ (b : Bool). cond b (each_last (filter (λ d. has_decl others d.decl) ds)) (d ∷ each_last (filter (λ d. has_decl others d.decl) ds))) (passes_again others ds d.decl g ∙ e))
        again false e ih =
            ap (λ (b : Bool). cond (not b) (d ∷ last_common others ds) (last_common others ds)) e ∙ ap (λ (xs : List DeclItem). d ∷ xs) ih
            ∙ sym (ap (λ (b : Bool). cond b (each_last (filter (λ d. has_decl others d.decl) ds)) (d ∷ each_last (filter (λ d. has_decl others d.decl) ds))) (passes_again others ds d.decl g ∙ e))
    which false g ih =
        ap (λ (b : Bool). cond (b && not (has_decl ds d.decl)) (d ∷ last_common others ds) (last_common others ds)) g
        ∙ ih
        ∙ sym (ap (λ (b : Bool). each_last (cond b (d ∷ filter (λ d. has_decl others d.decl) ds) (filter (λ d. has_decl others d.decl) ds))) g)

pub last_common_weighs : (source : List ℕ) (others ds : List DeclItem) →
    weight (printed_declaration source) (last_common others ds) ≡ weight (printed_declaration source) (each_last (filter (λ d. has_decl others d.decl) ds))
last_common_weighs source others ds = ap (weight (printed_declaration source)) (last_common_is others ds)
