-- Declarations that stand once.
use Rattle.std.proofs.Common.{◌≡◌, true, false, suc, List, ◌∷◌, ap, sym, subst, ◌∙◌, arith}
use Rattle.std.specs.Prelude.{get_or}
use Rattle.std.specs.List.{Contains}
use Rattle.std.proofs.lemmas.Bool.{false≢true}
use Rattle.std.proofs.lemmas.List.Elements.{All-contains_itself}
use Rattle.std.proofs.lemmas.List.Kept.{AllPairs-cons}
use Rattle.css_model.specs.declared.sheet.Decl.{Decl}
use Rattle.css_model.specs.declared.sheet.DeclItem.{DeclItem}
use Rattle.step_queue.specs.Once.{StandOnce}
use Rattle.order_laws.proofs.ForCallers.{decls, has_decl_is, map_from, map_has}
use Rattle.order_laws.specs.Members.{has_decl}

-- a declaration that does not stand again before others that stand once
pub more_once : (rest behind : List DeclItem) (x : DeclItem) → rest ≡ x ∷ behind → has_decl behind x.decl ≡ false → StandOnce (λ (d : DeclItem). d.decl) behind → StandOnce (λ (d : DeclItem). d.decl) rest
more_once rest behind x is none once =
    subst (StandOnce (λ (d : DeclItem). d.decl)) (sym is) (AllPairs-cons (λ (a b : DeclItem). a.decl ≡ b.decl → ⊥) x behind
    (λ k d within same. false≢true (sym none ∙ (has_decl_is behind x.decl).1
    (subst (λ (z : Decl). Contains (decls behind) z) (sym same) (map_has (λ (y : DeclItem). y.decl) behind (get_or behind k d) (All-contains_itself behind k d within))))) once)

-- and what stands behind one of them stands once
pub once_behind : (rest behind : List DeclItem) (x : DeclItem) → rest ≡ x ∷ behind → StandOnce (λ (d : DeclItem). d.decl) rest → StandOnce (λ (d : DeclItem). d.decl) behind
once_behind rest behind x is once = λ i j d less within.
    subst (StandOnce (λ (d : DeclItem). d.decl)) is once (suc i) (suc j) d (omega (arith, less)) (omega (arith, within))

-- one that stands again does not stand once
pub not_once : (rest behind : List DeclItem) (x : DeclItem) → rest ≡ x ∷ behind → has_decl behind x.decl ≡ true → StandOnce (λ (d : DeclItem). d.decl) rest → ⊥
not_once rest behind x is stands once =
    let again : (y : DeclItem) × Contains behind y × (y.decl ≡ x.decl) = map_from (λ (y : DeclItem). y.decl) behind x.decl ((has_decl_is behind x.decl).0 stands) in
    subst (StandOnce (λ (d : DeclItem). d.decl)) is once 0 (suc again.1.0) again.0 (omega arith) (omega (arith, again.1.1))
    (sym again.2 ∙ ap (λ (y : DeclItem). y.decl) (sym again.1.2))
