-- The declarations of a rule put into a table from the last one on: of equal ones the last stays.
use Rattle.std.proofs.Common.{◌≡◌, ℕ, suc, Bool, true, false, List, [], ◌∷◌, ◌++◌, length, drop, reverse, refl, sym, ap, subst, ◌∙◌}
use Rattle.std.specs.Prelude.{◌||◌, if◌then◌else◌}
use Rattle.std.specs.List.{list_any}
use Rattle.std.proofs.lemmas.List.{append_assoc}
use Rattle.std.proofs.Math.Seq.{drop-append_seam}
use Rattle.css_model.proofs.ForCallers.{decl_decides}
use Rattle.css_model.specs.declared.sheet.Decl.{Decl}
use Rattle.css_model.specs.declared.sheet.DeclItem.{DeclItem}
use Rattle.indexmap.specs.IndexSet.{insert_key}
use Rattle.order_laws.specs.Members.{same_decl, has_decl}
use Rattle.order_laws.specs.Places.{last_decls}
use Rattle.sheet_order.proofs.LastItems.{length_more}
use Rattle.sheet_order.proofs.Lists.{any_reverse, reverse_cons}

-- a declaration of a rule is among the last ones
lasts_have : (n : ℕ) (decls : List DeclItem) (d : Decl) → list_any (λ x. same_decl x.1 d) (last_decls n decls) ≡ has_decl decls d
lasts_have n [] d = refl
lasts_have n (x ∷ decls) d = which (has_decl decls x.decl) refl (lasts_have (suc n) decls d)
  where
    absorbed : (a b : Bool) → (a ≡ true → b ≡ true) → b ≡ (a || b)
    absorbed true b h = h refl
    absorbed false b h = refl

    which : (b : Bool) → has_decl decls x.decl ≡ b → list_any (λ y. same_decl y.1 d) (last_decls (suc n) decls) ≡ has_decl decls d →
        list_any (λ y. same_decl y.1 d) (if b then last_decls (suc n) decls else (n, x.decl) ∷ last_decls (suc n) decls) ≡ (same_decl x.decl d || has_decl decls d)
    which false e ih = ap (λ (b : Bool). same_decl x.decl d || b) ih
    which true e ih = ih ∙ absorbed (same_decl x.decl d) (has_decl decls d) (λ same. ap (has_decl decls) (sym ((decl_decides x.decl d).0 same)) ∙ e)

-- none of the last ones stands again
abbrev pub DistinctDecls : List (ℕ × Decl) → Type 0
DistinctDecls [] = Unit {0}
DistinctDecls (d ∷ decls) = (list_any (λ x. same_decl x.1 d.1) decls ≡ false) × DistinctDecls decls

pub lasts_distinct : (n : ℕ) (decls : List DeclItem) → DistinctDecls (last_decls n decls)
lasts_distinct n [] = tt
lasts_distinct n (x ∷ decls) = which (has_decl decls x.decl) refl (lasts_distinct (suc n) decls)
  where
    which : (b : Bool) → has_decl decls x.decl ≡ b → DistinctDecls (last_decls (suc n) decls) → DistinctDecls (if b then last_decls (suc n) decls else (n, x.decl) ∷ last_decls (suc n) decls)
    which true e ih = ih
    which false e ih = (lasts_have (suc n) decls x.decl ∙ e, ih)

put_one : (n : ℕ) (d : DeclItem) (decls : List DeclItem) →
    insert_key (λ x y. same_decl y.1 x.1) (reverse (last_decls (suc n) decls)) (n, d.decl) ≡ reverse (last_decls n (d ∷ decls))
put_one n d decls =
    ap (λ (b : Bool). if b then reverse lasts else reverse lasts ++ (n, d.decl) ∷ []) (any_reverse (λ x. same_decl x.1 d.decl) lasts ∙ lasts_have (suc n) decls d.decl)
    ∙ which (has_decl decls d.decl)
  where
    lasts : List (ℕ × Decl)
    lasts = last_decls (suc n) decls

    which : (b : Bool) → (if b then reverse lasts else reverse lasts ++ (n, d.decl) ∷ []) ≡ reverse (if b then lasts else (n, d.decl) ∷ lasts)
    which true = refl
    which false = sym (reverse_cons (n, d.decl) lasts)

-- what is known before and behind the last declaration of the rest
abbrev pub EndsAt : List DeclItem → List DeclItem → List (ℕ × Decl) → Type 0
EndsAt decls rest lasts = (rest ++ drop (length rest) decls ≡ decls) × (lasts ≡ reverse (last_decls (length rest) (drop (length rest) decls)))

decl_next : (decls before : List DeclItem) (last : DeclItem) (lasts : List (ℕ × Decl)) →
    EndsAt decls (before ++ last ∷ []) lasts → EndsAt decls before (insert_key (λ x y. same_decl y.1 x.1) lasts (length before, last.decl))
decl_next decls before last lasts (whole, is) =
    let behind = drop (length (before ++ last ∷ [])) decls in
    let cut : before ++ last ∷ behind ≡ decls = sym (append_assoc before (last ∷ []) behind) ∙ whole in
    let dropped : drop (length before) decls ≡ last ∷ behind = ap (drop (length before)) (sym cut) ∙ drop-append_seam before (last ∷ behind) in (
      ap (λ ys. before ++ ys) dropped ∙ cut,
      ap (λ xs. insert_key (λ x y. same_decl y.1 x.1) xs (length before, last.decl)) (is ∙ ap (λ (n : ℕ). reverse (last_decls n behind)) (length_more before last))
          ∙ put_one (length before) last behind
          ∙ ap (λ xs. reverse (last_decls (length before) xs)) (sym dropped),
    )

pub decl_put : (decls rest before : List DeclItem) (last : DeclItem) (lasts new : List (ℕ × Decl)) → rest ≡ before ++ last ∷ [] → EndsAt decls rest lasts →
    new ≡ insert_key (λ x y. same_decl y.1 x.1) lasts (length before, last.decl) → EndsAt decls before new
decl_put decls rest before last lasts new cut ends put =
    let w = decl_next decls before last lasts (subst (λ xs. EndsAt decls xs lasts) cut ends) in (w.0, put ∙ w.1)
