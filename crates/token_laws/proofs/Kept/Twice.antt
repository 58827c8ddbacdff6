-- Text that is kept again is the same, and kept text is never longer than the text that it is made of.
use Rattle.std.proofs.Common.{ℕ, ◌≡◌, Bool, true, false, cond, not, ◌&&◌, List, [], ◌∷◌, ◌++◌, take, refl, sym, ap, ◌∙◌, subst, append_assoc}
use Rattle.std.proofs.lemmas.List.{append-nil}
use Rattle.css_model.specs.declared.token.Gap.{Gap}
use Rattle.css_model.specs.declared.token.Gap.TheVariants as gap
use Rattle.css_model.specs.Text.Characters.{space, line_feed}
use Rattle.css_model.specs.Text.Kept.{Solid, is_lone, is_open, is_white_gap, between, behind_last, behind_value, spelled}
use Rattle.token_laws.specs.Solids.{solids, closed, last_kept, last_of_value, read_back, solids_of, KeptAgain}
use Rattle.token_laws.proofs.Kept.Back.{IsGood, AreGood, take_good, are_good, rest_of}

-- a token that may be closed, and what stands behind it, once more
between_again : (s : Solid) → IsGood s → (closed s).bytes ++ between (closed s) ≡ s.bytes ++ between s
between_again s good = which (is_lone s.kind) refl s.gap refl (is_open s.bytes) refl
  where
    which : (l : Bool) → is_lone s.kind ≡ l → (g : Gap) → s.gap ≡ g → (o : Bool) → is_open s.bytes ≡ o
        → (cond (not l && (is_white_gap g && o)) (record { kind = s.kind; bytes = s.bytes ++ space ∷ []; gap = s.gap }) s).bytes
        ++ between (cond (not l && (is_white_gap g && o)) (record { kind = s.kind; bytes = s.bytes ++ space ∷ []; gap = s.gap }) s) ≡ s.bytes ++ between s
    which true lone g behind o is = refl
    which false lone gap.Nothing behind o is = refl
    which false lone gap.Comments behind o is = refl
    which false lone gap.White behind false is = refl
    which false lone gap.White behind true is =
        let w = s.bytes ++ space ∷ [] in
        let shut : is_open w ≡ false = good.closes lone is in
        let here : between s ≡ space ∷ space ∷ [] = rw (lone, behind, is) refl in
        let there : between (record { kind = s.kind; bytes = w; gap = s.gap }) ≡ space ∷ [] = rw (lone, behind, shut) refl in
        ap (λ (rest : List ℕ). w ++ rest) there ∙ append_assoc s.bytes (space ∷ []) (space ∷ []) ∙ ap (λ (rest : List ℕ). s.bytes ++ rest) (sym here)

spelled_again : (l l' : Solid → List ℕ) (last : Solid → Solid) → ((s : Solid) → (last s).bytes ++ l (last s) ≡ s.bytes ++ l' s) → (ss : List Solid) → AreGood ss
    → spelled l (read_back last ss) ≡ spelled l' ss
spelled_again l l' last same [] good = refl
spelled_again l l' last same (s ∷ []) good = same s
spelled_again l l' last same (s ∷ t ∷ []) (good, others) =
    ap (λ (front : List ℕ). front ++ ((last t).bytes ++ l (last t))) (between_again s good) ∙ ap (λ (rest : List ℕ). (s.bytes ++ between s) ++ rest) (same t)
spelled_again l l' last same (s ∷ t ∷ u ∷ us) (good, others) =
    ap (λ (front : List ℕ). front ++ spelled l (read_back last (t ∷ u ∷ us))) (between_again s good)
    ∙ ap (λ (rest : List ℕ). (s.bytes ++ between s) ++ rest) (spelled_again l l' last same (t ∷ u ∷ us) others)

-- the last token
kept_last : (s : Solid) → (last_kept s).bytes ++ behind_last (last_kept s) ≡ s.bytes ++ behind_last s
kept_last s = refl

closed_last : (s : Solid) → (last_of_value s).bytes ++ behind_last (last_of_value s) ≡ s.bytes ++ behind_value s
closed_last s = which (is_lone s.kind) refl (is_white_gap s.gap && is_open s.bytes)
  where
    which : (l : Bool) → is_lone s.kind ≡ l → (o : Bool)
        → (cond (not l && o) (record { kind = s.kind; bytes = s.bytes ++ space ∷ []; gap = s.gap }) s).bytes
        ++ behind_last (last_kept (cond (not l && o) (record { kind = s.kind; bytes = s.bytes ++ space ∷ []; gap = s.gap }) s))
        ≡ s.bytes ++ cond l (line_feed ∷ []) (cond o (space ∷ []) [])
    which true lone o = rw lone refl
    which false lone true = rw lone (append-nil (s.bytes ++ space ∷ []))
    which false lone false = rw lone refl

value_last : (s : Solid) → (last_of_value s).bytes ++ behind_value (last_of_value s) ≡ s.bytes ++ behind_value s
value_last s = which (is_lone s.kind) refl (is_white_gap s.gap && is_open s.bytes)
  where
    which : (l : Bool) → is_lone s.kind ≡ l → (o : Bool)
        → (cond (not l && o) (record { kind = s.kind; bytes = s.bytes ++ space ∷ []; gap = s.gap }) s).bytes
        ++ behind_value (last_kept (cond (not l && o) (record { kind = s.kind; bytes = s.bytes ++ space ∷ []; gap = s.gap }) s))
        ≡ s.bytes ++ cond l (line_feed ∷ []) (cond o (space ∷ []) [])
    which true lone o = rw lone refl
    which false lone true = rw lone (append-nil (s.bytes ++ space ∷ []))
    which false lone false = rw lone refl

pub kept_twice : KeptAgain
kept_twice ps m n is =
    let from = rest_of m ps is in
    let good : AreGood (solids_of ps m n) = subst (λ (ss : List Solid). AreGood (take n ss)) from.same (take_good n (solids from.parts) (are_good from.parts from.lexed)) in (
      spelled_again behind_last behind_last last_kept kept_last (solids_of ps m n) good,
      spelled_again behind_last behind_value last_of_value closed_last (solids_of ps m n) good,
      spelled_again behind_value behind_value last_of_value value_last (solids_of ps m n) good,
    )
