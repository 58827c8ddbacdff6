-- Kept items that say the same have the same meanings.
use Rattle.std.proofs.Common.{◌≡◌, ◌↔◌, ℕ, List, [], ◌∷◌, sym, subst}
use Rattle.std.specs.List.{All, Contains}
use Rattle.css_model.specs.declared.sheet.Decl.{Decl}
use Rattle.css_model.specs.declared.sheet.Item.{Item}
use Rattle.css_model.specs.declared.sheet.Item.TheVariants.{Rule, KeptRule, KeptBlock}
use Rattle.css_model.specs.Cascade.Order.{kept_content}
use Rattle.css_model.specs.Cascade.Winner.{Declared, AreMeanings}
use Rattle.css_model.specs.Sheets.KeptItems.{kept_items}
use Rattle.css_model.specs.Sheets.KeptRuleParts.{KeptRuleParts}
use Rattle.css_model.specs.Sheets.Spelling.{Content, Style, Kept, Block, content, all_content, kept_text}
use Rattle.css_model.specs.Sheets.StyleRule.{style_rule}

-- meanings are those of the kept items
of_kept : (items : List Item) (meanings : List (List Declared)) → AreMeanings items meanings ↔ AreMeanings (kept_items items) meanings
of_kept [] meanings = (λ h. h, λ h. h)
of_kept (Rule r ∷ items) meanings = of_kept items meanings
of_kept (KeptRule k ∷ items) [] = (λ h. h, λ h. h)
of_kept (KeptRule k ∷ items) (m ∷ meanings) = let rest = of_kept items meanings in (λ h. (h.0, rest.0 h.1), λ h. (h.0, rest.1 h.1))
of_kept (KeptBlock p ∷ items) [] = (λ h. h, λ h. h)
of_kept (KeptBlock p ∷ items) (m ∷ meanings) = of_kept items meanings

same_first : (c d : Content) (cs ds : List Content) → c ∷ cs ≡ d ∷ ds → c ≡ d
same_first c d cs ds e = cc

same_rest : (c d : Content) (cs ds : List Content) → c ∷ cs ≡ d ∷ ds → cs ≡ ds
same_rest c d cs ds e = cc

same_decls : (t t' : List ℕ) (ds ds' : List Decl) (n n' : ℕ) → Kept t ds n ≡ Kept t' ds' n' → ds ≡ ds'
same_decls t t' ds ds' n n' e = cc

-- and hang on what they say
go_over : (source source' : List ℕ) (items items' : List Item) → all_content source items ≡ all_content source' items' → (meanings : List (List Declared)) →
    AreMeanings items meanings → AreMeanings items' meanings
go_over source source' [] [] e meanings h = h
go_over source source' [] (x ∷ items') e meanings h = absurd cc
go_over source source' (x ∷ items) [] e meanings h = absurd cc
go_over source source' (Rule r ∷ items) (Rule r' ∷ items') e meanings h = go_over source source' items items' (same_rest (Style (style_rule r)) (Style (style_rule r')) (all_content source items) (all_content source' items') e) meanings h
go_over source source' (KeptRule k ∷ items) (KeptRule k' ∷ items') e [] h = absurd h
go_over source source' (KeptRule k ∷ items) (KeptRule k' ∷ items') e (m ∷ meanings) h =
    let here : Kept (kept_text source k.piece) k.decls k.reason ≡ Kept (kept_text source' k'.piece) k'.decls k'.reason = same_first (content source (KeptRule k)) (content source' (KeptRule k')) (all_content source items) (all_content source' items') e in
    let decls : k.decls ≡ k'.decls = same_decls (kept_text source k.piece) (kept_text source' k'.piece) k.decls k'.decls k.reason k'.reason here in
    let rest : all_content source items ≡ all_content source' items' = same_rest (content source (KeptRule k)) (content source' (KeptRule k')) (all_content source items) (all_content source' items') e in
    (subst (λ (ds : List Decl). All (λ d. Contains ds d.decl) m) decls h.0, go_over source source' items items' rest meanings h.1)
go_over source source' (KeptBlock p ∷ items) (KeptBlock p' ∷ items') e [] h = absurd h
go_over source source' (KeptBlock p ∷ items) (KeptBlock p' ∷ items') e (m ∷ meanings) h =
    go_over source source' items items' (same_rest (content source (KeptBlock p)) (content source' (KeptBlock p')) (all_content source items) (all_content source' items') e) meanings h
go_over source source' (Rule r ∷ items) (KeptRule k ∷ items') e meanings h = absurd (let g = same_first (content source (Rule r)) (content source' (KeptRule k)) (all_content source items) (all_content source' items') e in cc)
go_over source source' (Rule r ∷ items) (KeptBlock p ∷ items') e meanings h = absurd (let g = same_first (content source (Rule r)) (content source' (KeptBlock p)) (all_content source items) (all_content source' items') e in cc)
go_over source source' (KeptRule k ∷ items) (Rule r ∷ items') e meanings h = absurd (let g = same_first (content source (KeptRule k)) (content source' (Rule r)) (all_content source items) (all_content source' items') e in cc)
go_over source source' (KeptRule k ∷ items) (KeptBlock p ∷ items') e meanings h = absurd (let g = same_first (content source (KeptRule k)) (content source' (KeptBlock p)) (all_content source items) (all_content source' items') e in cc)
go_over source source' (KeptBlock p ∷ items) (Rule r ∷ items') e meanings h = absurd (let g = same_first (content source (KeptBlock p)) (content source' (Rule r)) (all_content source items) (all_content source' items') e in cc)
go_over source source' (KeptBlock p ∷ items) (KeptRule k ∷ items') e meanings h = absurd (let g = same_first (content source (KeptBlock p)) (content source' (KeptRule k)) (all_content source items) (all_content source' items') e in cc)

pub same_meanings : (source source' : List ℕ) (items items' : List Item) → kept_content source items ≡ kept_content source' items' → (meanings : List (List Declared)) → AreMeanings items meanings ↔ AreMeanings items' meanings
same_meanings source source' items items' e meanings = (
  λ h. (of_kept items' meanings).1 (go_over source source' (kept_items items) (kept_items items') e meanings ((of_kept items meanings).0 h)),
  λ h. (of_kept items meanings).1 (go_over source' source (kept_items items') (kept_items items) (sym e) meanings ((of_kept items' meanings).0 h)),
)
