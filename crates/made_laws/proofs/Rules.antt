-- Rules whose parts are those of the sample, and whose printed text is a made sheet.
use Rattle.std.proofs.Common.{◌≡◌, ℕ, zero, suc, ◌+◌, ◌*◌, ◌≤◌, nat_eq, false, List, [], ◌∷◌, ◌++◌, length, refl, ap, sym, ◌∙◌, subst, inl, arith}
use Rattle.std.specs.List.{flat_map, starts_with}
use Rattle.std.proofs.lemmas.List.{append-nil, append_assoc, length-append}
use Rattle.css_model.specs.declared.sheet.DeclItem.{DeclItem}
use Rattle.css_model.specs.declared.sheet.Item.{Item}
use Rattle.css_model.specs.declared.sheet.Item.TheVariants.{Rule}
use Rattle.css_model.specs.declared.sheet.SelItem.{SelItem}
use Rattle.css_model.specs.Sheets.ComesFrom.{Follows, pair_count}
use Rattle.css_model.specs.Sheets.Printed.{printed_declaration, printed_item, printed_selector}
use Rattle.css_model.specs.Sheets.Sound.{IsSound, IsSoundDeclaration, IsSoundSelector}
use Rattle.css_model.specs.Text.Characters.{open_curly, close_curly}
use Rattle.css_model.specs.Text.Tokens.{byte_order_mark}
use Rattle.trial_gen.specs.Draws.{draw}
use Rattle.trial_gen.specs.Made.{declaration_text, made_sheet, rule_text, selector_text}
use Rattle.made_laws.proofs.Sample.{Samples, sample}
use Rattle.made_laws.proofs.Texts.{declaration_is_one, rule_is, rule_short, selector_is_one}

-- So many rules, each of one selector and one declaration of the sample, whose printed text is this.
pub record AreRules (x : Samples) (n : ℕ) (text : List ℕ) : Type 0 where
  pub rules : List Item
  pub sound : IsSound sample rules
  pub follows : Follows rules (Rule x.rule ∷ [])
  pub count : length rules ≡ n
  pub pairs : pair_count rules ≡ n
  pub spell : flat_map (printed_item sample) rules ≡ text
  pub short : length text ≤ 25 * n
  pub unmarked : starts_with nat_eq text byte_order_mark ≡ false

no_rules : (x : Samples) → AreRules x 0 []
no_rules x = record { rules = []; sound = tt; follows = tt; count = refl; pairs = refl; spell = refl; short = omega arith; unmarked = refl }

-- one more rule in front
one_more : (x : Samples) (v w n : ℕ) (text : List ℕ) → AreRules x n text → AreRules x (suc n) (rule_text v w ++ text)
one_more x v w n text are = from (x.selector (selector_text v) (selector_is_one v)) (x.declaration (declaration_text w) (declaration_is_one w))
  where
    from : (s : SelItem) × IsSoundSelector sample s × (printed_selector sample s ≡ selector_text v) → (d : DeclItem) × IsSoundDeclaration sample d × (printed_declaration sample d ≡ declaration_text w)
        → AreRules x (suc n) (rule_text v w ++ text)
    from (s, sound_s, s_is) (d, sound_d, d_is) =
        record {
          rules = Rule (record { selectors = s ∷ []; decls = d ∷ [] }) ∷ are.rules;
          sound = (record { has_selectors = λ e. absurd cc; has_declarations = λ e. absurd cc; selectors = (sound_s, tt); decls = (sound_d, tt) }, are.sound);
          follows = inl are.follows;
          count = ap suc are.count;
          pairs = omega (arith, are.pairs);
          spell =
              ap (λ (front : List ℕ). (front ++ open_curly ∷ printed_declaration sample d ++ close_curly ∷ []) ++ flat_map (printed_item sample) are.rules) s_is
              ∙ ap (λ (inner : List ℕ). (selector_text v ++ open_curly ∷ inner ++ close_curly ∷ []) ++ flat_map (printed_item sample) are.rules) d_is
              ∙ ap (λ (rest : List ℕ). (selector_text v ++ open_curly ∷ declaration_text w ++ close_curly ∷ []) ++ rest) are.spell
              ∙ ap (λ (front : List ℕ). front ++ text) (sym (rule_is v w));
          short = omega (arith, are.short, rule_short v w, length-append (rule_text v w) text);
          unmarked = refl;
        }

-- the made sheet of k rules before others
made_before : (x : Samples) (k n : ℕ) (text : List ℕ) → AreRules x n text → AreRules x (k + n) (made_sheet k ++ text)
made_before x zero n text are = let e : n ≡ 0 + n = omega arith in subst (λ m. AreRules x m text) e are
made_before x (suc k) n text are =
    let rule : List ℕ = rule_text (draw (2 * k + 1)) (draw (2 * k + 2)) in
    let e : k + suc n ≡ suc k + n = omega arith in
    let more : AreRules x (k + suc n) (made_sheet k ++ (rule ++ text)) = made_before x k (suc n) (rule ++ text) (one_more x (draw (2 * k + 1)) (draw (2 * k + 2)) n text are) in
    subst (λ m. AreRules x m ((made_sheet k ++ rule) ++ text)) e (subst (λ t. AreRules x (k + suc n) t) (sym (append_assoc (made_sheet k) rule text)) more)

pub made_rules : (x : Samples) (k : ℕ) → AreRules x k (made_sheet k)
made_rules x k =
    let e : k + 0 ≡ k = omega arith in
    let all : AreRules x (k + 0) (made_sheet k ++ []) = made_before x k 0 [] (no_rules x) in
    subst (λ m. AreRules x m (made_sheet k)) e (subst (λ t. AreRules x (k + 0) t) (append-nil (made_sheet k)) all)
