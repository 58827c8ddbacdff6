-- A sheet of one rule with each selector and each declaration of made sheets, as it is read.
use Rattle.std.proofs.Common.{◌≡◌, ◌⊎◌, ℕ, List, [], ◌∷◌, ◌++◌, map, Option, Some, None, Result, Ok, Err, refl, sym, ap, subst, inl, inr}
use Rattle.std.specs.Prelude.{codes}
use Rattle.std.specs.Char.{encode_utf8}
use Rattle.std.specs.Fmt.{digits}
use Rattle.std.specs.List.{AllByRecursion, Contains, filter, join_with_byte}
use Rattle.std.specs.Str.{chars, is_utf8}
use Rattle.std.specs.Str.Lossy.{utf8_valid_len, utf8_lossy}
use Rattle.css_model.specs.declared.fault.SheetFault.{SheetFault}
use Rattle.css_model.specs.declared.sheet.DeclItem.{DeclItem}
use Rattle.css_model.specs.declared.sheet.Item.{Item}
use Rattle.css_model.specs.declared.sheet.Item.TheVariants.{Rule, KeptRule, KeptBlock}
use Rattle.css_model.specs.declared.sheet.SelItem.{SelItem}
use Rattle.css_model.specs.declared.token.Lexeme.{Lexeme}
use Rattle.css_model.specs.Sheets.Printed.{printed_declaration, printed_selector}
use Rattle.css_model.specs.Sheets.PrintedSelector.{selector_text}
use Rattle.css_model.specs.Sheets.RuleParts.{RuleParts}
use Rattle.css_model.specs.Sheets.Sheet.{sheet_of}
use Rattle.css_model.specs.Sheets.Sound.{IsSound, IsSoundDeclaration, IsSoundSelector}
use Rattle.css_model.specs.Sheets.Spelling.{lexemes_of, stands_in}
use Rattle.css_model.specs.Text.Characters.{comma, semicolon}
use Rattle.css_model.specs.Text.Kept.{solid}
use Rattle.list_facts.proofs.Members.{Contains-cons_cases, Contains-nil}
use Rattle.sheet_laws.specs.Reading.{ReadIsSound}
use Rattle.made_laws.proofs.Texts.{declaration_texts, selector_texts}

pub sample : List ℕ
sample = join_with_byte comma selector_texts ++ codes "{" ++ join_with_byte semicolon declaration_texts ++ codes "}"

-- the printed texts of the selectors and of the declarations of a sheet that is one rule, where these are its tokens
abbrev item_texts : List Lexeme → List ℕ → Item → Option (List (List ℕ) × List (List ℕ))
item_texts xs source (Rule r) = Some (map (λ s. selector_text (map (solid source) (filter (stands_in s.piece) xs))) r.selectors, map (printed_declaration source) r.decls)
item_texts xs source (KeptRule k) = None
item_texts xs source (KeptBlock piece) = None

abbrev texts : List Lexeme → List ℕ → Result (List Item) SheetFault → Option (List (List ℕ) × List (List ℕ))
texts xs source (Err fault) = None
texts xs source (Ok []) = None
texts xs source (Ok (item ∷ [])) = item_texts xs source item
texts xs source (Ok (item ∷ next ∷ items)) = None

-- by computation
sample_texts : texts (lexemes_of sample) sample (sheet_of sample) ≡ Some (selector_texts, declaration_texts)
unfolding sample digits utf8_valid_len is_utf8 chars encode_utf8 utf8_lossy
sample_texts = refl

-- What is read is one rule, of selectors and declarations with these texts.
record IsRule (xs : List Lexeme) (source : List ℕ) (read : Result (List Item) SheetFault) (selectors decls : List (List ℕ)) : Type 0 where
  rule : RuleParts
  reads : read ≡ Ok (Rule rule ∷ [])
  has_selectors : map (λ s. selector_text (map (solid source) (filter (stands_in s.piece) xs))) rule.selectors ≡ selectors
  has_decls : map (printed_declaration source) rule.decls ≡ decls

Some-is : {A : Type 0} (x y : A) → Some x ≡ Some y → x ≡ y
Some-is x y e = cc

is_rule : (xs : List Lexeme) (source : List ℕ) (read : Result (List Item) SheetFault) (selectors decls : List (List ℕ)) → texts xs source read ≡ Some (selectors, decls) → IsRule xs source read selectors decls
is_rule xs source (Err fault) selectors decls e = absurd cc
is_rule xs source (Ok []) selectors decls e = absurd cc
is_rule xs source (Ok (Rule r ∷ [])) selectors decls e =
    let both : (map (λ s. selector_text (map (solid source) (filter (stands_in s.piece) xs))) r.selectors, map (printed_declaration source) r.decls) ≡ (selectors, decls) = Some-is _ _ e in
    record { rule = r; reads = refl; has_selectors = ap (λ (x : List (List ℕ) × List (List ℕ)). x.0) both; has_decls = ap (λ (x : List (List ℕ) × List (List ℕ)). x.1) both }
is_rule xs source (Ok (KeptRule k ∷ [])) selectors decls e = absurd cc
is_rule xs source (Ok (KeptBlock piece ∷ [])) selectors decls e = absurd cc
is_rule xs source (Ok (item ∷ next ∷ items)) selectors decls e = absurd cc

-- a member of a list, for a text that a member is mapped to
one_for : {A : Type 0} (f : A → List ℕ) (P : A → Type 0) (xs : List A) (text : List ℕ) → AllByRecursion P xs → Contains (map f xs) text → (x : A) × P x × (f x ≡ text)
one_for f P [] text each has = absurd (Contains-nil text has)
one_for {A = A} f P (x ∷ xs) text (one, each) has = from (Contains-cons_cases (f x) (map f xs) text has) (one_for f P xs text each)
  where
    from : (f x ≡ text) ⊎ Contains (map f xs) text → (Contains (map f xs) text → (y : A) × P y × (f y ≡ text)) → (y : A) × P y × (f y ≡ text)
    from (inl is) later = (x, one, is)
    from (inr h) later = later h

-- The rule of the sample, which has a selector for each text of a selector, and a declaration for each of a declaration.
pub record Samples : Type 0 where
  pub rule : RuleParts
  pub reads : sheet_of sample ≡ Ok (Rule rule ∷ [])
  pub selector : (text : List ℕ) → Contains selector_texts text → (s : SelItem) × IsSoundSelector sample s × (printed_selector sample s ≡ text)
  pub declaration : (text : List ℕ) → Contains declaration_texts text → (d : DeclItem) × IsSoundDeclaration sample d × (printed_declaration sample d ≡ text)

pub samples : ReadIsSound → Samples
samples sound =
    let is : IsRule (lexemes_of sample) sample (sheet_of sample) selector_texts declaration_texts = is_rule (lexemes_of sample) sample (sheet_of sample) selector_texts declaration_texts sample_texts in
    let all : IsSound sample (Rule is.rule ∷ []) = sound sample (Rule is.rule ∷ []) is.reads in
    record {
      rule = is.rule;
      reads = is.reads;
      selector =
          λ text has. one_for (printed_selector sample) (IsSoundSelector sample) is.rule.selectors text all.0.selectors (subst (λ (ts : List (List ℕ)). Contains ts text) (sym is.has_selectors) has);
      declaration =
          λ text has. one_for (printed_declaration sample) (IsSoundDeclaration sample) is.rule.decls text all.0.decls (subst (λ (ts : List (List ℕ)). Contains ts text) (sym is.has_decls) has);
    }
