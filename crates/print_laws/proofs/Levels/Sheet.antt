-- The tokens of a printed sheet stand inside the brackets that their levels tell.
use Rattle.std.proofs.Common.{◌≡◌, ℕ, Bool, true, false, cond, List, [], ◌∷◌, ◌++◌, map, length, refl, sym, ◌∙◌, ap, subst}
use Rattle.std.specs.List.{AllByRecursion}
use Rattle.css_model.specs.declared.sheet.DeclItem.{DeclItem}
use Rattle.css_model.specs.declared.sheet.Item.{Item}
use Rattle.css_model.specs.declared.sheet.Item.TheVariants.{Rule, KeptRule, KeptBlock}
use Rattle.css_model.specs.declared.sheet.SelItem.{SelItem}
use Rattle.css_model.specs.declared.token.Gap.{Gap}
use Rattle.css_model.specs.declared.token.Gap.TheVariants as gap
use Rattle.css_model.specs.declared.token.Lexeme.{Lexeme}
use Rattle.css_model.specs.declared.token.TokenKind.{TokenKind}
use Rattle.css_model.specs.declared.token.TokenKind.TheVariants as kind
use Rattle.css_model.specs.Text.Characters.{comma, semicolon, open_curly, close_curly}
use Rattle.css_model.specs.Text.Kept.{is_lone}
use Rattle.css_model.specs.Text.Lexemes.{is_white_kind}
use Rattle.css_model.specs.Sheets.RuleParts.{RuleParts}
use Rattle.css_model.specs.Sheets.Spelling.{tokens_in}
use Rattle.sheet_laws.specs.Sourced.{SourcedItem, all_of_source}
use Rattle.sheet_laws.proofs.ForCallers.{Shown, all_shown, colon_gap, declaration_shown, each_of_source, importance_shown, inner, item_shown, joined, kept_shown, last_gap, last_of_item, last_of_value, rule_shown, selector_shown, sheet_shown, sign_shown, sourced_shown, value_shown}
use Rattle.print_laws.proofs.Tokens.Chain.{IsChain, IsTold, closers_after_all}
use Rattle.print_laws.proofs.Levels.Brackets.{AreLeveled, open_behind}
use Rattle.print_laws.proofs.Tokens.Parts.{closers_after}

told-more : (g : Gap) (ss more : List Shown) → IsTold g ss → IsTold g (ss ++ more)
told-more gap.Comments [] more told = absurd told
told-more gap.Comments (s ∷ ss) more told = tt
told-more gap.Nothing ss more told = tt
told-more gap.White ss more told = tt

told-some : (g : Gap) (s : Shown) (ss : List Shown) → IsTold g (s ∷ ss)
told-some gap.Comments s ss = tt
told-some gap.Nothing s ss = tt
told-some gap.White s ss = tt

pub chain-append : (cs : List ℕ) (ss more : List Shown) → IsChain cs ss → IsChain (closers_after_all cs ss) more → IsChain cs (ss ++ more)
chain-append cs [] more chain later = later
chain-append cs (s ∷ ss) more (solid, level, told, chain) later = (solid, level, told-more s.gap ss more told, chain-append (closers_after s.kind cs) ss more chain later)

pub after-append : (cs : List ℕ) (ss more : List Shown) → closers_after_all cs (ss ++ more) ≡ closers_after_all (closers_after_all cs ss) more
after-append cs [] more = refl
after-append cs (s ∷ ss) more = after-append (closers_after s.kind cs) ss more

-- tokens inside brackets that these signs close, and the brackets behind them
pub record Chain (cs : List ℕ) (ss : List Shown) (behind : List ℕ) : Type 0 where
  pub chain : IsChain cs ss
  pub ends : closers_after_all cs ss ≡ behind

pub chain-then : (cs ds es : List ℕ) (ss more : List Shown) → Chain cs ss ds → Chain ds more es → Chain cs (ss ++ more) es
chain-then cs ds es ss more first second = record {
  chain = chain-append cs ss more first.chain (subst (λ (signs : List ℕ). IsChain signs more) (sym first.ends) second.chain);
  ends = after-append cs ss more ∙ ap (λ (signs : List ℕ). closers_after_all signs more) first.ends ∙ second.ends;
}

pub chain-first : (cs ds es : List ℕ) (s : Shown) (more : List Shown) → is_white_kind s.kind ≡ false → s.level ≡ length cs → IsTold s.gap more → closers_after s.kind cs ≡ ds → Chain ds more es → Chain cs (s ∷ more) es
chain-first cs ds es s more solid level told is later = record {
  chain = (solid, level, told, subst (λ (signs : List ℕ). IsChain signs more) (sym is) later.chain);
  ends = ap (λ (signs : List ℕ). closers_after_all signs more) is ∙ later.ends;
}

pub chain-none : (cs : List ℕ) → Chain cs [] cs
chain-none cs = record { chain = tt; ends = refl }

last-told : (x : Lexeme) → IsTold (last_gap x) []
last-told x = at (is_lone x.kind)
  where
    at : (b : Bool) → IsTold (cond b gap.White gap.Nothing) []
    at true = tt
    at false = tt

-- tokens of a source, shown at their kinds and levels
all-chain : (others last : Lexeme → Shown) → ((x : Lexeme) → ((others x).kind ≡ x.kind) × ((others x).level ≡ x.level)) → ((x : Lexeme) → ((last x).kind ≡ x.kind) × ((last x).level ≡ x.level) × IsTold (last x).gap [])
    → (cs : List ℕ) (xs : List Lexeme) → AreLeveled cs xs → Chain cs (all_shown others last xs) (open_behind cs xs)
all-chain others last o l cs [] leveled = chain-none cs
all-chain others last o l cs (x ∷ []) (solid, level, leveled) =
    chain-first cs (closers_after x.kind cs) (closers_after x.kind cs) (last x) [] (ap is_white_kind (l x).0 ∙ solid) ((l x).1 ∙ level) (l x).2 (ap (λ k. closers_after k cs) (l x).0) (chain-none _)
all-chain others last o l cs (x ∷ y ∷ xs) (solid, level, leveled) =
    chain-first cs (closers_after x.kind cs) (open_behind (closers_after x.kind cs) (y ∷ xs)) (others x) (all_shown others last (y ∷ xs))
    (ap is_white_kind (o x).0 ∙ solid) ((o x).1 ∙ level) (some-told (others x).gap y xs) (ap (λ k. closers_after k cs) (o x).0)
    (all-chain others last o l (closers_after x.kind cs) (y ∷ xs) leveled)
  where
    some-told : (g : Gap) (z : Lexeme) (zs : List Lexeme) → IsTold g (all_shown others last (z ∷ zs))
    some-told g z [] = told-some g (last z) []
    some-told g z (w ∷ zs) = told-some g (others z) (all_shown others last (w ∷ zs))

pub kept-chain : (source : List ℕ) (xs : List Lexeme) → AreLeveled [] xs → open_behind [] xs ≡ [] → Chain [] (kept_shown source xs) []
kept-chain source xs leveled ends =
    subst (Chain [] (kept_shown source xs)) ends (all-chain (inner source) (last_of_item source) (λ x. (refl, refl)) (λ x. (refl, refl, last-told x)) [] xs leveled)

-- a token that neither opens nor closes a bracket
pub record IsFlat (k : TokenKind) : Type 0 where
  pub solid : is_white_kind k ≡ false
  pub flat : (cs : List ℕ) → closers_after k cs ≡ cs

pub ident-flat : IsFlat kind.Ident
ident-flat = record { solid = refl; flat = stays }
  where
    stays : (cs : List ℕ) → closers_after kind.Ident cs ≡ cs
    stays [] = refl
    stays (c ∷ cs) = refl

pub delim-flat : (d : ℕ) → IsFlat (kind.Delim d)
delim-flat d = record { solid = refl; flat = stays }
  where
    stays : (cs : List ℕ) → closers_after (kind.Delim d) cs ≡ cs
    stays [] = refl
    stays (c ∷ cs) = refl

-- a flat token, and those behind it
flat-first : (cs es : List ℕ) (s : Shown) (more : List Shown) → IsFlat s.kind → s.level ≡ length cs → IsTold s.gap more → Chain cs more es → Chain cs (s ∷ more) es
flat-first cs es s more flat level told later = chain-first cs cs es s more flat.solid level told (flat.flat cs) later

-- parts that keep the brackets, with a sign between them that does
joined-chain : (cs : List ℕ) (s : Shown) → is_white_kind s.kind ≡ false → closers_after s.kind cs ≡ cs → s.level ≡ length cs → ((more : List Shown) → IsTold s.gap more)
    → (parts : List (List Shown)) → AllByRecursion (λ part. Chain cs part cs) parts → Chain cs (joined s parts) cs
joined-chain cs s solid flat level told [] each = chain-none cs
joined-chain cs s solid flat level told (part ∷ []) (one, rest) = one
joined-chain cs s solid flat level told (part ∷ next ∷ parts) (one, rest) =
    chain-then cs cs cs part (s ∷ joined s (next ∷ parts)) one
    (chain-first cs cs cs s (joined s (next ∷ parts)) solid level (told (joined s (next ∷ parts))) flat (joined-chain cs s solid flat level told (next ∷ parts) rest))

-- a declaration whose value closes what it opens
pub record IsFlatDeclaration (source : List ℕ) (d : DeclItem) : Type 0 where
  pub leveled : AreLeveled (close_curly ∷ []) (tokens_in source d.value)
  pub ends : open_behind (close_curly ∷ []) (tokens_in source d.value) ≡ close_curly ∷ []

-- a selector closes what it opens
abbrev pub IsFlatSelector : List ℕ → SelItem → Type 0
IsFlatSelector source s = Chain [] (selector_shown source s) []

selectors-chain : (source : List ℕ) (ss : List SelItem) → AllByRecursion (IsFlatSelector source) ss → AllByRecursion (λ part. Chain [] part []) (map (selector_shown source) ss)
selectors-chain source [] each = tt
selectors-chain source (s ∷ ss) (one, rest) = (one, selectors-chain source ss rest)

value-chain : (source : List ℕ) (xs : List Lexeme) → AreLeveled (close_curly ∷ []) xs → open_behind (close_curly ∷ []) xs ≡ close_curly ∷ [] → Chain (close_curly ∷ []) (value_shown source xs) (close_curly ∷ [])
value-chain source xs leveled ends =
    subst (Chain (close_curly ∷ []) (value_shown source xs)) ends
    (all-chain (inner source) (last_of_value source) (λ x. (refl, refl)) (λ x. (refl, refl, last-told x)) (close_curly ∷ []) xs leveled)

importance-chain : (important : Bool) → Chain (close_curly ∷ []) (importance_shown important) (close_curly ∷ [])
importance-chain false = chain-none _
importance-chain true =
    flat-first (close_curly ∷ []) (close_curly ∷ []) _ _ (delim-flat 33) refl tt (flat-first (close_curly ∷ []) (close_curly ∷ []) _ [] ident-flat refl tt (chain-none _))

colon-told : (value : List ℕ) (xs : List Lexeme) (more : List Shown) → IsTold (colon_gap value xs) more
colon-told [] xs more = tt
colon-told (c ∷ cs) [] more = tt
colon-told (c ∷ cs) (x ∷ xs) more = tt

declaration-chain : (source : List ℕ) (d : DeclItem) → IsFlatDeclaration source d → Chain (close_curly ∷ []) (declaration_shown source d) (close_curly ∷ [])
declaration-chain source d flat =
    let cs = close_curly ∷ [] in
    let value = value_shown source (tokens_in source d.value) in
    let rest = value ++ importance_shown d.decl.important in
    let behind : Chain cs rest cs = chain-then cs cs cs value (importance_shown d.decl.important) (value-chain source (tokens_in source d.value) flat.leveled flat.ends) (importance-chain d.decl.important) in
    flat-first cs cs _ _ ident-flat refl tt
    (chain-first cs cs cs _ rest refl refl (colon-told d.decl.value (tokens_in source d.value) rest) refl behind)

declarations-chain : (source : List ℕ) (ds : List DeclItem) → AllByRecursion (IsFlatDeclaration source) ds → AllByRecursion (λ part. Chain (close_curly ∷ []) part (close_curly ∷ [])) (map (declaration_shown source) ds)
declarations-chain source [] each = tt
declarations-chain source (d ∷ ds) (one, rest) = (declaration-chain source d one, declarations-chain source ds rest)

-- a rule whose parts close what they open
pub record IsFlatRule (source : List ℕ) (r : RuleParts) : Type 0 where
  pub selectors : AllByRecursion (IsFlatSelector source) r.selectors
  pub decls : AllByRecursion (IsFlatDeclaration source) r.decls

rule-chain : (source : List ℕ) (r : RuleParts) → IsFlatRule source r → Chain [] (rule_shown source r) []
rule-chain source r flat =
    let cs = close_curly ∷ [] in
    let prelude = joined (sign_shown comma 0) (map (selector_shown source) r.selectors) in
    let block = joined (sign_shown semicolon 1) (map (declaration_shown source) r.decls) in
    let inside : Chain cs block cs = joined-chain cs (sign_shown semicolon 1) refl refl refl (λ more. tt) (map (declaration_shown source) r.decls) (declarations-chain source r.decls flat.decls) in
    let before : Chain [] prelude [] = joined-chain [] (sign_shown comma 0) refl refl refl (λ more. tt) (map (selector_shown source) r.selectors) (selectors-chain source r.selectors flat.selectors) in
    let opened : Chain [] (sign_shown open_curly 0 ∷ block) cs = chain-first [] cs cs (sign_shown open_curly 0) block refl refl tt refl inside in
    let shut : Chain cs (sign_shown close_curly 1 ∷ []) [] = chain-first cs [] [] (sign_shown close_curly 1) [] refl refl tt refl (chain-none []) in
    chain-then [] cs [] (prelude ++ sign_shown open_curly 0 ∷ block) (sign_shown close_curly 1 ∷ []) (chain-then [] [] cs prelude (sign_shown open_curly 0 ∷ block) before opened) shut

-- a kept item that closes what it opens
pub record IsFlatPiece (source : List ℕ) (xs : List Lexeme) : Type 0 where
  pub leveled : AreLeveled [] xs
  pub ends : open_behind [] xs ≡ []

abbrev pub IsFlatItem : List ℕ → Item → Type 0
IsFlatItem source (Rule r) = IsFlatRule source r
IsFlatItem source (KeptRule k) = IsFlatPiece source (tokens_in source k.piece)
IsFlatItem source (KeptBlock piece) = IsFlatPiece source (tokens_in source piece)

pub item-chain : (source : List ℕ) (item : Item) → IsFlatItem source item → Chain [] (item_shown source item) []
item-chain source (Rule r) flat = rule-chain source r flat
item-chain source (KeptRule k) flat = kept-chain source (tokens_in source k.piece) flat.leveled flat.ends
item-chain source (KeptBlock piece) flat = kept-chain source (tokens_in source piece) flat.leveled flat.ends

-- the tokens of printed items, each of its own source
pub sourced-chain : (xs : List SourcedItem) → AllByRecursion (λ x. IsFlatItem x.source x.item) xs → Chain [] (sourced_shown xs) []
sourced-chain [] each = chain-none []
sourced-chain (x ∷ xs) (one, rest) = chain-then [] [] [] (item_shown x.source x.item) (sourced_shown xs) (item-chain x.source x.item one) (sourced-chain xs rest)

-- the tokens of a printed sheet
pub sheet-chain : (source : List ℕ) (items : List Item) → AllByRecursion (IsFlatItem source) items → Chain [] (sheet_shown source items) []
sheet-chain source items each = sourced-chain (all_of_source source items) (each_of_source (λ x. IsFlatItem x.source x.item) source items each)
