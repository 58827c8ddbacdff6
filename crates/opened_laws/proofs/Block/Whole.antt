-- The tokens of a printed block: those of its head, and inside its brackets those of its body.
use Rattle.std.proofs.Common.{◌≡◌, ℕ, ◌==◌, Bool, true, false, cond, nat_eq, List, [], ◌∷◌, ◌++◌, map, Some, Ok, refl, sym, ◌∙◌, ap, subst, arith}
use Rattle.std.specs.Prelude.{◌&&◌, codes, if◌then◌else◌}
use Rattle.std.specs.List.{AllByRecursion, flat_map, starts_with}
use Rattle.std.specs.Str.{IsUtf8}
use Rattle.std.proofs.lemmas.Bool.{and_parts, eqb-true, false≢true}
use Rattle.std.proofs.Math.Utf8.{encode}
use Rattle.css_model.specs.declared.limits.TheConstants.{MAX_DEPTH}
use Rattle.css_model.specs.declared.sheet.Item.{Item}
use Rattle.css_model.specs.declared.token.Gap.{Gap}
use Rattle.css_model.specs.declared.token.Gap.TheVariants as gap
use Rattle.css_model.specs.declared.token.Lexeme.{Lexeme}
use Rattle.css_model.specs.declared.token.TokenKind.TheVariants as kind
use Rattle.css_model.specs.Sheets.Items.{ends_prelude}
use Rattle.css_model.specs.Sheets.Printed.{behind_mark, printed_item}
use Rattle.css_model.specs.Sheets.Sheet.{is_at_rule_named}
use Rattle.css_model.specs.Text.Characters.{close_curly, open_curly, space}
use Rattle.css_model.specs.Text.Kept.{kept, solid}
use Rattle.css_model.specs.Text.Lexemes.{opens}
use Rattle.css_model.specs.Text.TokenAt.{part_at}
use Rattle.css_model.specs.Text.Tokens.{Part, byte_order_mark, text_of}
use Rattle.css_model.specs.Text.Units.{white_unit}
use Rattle.css_tokens.specs.Lexed.{IsLexed}
use Rattle.token_laws.proofs.ForCallers.{sign_read, space_read}
use Rattle.list_facts.proofs.Cuts.{None_of}
use Rattle.sheet_laws.proofs.ForCallers.{AreClosable, Shown, kept_shown, sheet_shown, sign_shown}
use Rattle.print_laws.proofs.ForCallers.{AreLeveled, Chain, IsGoodLexeme, IsReadPiece, IsSpelledBy, IsTold, chain-first, chain-none, chain-then, each-append, gap_parts, kept-chain, kept-text, kept-utf8, parts-append, parts_of, shown_text, text-append, token_part}
use Rattle.opened_laws.proofs.Block.Alone.{close_part}
use Rattle.opened_laws.proofs.Block.Body.{PrintedBody, kept_before}
use Rattle.opened_laws.proofs.Block.Levels.{chain_deeper, deeper, is_stray, parts_deeper}

-- the tokens of an at-rule `@media` before its block, which are not its end
pub record IsHead (source : List ℕ) (xs : List Lexeme) : Type 0 where
  pub ps : List Part
  pub spelled : IsSpelledBy source ps
  pub read : IsReadPiece source xs
  pub leveled : AreLeveled [] xs
  pub good : AllByRecursion (IsGoodLexeme source) xs
  pub closable : AreClosable source xs
  pub media : is_at_rule_named (codes "media") source xs ≡ true
  pub no_end : None_of (ends_prelude true) xs
  pub shallow : None_of (λ x. opens x.kind && x.level == MAX_DEPTH) xs

-- the `{`, before a body's text: a space stands behind it where that would begin with a byte order mark
abbrev pub open_gap : List ℕ → Gap
open_gap text = if starts_with nat_eq text byte_order_mark then gap.White else gap.Nothing

abbrev pub open_shown : List ℕ → Shown
open_shown text = record { kind = kind.Sign open_curly; bytes = open_curly ∷ []; gap = open_gap text; level = 0 }

-- the tokens of a block of these tokens, whose body has this text
abbrev pub block_shown : List Shown → List ℕ → List Shown → List Shown
block_shown head text inside = head ++ open_shown text ∷ (map deeper inside ++ sign_shown close_curly 1 ∷ [])

open_told : (g : Bool) (more : List Shown) → IsTold (if g then gap.White else gap.Nothing) more
open_told true more = tt
open_told false more = tt

no_white_first : (text more : List ℕ) → starts_with nat_eq text byte_order_mark ≡ true → white_unit (text ++ more) ≡ 0
no_white_first [] more mark = absurd (false≢true mark)
no_white_first (c ∷ cs) more mark =
    let first : 0xEF ≡ c = eqb-true 0xEF c (and_parts (nat_eq 0xEF c) _ mark).0 in
    ap (λ (b : ℕ). white_unit (b ∷ cs ++ more)) (sym first)

-- a head of a source, and a sheet that is printed inside its block
module _ (source : List ℕ) (xs : List Lexeme) (h : IsHead source xs) (body : List ℕ) (items : List Item) (b : PrintedBody body items) where
  abbrev head : List Shown
  head = kept_shown source xs

  abbrev inside : List Shown
  inside = sheet_shown body items

  abbrev text : List ℕ
  text = flat_map (printed_item body) items

  -- the parts behind the `{`
  abbrev behind_open : Bool → List Part
  behind_open marked = gap_parts (kind.Sign open_curly) (if marked then gap.White else gap.Nothing) ++ (parts_of inside ++ close_part ∷ [])

  parts_are : parts_of (block_shown head text inside) ≡ parts_of head ++ token_part (open_shown text) ∷ behind_open (starts_with nat_eq text byte_order_mark)
  parts_are =
      parts-append head (open_shown text ∷ (map deeper inside ++ sign_shown close_curly 1 ∷ []))
      ∙ ap (λ (ps : List Part). parts_of head ++ token_part (open_shown text) ∷ (gap_parts (kind.Sign open_curly) (open_gap text) ++ ps))
      (parts-append (map deeper inside) (sign_shown close_curly 1 ∷ []) ∙ ap (λ (ps : List Part). ps ++ close_part ∷ []) (parts_deeper inside))

  body_lexed : IsLexed (parts_of inside ++ close_part ∷ [])
  body_lexed = b.lexed (close_part ∷ []) (sign_read [] close_curly refl, tt) (refl, λ _. refl)

  body_text : text_of (parts_of inside ++ close_part ∷ []) ≡ text ++ close_curly ∷ []
  body_text = text-append (parts_of inside) (close_part ∷ []) ∙ ap (λ (cs : List ℕ). cs ++ close_curly ∷ []) b.text

  behind_lexed : (marked : Bool) → starts_with nat_eq text byte_order_mark ≡ marked → IsLexed (behind_open marked)
  behind_lexed false none = body_lexed
  behind_lexed true mark =
      (subst (λ (cs : List ℕ). part_at (space ∷ cs) ≡ Ok (Some kind.White, 1)) (sym body_text) (space_read (text ++ close_curly ∷ []) (no_white_first text (close_curly ∷ []) mark)), body_lexed)

  pub block_lexed : IsLexed (parts_of (block_shown head text inside))
  block_lexed = subst IsLexed (sym parts_are)
      (kept_before source h.ps h.spelled xs h.read (token_part (open_shown text) ∷ behind_open (starts_with nat_eq text byte_order_mark))
      (sign_read (text_of (behind_open (starts_with nat_eq text byte_order_mark))) open_curly refl, behind_lexed (starts_with nat_eq text byte_order_mark) refl)
      (refl, λ bang. absurd (omega (arith, bang))))

  behind_text : (marked : Bool) → text_of (behind_open marked) ≡ cond marked (space ∷ text) text ++ close_curly ∷ []
  behind_text true = ap (λ (cs : List ℕ). space ∷ cs) body_text
  behind_text false = body_text

  pub block_spells : shown_text (block_shown head text inside) ≡ kept (map (solid source) xs) ++ (open_curly ∷ (behind_mark text ++ close_curly ∷ []))
  block_spells =
      ap text_of parts_are ∙ text-append (parts_of head) _
      ∙ ap (λ (cs : List ℕ). cs ++ (open_curly ∷ text_of (behind_open (starts_with nat_eq text byte_order_mark)))) (kept-text source xs h.read.lone)
      ∙ ap (λ (cs : List ℕ). kept (map (solid source) xs) ++ (open_curly ∷ cs)) (behind_text (starts_with nat_eq text byte_order_mark))

  pub block_chain : None_of is_stray inside → Chain [] (block_shown head text inside) []
  block_chain stays =
      let shut : Chain (close_curly ∷ []) (sign_shown close_curly 1 ∷ []) [] = chain-first (close_curly ∷ []) [] [] (sign_shown close_curly 1) [] refl refl tt refl (chain-none []) in
      let within : Chain (close_curly ∷ []) (map deeper inside ++ sign_shown close_curly 1 ∷ []) [] =
      chain-then (close_curly ∷ []) (close_curly ∷ []) [] (map deeper inside) (sign_shown close_curly 1 ∷ []) (chain_deeper [] [] inside b.chain stays) shut in
      chain-then [] [] [] head (open_shown text ∷ (map deeper inside ++ sign_shown close_curly 1 ∷ [])) (kept-chain source xs h.leveled h.read.ends)
      (chain-first [] (close_curly ∷ []) [] (open_shown text) (map deeper inside ++ sign_shown close_curly 1 ∷ []) refl refl
      (open_told (starts_with nat_eq text byte_order_mark) (map deeper inside ++ sign_shown close_curly 1 ∷ [])) refl within)

  deeper_utf8 : (ss : List Shown) → AllByRecursion (λ s. IsUtf8 s.bytes) ss → AllByRecursion (λ s. IsUtf8 s.bytes) (map deeper ss)
  deeper_utf8 [] each = tt
  deeper_utf8 (s ∷ ss) (one, each) = (one, deeper_utf8 ss each)

  pub block_utf8 : AllByRecursion (λ s. IsUtf8 s.bytes) (block_shown head text inside)
  unfolding encode
  block_utf8 =
      each-append (λ s. IsUtf8 s.bytes) head (open_shown text ∷ (map deeper inside ++ sign_shown close_curly 1 ∷ [])) (kept-utf8 source xs h.good)
      ((123 ∷ [], (refl, refl)), each-append (λ s. IsUtf8 s.bytes) (map deeper inside) (sign_shown close_curly 1 ∷ []) (deeper_utf8 inside b.utf8) ((125 ∷ [], (refl, refl)), tt))
