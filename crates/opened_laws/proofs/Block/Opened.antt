-- An opened block of a source, by its tokens.
use Rattle.std.proofs.Common.{◌≡◌, ℕ, suc, ◌==◌, Bool, true, false, List, [], ◌∷◌, ◌++◌, length, Option, Some, None, Ok, refl, sym, ◌∙◌, ap, subst, append_assoc}
use Rattle.std.specs.Prelude.{◌&&◌, IfSome, codes, if◌then◌else◌}
use Rattle.std.specs.List.{AllByRecursion, Contains, before_first, cons_option, list_any}
use Rattle.std.specs.Option.{option_map}
use Rattle.std.proofs.lemmas.Bool.{and_parts, eqb-true}
use Rattle.css_model.specs.declared.limits.TheConstants.{MAX_DEPTH}
use Rattle.css_model.specs.declared.sheet.Item.{Item}
use Rattle.css_model.specs.declared.sheet.Item.TheVariants.{Rule, KeptRule, KeptBlock}
use Rattle.css_model.specs.declared.sheet.Piece.{Piece}
use Rattle.css_model.specs.declared.token.Lexeme.{Lexeme}
use Rattle.css_model.specs.Sheets.Items.{ends_prelude, item_len, opens_block}
use Rattle.css_model.specs.Sheets.Sheet.{is_at_rule_named, sheet_of}
use Rattle.css_model.specs.Sheets.Sound.{IsSoundBlock, IsSoundItem, raw_items}
use Rattle.css_model.specs.Sheets.Spelling.{lexemes_of, tokens_in}
use Rattle.css_model.specs.Text.Characters.{close_curly, open_curly}
use Rattle.css_model.specs.Text.Lexemes.{is_sign_of, opens, piece_of}
use Rattle.css_model.specs.Text.Source.{text_at}
use Rattle.list_facts.proofs.Cuts.{None_of, before_at}
use Rattle.list_facts.proofs.Elements.{all_with, member}
use Rattle.media_groups.specs.declared.media.Media.{Media}
use Rattle.media_groups.specs.Opened.{body_of, is_import_item, is_media, media_of, opened_from, opened_item, opened_of, opened_rule, sheet_of_body}
use Rattle.sheet_laws.proofs.ForCallers.{IsClosable, IsRawItem, StandsIn, each_inside, find_none, read_from, sheet-sound, stand_alone_in}
use Rattle.print_laws.proofs.ForCallers.{AreLeveled, Closed, Ground, IsGoodLexeme, IsItemOf, IsLoneBeforeWhite, block-closes, closers_after, curly-opens, ground-of, length-none, leveled-append, open-append, open_behind}
use Rattle.opened_laws.proofs.Block.Inside.{IsBlockIn}
use Rattle.opened_laws.proofs.Block.Whole.{IsHead}
use Rattle.opened_laws.proofs.Block.AtRules.{FirstOf, at_rule_len, at_rule_of, body_is, first_of, front_named, no_end_before, outer_level, sign_is}

-- an opened block, with the tokens that it has in its source
pub record OpenedBlock (source : List ℕ) (m : Media) : Type 0 where
  pub before : List Lexeme
  pub head : List Lexeme
  pub open_ : Lexeme
  pub inner : List Lexeme
  pub close : Lexeme
  pub rest : List Lexeme
  pub is_head : IsHead source head
  pub head_in : tokens_in source m.head ≡ head
  pub block : IsBlockIn source (before ++ head) open_ inner close rest
  pub shallow : None_of (λ x. opens x.kind && x.level == MAX_DEPTH) inner
  pub body : m.body ≡ record { start = open_.span.«end»; «end» = close.span.start }

-- an item of a source that is read, which is an at-rule `@media` with a block
module _ (source : List ℕ) (its : List Item) (e : sheet_of source ≡ Ok its) (raw : List Lexeme) (inside : Contains (raw_items source) raw) (media : is_media source raw ≡ true) where
  g : Ground source
  g = ground-of source its e

  item : IsItemOf (lexemes_of source) raw
  item = member (IsItemOf (lexemes_of source)) (raw_items source) raw g.items inside

  is_raw : IsRawItem (lexemes_of source) raw
  is_raw = member (IsRawItem (lexemes_of source)) (raw_items source) raw g.raw.each inside

  named : is_at_rule_named (codes "media") source raw ≡ true
  named = (and_parts (is_at_rule_named (codes "media") source raw) (list_any opens_block raw) media).0

  f : FirstOf opens_block raw
  f = first_of opens_block raw (and_parts (is_at_rule_named (codes "media") source raw) (list_any opens_block raw) media).1

  leveled : AreLeveled [] f.front × AreLeveled (open_behind [] f.front) (f.first ∷ f.rest)
  leveled = leveled-append [] f.front (f.first ∷ f.rest) (subst (AreLeveled []) f.are item.leveled)

  ends : open_behind [] f.front ≡ []
  ends = length-none (open_behind [] f.front) (sym leveled.1.1 ∙ eqb-true f.first.level 0 (and_parts (is_sign_of open_curly f.first.kind) (f.first.level == 0) f.passes).1)

  opens_at : closers_after f.first.kind [] ≡ close_curly ∷ []
  opens_at = curly-opens f.first.kind (and_parts (is_sign_of open_curly f.first.kind) (f.first.level == 0) f.passes).0

  closed : Closed (close_curly ∷ []) f.rest
  closed = block-closes (close_curly ∷ []) f.rest ([], refl)
      (subst (λ cs. AreLeveled cs f.rest) (ap (closers_after f.first.kind) ends ∙ opens_at) leveled.1.2)
      (ap (λ cs. open_behind cs f.rest) (sym (ap (closers_after f.first.kind) ends ∙ opens_at)) ∙ sym (open-append [] f.front (f.first ∷ f.rest)) ∙ ap (open_behind []) (sym f.are) ∙ item.ends)

  whole : lexemes_of source ≡ item.before ++ (f.front ++ (f.first ∷ f.rest ++ item.behind))
  whole = item.are ∙ ap (λ (xs : List Lexeme). item.before ++ (xs ++ item.behind)) f.are ∙ ap (λ (xs : List Lexeme). item.before ++ xs) (append_assoc f.front (f.first ∷ f.rest) item.behind)

  before_ends : open_behind [] item.before ≡ []
  before_ends =
      let both = leveled-append [] item.before (raw ++ item.behind) (subst (AreLeveled []) item.are g.leveled) in
      outer_level (open_behind [] item.before) f.front f.first (f.rest ++ item.behind) leveled.0 f.rest leveled.1
      (subst (AreLeveled (open_behind [] item.before)) (ap (λ (xs : List Lexeme). xs ++ item.behind) f.are ∙ append_assoc f.front (f.first ∷ f.rest) item.behind) both.1)

  head_stands : StandsIn (lexemes_of source) f.front
  head_stands = record { front = item.before; behind = f.first ∷ f.rest ++ item.behind; is = whole ∙ sym (append_assoc item.before f.front (f.first ∷ f.rest ++ item.behind)) }

  named_front : is_at_rule_named (codes "media") source f.front ≡ true
  named_front = front_named (codes "media") source f.front f.first f.rest f.passes (ap (is_at_rule_named (codes "media") source) (sym f.are) ∙ named)

  shallow_all : None_of (λ x. opens x.kind && x.level == MAX_DEPTH) (lexemes_of source)
  shallow_all = find_none (λ x. opens x.kind && x.level == MAX_DEPTH) (lexemes_of source) (read_from source its g.good e).shallow

  front_no_end : None_of (ends_prelude true) f.front
  front_no_end = no_end_before true f.front f.first f.rest f.none
      (sym (at_rule_len f.front f.first f.rest (at_rule_of (codes "media") source f.front named_front)) ∙ ap item_len (sym f.are) ∙ is_raw.is_item.is_item ∙ ap length f.are)

  front_is : before_first opens_block raw ≡ f.front
  front_is = ap (before_first opens_block) f.are ∙ before_at opens_block f.front f.first f.rest f.none f.passes

  raw_are : raw ≡ f.front ++ f.first ∷ (closed.front ++ closed.close ∷ closed.rest)
  raw_are = f.are ∙ ap (λ (xs : List Lexeme). f.front ++ f.first ∷ xs) closed.are

  front_head : IsHead source f.front
  front_head = record {
    ps = g.parts.ps;
    spelled = record { lexed = g.parts.lexed; solids = g.parts.spelled };
    read = record {
      part = record { before = item.before; behind = f.first ∷ f.rest ++ item.behind; are = whole };
      ends = ends;
      lone = all_with (IsGoodLexeme source) IsLoneBeforeWhite (λ x good. good.good.lone) f.front (each_inside (IsGoodLexeme source) (lexemes_of source) f.front head_stands g.each);
    };
    leveled = leveled.0;
    good = each_inside (IsGoodLexeme source) (lexemes_of source) f.front head_stands g.each;
    closable = each_inside (IsClosable source) (lexemes_of source) f.front head_stands g.good.closable;
    media = named_front;
    no_end = front_no_end;
    shallow = each_inside (λ x. (opens x.kind && x.level == MAX_DEPTH) ≡ false) (lexemes_of source) f.front head_stands shallow_all;
  }

  block_in : IsBlockIn source (item.before ++ f.front) f.first closed.front closed.close (closed.rest ++ item.behind)
  block_in = record {
    are = whole ∙ sym (append_assoc item.before f.front (f.first ∷ f.rest ++ item.behind))
        ∙ ap (λ (xs : List Lexeme). (item.before ++ f.front) ++ f.first ∷ xs) (ap (λ (xs : List Lexeme). xs ++ item.behind) closed.are ∙ append_assoc closed.front (closed.close ∷ closed.rest) item.behind);
    opens = ap (closers_after f.first.kind) (open-append [] item.before f.front ∙ ap (λ cs. open_behind cs f.front) before_ends ∙ ends) ∙ opens_at;
    inside = closed.block;
    stays = closed.stays;
    closes = sign_is close_curly 1 closed.close closed.closes;
  }

  inner_stands : StandsIn (lexemes_of source) closed.front
  inner_stands =
      let before = item.before ++ f.front in
      let behind = closed.close ∷ (closed.rest ++ item.behind) in
      record {
        front = before ++ f.first ∷ [];
        behind = behind;
        is = block_in.are ∙ sym (append_assoc before (f.first ∷ []) (closed.front ++ behind)) ∙ sym (append_assoc (before ++ f.first ∷ []) closed.front behind);
      }

  pub opened_block : (number : ℕ) (items : List Item) → OpenedBlock source (media_of number raw items)
  opened_block number items = record {
    before = item.before;
    head = f.front;
    open_ = f.first;
    inner = closed.front;
    close = closed.close;
    rest = closed.rest ++ item.behind;
    is_head = front_head;
    head_in = ap (λ (xs : List Lexeme). tokens_in source (piece_of xs)) front_is ∙ stand_alone_in source g.good f.front head_stands;
    block = block_in;
    shallow = each_inside (λ x. (opens x.kind && x.level == MAX_DEPTH) ≡ false) (lexemes_of source) closed.front inner_stands shallow_all;
    body = ap body_of raw_are ∙ body_is f.front f.first closed.front closed.close closed.rest f.none f.passes closed.stays closed.closes;
  }

-- ---- the opened blocks of a source

rule_opened : (source : List ℕ) (old : List Item) → sheet_of source ≡ Ok old → (number : ℕ) (piece : Piece) → IsSoundBlock source piece → IfSome (opened_rule source number (tokens_in source piece)) (OpenedBlock source)
rule_opened source old e number piece sound = which (is_media source (tokens_in source piece)) refl
  where
    g : Ground source
    g = ground-of source old e

    raw : IsRawItem (lexemes_of source) sound.item
    raw = member (IsRawItem (lexemes_of source)) (raw_items source) sound.item g.raw.each sound.item_in

    alone : tokens_in source piece ≡ sound.item
    alone = ap (tokens_in source) (sym sound.stands) ∙ stand_alone_in source g.good sound.item raw.is_item.stands

    some : is_media source sound.item ≡ true → (o : Option (List Item)) → IfSome (option_map (media_of number (tokens_in source piece)) o) (OpenedBlock source)
    some media None = tt
    some media (Some items) = subst (λ (xs : List Lexeme). OpenedBlock source (media_of number xs items)) (sym alone) (opened_block source old e sound.item sound.item_in media number items)

    which : (b : Bool) → is_media source (tokens_in source piece) ≡ b
        → IfSome (if b then option_map (media_of number (tokens_in source piece)) (sheet_of_body (text_at source (body_of (tokens_in source piece)))) else None) (OpenedBlock source)
    which true is = some (ap (is_media source) (sym alone) ∙ is) (sheet_of_body (text_at source (body_of (tokens_in source piece))))
    which false is = tt

item_opened : (source : List ℕ) (old : List Item) → sheet_of source ≡ Ok old → (number : ℕ) (item : Item) → IsSoundItem source item → IfSome (opened_item source number item) (OpenedBlock source)
item_opened source old e number (Rule r) sound = tt
item_opened source old e number (KeptRule k) sound = tt
item_opened source old e number (KeptBlock piece) sound = rule_opened source old e number piece sound

opened_all : (source : List ℕ) (old : List Item) → sheet_of source ≡ Ok old → (number : ℕ) (items : List Item) → AllByRecursion (IsSoundItem source) items → AllByRecursion (OpenedBlock source) (opened_from source number items)
opened_all source old e number [] sound = tt
opened_all source old e number (item ∷ items) (one, sound) = which (list_any (is_import_item source) items) (opened_all source old e (suc number) items sound)
  where
    more : (o : Option Media) → IfSome o (OpenedBlock source) → AllByRecursion (OpenedBlock source) (opened_from source (suc number) items) → AllByRecursion (OpenedBlock source) (cons_option o (opened_from source (suc number) items))
    more None is later = later
    more (Some m) is later = (is, later)

    which : (b : Bool) → AllByRecursion (OpenedBlock source) (opened_from source (suc number) items)
        → AllByRecursion (OpenedBlock source) (cons_option (if b then None else opened_item source number item) (opened_from source (suc number) items))
    which true later = later
    which false later = more (opened_item source number item) (item_opened source old e number item one) later

-- Each opened block of a source that is read has its tokens there.
pub opened_blocks : (source : List ℕ) (old : List Item) → sheet_of source ≡ Ok old → AllByRecursion (OpenedBlock source) (opened_of old source)
opened_blocks source old e = opened_all source old e 0 old (sheet-sound source old e)
