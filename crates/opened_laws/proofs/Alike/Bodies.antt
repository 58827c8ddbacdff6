-- A block that is printed as it stands has a body of its own sheet only where it had one.
use Rattle.std.proofs.Common.{◌≡◌, ◌≤◌, ℕ, suc, Bool, true, false, nat_eq, List, [], ◌∷◌, ◌++◌, length, map, Option, Some, None, Result, Ok, Err, refl, sym, ◌∙◌, ap, ap₂, subst, arith}
use Rattle.std.proofs.lemmas.Bool.{cond-false, true≢false}
use Rattle.std.specs.Prelude.{if◌then◌else◌}
use Rattle.std.specs.List.{AllZip, list_any, starts_with}
use Rattle.std.specs.Str.{IsUtf8}
use Rattle.opened_laws.proofs.Block.Between.{IsInside, closed_inside}
use Rattle.css_model.specs.declared.fault.SheetFault.{SheetFault}
use Rattle.css_model.specs.declared.limits.TheConstants.{MAX_BYTES}
use Rattle.css_model.specs.declared.sheet.Item.{Item}
use Rattle.css_model.specs.declared.token.Lexeme.{Lexeme}
use Rattle.css_model.specs.declared.token.Gap.TheVariants as gap
use Rattle.css_model.specs.Sheets.Items.{closes_block, opens_block}
use Rattle.css_model.specs.Sheets.Sheet.{sheet_of}
use Rattle.css_model.specs.Sheets.Spelling.{lexemes_of}
use Rattle.css_model.specs.Text.Characters.{close_curly, open_curly}
use Rattle.css_model.specs.Text.Lexemes.{lexemes_in}
use Rattle.css_model.specs.Text.Source.{text_at}
use Rattle.css_model.specs.Text.Tokens.{byte_order_mark, text_of, tokens_at}
use Rattle.list_facts.proofs.Zips.{AllLast, zip_any, zip_from_maps, zip_position}
use Rattle.media_groups.specs.Opened.{body_of, is_comment_sign, is_top_item, plain_items, sheet_of_body, unless_marked}
use Rattle.print_laws.proofs.ForCallers.{Ground, IsItemOf, open_behind, shown_parts, tokens-shown}
use Rattle.sheet_laws.proofs.ForCallers.{AreClosable, IsInner, IsLike, Shown, inner, item_like, last_of_item, shown, sign_like}
use Rattle.opened_laws.proofs.Alike.Items.{ArePrinted}
use Rattle.opened_laws.proofs.Alike.Sheets.{IsPrintRead, IsReadAlike, IsSpotless, sheet_alike, sheet_back, signs_printed, tops_alike}
use Rattle.opened_laws.proofs.Pieces.Alone.{IsAlone, all_raised, alone, lie_before, printed_raised, printed_shown, raised_shown}
use Rattle.opened_laws.proofs.Pieces.Blocks.{HasBlock, has_block}
use Rattle.opened_laws.proofs.Pieces.Cuts.{behind_front, cut_last}
use Rattle.opened_laws.proofs.Pieces.Marks.{mark_back, mark_behind, mark_stays}

-- ---- the parts of two items whose tokens are alike

abbrev pub IsLastOfItem : List ℕ → List ℕ → Lexeme → Lexeme → Type 0
IsLastOfItem new old y x = shown new y ≡ last_of_item old x

-- Two blocks, of which the one is the print of the other: so is the `{`, and so is what stands inside.
record AreAlikeBlocks (new old : List ℕ) (ys xs : List Lexeme) (b' : HasBlock new ys) (b : HasBlock old xs) : Type 0 where
  open_ : IsInner new old b'.open_ b.open_
  inside : AllZip (IsInner new old) b'.inner b.inner

blocks_alike : (new old : List ℕ) (ys xs : List Lexeme) (b' : HasBlock new ys) (b : HasBlock old xs) → AllLast (IsInner new old) (IsLastOfItem new old) ys xs → AreClosable old xs →
    AreAlikeBlocks new old ys xs b' b
blocks_alike new old ys xs b' b z closable =
    let like = item_like new old ys xs z closable in
    let heads : length b'.head ≡ length b.head = sym b'.place ∙ zip_position (IsLike new old) opens_block opens_block (sign_like new old open_curly 0) ys xs like ∙ b.place in
    let tail' = b'.inner ++ b'.close ∷ b'.rest in
    let tail = b.inner ++ b.close ∷ b.rest in
    let moved : AllZip (IsLike new old) (b'.head ++ b'.open_ ∷ tail') (b.head ++ b.open_ ∷ tail) =
    subst (λ zs. AllZip (IsLike new old) (b'.head ++ b'.open_ ∷ tail') zs) b.are (subst (λ zs. AllZip (IsLike new old) zs xs) b'.are like) in
    let behind = behind_front (IsLike new old) b'.head (b'.open_ ∷ tail') b.head (b.open_ ∷ tail) heads moved in
    let inners : length b'.inner ≡ length b.inner = sym b'.end_place ∙ zip_position (IsLike new old) closes_block closes_block (sign_like new old close_curly 1) tail' tail behind.1 ∙ b.end_place in
    let last : AllLast (IsInner new old) (IsLastOfItem new old) (b'.head ++ b'.open_ ∷ tail') (b.head ++ b.open_ ∷ tail) =
    subst (λ zs. AllLast (IsInner new old) (IsLastOfItem new old) (b'.head ++ b'.open_ ∷ tail') zs) b.are (subst (λ zs. AllLast (IsInner new old) (IsLastOfItem new old) zs xs) b'.are z) in
    let upper = cut_last (IsInner new old) (IsLastOfItem new old) b'.head b'.open_ tail' b.head b.open_ tail heads last in
    let lower = cut_last (IsInner new old) (IsLastOfItem new old) (b'.open_ ∷ b'.inner) b'.close b'.rest (b.open_ ∷ b.inner) b.close b.rest (ap suc inners) upper.behind in
    record { open_ = lower.front.0; inside = lower.front.1 }

-- ---- what stands inside two such blocks, by itself

inner_shown : (new old : List ℕ) (ys xs : List Lexeme) → AllZip (IsInner new old) ys xs → map (shown new) ys ≡ map printed_shown (map (shown old) xs)
inner_shown new old [] [] z = refl
inner_shown new old [] (x ∷ xs) z = absurd z
inner_shown new old (y ∷ ys) [] z = absurd z
inner_shown new old (y ∷ ys) (x ∷ xs) z = ap₂ (λ (s : Shown) (ss : List Shown). s ∷ ss) z.0 (inner_shown new old ys xs z.1)

-- the tokens of what stands inside, by its parts
inside_shown : (text : List ℕ) (place stop : ℕ) (ys : List Lexeme) (i : IsInside text place stop (close_curly ∷ []) ys) → shown_parts [] i.parts ≡ all_raised (map (shown text) ys)
inside_shown text place stop ys i =
    let body = text_at text (record { start = place; «end» = stop }) in
    sym (tokens-shown body [] i.parts false [] i.stands)
    ∙ raised_shown text place stop (length (text_of i.parts)) (let s = i.size in omega (arith, s)) ys (lexemes_in [] (tokens_at 0 false i.parts)) i.moved
    (lie_before (length (text_of i.parts)) 0 false [] i.parts (omega arith))

printed_map : (new old : List ℕ) (ys xs : List Lexeme) → AreClosable old xs → map (shown new) ys ≡ map printed_shown (map (shown old) xs) → ArePrinted new old ys xs
printed_map new old ys xs closable e = with_closable ys xs closable (zip_from_maps (shown new) (inner old) ys xs (e ∙ inner_map xs))
  where
    inner_map : (xs : List Lexeme) → map printed_shown (map (shown old) xs) ≡ map (inner old) xs
    inner_map [] = refl
    inner_map (x ∷ xs) = ap (λ ss. inner old x ∷ ss) (inner_map xs)

    with_closable : (ys xs : List Lexeme) → AreClosable old xs → AllZip (λ y x. shown new y ≡ inner old x) ys xs → ArePrinted new old ys xs
    with_closable [] [] closable z = tt
    with_closable [] (x ∷ xs) closable z = absurd z
    with_closable (y ∷ ys) [] closable z = absurd z
    with_closable (y ∷ ys) (x ∷ xs) closable z = ((z.0, closable.0), with_closable ys xs closable.1 z.1)

-- ---- a body that is a sheet of its own

pub record IsSheetOfBody (body : List ℕ) (its : List Item) : Type 0 where
  pub unmarked : starts_with nat_eq body byte_order_mark ≡ false
  pub unsigned : list_any is_comment_sign (lexemes_of body) ≡ false
  pub reads : sheet_of body ≡ Ok its
  pub plain : list_any (is_top_item body) its ≡ false

pub body_facts : (body : List ℕ) (its : List Item) → sheet_of_body body ≡ Some its → IsSheetOfBody body its
body_facts body its e = which (starts_with nat_eq body byte_order_mark) refl (list_any is_comment_sign (lexemes_of body)) refl (sheet_of body) refl e
  where
    plain : (read : List Item) → sheet_of body ≡ Ok read → starts_with nat_eq body byte_order_mark ≡ false → list_any is_comment_sign (lexemes_of body) ≡ false →
        (b : Bool) → list_any (is_top_item body) read ≡ b → ◌≡◌ {A = Option (List Item)} (if b then None else Some read) (Some its) → IsSheetOfBody body its
    plain read reads unmarked unsigned true is e = absurd (cc)
    plain read reads unmarked unsigned false is e =
        let same : read ≡ its = cc in
        record { unmarked = unmarked; unsigned = unsigned; reads = reads ∙ ap Ok same; plain = ap (list_any (is_top_item body)) (sym same) ∙ is }

    which : (m : Bool) → starts_with nat_eq body byte_order_mark ≡ m → (s : Bool) → list_any is_comment_sign (lexemes_of body) ≡ s → (r : Result (List Item) SheetFault) → sheet_of body ≡ r →
        ◌≡◌ {A = Option (List Item)} (if m then None else if s then None else plain_items body r) (Some its) → IsSheetOfBody body its
    which true mark s sign r read e = absurd (cc)
    which false mark true sign r read e = absurd (cc)
    which false mark false sign (Err f) read e = absurd (cc)
    which false mark false sign (Ok its') read e = plain its' read mark sign (list_any (is_top_item body) its') refl e

pub body_is_sheet : (body : List ℕ) (its : List Item) → IsSheetOfBody body its → sheet_of_body body ≡ Some its
body_is_sheet body its s =
    cond-false _ None (unless_marked body) s.unmarked ∙ cond-false _ None (plain_items body (sheet_of body)) s.unsigned ∙ ap (plain_items body) s.reads ∙ cond-false _ None (Some its) s.plain

-- what stands inside a block is spotless, where no byte order mark is skipped in it
inside_alone : (text : List ℕ) (place stop : ℕ) (ys : List Lexeme) (i : IsInside text place stop (close_curly ∷ []) ys) → open_behind (close_curly ∷ []) ys ≡ close_curly ∷ [] → starts_with nat_eq (text_at text (record { start = place; «end» = stop })) byte_order_mark ≡ false →
    IsAlone (text_at text (record { start = place; «end» = stop })) i.parts
inside_alone text place stop ys i closed unmarked =
    alone (text_at text (record { start = place; «end» = stop })) i.parts i.stands i.lexed (subst IsUtf8 (sym i.stands) i.utf8) unmarked (closed_inside text place stop (close_curly ∷ []) ys i closed)

-- what stands inside a block
abbrev body_in : (text : List ℕ) (xs : List Lexeme) → HasBlock text xs → List ℕ
body_in text xs b = text_at text (record { start = b.open_.span.«end»; «end» = b.close.span.start })

alone_in : (text : List ℕ) (xs : List Lexeme) (b : HasBlock text xs) → starts_with nat_eq (body_in text xs b) byte_order_mark ≡ false → IsAlone (body_in text xs b) b.between.inside.parts
alone_in text xs b unmarked = inside_alone text b.open_.span.«end» b.close.span.start b.inner b.between.inside b.closed unmarked

spotless_in : (text : List ℕ) (xs : List Lexeme) (b : HasBlock text xs) → length text ≤ MAX_BYTES → IsAlone (body_in text xs b) b.between.inside.parts → IsSpotless (body_in text xs b)
spotless_in text xs b short a = record {
  ground = a.ground;
  short = (let size = b.between.inside.size in let fits = b.between.inside.short in let n : length (body_in text xs b) ≡ length (text_of b.between.inside.parts) = ap length b.between.inside.stands in omega (arith, size, fits, short, n));
  utf8 = a.utf8;
  clean = a.clean;
  no_unclosed = a.no_unclosed;
}

-- what stands inside two such blocks: by its parts, and by its tokens
parts_alike : (new old : List ℕ) (ys xs : List Lexeme) (b' : HasBlock new ys) (b : HasBlock old xs) → AreAlikeBlocks new old ys xs b' b →
    shown_parts [] b'.between.inside.parts ≡ map printed_shown (shown_parts [] b.between.inside.parts)
parts_alike new old ys xs b' b like =
    inside_shown new _ _ b'.inner b'.between.inside ∙ ap all_raised (inner_shown new old b'.inner b.inner like.inside) ∙ printed_raised (map (shown old) b.inner)
    ∙ ap (map printed_shown) (sym (inside_shown old _ _ b.inner b.between.inside))

tokens_alike : (new old : List ℕ) (ys xs : List Lexeme) (b' : HasBlock new ys) (b : HasBlock old xs) → AreAlikeBlocks new old ys xs b' b →
    IsAlone (body_in new ys b') b'.between.inside.parts → IsAlone (body_in old xs b) b.between.inside.parts →
    ArePrinted (body_in new ys b') (body_in old xs b) (lexemes_of (body_in new ys b')) (lexemes_of (body_in old xs b))
tokens_alike new old ys xs b' b like a' a =
    let body' = body_in new ys b' in
    let body = body_in old xs b in
    let i' = b'.between.inside in
    let i = b.between.inside in
    printed_map body' body (lexemes_of body') (lexemes_of body) a.ground.good.closable
    (ap (map (shown body')) a'.tokens_are ∙ tokens-shown body' [] i'.parts false [] i'.stands ∙ parts_alike new old ys xs b' b like
    ∙ ap (map printed_shown) (sym (tokens-shown body [] i.parts false [] i.stands) ∙ ap (map (shown body)) (sym a.tokens_are)))

-- What stands inside a block that is printed as it stands is a sheet of its own only where it was one before.
inside_alike : (new old : List ℕ) (ys xs : List Lexeme) (b' : HasBlock new ys) (b : HasBlock old xs) → AreAlikeBlocks new old ys xs b' b → length old ≤ MAX_BYTES → (its' : List Item) →
    sheet_of_body (text_at new (body_of ys)) ≡ Some its' → (its : List Item) × (sheet_of_body (text_at old (body_of xs)) ≡ Some its)
inside_alike new old ys xs b' b like short its' e = (
  read.read,
  ap (λ p. sheet_of_body (text_at old p)) b.body ∙ body_is_sheet (body_in old xs b) read.read (record {
    unmarked = unmarked;
    unsigned = sym (signs_printed (body_in new ys b') (body_in old xs b) (lexemes_of (body_in new ys b')) (lexemes_of (body_in old xs b)) printed) ∙ facts.unsigned;
    reads = read.reads;
    plain = sym (tops_alike (body_in new ys b') (body_in old xs b) its' read.read read.alike) ∙ facts.plain;
  }),
)
  where
    facts : IsSheetOfBody (body_in new ys b') its'
    facts = body_facts (body_in new ys b') its' (ap (λ p. sheet_of_body (text_at new p)) (sym b'.body) ∙ e)

    unmarked : starts_with nat_eq (body_in old xs b) byte_order_mark ≡ false
    unmarked = which (starts_with nat_eq (body_in old xs b) byte_order_mark) refl
      where
        which : (m : Bool) → starts_with nat_eq (body_in old xs b) byte_order_mark ≡ m → starts_with nat_eq (body_in old xs b) byte_order_mark ≡ false
        which false is = is
        which true is =
            let i' = b'.between.inside in
            let i = b.between.inside in
            let mark : starts_with nat_eq (text_of i.parts) byte_order_mark ≡ true = ap (λ t. starts_with nat_eq t byte_order_mark) (sym i.stands) ∙ is in
            let none : b'.open_.gap ≡ gap.Nothing = ap (λ (s : Shown). s.gap) like.open_ ∙ b.between.gap ∙ mark_behind i.parts i.next i.rest i.lexed i.utf8 mark in
            let stays = mark_stays i'.parts i.parts i'.next i'.rest (parts_alike new old ys xs b' b like) i.lexed i.utf8 i'.sign (sym b'.between.gap ∙ none) mark in
            absurd (true≢false (sym stays ∙ ap (λ t. starts_with nat_eq t byte_order_mark) (sym i'.stands) ∙ facts.unmarked))

    a' : IsAlone (body_in new ys b') b'.between.inside.parts
    a' = alone_in new ys b' facts.unmarked

    a : IsAlone (body_in old xs b) b.between.inside.parts
    a = alone_in old xs b unmarked

    printed : ArePrinted (body_in new ys b') (body_in old xs b) (lexemes_of (body_in new ys b')) (lexemes_of (body_in old xs b))
    printed = tokens_alike new old ys xs b' b like a' a

    read : IsReadAlike (body_in new ys b') (body_in old xs b) its'
    read = sheet_alike (body_in new ys b') (body_in old xs b) a'.ground (spotless_in old xs b short a) printed its' facts.reads

-- And where it was one it is one.
inside_back : (new old : List ℕ) (ys xs : List Lexeme) (b' : HasBlock new ys) (b : HasBlock old xs) → AreAlikeBlocks new old ys xs b' b → length new ≤ MAX_BYTES → (its : List Item) →
    sheet_of_body (text_at old (body_of xs)) ≡ Some its → (its' : List Item) × (sheet_of_body (text_at new (body_of ys)) ≡ Some its')
inside_back new old ys xs b' b like short its e = (
  read.read,
  ap (λ p. sheet_of_body (text_at new p)) b'.body ∙ body_is_sheet (body_in new ys b') read.read (record {
    unmarked = unmarked;
    unsigned = signs_printed (body_in new ys b') (body_in old xs b) (lexemes_of (body_in new ys b')) (lexemes_of (body_in old xs b)) printed ∙ facts.unsigned;
    reads = read.reads;
    plain = tops_alike (body_in new ys b') (body_in old xs b) read.read its read.alike ∙ facts.plain;
  }),
)
  where
    facts : IsSheetOfBody (body_in old xs b) its
    facts = body_facts (body_in old xs b) its (ap (λ p. sheet_of_body (text_at old p)) (sym b.body) ∙ e)

    unmarked : starts_with nat_eq (body_in new ys b') byte_order_mark ≡ false
    unmarked = which (starts_with nat_eq (body_in new ys b') byte_order_mark) refl
      where
        which : (m : Bool) → starts_with nat_eq (body_in new ys b') byte_order_mark ≡ m → starts_with nat_eq (body_in new ys b') byte_order_mark ≡ false
        which false is = is
        which true is =
            let i' = b'.between.inside in
            let i = b.between.inside in
            let mark : starts_with nat_eq (text_of i'.parts) byte_order_mark ≡ true = ap (λ t. starts_with nat_eq t byte_order_mark) (sym i'.stands) ∙ is in
            let none : b.open_.gap ≡ gap.Nothing = sym (ap (λ (s : Shown). s.gap) like.open_) ∙ b'.between.gap ∙ mark_behind i'.parts i'.next i'.rest i'.lexed i'.utf8 mark in
            let back = mark_back i'.parts i.parts i.next i.rest (parts_alike new old ys xs b' b like) i'.lexed i'.utf8 i.sign (sym b.between.gap ∙ none) mark in
            absurd (true≢false (sym back ∙ ap (λ t. starts_with nat_eq t byte_order_mark) (sym i.stands) ∙ facts.unmarked))

    a' : IsAlone (body_in new ys b') b'.between.inside.parts
    a' = alone_in new ys b' unmarked

    a : IsAlone (body_in old xs b) b.between.inside.parts
    a = alone_in old xs b facts.unmarked

    printed : ArePrinted (body_in new ys b') (body_in old xs b) (lexemes_of (body_in new ys b')) (lexemes_of (body_in old xs b))
    printed = tokens_alike new old ys xs b' b like a' a

    read : IsPrintRead (body_in new ys b') (body_in old xs b) its
    read = sheet_back (body_in new ys b') (body_in old xs b) (spotless_in new ys b' short a') a.ground printed its facts.reads

-- two items of which the one is the print of the other, with their blocks
record AreAlikeItemBlocks (new old : List ℕ) (ys xs : List Lexeme) : Type 0 where
  there : HasBlock new ys
  here : HasBlock old xs
  alike : AreAlikeBlocks new old ys xs there here

item_blocks : (new old : List ℕ) → Ground new → Ground old → (ys xs : List Lexeme) → IsItemOf (lexemes_of new) ys → IsItemOf (lexemes_of old) xs →
    AllLast (IsInner new old) (IsLastOfItem new old) ys xs → AreClosable old xs → list_any opens_block xs ≡ true → AreAlikeItemBlocks new old ys xs
item_blocks new old g' g ys xs item' item z closable some =
    let like = item_like new old ys xs z closable in
    let some' : list_any opens_block ys ≡ true = zip_any (IsLike new old) opens_block opens_block (sign_like new old open_curly 0) ys xs like ∙ some in
    let b' = has_block new g' ys item' some' in
    let b = has_block old g xs item some in
    record { there = b'; here = b; alike = blocks_alike new old ys xs b' b z closable }

pub bodies_alike : (new old : List ℕ) → Ground new → Ground old → length old ≤ MAX_BYTES → (ys xs : List Lexeme) → IsItemOf (lexemes_of new) ys → IsItemOf (lexemes_of old) xs →
    AllLast (IsInner new old) (IsLastOfItem new old) ys xs → AreClosable old xs → list_any opens_block xs ≡ true → (its' : List Item) → sheet_of_body (text_at new (body_of ys)) ≡ Some its' →
    (its : List Item) × (sheet_of_body (text_at old (body_of xs)) ≡ Some its)
bodies_alike new old g' g short ys xs item' item z closable some its' e =
    let b = item_blocks new old g' g ys xs item' item z closable some in
    inside_alike new old ys xs b.there b.here b.alike short its' e

pub bodies_back : (new old : List ℕ) → Ground new → Ground old → length new ≤ MAX_BYTES → (ys xs : List Lexeme) → IsItemOf (lexemes_of new) ys → IsItemOf (lexemes_of old) xs →
    AllLast (IsInner new old) (IsLastOfItem new old) ys xs → AreClosable old xs → list_any opens_block xs ≡ true → (its : List Item) → sheet_of_body (text_at old (body_of xs)) ≡ Some its →
    (its' : List Item) × (sheet_of_body (text_at new (body_of ys)) ≡ Some its')
bodies_back new old g' g short ys xs item' item z closable some its e =
    let b = item_blocks new old g' g ys xs item' item z closable some in
    inside_back new old ys xs b.there b.here b.alike short its e
