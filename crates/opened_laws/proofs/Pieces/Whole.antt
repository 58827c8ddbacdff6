-- A block that stands in a text as it is by itself has its head and its body there.
use Rattle.std.proofs.Common.{◌≡◌, ◌≤◌, ℕ, ◌+◌, ◌-◌, ◌==◌, Bool, true, false, cond, List, [], ◌∷◌, ◌++◌, length, map, drop, refl, sym, ◌∙◌, ap, ap₂, subst, arith}
use Rattle.std.specs.Prelude.{◌&&◌}
use Rattle.std.specs.List.{AllByRecursion, AllZip, list_any}
use Rattle.std.proofs.lemmas.Bool.{cond-false, cond-true, false≢true}
use Rattle.std.proofs.lemmas.List.{append_assoc, length-drop, length-take-le}
use Rattle.opened_laws.proofs.Block.AtRules.{sign_is}
use Rattle.opened_laws.proofs.Block.Between.{IsInside, inside_from}
use Rattle.opened_laws.proofs.Block.Moved.{IsMovedInner, IsMovedLast, StayInside}
use Rattle.css_model.specs.declared.sheet.Piece.{Piece}
use Rattle.css_model.specs.declared.token.Gap.{Gap}
use Rattle.css_model.specs.declared.token.Lexeme.{Lexeme}
use Rattle.css_model.specs.declared.token.TokenKind.{TokenKind}
use Rattle.css_model.specs.Sheets.Items.{closes_block, is_at_keyword, opens_block}
use Rattle.css_model.specs.Sheets.Spelling.{kept_text, lexemes_of}
use Rattle.css_model.specs.Text.Characters.{close_curly, open_curly, semicolon}
use Rattle.css_model.specs.Text.Kept.{Solid, kept, solid}
use Rattle.css_model.specs.Text.Lexemes.{end_of, is_sign_at, is_sign_of, lexemes_in, piece_of}
use Rattle.css_model.specs.Text.Source.{text_at}
use Rattle.css_model.specs.Text.Tokens.{Parts, parts, text_of, tokens_at}
use Rattle.css_tokens.proofs.ForCallers.{lexed_are_parts}
use Rattle.list_facts.proofs.Cuts.{position_at}
use Rattle.list_facts.proofs.Zips.{AllLast, zip_from_last, zip_position}
use Rattle.media_groups.specs.Opened.{body_of, head_of}
use Rattle.print_laws.specs.Replaced.{whole_piece}
use Rattle.print_laws.proofs.ForCallers.{AreLeveled, Ground, IsItemOf, open_behind}
use Rattle.sheet_laws.proofs.ForCallers.{StandsIn, ends_in, ends_with_block, is_ended, is_nil, stand_alone_in}
use Rattle.opened_laws.proofs.Pieces.Alone.{LieBefore, lie_before, piece_of_piece}
use Rattle.opened_laws.proofs.Pieces.Blocks.{HasBlock, has_block, none_before_item}
use Rattle.opened_laws.proofs.Pieces.Cuts.{AreCut, cut_last, first_of_rows}

-- ---- an item that ends by itself ends with its block

no_more : (xs : List Lexeme) → is_nil xs ≡ true → xs ≡ []
no_more [] is = refl
no_more (x ∷ xs) is = absurd (false≢true is)

block_is_last : (inner : List Lexeme) (close : Lexeme) (rest : List Lexeme) → AllByRecursion (λ y. closes_block y ≡ false) inner → closes_block close ≡ true → ends_with_block (inner ++ close ∷ rest) ≡ true → rest ≡ []
block_is_last [] close rest before closes ended = no_more rest (sym (cond-true _ (is_nil rest) (ends_with_block rest) closes) ∙ ended)
block_is_last (y ∷ inner) close rest before closes ended =
    block_is_last inner close rest before.1 closes (sym (cond-false _ (is_nil (inner ++ close ∷ rest)) (ends_with_block (inner ++ close ∷ rest)) before.0) ∙ ended)

item_is_block : (a : Bool) (head : List Lexeme) (open_ : Lexeme) (rest : List Lexeme) → AllByRecursion (λ y. opens_block y ≡ false) head → opens_block open_ ≡ true → ends_in a (head ++ open_ ∷ rest) ≡ true → ends_with_block rest ≡ true
item_is_block a [] open_ rest before opens ended = sym (cond-true _ (ends_with_block rest) _ opens) ∙ ended
item_is_block a (y ∷ head) open_ rest before opens ended =
    which (a && is_sign_at semicolon 0 y) (sym (cond-false _ (ends_with_block (head ++ open_ ∷ rest)) _ before.0) ∙ ended) (item_is_block a head open_ rest before.1 opens)
  where
    none : (head : List Lexeme) → is_nil (head ++ open_ ∷ rest) ≡ true → ends_with_block rest ≡ true
    none [] e = absurd (false≢true e)
    none (z ∷ zs) e = absurd (false≢true e)

    which : (b : Bool) → cond b (is_nil (head ++ open_ ∷ rest)) (ends_in a (head ++ open_ ∷ rest)) ≡ true → (ends_in a (head ++ open_ ∷ rest) ≡ true → ends_with_block rest ≡ true) → ends_with_block rest ≡ true
    which true e later = none head e
    which false e later = later e

-- the first of some elements before others
record IsFirst (front : List Lexeme) (x : Lexeme) (behind : List Lexeme) : Type 0 where
  first : Lexeme
  rest : List Lexeme
  are : front ++ x ∷ behind ≡ first ∷ rest

first_of : (front : List Lexeme) (x : Lexeme) (behind : List Lexeme) → IsFirst front x behind
first_of [] x behind = record { first = x; rest = behind; are = refl }
first_of (y ∷ front) x behind = record { first = y; rest = front ++ x ∷ behind; are = refl }

ended_first : (xs : List Lexeme) (x : Lexeme) (rest : List Lexeme) → xs ≡ x ∷ rest → is_ended xs ≡ true → ends_in (is_at_keyword x.kind) xs ≡ true
ended_first xs x rest are ended =
    subst (λ zs. ends_in (is_at_keyword x.kind) zs ≡ true) (sym are) (subst (λ zs. is_ended zs ≡ true) are ended)

end_of_last : (x : Lexeme) (xs : List Lexeme) (last : Lexeme) → end_of x (xs ++ last ∷ []) ≡ last.span.«end»
end_of_last x [] last = refl
end_of_last x (y ∷ ys) last = end_of_last y ys last

stay_outside : (ys : List Lexeme) → StayInside [] ys
stay_outside [] = tt
stay_outside (y ∷ ys) = (λ level. refl, stay_outside ys)

-- An item with a block, from its first token up to the `}` that it ends with.
record IsUpToClose (text : List ℕ) (xs : List Lexeme) (b : HasBlock text xs) : Type 0 where
  inside : IsInside text (piece_of xs).start b.close.span.start [] (b.head ++ b.open_ ∷ b.inner)
  one : b.close.span.«end» ≡ b.close.span.start + 1
  stop : (piece_of xs).«end» ≡ b.close.span.«end»

up_to_close : (text : List ℕ) → Ground text → (xs : List Lexeme) → IsItemOf (lexemes_of text) xs → is_ended xs ≡ true → (b : HasBlock text xs) → IsUpToClose text xs b
up_to_close text g xs item ended b =
    let all = b.head ++ b.open_ ∷ (b.inner ++ b.close ∷ b.rest) in
    let first = first_of b.head b.open_ (b.inner ++ b.close ∷ b.rest) in
    let last : b.rest ≡ [] =
    block_is_last b.inner b.close b.rest b.before_close b.closes
    (item_is_block (is_at_keyword first.first.kind) b.head b.open_ (b.inner ++ b.close ∷ b.rest) b.before_open b.opens
    (subst (λ zs. ends_in (is_at_keyword first.first.kind) zs ≡ true) b.are (ended_first xs first.first first.rest (b.are ∙ first.are) ended))) in
    let up = first_of b.head b.open_ b.inner in
    let rows : xs ≡ up.first ∷ (up.rest ++ b.close ∷ []) =
    b.are ∙ ap (λ zs. b.head ++ b.open_ ∷ (b.inner ++ b.close ∷ zs)) last ∙ sym (append_assoc b.head (b.open_ ∷ b.inner) (b.close ∷ [])) ∙ ap (λ zs. zs ++ b.close ∷ []) up.are in
    let in_text : lexemes_of text ≡ item.before ++ up.first ∷ (up.rest ++ b.close ∷ item.behind) =
    item.are ∙ ap (λ zs. item.before ++ (zs ++ item.behind)) rows ∙ ap (λ zs. item.before ++ up.first ∷ zs) (append_assoc up.rest (b.close ∷ []) item.behind) in
    let none : open_behind [] item.before ≡ [] = none_before_item item.before xs item.behind up.first (up.rest ++ b.close ∷ []) rows (subst (AreLeveled []) item.are g.leveled) item.leveled in
    let sign = sign_is close_curly 1 b.close b.closes in
    let found = inside_from text g.parts item.before up.first up.rest b.close item.behind [] in_text sign none (stay_outside (up.first ∷ up.rest)) in
    let start : up.first.span.start ≡ (piece_of xs).start = ap (λ zs. (piece_of zs).start) (sym rows) in
    record {
      inside = subst (λ zs. IsInside text (piece_of xs).start b.close.span.start [] zs) (sym up.are) (subst (λ (n : ℕ). IsInside text n b.close.span.start [] (up.first ∷ up.rest)) start found.0);
      one = found.1;
      stop = ap (λ zs. (piece_of zs).«end») rows ∙ end_of_last up.first up.rest b.close;
    }

-- ---- the same tokens in a text and by themselves

record IsCarried (place n : ℕ) (y x : Lexeme) : Type 0 where
  kind : y.kind ≡ x.kind
  start : y.span.start ≡ place + x.span.start
  stop : y.span.«end» ≡ place + x.span.«end»
  level : y.level ≡ x.level
  fits : (x.span.start ≤ x.span.«end») × (x.span.«end» ≤ n)

abbrev IsCarriedInner : ℕ → ℕ → Lexeme → Lexeme → Type 0
IsCarriedInner place n y x = IsCarried place n y x × (y.gap ≡ x.gap)

-- a token that is moved to two places
one_carried : (place n : ℕ) (y x l : Lexeme) → y.kind ≡ l.kind → y.span.start ≡ place + l.span.start → y.span.«end» ≡ place + l.span.«end» → y.level ≡ l.level + 0 →
    x.kind ≡ l.kind → x.span.start ≡ 0 + l.span.start → x.span.«end» ≡ 0 + l.span.«end» → x.level ≡ l.level + 0 → (l.span.start ≤ l.span.«end») × (l.span.«end» ≤ n) → IsCarried place n y x
one_carried place n y x l k1 s1 e1 v1 k2 s2 e2 v2 fits = record {
  kind = k1 ∙ sym k2;
  start = omega (arith, s1, s2);
  stop = omega (arith, e1, e2);
  level = omega (arith, v1, v2);
  fits = (let a = fits.0 in omega (arith, s2, e2, a), let b = fits.1 in omega (arith, e2, b));
}

all_carried : (place n : ℕ) (ys xs ls : List Lexeme) → AllLast (IsMovedInner place 0) (IsMovedLast place 0) ys ls → AllLast (IsMovedInner 0 0) (IsMovedLast 0 0) xs ls → LieBefore n ls →
    AllLast (IsCarriedInner place n) (IsCarried place n) ys xs
all_carried place n [] [] ls u v lie = tt
all_carried place n [] (x ∷ xs) [] u v lie = absurd v
all_carried place n [] (x ∷ xs) (l ∷ ls) u v lie = absurd u
all_carried place n (y ∷ ys) [] [] u v lie = absurd u
all_carried place n (y ∷ ys) [] (l ∷ ls) u v lie = absurd v
all_carried place n (y ∷ ys) (x ∷ xs) [] u v lie = absurd u
all_carried place n (y ∷ []) (x ∷ []) (l ∷ []) u v lie =
    one_carried place n y x l u.0.kind u.0.start u.0.stop u.0.level v.0.kind v.0.start v.0.stop v.0.level lie.0
all_carried place n (y ∷ []) (x ∷ x' ∷ xs) (l ∷ []) u v lie = absurd v
all_carried place n (y ∷ []) (x ∷ xs) (l ∷ l' ∷ ls) u v lie = absurd u
all_carried place n (y ∷ y' ∷ ys) (x ∷ xs) (l ∷ []) u v lie = absurd u
all_carried place n (y ∷ y' ∷ ys) (x ∷ []) (l ∷ l' ∷ ls) u v lie = absurd v
all_carried place n (y ∷ y' ∷ ys) (x ∷ x' ∷ xs) (l ∷ l' ∷ ls) u v lie = (
  (one_carried place n y x l u.0.0.kind u.0.0.start u.0.0.stop u.0.0.level v.0.0.kind v.0.0.start v.0.0.stop v.0.0.level lie.0, u.0.1 ∙ sym v.0.1),
  all_carried place n (y' ∷ ys) (x' ∷ xs) (l' ∷ ls) u.1 v.1 lie.1,
)

carried_bytes : (text : List ℕ) (piece : Piece) (n : ℕ) (y x : Lexeme) → piece.start + n ≤ piece.«end» → IsCarried piece.start n y x → text_at (text_at text piece) x.span ≡ text_at text y.span
carried_bytes text piece n y x fits c =
    piece_of_piece text piece.start piece.«end» x.span.start x.span.«end» c.fits.0 (let e = c.fits.1 in omega (arith, e, fits))
    ∙ ap (λ (m : ℕ). text_at text (record { start = m; «end» = piece.start + x.span.«end» })) (sym c.start)
    ∙ ap (λ (m : ℕ). text_at text (record { start = y.span.start; «end» = m })) (sym c.stop)

abbrev solid_of : TokenKind → List ℕ → Gap → Solid
solid_of k bytes g = record { kind = k; bytes = bytes; gap = g }

carried_solids : (text : List ℕ) (piece : Piece) (n : ℕ) → piece.start + n ≤ piece.«end» → (ys xs : List Lexeme) → AllZip (IsCarriedInner piece.start n) ys xs →
    map (solid text) ys ≡ map (solid (text_at text piece)) xs
carried_solids text piece n fits [] [] z = refl
carried_solids text piece n fits [] (x ∷ xs) z = absurd z
carried_solids text piece n fits (y ∷ ys) [] z = absurd z
carried_solids text piece n fits (y ∷ ys) (x ∷ xs) z =
    ap₂ (λ (s : Solid) (ss : List Solid). s ∷ ss)
    (ap (λ k. solid_of k (text_at text y.span) y.gap) z.0.0.kind
    ∙ ap (λ bytes. solid_of x.kind bytes y.gap) (sym (carried_bytes text piece n y x fits z.0.0))
    ∙ ap (solid_of x.kind (text_at (text_at text piece) x.span)) z.0.1)
    (carried_solids text piece n fits ys xs z.1)

opens_same : (place n : ℕ) (y x : Lexeme) → IsCarried place n y x → opens_block y ≡ opens_block x
opens_same place n y x c = ap₂ (λ k (m : ℕ). is_sign_of open_curly k && m == 0) c.kind c.level

-- the kept text of the first tokens of an item
head_text : (text : List ℕ) → Ground text → (xs : List Lexeme) → IsItemOf (lexemes_of text) xs → (b : HasBlock text xs) → kept_text text (head_of xs) ≡ kept (map (solid text) b.head)
head_text text g xs item b =
    let rest = b.open_ ∷ (b.inner ++ b.close ∷ b.rest) in
    let stands : StandsIn (lexemes_of text) b.head = record {
      front = item.before;
      behind = rest ++ item.behind;
      is = item.are ∙ ap (λ zs. item.before ++ (zs ++ item.behind)) b.are ∙ ap (λ zs. item.before ++ zs) (append_assoc b.head rest item.behind) ∙ sym (append_assoc item.before b.head (rest ++ item.behind));
    } in
    ap (kept_text text) b.front ∙ ap (λ zs. kept (map (solid text) zs)) (stand_alone_in text g.good b.head stands)

-- A block of a text whose piece is a text of its own has the same head and the same body there.
pub record IsSameBlock (text block : List ℕ) (ys xs : List Lexeme) : Type 0 where
  pub head : kept_text text (head_of ys) ≡ kept_text block (head_of xs)
  pub body : text_at text (body_of ys) ≡ text_at block (body_of xs)

length_at : (text : List ℕ) (piece : Piece) → piece.«end» ≤ length text → length (text_at text piece) ≡ piece.«end» - piece.start
length_at text piece inside = length-take-le (piece.«end» - piece.start) (drop piece.start text) (let n = length-drop piece.start text in omega (arith, inside, n))

same_by_parts : (text : List ℕ) → Ground text → (ys : List Lexeme) → IsItemOf (lexemes_of text) ys → is_ended ys ≡ true → (b' : HasBlock text ys) → (block : List ℕ) → Ground block → (xs : List Lexeme) → IsItemOf (lexemes_of block) xs →
    is_ended xs ≡ true → (b : HasBlock block xs) → block ≡ text_at text (piece_of ys) → piece_of xs ≡ whole_piece block → IsSameBlock text block ys xs
same_by_parts text g' ys item' ended' b' block g xs item ended b is whole =
    record { head = head_text text g' ys item' b' ∙ ap kept solids ∙ sym (head_text block g xs item b); body = body }
  where
    u' : IsUpToClose text ys b'
    u' = up_to_close text g' ys item' ended' b'

    u : IsUpToClose block xs b
    u = up_to_close block g xs item ended b

    from : (piece_of xs).start ≡ 0
    from = ap (λ (q : Piece). q.start) whole

    to : b.close.span.start + 1 ≡ length block
    to = sym u.one ∙ sym u.stop ∙ ap (λ (q : Piece). q.«end») whole

    size : length block ≡ (piece_of ys).«end» - (piece_of ys).start
    size = ap length is ∙ length_at text (piece_of ys) (let a = u'.stop in let c = u'.one in let d = u'.inside.short in omega (arith, a, c, d))

    -- where the `}` stands
    closes : b'.close.span.start ≡ (piece_of ys).start + b.close.span.start
    closes = let a = u'.stop in let c = u'.one in let d = u'.inside.size in omega (arith, a, c, d, to, size)

    fits : (piece_of ys).start + b.close.span.start ≤ (piece_of ys).«end»
    fits = let a = u'.stop in let c = u'.one in omega (arith, a, c, closes)

    texts : text_of u'.inside.parts ≡ text_of u.inside.parts
    texts =
        sym u'.inside.stands
        ∙ ap (λ (n : ℕ). text_at text (record { start = (piece_of ys).start; «end» = n })) closes
        ∙ ap (λ (n : ℕ). text_at text (record { start = n; «end» = (piece_of ys).start + b.close.span.start })) (let e : (piece_of ys).start ≡ (piece_of ys).start + 0 = omega arith in e)
        ∙ sym (piece_of_piece text (piece_of ys).start (piece_of ys).«end» 0 b.close.span.start (omega arith) fits)
        ∙ ap (λ t. text_at t (record { start = 0; «end» = b.close.span.start })) (sym is)
        ∙ ap (λ (n : ℕ). text_at block (record { start = n; «end» = b.close.span.start })) (sym from)
        ∙ u.inside.stands

    same : u'.inside.parts ≡ u.inside.parts
    same =
        ap (λ (q : Parts). q.parts) (sym (lexed_are_parts u'.inside.parts u'.inside.lexed)) ∙ ap (λ t. (parts t).parts) texts ∙ ap (λ (q : Parts). q.parts) (lexed_are_parts u.inside.parts u.inside.lexed)

    number : length (text_of u.inside.parts) ≡ b.close.span.start
    number = let a = u.inside.size in omega (arith, a, from)

    carried : AllLast (IsCarriedInner (piece_of ys).start (length (text_of u.inside.parts))) (IsCarried (piece_of ys).start (length (text_of u.inside.parts))) (b'.head ++ b'.open_ ∷ b'.inner) (b.head ++ b.open_ ∷ b.inner)
    carried =
        all_carried (piece_of ys).start (length (text_of u.inside.parts)) (b'.head ++ b'.open_ ∷ b'.inner) (b.head ++ b.open_ ∷ b.inner) (lexemes_in [] (tokens_at 0 false u.inside.parts))
        (subst (λ ps. AllLast (IsMovedInner (piece_of ys).start 0) (IsMovedLast (piece_of ys).start 0) (b'.head ++ b'.open_ ∷ b'.inner) (lexemes_in [] (tokens_at 0 false ps))) same u'.inside.moved)
        (subst (λ (m : ℕ). AllLast (IsMovedInner m 0) (IsMovedLast m 0) (b.head ++ b.open_ ∷ b.inner) (lexemes_in [] (tokens_at 0 false u.inside.parts))) from u.inside.moved)
        (lie_before (length (text_of u.inside.parts)) 0 false [] u.inside.parts (omega arith))

    heads : length b'.head ≡ length b.head
    heads =
        sym (position_at opens_block b'.head b'.open_ b'.inner b'.before_open b'.opens)
        ∙ zip_position (IsCarried (piece_of ys).start (length (text_of u.inside.parts))) opens_block opens_block (opens_same (piece_of ys).start (length (text_of u.inside.parts)))
        (b'.head ++ b'.open_ ∷ b'.inner) (b.head ++ b.open_ ∷ b.inner)
        (zip_from_last (IsCarriedInner (piece_of ys).start (length (text_of u.inside.parts))) (IsCarried (piece_of ys).start (length (text_of u.inside.parts))) (IsCarried (piece_of ys).start (length (text_of u.inside.parts))) (λ y x c. c.0) (λ y x c. c) _ _ carried)
        ∙ position_at opens_block b.head b.open_ b.inner b.before_open b.opens

    cut : AreCut (IsCarriedInner (piece_of ys).start (length (text_of u.inside.parts))) (IsCarried (piece_of ys).start (length (text_of u.inside.parts))) b'.head (b'.open_ ∷ b'.inner) b.head (b.open_ ∷ b.inner)
    cut = cut_last (IsCarriedInner (piece_of ys).start (length (text_of u.inside.parts))) (IsCarried (piece_of ys).start (length (text_of u.inside.parts))) b'.head b'.open_ b'.inner b.head b.open_ b.inner heads carried

    solids : map (solid text) b'.head ≡ map (solid block) b.head
    solids =
        carried_solids text (piece_of ys) (length (text_of u.inside.parts)) (omega (arith, number, fits)) b'.head b.head cut.front
        ∙ ap (λ t. map (solid t) b.head) (sym is)

    opened : IsCarried (piece_of ys).start (length (text_of u.inside.parts)) b'.open_ b.open_
    opened = first_of_rows (IsCarriedInner (piece_of ys).start (length (text_of u.inside.parts))) (IsCarried (piece_of ys).start (length (text_of u.inside.parts))) (IsCarried (piece_of ys).start (length (text_of u.inside.parts))) (λ y x c. c.0) (λ y x c. c) b'.open_ b'.inner b.open_ b.inner cut.behind

    body : text_at text (body_of ys) ≡ text_at block (body_of xs)
    body =
        ap (text_at text) b'.body
        ∙ ap (λ (m : ℕ). text_at text (record { start = m; «end» = b'.close.span.start })) opened.stop
        ∙ ap (λ (m : ℕ). text_at text (record { start = (piece_of ys).start + b.open_.span.«end»; «end» = m })) closes
        ∙ sym (piece_of_piece text (piece_of ys).start (piece_of ys).«end» b.open_.span.«end» b.close.span.start (let a = b.between.inside.size in omega (arith, a)) fits)
        ∙ ap (λ t. text_at t (record { start = b.open_.span.«end»; «end» = b.close.span.start })) (sym is)
        ∙ ap (text_at block) (sym b.body)

pub same_block : (text : List ℕ) → Ground text → (ys : List Lexeme) → IsItemOf (lexemes_of text) ys → is_ended ys ≡ true → list_any opens_block ys ≡ true →
    (block : List ℕ) → Ground block → (xs : List Lexeme) → IsItemOf (lexemes_of block) xs → is_ended xs ≡ true → list_any opens_block xs ≡ true →
    text_at text (piece_of ys) ≡ block → piece_of xs ≡ whole_piece block → IsSameBlock text block ys xs
same_block text g' ys item' ended' some' block g xs item ended some is whole =
    same_by_parts text g' ys item' ended' (has_block text g' ys item' some') block g xs item ended (has_block block g xs item some) (sym is) whole
