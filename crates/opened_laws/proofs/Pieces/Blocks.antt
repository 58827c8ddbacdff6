-- The block of an item of a text: its parts, and what stands inside it by itself.
use Rattle.std.proofs.Common.{◌≡◌, ℕ, ◌==◌, true, false, List, [], ◌∷◌, ◌++◌, length, take, refl, sym, ◌∙◌, ap, subst}
use Rattle.std.specs.List.{AllByRecursion, list_any, position_or_len}
use Rattle.std.proofs.Math.Seq.{take-append_seam}
use Rattle.std.proofs.lemmas.Bool.{and_parts, eqb-true, false≢true}
use Rattle.std.proofs.lemmas.List.{append_assoc}
use Rattle.opened_laws.proofs.Block.AtRules.{body_is, first_of, sign_is}
use Rattle.opened_laws.proofs.Block.Between.{IsBetween, inside_behind}
use Rattle.opened_laws.proofs.Block.Moved.{stay_inside}
use Rattle.css_model.specs.declared.token.Lexeme.{Lexeme}
use Rattle.css_model.specs.Sheets.Items.{closes_block, opens_block}
use Rattle.css_model.specs.Sheets.Spelling.{lexemes_of}
use Rattle.css_model.specs.Text.Characters.{close_curly, open_curly}
use Rattle.css_model.specs.Text.Lexemes.{is_sign_of, piece_of}
use Rattle.list_facts.proofs.Cuts.{position_at}
use Rattle.media_groups.specs.Opened.{body_of, head_of}
use Rattle.print_laws.proofs.ForCallers.{AreLeveled, Ground, IsItemOf, block-closes, closers_after, curly-opens, length-none, leveled-append, open-append, open_behind}

-- What stands before an item closes what it opens.
pub none_before_item : (before item behind : List Lexeme) (x : Lexeme) (xs : List Lexeme) → item ≡ x ∷ xs → AreLeveled [] (before ++ (item ++ behind)) → AreLeveled [] item → open_behind [] before ≡ []
none_before_item before item behind x xs is leveled alone =
    let all_ : AreLeveled (open_behind [] before) (x ∷ xs ++ behind) = subst (λ zs. AreLeveled (open_behind [] before) (zs ++ behind)) is (leveled-append [] before (item ++ behind) leveled).1 in
    let here : AreLeveled [] (x ∷ xs) = subst (AreLeveled []) is alone in
    length-none (open_behind [] before) (sym all_.1 ∙ here.1)

-- An item of a text with a block: its head, its block's brackets, and what stands between them.
pub record HasBlock (text : List ℕ) (xs : List Lexeme) : Type 0 where
  pub head : List Lexeme
  pub open_ : Lexeme
  pub inner : List Lexeme
  pub close : Lexeme
  pub rest : List Lexeme
  pub are : xs ≡ head ++ open_ ∷ (inner ++ close ∷ rest)
  pub before_open : AllByRecursion (λ y. opens_block y ≡ false) head
  pub opens : opens_block open_ ≡ true
  pub before_close : AllByRecursion (λ y. closes_block y ≡ false) inner
  pub closes : closes_block close ≡ true
  pub place : position_or_len opens_block xs ≡ length head
  pub end_place : position_or_len closes_block (inner ++ close ∷ rest) ≡ length inner
  pub front : head_of xs ≡ piece_of head
  pub body : body_of xs ≡ record { start = open_.span.«end»; «end» = close.span.start }
  pub between : IsBetween text open_ close.span.start (close_curly ∷ []) inner
  pub closed : open_behind (close_curly ∷ []) inner ≡ close_curly ∷ []

head_is : (xs head rest : List Lexeme) → xs ≡ head ++ rest → position_or_len opens_block xs ≡ length head → head_of xs ≡ piece_of head
head_is xs head rest are place = ap piece_of (ap (λ (n : ℕ). take n xs) place ∙ ap (take (length head)) are ∙ take-append_seam head rest)

pub has_block : (text : List ℕ) → Ground text → (xs : List Lexeme) → IsItemOf (lexemes_of text) xs → list_any opens_block xs ≡ true → HasBlock text xs
has_block text g xs item some =
    let o = first_of opens_block xs some in
    let parts = leveled-append [] o.front (o.first ∷ o.rest) (subst (AreLeveled []) o.are item.leveled) in
    let opens = and_parts (is_sign_of open_curly o.first.kind) (o.first.level == 0) o.passes in
    let none : open_behind [] o.front ≡ [] = length-none (open_behind [] o.front) (sym parts.1.1 ∙ eqb-true o.first.level 0 opens.1) in
    let signs : closers_after o.first.kind (open_behind [] o.front) ≡ close_curly ∷ [] = ap (closers_after o.first.kind) none ∙ curly-opens o.first.kind opens.0 in
    let behind : AreLeveled (close_curly ∷ []) o.rest = subst (λ cs. AreLeveled cs o.rest) signs parts.1.2 in
    let all_ : open_behind (close_curly ∷ []) o.rest ≡ [] =
    ap (λ cs. open_behind cs o.rest) (sym signs) ∙ sym (open-append [] o.front (o.first ∷ o.rest)) ∙ ap (open_behind []) (sym o.are) ∙ item.ends in
    let c = block-closes (close_curly ∷ []) o.rest ([], refl) behind all_ in
    let are : xs ≡ o.front ++ o.first ∷ (c.front ++ c.close ∷ c.rest) = o.are ∙ ap (λ (ys : List Lexeme). o.front ++ o.first ∷ ys) c.are in
    let in_text : lexemes_of text ≡ (item.before ++ o.front) ++ o.first ∷ (c.front ++ c.close ∷ (c.rest ++ item.behind)) =
    item.are ∙ ap (λ (ys : List Lexeme). item.before ++ (ys ++ item.behind)) are ∙ rows item.before o.front o.first c.front c.close c.rest item.behind in
    let place : position_or_len opens_block xs ≡ length o.front = ap (position_or_len opens_block) o.are ∙ position_at opens_block o.front o.first o.rest o.none o.passes in
    let first = first_token xs some in
    let outer : open_behind [] item.before ≡ [] = none_before_item item.before xs item.behind first.0 first.1 first.2 (subst (AreLeveled []) item.are g.leveled) item.leveled in
    let start : closers_after o.first.kind (open_behind [] (item.before ++ o.front)) ≡ close_curly ∷ [] =
    ap (closers_after o.first.kind) (open-append [] item.before o.front ∙ ap (λ cs. open_behind cs o.front) outer) ∙ signs in
    record {
      head = o.front;
      open_ = o.first;
      inner = c.front;
      close = c.close;
      rest = c.rest;
      are = are;
      before_open = o.none;
      opens = o.passes;
      before_close = c.stays;
      closes = c.closes;
      place = place;
      end_place = ap (position_or_len closes_block) (sym c.are) ∙ c.at;
      front = head_is xs o.front (o.first ∷ o.rest) o.are place;
      body = ap body_of are ∙ body_is o.front o.first c.front c.close c.rest o.none o.passes c.stays c.closes;
      between = inside_behind text g.parts (item.before ++ o.front) o.first c.front c.close (c.rest ++ item.behind) (close_curly ∷ []) in_text
          (sign_is close_curly 1 c.close c.closes) start (stay_inside c.front c.stays);
      closed = c.block;
    }
  where
    first_token : (ys : List Lexeme) → list_any opens_block ys ≡ true → (x : Lexeme) × (zs : List Lexeme) × (ys ≡ x ∷ zs)
    first_token [] none = absurd (false≢true none)
    first_token (x ∷ zs) is = (x, zs, refl)

    rows : (before head : List Lexeme) (x : Lexeme) (inner : List Lexeme) (z : Lexeme) (rest behind : List Lexeme) →
        before ++ ((head ++ x ∷ (inner ++ z ∷ rest)) ++ behind) ≡ (before ++ head) ++ x ∷ (inner ++ z ∷ (rest ++ behind))
    rows before head x inner z rest behind =
        ap (λ (ys : List Lexeme). before ++ ys) (append_assoc head (x ∷ (inner ++ z ∷ rest)) behind ∙ ap (λ (ys : List Lexeme). head ++ x ∷ ys) (append_assoc inner (z ∷ rest) behind))
        ∙ sym (append_assoc before head (x ∷ (inner ++ z ∷ (rest ++ behind))))
