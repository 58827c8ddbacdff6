-- The items of a source: each closes what it opens.
use Rattle.std.proofs.Common.{◌≡◌, ◌⊎◌, inl, inr, ℕ, zero, suc, ◌+◌, ◌<◌, ◌≤◌, ◌==◌, Bool, true, false, cond, List, [], ◌∷◌, ◌++◌, length, take, drop, refl, sym, ◌∙◌, ap, subst, arith}
use Rattle.std.specs.List.{AllByRecursion, position_or_len, before_first, after_first, slice_split, onto_first}
use Rattle.std.proofs.lemmas.Bool.{false≢true, and_parts, eqb-true}
use Rattle.std.proofs.lemmas.List.{append-nil, append_assoc, length-append, drop_all, take-append-drop}
use Rattle.std.proofs.Math.Seq.{take-append_seam, drop-append_seam, drop-append-add}
use Rattle.css_model.specs.declared.token.Lexeme.{Lexeme}
use Rattle.css_model.specs.Text.Characters.{semicolon, close_curly, open_curly}
use Rattle.css_model.specs.Sheets.Items.{block, closes_block, end_len, ends_prelude, entries, is_at_keyword, is_between_items, item_len, items_from, opens_block}
use Rattle.css_model.specs.Text.Lexemes.{is_sign_at, is_sign_of}
use Rattle.css_model.specs.Lists.{less_one}
use Rattle.css_model.specs.declared.token.TokenKind.{TokenKind}
use Rattle.css_model.specs.declared.token.TokenKind.TheVariants as kind
use Rattle.print_laws.proofs.Tokens.Parts.{closers_after}
use Rattle.print_laws.proofs.Levels.Brackets.{AreLeveled, Found, IsInBlock, block-closes, curly-opens, found, length-none, one-open, stays-in, leveled-append, open-append, open_behind, split-at}

-- tokens that stand in a source's, one after the other, and close what they open
pub record IsItemOf (all : List Lexeme) (item : List Lexeme) : Type 0 where
  pub before : List Lexeme
  pub behind : List Lexeme
  pub are : all ≡ before ++ (item ++ behind)
  pub leveled : AreLeveled [] item
  pub ends : open_behind [] item ≡ []

items-drop : (left : ℕ) (xs : List Lexeme) → items_from left xs ≡ items_from 0 (drop left xs)
items-drop zero xs = refl
items-drop (suc left) [] = refl
items-drop (suc left) (x ∷ xs) = items-drop left xs

end_len-some : (x : Lexeme) (xs : List Lexeme) → 0 < end_len (x ∷ xs)
end_len-some x xs = which (opens_block x)
  where
    which : (b : Bool) → 0 < cond b (2 + position_or_len closes_block xs) 1
    which true = omega arith
    which false = omega arith

item-some : (n : ℕ) (x : Lexeme) (xs : List Lexeme) → 0 < n + end_len (drop n (x ∷ xs))
item-some zero x xs = let h = end_len-some x xs in omega (arith, h)
item-some (suc n) x xs = omega arith

between-stays : (x : Lexeme) → is_between_items x.kind ≡ true → closers_after x.kind [] ≡ []
between-stays x is = at x.kind is
  where
    at : (k : TokenKind) → is_between_items k ≡ true → closers_after k [] ≡ []
    at kind.CommentOpen is = refl
    at kind.CommentClose is = refl
    at _ is = absurd (false≢true is)

pub items-of : (fuel : ℕ) (all before xs : List Lexeme) → length xs ≤ fuel → all ≡ before ++ xs → AreLeveled [] xs → open_behind [] xs ≡ []
    → AllByRecursion (IsItemOf all) (items_from 0 xs)
items-of fuel all before [] short are leveled ended = tt
items-of zero all before (x ∷ xs) short are leveled ended = absurd (omega arith)
items-of (suc fuel) all before (x ∷ xs) short are leveled ended = which (is_between_items x.kind) refl (items-of fuel all)
  where
    Walk : Type 0
    Walk = (front rest : List Lexeme) → length rest ≤ fuel → all ≡ front ++ rest → AreLeveled [] rest → open_behind [] rest ≡ [] → AllByRecursion (IsItemOf all) (items_from 0 rest)

    which : (b : Bool) → is_between_items x.kind ≡ b → ((front rest : List Lexeme) → length rest ≤ fuel → all ≡ front ++ rest → AreLeveled [] rest → open_behind [] rest ≡ [] → AllByRecursion (IsItemOf all) (items_from 0 rest))
        → AllByRecursion (IsItemOf all) (cond b (items_from 0 xs) (take (item_len (x ∷ xs)) (x ∷ xs) ∷ items_from (less_one (item_len (x ∷ xs))) xs))
    which true is walk =
        walk (before ++ x ∷ []) xs (omega arith) (are ∙ sym (append_assoc before (x ∷ []) xs))
        (subst (λ cs. AreLeveled cs xs) (between-stays x is) leveled.2) (ap (λ cs. open_behind cs xs) (sym (between-stays x is)) ∙ ended)
    which false is walk =
        let s = split-at (is_at_keyword x.kind) (x ∷ xs) leveled ended in
        let parts = leveled-append [] s.item s.rest (subst (AreLeveled []) s.are leveled) in
        let some : 0 < length s.item = let h = item-some (position_or_len (ends_prelude (is_at_keyword x.kind)) (x ∷ xs)) x xs in let e = s.size in omega (arith, h, e) in
        let rest_ends : open_behind [] s.rest ≡ [] = ap (λ cs. open_behind cs s.rest) (sym s.ends) ∙ sym (open-append [] s.item s.rest) ∙ ap (open_behind []) (sym s.are) ∙ ended in
        let front : take (item_len (x ∷ xs)) (x ∷ xs) ≡ s.item = ap (λ (n : ℕ). take n (x ∷ xs)) s.size ∙ ap (take (length s.item)) s.are ∙ take-append_seam s.item s.rest in
        let later : drop (less_one (item_len (x ∷ xs))) xs ≡ s.rest =
        drop-less (item_len (x ∷ xs)) (let e = s.size in omega (arith, some, e)) ∙ ap (λ (n : ℕ). drop n (x ∷ xs)) s.size ∙ ap (drop (length s.item)) s.are ∙ drop-append_seam s.item s.rest in (
          subst (IsItemOf all) (sym front) (record { before = before; behind = s.rest; are = are ∙ ap (λ (ys : List Lexeme). before ++ ys) s.are; leveled = parts.0; ends = s.ends }),
          subst (AllByRecursion (IsItemOf all)) (sym (items-drop (less_one (item_len (x ∷ xs))) xs ∙ ap (items_from 0) later))
              (walk (before ++ s.item) s.rest
              (let e : length (x ∷ xs) ≡ length (s.item ++ s.rest) = ap length s.are in omega (arith, e, some, length-append s.item s.rest))
              (are ∙ ap (λ (ys : List Lexeme). before ++ ys) s.are ∙ sym (append_assoc before s.item s.rest))
              (subst (λ cs. AreLeveled cs s.rest) s.ends parts.1) rest_ends),
        )
      where
        drop-less : (n : ℕ) → 0 < n → drop (less_one n) xs ≡ drop n (x ∷ xs)
        drop-less zero some = absurd (omega arith)
        drop-less (suc n) some = refl

-- the block of an item closes what it opens
pub record IsBlock (xs : List Lexeme) : Type 0 where
  pub leveled : AreLeveled (close_curly ∷ []) xs
  pub ends : open_behind (close_curly ∷ []) xs ≡ close_curly ∷ []
  pub stays : AllByRecursion (λ x. closes_block x ≡ false) xs

no-block : IsBlock []
no-block = record { leveled = tt; ends = refl; stays = tt }

pub block-is : (item : List Lexeme) → AreLeveled [] item → open_behind [] item ≡ [] → IsBlock (block item)
block-is item leveled ended = which (found opens_block item)
  where
    which : (position_or_len opens_block item ≡ length item) ⊎ Found opens_block item → IsBlock (block item)
    which (inl none) =
        let nothing : after_first opens_block item ≡ [] = drop_all (position_or_len opens_block item + 1) item (omega (arith, none)) in
        subst (λ ys. IsBlock (before_first closes_block ys)) (sym nothing) no-block
    which (inr f) =
        let parts = leveled-append [] f.front (f.first ∷ f.rest) (subst (AreLeveled []) f.are leveled) in
        let opens = and_parts (is_sign_of open_curly f.first.kind) (f.first.level == 0) f.passes in
        let none : open_behind [] f.front ≡ [] = length-none (open_behind [] f.front) (sym parts.1.1 ∙ eqb-true f.first.level 0 opens.1) in
        let signs : closers_after f.first.kind (open_behind [] f.front) ≡ close_curly ∷ [] = ap (closers_after f.first.kind) none ∙ curly-opens f.first.kind opens.0 in
        let behind : AreLeveled (close_curly ∷ []) f.rest = subst (λ cs. AreLeveled cs f.rest) signs parts.1.2 in
        let all_ : open_behind (close_curly ∷ []) f.rest ≡ [] =
        ap (λ cs. open_behind cs f.rest) (sym signs) ∙ sym (open-append [] f.front (f.first ∷ f.rest)) ∙ ap (open_behind []) (sym f.are) ∙ ended in
        let c = block-closes (close_curly ∷ []) f.rest ([], refl) behind all_ in
        let rest : after_first opens_block item ≡ f.rest =
        ap (λ (n : ℕ). drop (n + 1) item) f.at ∙ ap (λ (ys : List Lexeme). drop (length f.front + 1) ys) f.are
        ∙ drop-one f.front f.first f.rest in
        let inner : before_first closes_block f.rest ≡ c.front = ap (λ (n : ℕ). take n f.rest) c.at ∙ ap (take (length c.front)) c.are ∙ take-append_seam c.front (c.close ∷ c.rest) in
        subst IsBlock (sym (ap (before_first closes_block) rest ∙ inner))
        (record { leveled = (leveled-append (close_curly ∷ []) c.front (c.close ∷ c.rest) (subst (AreLeveled (close_curly ∷ [])) c.are behind)).0; ends = c.block; stays = c.stays })
      where
        drop-one : (front : List Lexeme) (x : Lexeme) (rest : List Lexeme) → drop (length front + 1) (front ++ x ∷ rest) ≡ rest
        drop-one front x rest = drop-append-add front (x ∷ rest) 1

-- a `;` at the level of the block leaves it as it was
semicolon-in : (cs : List ℕ) → IsInBlock cs → (x : Lexeme) → x.level ≡ length cs → is_sign_at semicolon 1 x ≡ true → (cs ≡ close_curly ∷ []) × (closers_after x.kind cs ≡ close_curly ∷ [])
semicolon-in cs inside x level is =
    let both = and_parts (is_sign_of semicolon x.kind) (x.level == 1) is in
    let one : cs ≡ close_curly ∷ [] = one-open cs inside (sym level ∙ eqb-true x.level 1 both.1) in
    (one, ap (closers_after x.kind) one ∙ stays x.kind both.0)
  where
    stays : (k : TokenKind) → is_sign_of semicolon k ≡ true → closers_after k (close_curly ∷ []) ≡ close_curly ∷ []
    stays (kind.Sign c) sign = rw (eqb-true c semicolon sign) refl
    stays _ sign = absurd (false≢true sign)

-- an entry of a block, behind tokens of it that leave these brackets open
pub record IsEntryFrom (cs : List ℕ) (xs : List Lexeme) : Type 0 where
  pub leveled : AreLeveled cs xs
  pub ends : open_behind cs xs ≡ close_curly ∷ []

abbrev EntriesFrom : List ℕ → List (List Lexeme) → Type 0
EntriesFrom cs [] = ⊥
EntriesFrom cs (first ∷ others) = IsEntryFrom cs first × AllByRecursion (IsEntryFrom (close_curly ∷ [])) others

entries-from : (cs : List ℕ) (xs : List Lexeme) → IsInBlock cs → AreLeveled cs xs → open_behind cs xs ≡ close_curly ∷ [] → AllByRecursion (λ x. closes_block x ≡ false) xs
    → EntriesFrom cs (slice_split (is_sign_at semicolon 1) xs)
entries-from cs [] inside leveled ended stays = (record { leveled = tt; ends = ended }, tt)
entries-from cs (x ∷ xs) inside (solid, level, leveled) ended (open_, stays) =
    which (is_sign_at semicolon 1 x) refl (slice_split (is_sign_at semicolon 1) xs)
    (entries-from (closers_after x.kind cs) xs (stays-in x cs inside level open_) leveled ended stays)
  where
    put : (parts : List (List Lexeme)) → EntriesFrom (closers_after x.kind cs) parts → EntriesFrom cs (onto_first x parts)
    put [] h = absurd h
    put (first ∷ others) (one, rest) = (record { leveled = (solid, level, one.leveled); ends = one.ends }, rest)

    all_ : (parts : List (List Lexeme)) → EntriesFrom (close_curly ∷ []) parts → AllByRecursion (IsEntryFrom (close_curly ∷ [])) parts
    all_ [] h = tt
    all_ (first ∷ others) h = h

    which : (b : Bool) → is_sign_at semicolon 1 x ≡ b → (parts : List (List Lexeme)) → EntriesFrom (closers_after x.kind cs) parts
        → EntriesFrom cs (cond b ([] ∷ parts) (onto_first x parts))
    which true is parts h =
        let s = semicolon-in cs inside x level is in
        (record { leveled = tt; ends = s.0 }, all_ parts (subst (λ signs. EntriesFrom signs parts) s.1 h))
    which false is parts h = put parts h

-- the entries of an item
pub entries-are : (item : List Lexeme) → AreLeveled [] item → open_behind [] item ≡ [] → AllByRecursion (IsEntryFrom (close_curly ∷ [])) (entries item)
entries-are item leveled ended =
    let b = block-is item leveled ended in
    all_ (entries item) (entries-from (close_curly ∷ []) (block item) ([], refl) b.leveled b.ends b.stays)
  where
    all_ : (parts : List (List Lexeme)) → EntriesFrom (close_curly ∷ []) parts → AllByRecursion (IsEntryFrom (close_curly ∷ [])) parts
    all_ [] h = tt
    all_ (first ∷ others) h = h

-- tokens that stand in others, one after the other
pub record IsPartOf (all xs : List Lexeme) : Type 0 where
  pub before : List Lexeme
  pub behind : List Lexeme
  pub are : all ≡ before ++ (xs ++ behind)

pub part-in-part : (all xs ys : List Lexeme) → IsPartOf all xs → IsPartOf xs ys → IsPartOf all ys
part-in-part all xs ys p q = record {
  before = p.before ++ q.before;
  behind = q.behind ++ p.behind;
  are = p.are ∙ ap (λ (zs : List Lexeme). p.before ++ (zs ++ p.behind)) q.are
      ∙ ap (λ (zs : List Lexeme). p.before ++ zs) (append_assoc q.before (ys ++ q.behind) p.behind ∙ ap (λ (zs : List Lexeme). q.before ++ zs) (append_assoc ys q.behind p.behind))
      ∙ sym (append_assoc p.before q.before (ys ++ (q.behind ++ p.behind)));
}

pub part-take : (n : ℕ) (xs : List Lexeme) → IsPartOf xs (take n xs)
part-take n xs = record { before = []; behind = drop n xs; are = sym (take-append-drop n xs) }

pub part-drop : (n : ℕ) (xs : List Lexeme) → IsPartOf xs (drop n xs)
part-drop n xs = record { before = take n xs; behind = []; are = sym (take-append-drop n xs) ∙ ap (λ (zs : List Lexeme). take n xs ++ zs) (sym (append-nil (drop n xs))) }

pub part-more : (x : Lexeme) (xs ys : List Lexeme) → IsPartOf xs ys → IsPartOf (x ∷ xs) ys
part-more x xs ys p = record { before = x ∷ p.before; behind = p.behind; are = ap (λ (zs : List Lexeme). x ∷ zs) p.are }

-- what a split gives
abbrev FirstAndParts : List Lexeme → List (List Lexeme) → Type 0
FirstAndParts xs [] = ⊥
FirstAndParts xs (first ∷ others) = ((rest : List Lexeme) × (xs ≡ first ++ rest)) × AllByRecursion (IsPartOf xs) others

split-parts : (p : Lexeme → Bool) (xs : List Lexeme) → FirstAndParts xs (slice_split p xs)
split-parts p [] = (([], refl), tt)
split-parts p (x ∷ xs) = which (p x) (slice_split p xs) (split-parts p xs)
  where
    more : (parts : List (List Lexeme)) → AllByRecursion (IsPartOf xs) parts → AllByRecursion (IsPartOf (x ∷ xs)) parts
    more [] h = tt
    more (part ∷ parts) (one, rest) = (part-more x xs part one, more parts rest)

    which : (b : Bool) (parts : List (List Lexeme)) → FirstAndParts xs parts → FirstAndParts (x ∷ xs) (cond b ([] ∷ parts) (onto_first x parts))
    which b [] h = absurd h
    which true (first ∷ others) ((rest, is), h) =
        ((x ∷ xs, refl), (record { before = x ∷ []; behind = rest; are = ap (λ (zs : List Lexeme). x ∷ zs) is }, more others h))
    which false (first ∷ others) ((rest, is), h) = ((rest, ap (λ (zs : List Lexeme). x ∷ zs) is), more others h)

pub parts-of-split : (p : Lexeme → Bool) (xs : List Lexeme) → AllByRecursion (IsPartOf xs) (slice_split p xs)
parts-of-split p xs = from (slice_split p xs) (split-parts p xs)
  where
    from : (parts : List (List Lexeme)) → FirstAndParts xs parts → AllByRecursion (IsPartOf xs) parts
    from [] h = tt
    from (first ∷ others) ((rest, is), h) = (record { before = []; behind = rest; are = is }, h)
