-- Brackets that match: the stack of open brackets, and the rows of values that have no stack.
use Rattle.std.proofs.Common.{ℕ, suc, ◌+◌, ◌≡◌, Bool, true, false, cond, List, [], ◌∷◌, ◌++◌, Option, Some, None, length, drop, refl, sym, ap, ◌∙◌, subst, append_assoc}
use Rattle.std.specs.Prelude.{is_some}
use Rattle.std.specs.List.{last_or}
use Rattle.std.specs.Option.{option_map}
use Rattle.std.proofs.lemmas.Bool.{false≢true, true≢false}
use Rattle.std.proofs.lemmas.List.{append-nil}
use Rattle.css_model.specs.declared.sheet.Piece.{Piece}
use Rattle.css_model.specs.declared.token.Bracket.{Bracket}
use Rattle.css_model.specs.declared.token.Gap.{Gap}
use Rattle.css_model.specs.declared.token.Lexeme.{Lexeme}
use Rattle.css_model.specs.declared.token.Token.{Token}
use Rattle.css_model.specs.declared.token.TokenKind.{TokenKind}
use Rattle.css_model.specs.declared.token.TokenKind.TheVariants as kind
use Rattle.css_model.specs.Sheets.Sheet.{unclosed}
use Rattle.css_model.specs.Text.Lexemes.{after, after_all, closer_of, closes, gap_of, is_sign_of, is_white_kind, lexeme, lexemes, lexemes_in, opened, opens}
use Rattle.sheet_grammar.specs.Laws.{BracketsMatch}
use Rattle.sheet_grammar.specs.Values.{AreLexemes, AreOpened, AreValues, closes_around}
use Rattle.sheet_grammar.specs.Values.AreLexemes.{nothing as no_lexemes, white, more as one_more}
use Rattle.sheet_grammar.specs.Values.AreOpened.{all_closed, left_open}
use Rattle.sheet_grammar.specs.Values.AreValues.{nothing, single, block}

-- what closes the innermost of these brackets
abbrev around_of : List Bracket → Option ℕ
around_of [] = None
around_of (b ∷ bs) = Some b.closer

closes_is : (k : TokenKind) (bs : List Bracket) → closes k bs ≡ closes_around (around_of bs) k
closes_is k [] = refl
closes_is k (b ∷ bs) = refl

-- ---- what a token does to the open brackets

white_kind : (k : TokenKind) → is_white_kind k ≡ true → k ≡ kind.White
white_kind kind.White is = refl
white_kind _ is = absurd (false≢true is)

white_closes : (bs : List Bracket) → closes kind.White bs ≡ false
white_closes [] = refl
white_closes (b ∷ bs) = refl

abbrev after_kind : TokenKind → ℕ → List Bracket → List Bracket
after_kind k at bs = cond (closes k bs) (drop 1 bs) (opened at (closer_of k) bs)

after_none : (k : TokenKind) (at : ℕ) (bs : List Bracket) → closes k bs ≡ false → closer_of k ≡ None → after_kind k at bs ≡ bs
after_none k at bs no_close no_open =
    ap (λ (b : Bool). cond b (drop 1 bs) (opened at (closer_of k) bs)) no_close ∙ ap (λ (o : Option ℕ). opened at o bs) no_open

after_some : (k : TokenKind) (at c : ℕ) (bs : List Bracket) → closes k bs ≡ false → closer_of k ≡ Some c → after_kind k at bs ≡ record { closer = c; at = at } ∷ bs
after_some k at c bs no_close opening =
    ap (λ (b : Bool). cond b (drop 1 bs) (opened at (closer_of k) bs)) no_close ∙ ap (λ (o : Option ℕ). opened at o bs) opening

after_close : (k : TokenKind) (at : ℕ) (b : Bracket) (bs : List Bracket) → is_sign_of b.closer k ≡ true → after_kind k at (b ∷ bs) ≡ bs
after_close k at b bs closing = ap (λ (t : Bool). cond t bs (opened at (closer_of k) (b ∷ bs))) closing

after_white : (t : Token) (bs : List Bracket) → is_white_kind t.kind ≡ true → after t bs ≡ bs
after_white t bs is =
    let same = white_kind t.kind is in
    after_none t.kind t.span.start bs (ap (λ (k : TokenKind). closes k bs) same ∙ white_closes bs) (ap closer_of same)

-- ---- what is read are values

-- these brackets are left open, and this is where the outermost opens
abbrev IsOutermost : List Bracket → Option ℕ → Type 0
IsOutermost bs left = option_map (λ (b : Bracket). b.at) (last_or None bs) ≡ left

last_push : (o : Option Bracket) (bs : List Bracket) (b : Bracket) → last_or o (bs ++ b ∷ []) ≡ Some b
last_push o [] b = refl
last_push o (c ∷ cs) b = last_push (Some c) cs b

-- rows of values inside these brackets: each up to the closer of one of them, and one up to the end, where these are left
data AreIn : List Bracket → List Lexeme → List Bracket → Type 0 where
  at_end : (bs : List Bracket) (xs : List Lexeme) (ends inner : List Bracket) (left : Option ℕ) → AreOpened (around_of bs) (length bs) left xs → ends ≡ inner ++ bs
      → IsOutermost inner left → AreIn bs xs ends
  shuts : (b : Bracket) (bs : List Bracket) (inside rest : List Lexeme) (y : Lexeme) (ends : List Bracket) → AreValues (Some b.closer) (suc (length bs)) inside
      → is_sign_of b.closer y.kind ≡ true → y.level ≡ suc (length bs) → AreIn bs rest ends → AreIn (b ∷ bs) (inside ++ y ∷ rest) ends

opened_single : (around : Option ℕ) (depth : ℕ) (left : Option ℕ) (xs : List Lexeme) → AreOpened around depth left xs → (x : Lexeme) → opens x.kind ≡ false
    → closes_around around x.kind ≡ false → x.level ≡ depth → AreOpened around depth left (x ∷ xs)
opened_single around depth left xs (all_closed a d ys are) x no_open no_close level = all_closed a d (x ∷ ys) (single a d x ys no_open no_close level are)
opened_single around depth left xs (left_open a d c more y before inside are apart opening deep later) x no_open no_close level =
    left_open a d c more y (x ∷ before) inside (single a d x before no_open no_close level are) apart opening deep later

opened_block : (around : Option ℕ) (depth : ℕ) (left : Option ℕ) (xs : List Lexeme) → AreOpened around depth left xs → (c : ℕ) (x y : Lexeme) (inside : List Lexeme)
    → closes_around around x.kind ≡ false → closer_of x.kind ≡ Some c → x.level ≡ depth → AreValues (Some c) (suc depth) inside → is_sign_of c y.kind ≡ true → y.level ≡ suc depth
    → AreOpened around depth left (x ∷ (inside ++ y ∷ xs))
opened_block around depth left xs (all_closed a d ys are) c x y inside no_close opening level values shut deep =
    all_closed a d (x ∷ (inside ++ y ∷ ys)) (block a d c x y inside ys no_close opening level values shut deep are)
opened_block around depth left xs (left_open a d k more z before behind are apart opens_it deeper later) c x y inside no_close opening level values shut deep =
    subst (λ (t : List Lexeme). AreOpened a d (Some z.span.start) (x ∷ t)) (append_assoc inside (y ∷ before) (z ∷ behind))
    (left_open a d k more z (x ∷ (inside ++ y ∷ before)) behind (block a d c x y inside before no_close opening level values shut deep are) apart opens_it deeper later)

with_single : (bs : List Bracket) (xs : List Lexeme) (ends : List Bracket) → AreIn bs xs ends → (x : Lexeme) → opens x.kind ≡ false → closes_around (around_of bs) x.kind ≡ false
    → x.level ≡ length bs → AreIn bs (x ∷ xs) ends
with_single bs xs ends (at_end cs ys es inner left are e outermost) x no_open no_close level =
    at_end cs (x ∷ ys) es inner left (opened_single (around_of cs) (length cs) left ys are x no_open no_close level) e outermost
with_single bs xs ends (shuts b cs inside rest y es are shut deep later) x no_open no_close level =
    shuts b cs (x ∷ inside) rest y es (single (Some b.closer) (suc (length cs)) x inside no_open no_close level are) shut deep later

with_block : (bs : List Bracket) (rest : List Lexeme) (ends : List Bracket) → AreIn bs rest ends → (c : ℕ) (x y : Lexeme) (inside : List Lexeme)
    → closes_around (around_of bs) x.kind ≡ false → closer_of x.kind ≡ Some c → x.level ≡ length bs → AreValues (Some c) (suc (length bs)) inside → is_sign_of c y.kind ≡ true
    → y.level ≡ suc (length bs) → AreIn bs (x ∷ (inside ++ y ∷ rest)) ends
with_block bs rest ends (at_end cs ys es inner left are e outermost) c x y inside no_close opening level values shut deep =
    at_end cs (x ∷ (inside ++ y ∷ ys)) es inner left (opened_block (around_of cs) (length cs) left ys are c x y inside no_close opening level values shut deep) e outermost
with_block bs rest ends (shuts b cs before behind z es are closer deeper later) c x y inside no_close opening level values shut deep =
    subst (λ (t : List Lexeme). AreIn (b ∷ cs) (x ∷ t) es) (append_assoc inside (y ∷ before) (z ∷ behind))
    (shuts b cs (x ∷ (inside ++ y ∷ before)) behind z es
    (block (Some b.closer) (suc (length cs)) c x y inside before no_close opening level values shut deep are) closer deeper later)

-- a bracket that opens
open_block : (bs : List Bracket) (c at : ℕ) (xs : List Lexeme) (ends : List Bracket) → AreIn (record { closer = c; at = at } ∷ bs) xs ends → (x : Lexeme)
    → closes_around (around_of bs) x.kind ≡ false → closer_of x.kind ≡ Some c → x.level ≡ length bs → x.span.start ≡ at → AreIn bs (x ∷ xs) ends
open_block bs c at xs ends (shuts b cs inside rest y es are shut deep later) x no_close opening level place = with_block bs rest es later c x y inside no_close opening level are shut deep
open_block bs c at xs ends (at_end cs ys es inner left are e outermost) x no_close opening level place =
    at_end bs (x ∷ ys) es (inner ++ record { closer = c; at = at } ∷ []) (Some x.span.start)
    (left_open (around_of bs) (length bs) c left x [] ys (nothing (around_of bs) (length bs)) no_close opening level are)
    (e ∙ sym (append_assoc inner (record { closer = c; at = at } ∷ []) bs))
    (ap (option_map (λ (b : Bracket). b.at)) (last_push None inner (record { closer = c; at = at })) ∙ ap (λ (n : ℕ). Some n) (sym place))

values_in : (ts : List Token) (bs : List Bracket) → AreIn bs (lexemes_in bs ts) (after_all bs ts)
values_in [] bs = at_end bs [] bs [] None (all_closed (around_of bs) (length bs) [] (nothing (around_of bs) (length bs))) refl refl
values_in (t ∷ ts) bs = by (is_white_kind t.kind) refl (λ (bs : List Bracket). values_in ts bs)
  where
    shown : (b : Bool) → is_white_kind t.kind ≡ b → lexemes_in bs (t ∷ ts) ≡ cond b (lexemes_in bs ts) (lexeme (length bs) t ts ∷ lexemes_in (after t bs) ts)
    shown b is = ap (λ (b : Bool). cond b (lexemes_in bs ts) (lexeme (length bs) t ts ∷ lexemes_in (after t bs) ts)) is

    -- what is left after the first lexeme
    moved : (left : List Bracket) → after t bs ≡ left → AreIn left (lexemes_in left ts) (after_all left ts) → AreIn left (lexemes_in (after t bs) ts) (after_all (after t bs) ts)
    moved left is later = subst (λ (b : List Bracket). AreIn left (lexemes_in b ts) (after_all b ts)) (sym is) later

    opening : closes t.kind bs ≡ false → (o : Option ℕ) → closer_of t.kind ≡ o → ((bs : List Bracket) → AreIn bs (lexemes_in bs ts) (after_all bs ts))
        → AreIn bs (lexeme (length bs) t ts ∷ lexemes_in (after t bs) ts) (after_all (after t bs) ts)
    opening no_close None is later =
        with_single bs (lexemes_in (after t bs) ts) (after_all (after t bs) ts) (moved bs (after_none t.kind t.span.start bs no_close is) (later bs)) (lexeme (length bs) t ts) (ap is_some is)
        (sym (closes_is t.kind bs) ∙ no_close) refl
    opening no_close (Some c) is later =
        let left : List Bracket = record { closer = c; at = t.span.start } ∷ bs in
        open_block bs c t.span.start (lexemes_in (after t bs) ts) (after_all (after t bs) ts) (moved left (after_some t.kind t.span.start c bs no_close is) (later left)) (lexeme (length bs) t ts)
        (sym (closes_is t.kind bs) ∙ no_close) is refl refl

    shutting : (cs : List Bracket) → bs ≡ cs → closes t.kind cs ≡ true → ((bs : List Bracket) → AreIn bs (lexemes_in bs ts) (after_all bs ts))
        → AreIn cs (lexeme (length cs) t ts ∷ lexemes_in (after t cs) ts) (after_all (after t cs) ts)
    shutting [] same is later = absurd (false≢true is)
    shutting (b ∷ cs) same is later =
        let left : after t (b ∷ cs) ≡ cs = after_close t.kind t.span.start b cs is in
        subst (λ (d : List Bracket). AreIn (b ∷ cs) (lexeme (length (b ∷ cs)) t ts ∷ lexemes_in d ts) (after_all d ts)) (sym left)
        (shuts b cs [] (lexemes_in cs ts) (lexeme (length (b ∷ cs)) t ts) (after_all cs ts) (nothing (Some b.closer) (suc (length cs))) is refl (later cs))

    shut : (b : Bool) → closes t.kind bs ≡ b → ((bs : List Bracket) → AreIn bs (lexemes_in bs ts) (after_all bs ts))
        → AreIn bs (lexeme (length bs) t ts ∷ lexemes_in (after t bs) ts) (after_all (after t bs) ts)
    shut true is later = shutting bs refl is later
    shut false is later = opening is (closer_of t.kind) refl later

    by : (b : Bool) → is_white_kind t.kind ≡ b → ((bs : List Bracket) → AreIn bs (lexemes_in bs ts) (after_all bs ts)) → AreIn bs (lexemes_in bs (t ∷ ts)) (after_all bs (t ∷ ts))
    by true is later =
        let same = after_white t bs is in
        subst (λ (xs : List Lexeme). AreIn bs xs (after_all (after t bs) ts)) (sym (shown true is)) (subst (λ (b : List Bracket). AreIn bs (lexemes_in bs ts) (after_all b ts)) (sym same) (later bs))
    by false is later = subst (λ (xs : List Lexeme). AreIn bs xs (after_all (after t bs) ts)) (sym (shown false is)) (shut (closes t.kind bs) refl later)

-- ---- values are what is read

are_lexemes : (ts : List Token) (bs : List Bracket) → AreLexemes ts (lexemes_in bs ts)
are_lexemes [] bs = no_lexemes
are_lexemes (t ∷ ts) bs = by (is_white_kind t.kind) refl (λ (bs : List Bracket). are_lexemes ts bs)
  where
    by : (b : Bool) → is_white_kind t.kind ≡ b → ((bs : List Bracket) → AreLexemes ts (lexemes_in bs ts)) → AreLexemes (t ∷ ts) (lexemes_in bs (t ∷ ts))
    by true is later = rw is (white t ts (lexemes_in bs ts) is (later bs))
    by false is later = rw is (one_more t (lexeme (length bs) t ts) ts (lexemes_in (after t bs) ts) is refl refl refl refl (later (after t bs)))

-- the token of the first lexeme, and what follows it
record First (ts : List Token) (bs : List Bracket) (x : Lexeme) (xs : List Lexeme) : Type 0 where
  token : Token
  left : List Token
  same_kind : x.kind ≡ token.kind
  is : x ≡ lexeme x.level token left
  are : AreLexemes left xs
  reads : lexemes_in bs ts ≡ lexeme (length bs) token left ∷ lexemes_in (after token bs) left
  ends : after_all bs ts ≡ after_all (after token bs) left

first_of_lexemes : (ts : List Token) (xs : List Lexeme) → AreLexemes ts xs → (bs : List Bracket) (y : Lexeme) (ys : List Lexeme) → xs ≡ y ∷ ys → First ts bs y ys
first_of_lexemes ts xs no_lexemes bs y ys e = absurd (cc (e))
first_of_lexemes ts xs (white t us zs is later) bs y ys e =
    let f = first_of_lexemes us zs later bs y ys e in
    let same = after_white t bs is in
    record {
      token = f.token;
      left = f.left;
      same_kind = f.same_kind;
      is = f.is;
      are = f.are;
      reads = ap (λ (b : Bool). cond b (lexemes_in bs us) (lexeme (length bs) t us ∷ lexemes_in (after t bs) us)) is ∙ f.reads;
      ends = ap (λ (b : List Bracket). after_all b us) same ∙ f.ends;
    }
first_of_lexemes ts xs (one_more t x us zs is k s g w later) bs y ys e =
    let first : x ≡ y = cc (e) in
    let rest : zs ≡ ys = cc (e) in
    record {
      token = t;
      left = us;
      same_kind = ap (λ (x : Lexeme). x.kind) (sym first) ∙ k;
      is = subst (λ (x : Lexeme). x ≡ lexeme x.level t us) first same;
      are = subst (AreLexemes us) rest later;
      reads = ap (λ (b : Bool). cond b (lexemes_in bs us) (lexeme (length bs) t us ∷ lexemes_in (after t bs) us)) is;
      ends = refl;
    }
  where
    same : x ≡ lexeme x.level t us
    same =
        ap (λ (k : TokenKind). let y : Lexeme = record { kind = k; span = x.span; gap = x.gap; white = x.white; level = x.level } in y) k
        ∙ ap (λ (s : Piece). let y : Lexeme = record { kind = t.kind; span = s; gap = x.gap; white = x.white; level = x.level } in y) s
        ∙ ap (λ (g : Gap). let y : Lexeme = record { kind = t.kind; span = t.span; gap = g; white = x.white; level = x.level } in y) g
        ∙ ap (λ (w : Piece). let y : Lexeme = record { kind = t.kind; span = t.span; gap = gap_of us; white = w; level = x.level } in y) w

-- values at the front of lexemes are read, and leave the brackets as they were
record IsReadOf (ts : List Token) (bs : List Bracket) (vs rest : List Lexeme) : Type 0 where
  left : List Token
  are : AreLexemes left rest
  reads : lexemes_in bs ts ≡ vs ++ lexemes_in bs left
  ends : after_all bs ts ≡ after_all bs left

lexeme_at : (level depth : ℕ) (t : Token) (us : List Token) (x : Lexeme) → x ≡ lexeme x.level t us → x.level ≡ depth → level ≡ depth → lexeme level t us ≡ x
lexeme_at level depth t us x is deep same = ap (λ (n : ℕ). lexeme n t us) (same ∙ sym deep) ∙ sym is

values_read : (around : Option ℕ) (depth : ℕ) (vs : List Lexeme) → AreValues around depth vs → (bs : List Bracket) → around_of bs ≡ around → length bs ≡ depth
    → (ts : List Token) (rest : List Lexeme) → AreLexemes ts (vs ++ rest) → IsReadOf ts bs vs rest
values_read around depth vs (nothing a d) bs same deep ts rest are = record { left = ts; are = are; reads = refl; ends = refl }
values_read around depth vs (single a d x others no_open no_close level later) bs same deep ts rest are =
    of (first_of_lexemes ts (x ∷ (others ++ rest)) are bs x (others ++ rest) refl) (λ (ts : List Token) (are : AreLexemes ts (others ++ rest)). values_read a d others later bs same deep ts rest are)
  where
    of : First ts bs x (others ++ rest) → ((ts : List Token) → AreLexemes ts (others ++ rest) → IsReadOf ts bs others rest) → IsReadOf ts bs (x ∷ others) rest
    of f more_read =
        let no_close_there : closes f.token.kind bs ≡ false =
        closes_is f.token.kind bs ∙ (ap (λ (o : Option ℕ). closes_around o f.token.kind) same ∙ (ap (closes_around a) (sym f.same_kind) ∙ no_close)) in
        let none : closer_of f.token.kind ≡ None = ap closer_of (sym f.same_kind) ∙ not_some (closer_of x.kind) no_open in
        let stays : after f.token bs ≡ bs = after_none f.token.kind f.token.span.start bs no_close_there none in
        let r = more_read f.left f.are in
        record {
          left = r.left;
          are = r.are;
          reads =
              f.reads
              ∙ (ap (λ (b : List Bracket). lexeme (length bs) f.token f.left ∷ lexemes_in b f.left) stays
              ∙ (ap (λ (y : Lexeme). y ∷ lexemes_in bs f.left) (lexeme_at (length bs) d f.token f.left x f.is level deep) ∙ ap (λ (t : List Lexeme). x ∷ t) r.reads));
          ends = f.ends ∙ (ap (λ (b : List Bracket). after_all b f.left) stays ∙ r.ends);
        }
      where
        not_some : (o : Option ℕ) → is_some o ≡ false → o ≡ None
        not_some None h = refl
        not_some (Some c) h = absurd (true≢false h)
values_read around depth vs (block a d c x y inside others no_close opening level values closing deeper later) bs same deep ts rest are =
    of (first_of_lexemes ts (x ∷ ((inside ++ y ∷ others) ++ rest)) are bs x ((inside ++ y ∷ others) ++ rest) refl)
    (λ (cs : List Bracket) (around_is : around_of cs ≡ Some c) (deep_is : length cs ≡ suc d) (ts : List Token) (are : AreLexemes ts (inside ++ (y ∷ (others ++ rest)))).
    values_read (Some c) (suc d) inside values cs around_is deep_is ts (y ∷ (others ++ rest)) are)
    (λ (ts : List Token) (are : AreLexemes ts (others ++ rest)). values_read a d others later bs same deep ts rest are)
  where
    of : First ts bs x ((inside ++ y ∷ others) ++ rest)
        → ((cs : List Bracket) → around_of cs ≡ Some c → length cs ≡ suc d → (ts : List Token) → AreLexemes ts (inside ++ (y ∷ (others ++ rest))) → IsReadOf ts cs inside (y ∷ (others ++ rest)))
        → ((ts : List Token) → AreLexemes ts (others ++ rest) → IsReadOf ts bs others rest) → IsReadOf ts bs (x ∷ (inside ++ y ∷ others)) rest
    of f inside_read more_read =
        let no_close_there : closes f.token.kind bs ≡ false =
        closes_is f.token.kind bs ∙ (ap (λ (o : Option ℕ). closes_around o f.token.kind) same ∙ (ap (closes_around a) (sym f.same_kind) ∙ no_close)) in
        let some : closer_of f.token.kind ≡ Some c = ap closer_of (sym f.same_kind) ∙ opening in
        let cs : List Bracket = record { closer = c; at = f.token.span.start } ∷ bs in
        let grows : after f.token bs ≡ cs = after_some f.token.kind f.token.span.start c bs no_close_there some in
        let there = subst (AreLexemes f.left) (append_assoc inside (y ∷ others) rest) f.are in
        let r = inside_read cs refl (ap suc deep) f.left there in
        let g = first_of_lexemes r.left (y ∷ (others ++ rest)) r.are cs y (others ++ rest) refl in
        let closing_there : is_sign_of c g.token.kind ≡ true = ap (is_sign_of c) (sym g.same_kind) ∙ closing in
        let shrinks : after g.token cs ≡ bs = after_close g.token.kind g.token.span.start (record { closer = c; at = f.token.span.start }) bs closing_there in
        let s = more_read g.left g.are in
        let last : lexemes_in cs r.left ≡ y ∷ (others ++ lexemes_in bs s.left) =
        g.reads
        ∙ (ap (λ (b : List Bracket). lexeme (length cs) g.token g.left ∷ lexemes_in b g.left) shrinks
        ∙ (ap (λ (z : Lexeme). z ∷ lexemes_in bs g.left) (lexeme_at (length cs) (suc d) g.token g.left y g.is deeper (ap suc deep)) ∙ ap (λ (t : List Lexeme). y ∷ t) s.reads)) in
        record {
          left = s.left;
          are = s.are;
          reads =
              f.reads
              ∙ (ap (λ (b : List Bracket). lexeme (length bs) f.token f.left ∷ lexemes_in b f.left) grows
              ∙ (ap (λ (z : Lexeme). z ∷ lexemes_in cs f.left) (lexeme_at (length bs) d f.token f.left x f.is level deep)
              ∙ (ap (λ (t : List Lexeme). x ∷ t) (r.reads ∙ ap (λ (t : List Lexeme). inside ++ t) last)
              ∙ ap (λ (t : List Lexeme). x ∷ t) (sym (append_assoc inside (y ∷ others) (lexemes_in bs s.left))))));
          ends =
              f.ends
              ∙ (ap (λ (b : List Bracket). after_all b f.left) grows ∙ (r.ends ∙ (g.ends ∙ (ap (λ (b : List Bracket). after_all b g.left) shrinks ∙ s.ends))));
        }

-- nothing but white space is left
nothing_left : (ts : List Token) (xs : List Lexeme) → AreLexemes ts xs → xs ≡ [] → (bs : List Bracket) → (lexemes_in bs ts ≡ []) × (after_all bs ts ≡ bs)
nothing_left ts xs no_lexemes e bs = (refl, refl)
nothing_left ts xs (white t us zs is later) e bs =
    let rest = nothing_left us zs later e bs in
    let same = after_white t bs is in
    (ap (λ (b : Bool). cond b (lexemes_in bs us) (lexeme (length bs) t us ∷ lexemes_in (after t bs) us)) is ∙ rest.0, ap (λ (b : List Bracket). after_all b us) same ∙ rest.1)
nothing_left ts xs (one_more t x us zs is k s g w later) e bs = absurd (cc (e))

-- a row up to the end is read, and leaves its brackets open
record IsReadUp (ts : List Token) (bs : List Bracket) (left : Option ℕ) (xs : List Lexeme) : Type 0 where
  inner : List Bracket
  reads : lexemes_in bs ts ≡ xs
  ends : after_all bs ts ≡ inner ++ bs
  outermost : IsOutermost inner left

opened_read : (around : Option ℕ) (depth : ℕ) (left : Option ℕ) (xs : List Lexeme) → AreOpened around depth left xs → (bs : List Bracket) → around_of bs ≡ around → length bs ≡ depth
    → (ts : List Token) → AreLexemes ts xs → IsReadUp ts bs left xs
opened_read around depth left xs (all_closed a d ys values) bs same deep ts are =
    let r = values_read a d ys values bs same deep ts [] (subst (AreLexemes ts) (sym (append-nil ys)) are) in
    let rest = nothing_left r.left [] r.are refl bs in
    record { inner = []; reads = r.reads ∙ (ap (λ (t : List Lexeme). ys ++ t) rest.0 ∙ append-nil ys); ends = r.ends ∙ rest.1; outermost = refl }
opened_read around depth left xs (left_open a d c more x before inside values no_close opening level later) bs same deep ts are =
    of (values_read a d before values bs same deep ts (x ∷ inside) are)
    (λ (cs : List Bracket) (around_is : around_of cs ≡ Some c) (deep_is : length cs ≡ suc d) (ts : List Token) (are : AreLexemes ts inside). opened_read (Some c) (suc d) more inside later cs around_is deep_is ts are)
  where
    of : IsReadOf ts bs before (x ∷ inside) → ((cs : List Bracket) → around_of cs ≡ Some c → length cs ≡ suc d → (ts : List Token) → AreLexemes ts inside → IsReadUp ts cs more inside)
        → IsReadUp ts bs (Some x.span.start) (before ++ x ∷ inside)
    of r inside_read =
        let f = first_of_lexemes r.left (x ∷ inside) r.are bs x inside refl in
        let no_close_there : closes f.token.kind bs ≡ false =
        closes_is f.token.kind bs ∙ (ap (λ (o : Option ℕ). closes_around o f.token.kind) same ∙ (ap (closes_around a) (sym f.same_kind) ∙ no_close)) in
        let some : closer_of f.token.kind ≡ Some c = ap closer_of (sym f.same_kind) ∙ opening in
        let b : Bracket = record { closer = c; at = f.token.span.start } in
        let grows : after f.token bs ≡ b ∷ bs = after_some f.token.kind f.token.span.start c bs no_close_there some in
        let u = inside_read (b ∷ bs) refl (ap suc deep) f.left f.are in
        let place : f.token.span.start ≡ x.span.start = ap (λ (y : Lexeme). y.span.start) (sym f.is) in
        let rest : lexemes_in bs r.left ≡ x ∷ inside =
        f.reads
        ∙ (ap (λ (t : List Bracket). lexeme (length bs) f.token f.left ∷ lexemes_in t f.left) grows
        ∙ (ap (λ (z : Lexeme). z ∷ lexemes_in (b ∷ bs) f.left) (lexeme_at (length bs) d f.token f.left x f.is level deep) ∙ ap (λ (t : List Lexeme). x ∷ t) u.reads)) in
        record {
          inner = u.inner ++ b ∷ [];
          reads = r.reads ∙ ap (λ (t : List Lexeme). before ++ t) rest;
          ends = r.ends ∙ (f.ends ∙ (ap (λ (t : List Bracket). after_all t f.left) grows ∙ (u.ends ∙ sym (append_assoc u.inner (b ∷ []) bs))));
          outermost = ap (option_map (λ (b : Bracket). b.at)) (last_push None u.inner b) ∙ ap (λ (n : ℕ). Some n) place;
        }

pub brackets_match : BracketsMatch
brackets_match ts xs left = (there, back)
  where
    there : AreLexemes ts xs × AreOpened None 0 left xs → (lexemes ts ≡ xs) × (unclosed ts ≡ left)
    there both =
        let u = opened_read None 0 left xs both.1 [] refl refl ts both.0 in
        (u.reads, ap (λ (b : List Bracket). option_map (λ (b : Bracket). b.at) (last_or None b)) (u.ends ∙ append-nil u.inner) ∙ u.outermost)

    outer : (ys : List Lexeme) (ends : List Bracket) → AreIn [] ys ends → AreOpened None 0 (option_map (λ (b : Bracket). b.at) (last_or None ends)) ys
    outer ys ends (at_end cs zs es inner found are e outermost) =
        let same : option_map (λ (b : Bracket). b.at) (last_or None es) ≡ found = ap (λ (b : List Bracket). option_map (λ (b : Bracket). b.at) (last_or None b)) (e ∙ append-nil inner) ∙ outermost in
        subst (λ (o : Option ℕ). AreOpened None 0 o zs) (sym same) are

    back : (lexemes ts ≡ xs) × (unclosed ts ≡ left) → AreLexemes ts xs × AreOpened None 0 left xs
    back both = (
      subst (AreLexemes ts) both.0 (are_lexemes ts []),
      subst (λ (o : Option ℕ). AreOpened None 0 o xs) both.1 (subst (AreOpened None 0 (unclosed ts)) both.0 (outer (lexemes ts) (after_all [] ts) (values_in ts []))),
    )

-- tokens that leave no bracket open are values
pub opened_values : (around : Option ℕ) (depth : ℕ) (left : Option ℕ) (xs : List Lexeme) → AreOpened around depth left xs → left ≡ None → AreValues around depth xs
opened_values around depth left xs (all_closed a d ys are) e = are
opened_values around depth left xs (left_open a d c more x before inside are no_close opening level later) e = absurd (cc (e))
