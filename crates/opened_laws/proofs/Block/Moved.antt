-- Where the tokens of parts stand, and the tokens of a row of parts by itself: the same ones, moved.
use Rattle.std.proofs.Common.{◌≡◌, ℕ, ◌+◌, ◌==◌, ◌&&◌, Bool, true, false, cond, List, [], ◌∷◌, ◌++◌, length, Option, Some, None, refl, sym, ◌∙◌, ap, subst, arith}
use Rattle.std.specs.List.{AllByRecursion}
use Rattle.std.proofs.lemmas.Bool.{cond-false, cond-true, eq-eqb, true≢false}
use Rattle.std.proofs.lemmas.List.{length-append}
use Rattle.css_model.specs.declared.token.Bracket.{Bracket}
use Rattle.css_model.specs.declared.token.Gap.{Gap}
use Rattle.css_model.specs.declared.token.Gap.TheVariants as gap
use Rattle.css_model.specs.declared.token.Lexeme.{Lexeme}
use Rattle.css_model.specs.declared.token.Token.{Token}
use Rattle.css_model.specs.declared.token.TokenKind.{TokenKind}
use Rattle.css_model.specs.Sheets.Items.{closes_block}
use Rattle.css_model.specs.Text.Characters.{close_curly}
use Rattle.css_model.specs.Text.Lexemes.{after, closer_of, is_sign_of, is_white_kind, lexeme, lexemes_in}
use Rattle.css_model.specs.Text.Tokens.{Part, is_comment, text_of, token_then, tokens_at}
use Rattle.list_facts.proofs.Zips.{AllLast, cons_head, cons_not_empty, cons_tail}
use Rattle.print_laws.proofs.ForCallers.{closers-same, closers_after, closers_of, closes_first, gap-same, gap_behind, length-closers, open_behind, opened_by}

-- a token of this kind and length at this place
abbrev pub token_at : TokenKind → ℕ → ℕ → Bool → Token
token_at k at n comment = record { kind = k; span = record { start = at; «end» = at + n }; comment_before = comment }

-- Where a token stands among parts that begin at this place inside these brackets, behind others and before others.
pub record IsAt (at : ℕ) (brackets : List Bracket) (ps : List Part) (before : List Lexeme) (x : Lexeme) (behind : List Lexeme) : Type 0 where
  pub front : List Part
  pub part : Part
  pub rest : List Part
  pub around : List Bracket
  pub comment : Bool
  pub are : ps ≡ front ++ part ∷ rest
  pub kind : part.kind ≡ Some x.kind
  pub solid : is_white_kind x.kind ≡ false
  pub start : x.span.start ≡ at + length (text_of front)
  pub stop : x.span.«end» ≡ x.span.start + length part.bytes
  pub gap : x.gap ≡ gap_behind false rest
  pub here : lexemes_in around (tokens_at x.span.start comment (part ∷ rest)) ≡ x ∷ behind
  pub later : (inside : List Bracket) × (closers_of inside ≡ closers_after x.kind (closers_of around)) × (lexemes_in inside (tokens_at x.span.«end» false rest) ≡ behind)
  pub open_around : closers_of around ≡ open_behind (closers_of brackets) before

first_at : (at : ℕ) (comment : Bool) (brackets : List Bracket) (k : TokenKind) (p : Part) (ps : List Part) (x : Lexeme) (behind : List Lexeme) → p.kind ≡ Some k → is_white_kind k ≡ false →
    lexeme (length brackets) (token_at k at (length p.bytes) comment) (tokens_at (at + length p.bytes) false ps) ∷ lexemes_in (after (token_at k at (length p.bytes) comment) brackets) (tokens_at (at + length p.bytes) false ps)
    ≡ x ∷ behind → IsAt at brackets (p ∷ ps) [] x behind
first_at at comment brackets k p ps x behind is solid e =
    let t = token_at k at (length p.bytes) comment in
    let more = tokens_at (at + length p.bytes) false ps in
    let head : lexeme (length brackets) t more ≡ x = cons_head (lexeme (length brackets) t more) x (lexemes_in (after t brackets) more) behind e in
    let tail : lexemes_in (after t brackets) more ≡ behind = cons_tail (lexeme (length brackets) t more) x (lexemes_in (after t brackets) more) behind e in
    let kind : k ≡ x.kind = ap (λ (y : Lexeme). y.kind) head in
    let start : at ≡ x.span.start = ap (λ (y : Lexeme). y.span.start) head in
    let stop : at + length p.bytes ≡ x.span.«end» = ap (λ (y : Lexeme). y.span.«end») head in
    let whole : lexemes_in brackets (tokens_at at comment (p ∷ ps)) ≡ x ∷ behind =
    ap (λ o. lexemes_in brackets (token_then o at (length p.bytes) comment (tokens_at (at + length p.bytes) (is_comment o) ps))) is
    ∙ cond-false _ (lexemes_in brackets more) (lexeme (length brackets) t more ∷ lexemes_in (after t brackets) more) solid ∙ e in
    record {
      front = [];
      part = p;
      rest = ps;
      around = brackets;
      comment = comment;
      are = refl;
      kind = is ∙ ap Some kind;
      solid = ap is_white_kind (sym kind) ∙ solid;
      start = omega (arith, start);
      stop = omega (arith, start, stop);
      gap = ap (λ (y : Lexeme). y.gap) (sym head) ∙ gap-same (at + length p.bytes) false ps;
      here = ap (λ (n : ℕ). lexemes_in brackets (tokens_at n comment (p ∷ ps))) (sym start) ∙ whole;
      later = (
        after t brackets,
        closers-same k t.span comment brackets ∙ ap (λ k. closers_after k (closers_of brackets)) kind,
        ap (λ (n : ℕ). lexemes_in (after t brackets) (tokens_at n false ps)) (sym stop) ∙ tail,
      );
      open_around = refl;
    }

-- behind one more part
behind_part : (at place : ℕ) (brackets brackets' : List Bracket) (p : Part) (ps : List Part) (before' before : List Lexeme) (x : Lexeme) (behind : List Lexeme) → place ≡ at + length p.bytes →
    open_behind (closers_of brackets') before' ≡ open_behind (closers_of brackets) before → IsAt place brackets' ps before' x behind → IsAt at brackets (p ∷ ps) before x behind
behind_part at place brackets brackets' p ps before' before x behind is open_ i = record {
  front = p ∷ i.front;
  part = i.part;
  rest = i.rest;
  around = i.around;
  comment = i.comment;
  are = ap (λ (qs : List Part). p ∷ qs) i.are;
  kind = i.kind;
  solid = i.solid;
  start = (let s = i.start in omega (arith, is, s, length-append p.bytes (text_of i.front)));
  stop = i.stop;
  gap = i.gap;
  here = i.here;
  later = i.later;
  open_around = i.open_around ∙ open_;
}

pub find_at : (at : ℕ) (comment : Bool) (brackets : List Bracket) (ps : List Part) (before : List Lexeme) (x : Lexeme) (behind : List Lexeme) →
    lexemes_in brackets (tokens_at at comment ps) ≡ before ++ x ∷ behind → IsAt at brackets ps before x behind
find_at at comment brackets [] [] x behind e = absurd (cons_not_empty x behind (sym e))
find_at at comment brackets [] (b ∷ before) x behind e = absurd (cons_not_empty b (before ++ x ∷ behind) (sym e))
find_at at comment brackets (p ∷ ps) before x behind e = which p.kind refl before e (λ c bs zs. find_at (at + length p.bytes) c bs ps zs x behind)
  where
    Later : Type 0
    Later = (c : Bool) (bs : List Bracket) (zs : List Lexeme) → lexemes_in bs (tokens_at (at + length p.bytes) c ps) ≡ zs ++ x ∷ behind → IsAt (at + length p.bytes) bs ps zs x behind

    solid : (k : TokenKind) → p.kind ≡ Some k → is_white_kind k ≡ false → (before : List Lexeme) →
        lexeme (length brackets) (token_at k at (length p.bytes) comment) (tokens_at (at + length p.bytes) false ps)
        ∷ lexemes_in (after (token_at k at (length p.bytes) comment) brackets) (tokens_at (at + length p.bytes) false ps) ≡ before ++ x ∷ behind → Later → IsAt at brackets (p ∷ ps) before x behind
    solid k is no_white [] e later = first_at at comment brackets k p ps x behind is no_white e
    solid k is no_white (b ∷ before) e later =
        let t = token_at k at (length p.bytes) comment in
        let y = lexeme (length brackets) t (tokens_at (at + length p.bytes) false ps) in
        let ys = lexemes_in (after t brackets) (tokens_at (at + length p.bytes) false ps) in
        let head : y ≡ b = cons_head y b ys (before ++ x ∷ behind) e in
        behind_part at (at + length p.bytes) brackets (after t brackets) p ps before (b ∷ before) x behind refl
        (ap (λ cs. open_behind cs before) (closers-same k t.span comment brackets ∙ ap (λ (z : Lexeme). closers_after z.kind (closers_of brackets)) head))
        (later false (after t brackets) before (cons_tail y b ys (before ++ x ∷ behind) e))

    some : (k : TokenKind) → p.kind ≡ Some k → (w : Bool) → is_white_kind k ≡ w → (before : List Lexeme) →
        cond w (lexemes_in brackets (tokens_at (at + length p.bytes) false ps))
        (lexeme (length brackets) (token_at k at (length p.bytes) comment) (tokens_at (at + length p.bytes) false ps)
        ∷ lexemes_in (after (token_at k at (length p.bytes) comment) brackets) (tokens_at (at + length p.bytes) false ps)) ≡ before ++ x ∷ behind → Later → IsAt at brackets (p ∷ ps) before x behind
    some k is true white before e later = behind_part at (at + length p.bytes) brackets brackets p ps before before x behind refl refl (later false brackets before e)
    some k is false no_white before e later = solid k is no_white before e later

    which : (o : Option TokenKind) → p.kind ≡ o → (before : List Lexeme) →
        lexemes_in brackets (token_then o at (length p.bytes) comment (tokens_at (at + length p.bytes) (is_comment o) ps)) ≡ before ++ x ∷ behind → Later → IsAt at brackets (p ∷ ps) before x behind
    which None is before e later = behind_part at (at + length p.bytes) brackets brackets p ps before before x behind refl refl (later true brackets before e)
    which (Some k) is before e later = some k is (is_white_kind k) refl before e later

-- ---- a row of parts by itself

-- what stands behind a token where the text ends there
abbrev pub end_gap : Gap → Gap
end_gap gap.White = gap.White
end_gap _ = gap.Nothing

-- A token of a text by itself, and where it stands behind this place, inside so many brackets more.
pub record IsMoved (place deep : ℕ) (y x : Lexeme) : Type 0 where
  pub kind : y.kind ≡ x.kind
  pub start : y.span.start ≡ place + x.span.start
  pub stop : y.span.«end» ≡ place + x.span.«end»
  pub level : y.level ≡ x.level + deep

-- one before others, and the last one
abbrev pub IsMovedInner : ℕ → ℕ → Lexeme → Lexeme → Type 0
IsMovedInner place deep y x = IsMoved place deep y x × (y.gap ≡ x.gap)

abbrev pub IsMovedLast : ℕ → ℕ → Lexeme → Lexeme → Type 0
IsMovedLast place deep y x = IsMoved place deep y x × (x.gap ≡ end_gap y.gap)

-- none of these tokens closes a bracket that these signs close
abbrev pub StayInside : List ℕ → List Lexeme → Type 0
StayInside cs ys = AllByRecursion (λ y. y.level ≡ length cs → closes_first y.kind cs ≡ false) ys

-- Tokens of which none closes a block stay inside its brackets.
pub stay_inside : (ys : List Lexeme) → AllByRecursion (λ y. closes_block y ≡ false) ys → StayInside (close_curly ∷ []) ys
stay_inside [] stays = tt
stay_inside (y ∷ ys) stays = (λ level. no_close (is_sign_of close_curly y.kind) (y.level == 1) (eq-eqb y.level 1 level) stays.0, stay_inside ys stays.1)
  where
    no_close : (a b : Bool) → b ≡ true → a && b ≡ false → a ≡ false
    no_close true b e f = absurd (true≢false (sym e ∙ f))
    no_close false b e f = refl

closers_inside : (k : TokenKind) (is cs : List ℕ) → (length (is ++ cs) ≡ length cs → closes_first k cs ≡ false) → closers_after k (is ++ cs) ≡ closers_after k is ++ cs
closers_inside k [] [] stays = push (closer_of k)
  where
    push : (o : Option ℕ) → opened_by o [] ≡ opened_by o [] ++ []
    push None = refl
    push (Some c) = refl
closers_inside k [] (c ∷ cs) stays = cond-false _ cs (opened_by (closer_of k) (c ∷ cs)) (stays refl) ∙ push (closer_of k)
  where
    push : (o : Option ℕ) → opened_by o (c ∷ cs) ≡ opened_by o [] ++ c ∷ cs
    push None = refl
    push (Some d) = refl
closers_inside k (i ∷ is) cs stays = which (is_sign_of i k) (closer_of k)
  where
    which : (b : Bool) (o : Option ℕ) → cond b (is ++ cs) (opened_by o (i ∷ is ++ cs)) ≡ cond b is (opened_by o (i ∷ is)) ++ cs
    which true o = refl
    which false None = refl
    which false (Some d) = refl

-- The gap before what follows parts with a token in them, and behind parts with none.
gap_inner : (at : ℕ) (c comment : Bool) (brackets : List Bracket) (mid more : List Part) (x : Lexeme) (xs : List Lexeme) → lexemes_in brackets (tokens_at at c mid) ≡ x ∷ xs →
    gap_behind comment (mid ++ more) ≡ gap_behind comment mid
gap_inner at c comment brackets [] more x xs e = absurd (cons_not_empty x xs (sym e))
gap_inner at c comment brackets (p ∷ mid) more x xs e = which p.kind e (gap_inner (at + length p.bytes) true true brackets mid more x xs)
  where
    which : (o : Option TokenKind) → lexemes_in brackets (token_then o at (length p.bytes) c (tokens_at (at + length p.bytes) (is_comment o) mid)) ≡ x ∷ xs →
        (lexemes_in brackets (tokens_at (at + length p.bytes) true mid) ≡ x ∷ xs → gap_behind true (mid ++ more) ≡ gap_behind true mid) →
        gap_behind comment (record { kind = o; bytes = p.bytes } ∷ mid ++ more) ≡ gap_behind comment (record { kind = o; bytes = p.bytes } ∷ mid)
    which None e later = later e
    which (Some k) e later = refl

gap_last : (at : ℕ) (c comment : Bool) (brackets : List Bracket) (mid : List Part) (part : Part) (rest : List Part) (k : TokenKind) → part.kind ≡ Some k → is_white_kind k ≡ false →
    lexemes_in brackets (tokens_at at c mid) ≡ [] → gap_behind comment mid ≡ end_gap (gap_behind comment (mid ++ part ∷ rest))
gap_last at c comment brackets [] part rest k is solid e = rw (is, solid) (which comment)
  where
    which : (b : Bool) → gap.Nothing ≡ end_gap (cond b gap.Comments gap.Nothing)
    which true = refl
    which false = refl
gap_last at c comment brackets (p ∷ mid) part rest k is solid e = which p.kind e (gap_last (at + length p.bytes) true true brackets mid part rest k is solid)
  where
    which : (o : Option TokenKind) → lexemes_in brackets (token_then o at (length p.bytes) c (tokens_at (at + length p.bytes) (is_comment o) mid)) ≡ [] →
        (lexemes_in brackets (tokens_at (at + length p.bytes) true mid) ≡ [] → gap_behind true mid ≡ end_gap (gap_behind true (mid ++ part ∷ rest))) →
        gap_behind comment (record { kind = o; bytes = p.bytes } ∷ mid) ≡ end_gap (gap_behind comment (record { kind = o; bytes = p.bytes } ∷ mid ++ part ∷ rest))
    which None e later = later e
    which (Some j) e later = white (is_white_kind j) e
      where
        white : (w : Bool) → cond w (lexemes_in brackets (tokens_at (at + length p.bytes) false mid))
            (lexeme (length brackets) (token_at j at (length p.bytes) c) (tokens_at (at + length p.bytes) false mid)
            ∷ lexemes_in (after (token_at j at (length p.bytes) c) brackets) (tokens_at (at + length p.bytes) false mid)) ≡ [] →
            cond w gap.White (cond comment gap.Comments gap.Nothing) ≡ end_gap (cond w gap.White (cond comment gap.Comments gap.Nothing))
        white true e = refl
        white false e = absurd (cons_not_empty _ _ e)

-- Parts up to a token, which are read by themselves as the tokens before it, moved.
pub record IsRowOf (place at : ℕ) (comment : Bool) (outer inner : List Bracket) (cs : List ℕ) (ps : List Part) (ys : List Lexeme) (z : Lexeme) : Type 0 where
  pub mid : List Part
  pub part : Part
  pub rest : List Part
  pub are : ps ≡ mid ++ part ∷ rest
  pub kind : part.kind ≡ Some z.kind
  pub solid : is_white_kind z.kind ≡ false
  pub start : z.span.start ≡ place + (at + length (text_of mid))
  pub stop : z.span.«end» ≡ z.span.start + length part.bytes
  pub moved : AllLast (IsMovedInner place (length cs)) (IsMovedLast place (length cs)) ys (lexemes_in inner (tokens_at at comment mid))
  pub open_inside : open_behind (closers_of outer) ys ≡ open_behind (closers_of inner) (lexemes_in inner (tokens_at at comment mid)) ++ cs

-- one more part that is no token
skipped_part : (place at : ℕ) (c comment : Bool) (outer inner : List Bracket) (cs : List ℕ) (p : Part) (ps : List Part) (ys : List Lexeme) (z : Lexeme) →
    ((mid : List Part) → lexemes_in inner (tokens_at at comment (p ∷ mid)) ≡ lexemes_in inner (tokens_at (at + length p.bytes) c mid)) →
    IsRowOf place (at + length p.bytes) c outer inner cs ps ys z → IsRowOf place at comment outer inner cs (p ∷ ps) ys z
skipped_part place at c comment outer inner cs p ps ys z skips r = record {
  mid = p ∷ r.mid;
  part = r.part;
  rest = r.rest;
  are = ap (λ (qs : List Part). p ∷ qs) r.are;
  kind = r.kind;
  solid = r.solid;
  start = (let s = r.start in omega (arith, s, length-append p.bytes (text_of r.mid)));
  stop = r.stop;
  moved = subst (AllLast (IsMovedInner place (length cs)) (IsMovedLast place (length cs)) ys) (sym (skips r.mid)) r.moved;
  open_inside = r.open_inside ∙ ap (λ xs. open_behind (closers_of inner) xs ++ cs) (sym (skips r.mid));
}

-- one more token before others, or the last one
put_moved : (place deep : ℕ) (b x : Lexeme) (ys xs : List Lexeme) → AllLast (IsMovedInner place deep) (IsMovedLast place deep) ys xs → IsMoved place deep b x →
    (xs ≡ [] → x.gap ≡ end_gap b.gap) → ((x' : Lexeme) (xs' : List Lexeme) → xs ≡ x' ∷ xs' → b.gap ≡ x.gap) →
    AllLast (IsMovedInner place deep) (IsMovedLast place deep) (b ∷ ys) (x ∷ xs)
put_moved place deep b x [] [] z m last others = (m, last refl)
put_moved place deep b x [] (x' ∷ xs) z m last others = absurd z
put_moved place deep b x (y ∷ ys) [] z m last others = absurd z
put_moved place deep b x (y ∷ ys) (x' ∷ xs) z m last others = ((m, others x' xs refl), z)

-- a token and those behind it
first_moved : (place at w : ℕ) (c comment : Bool) (outer inner : List Bracket) (cs : List ℕ) (k : TokenKind) (p : Part) (ps : List Part) (b : Lexeme) (ys : List Lexeme) (z : Lexeme) →
    w ≡ place + at → closers_of outer ≡ closers_of inner ++ cs → p.kind ≡ Some k → is_white_kind k ≡ false →
    lexeme (length outer) (token_at k w (length p.bytes) c) (tokens_at (w + length p.bytes) false ps) ≡ b →
    IsRowOf place (at + length p.bytes) false (after (token_at k w (length p.bytes) c) outer) (after (token_at k at (length p.bytes) comment) inner) cs ps ys z →
    IsRowOf place at comment outer inner cs (p ∷ ps) (b ∷ ys) z
first_moved place at w c comment outer inner cs k p ps b ys z is signs kind solid head r =
    let n = length p.bytes in
    let t = token_at k w n c in
    let t' = token_at k at n comment in
    let x = lexeme (length inner) t' (tokens_at (at + n) false r.mid) in
    let xs = lexemes_in (after t' inner) (tokens_at (at + n) false r.mid) in
    let here : lexemes_in inner (tokens_at at comment (p ∷ r.mid)) ≡ x ∷ xs =
    ap (λ o. lexemes_in inner (token_then o at n comment (tokens_at (at + n) (is_comment o) r.mid))) kind
    ∙ cond-false _ (lexemes_in inner (tokens_at (at + n) false r.mid)) (x ∷ xs) solid in
    let level : length outer ≡ length inner + length cs =
    (let a = length-closers outer in let d = length-closers inner in let e : length (closers_of outer) ≡ length (closers_of inner ++ cs) = ap length signs in omega (arith, a, d, e, length-append (closers_of inner) cs)) in
    let m : IsMoved place (length cs) b x = record {
      kind = ap (λ (y : Lexeme). y.kind) (sym head);
      start = (let e = ap (λ (y : Lexeme). y.span.start) (sym head) in omega (arith, e, is));
      stop = (let e = ap (λ (y : Lexeme). y.span.«end») (sym head) in omega (arith, e, is));
      level = (let e = ap (λ (y : Lexeme). y.level) (sym head) in omega (arith, e, level));
    } in
    let gap_b : b.gap ≡ gap_behind false (r.mid ++ r.part ∷ r.rest) =
    ap (λ (y : Lexeme). y.gap) (sym head) ∙ gap-same (w + n) false ps ∙ ap (gap_behind false) r.are in
    let gap_x : x.gap ≡ gap_behind false r.mid = gap-same (at + n) false r.mid in
    record {
      mid = p ∷ r.mid;
      part = r.part;
      rest = r.rest;
      are = ap (λ (qs : List Part). p ∷ qs) r.are;
      kind = r.kind;
      solid = r.solid;
      start = (let s = r.start in omega (arith, s, length-append p.bytes (text_of r.mid)));
      stop = r.stop;
      moved = subst (AllLast (IsMovedInner place (length cs)) (IsMovedLast place (length cs)) (b ∷ ys)) (sym here)
          (put_moved place (length cs) b x ys xs r.moved m
          (λ none. gap_x ∙ gap_last (at + n) false false (after t' inner) r.mid r.part r.rest z.kind r.kind r.solid none ∙ ap end_gap (sym gap_b))
          (λ x' xs' some. gap_b ∙ gap_inner (at + n) false false (after t' inner) r.mid (r.part ∷ r.rest) x' xs' some ∙ sym gap_x));
      open_inside =
          ap (λ (y : Lexeme). open_behind (closers_after y.kind (closers_of outer)) ys) (sym head)
          ∙ ap (λ signs. open_behind signs ys) (sym (closers-same k t.span c outer))
          ∙ r.open_inside
          ∙ ap (λ signs. open_behind signs xs ++ cs) (closers-same k t'.span comment inner)
          ∙ ap (λ zs. open_behind (closers_of inner) zs ++ cs) (sym here);
    }

-- The row of parts before a token, where none of its tokens closes the brackets around it.
pub row_of : (place at w : ℕ) (c comment : Bool) (outer inner : List Bracket) (cs : List ℕ) (ps : List Part) (ys : List Lexeme) (z : Lexeme) (behind : List Lexeme) →
    w ≡ place + at → closers_of outer ≡ closers_of inner ++ cs → lexemes_in outer (tokens_at w c ps) ≡ ys ++ z ∷ behind → StayInside cs ys →
    IsRowOf place at comment outer inner cs ps ys z
row_of place at w c comment outer inner cs [] [] z behind is signs e stay = absurd (cons_not_empty z behind (sym e))
row_of place at w c comment outer inner cs [] (b ∷ ys) z behind is signs e stay = absurd (cons_not_empty b (ys ++ z ∷ behind) (sym e))
row_of place at w c comment outer inner cs (p ∷ ps) ys z behind is signs e stay =
    which p.kind refl ys e stay (λ c comment outer inner zs. row_of place (at + length p.bytes) (w + length p.bytes) c comment outer inner cs ps zs z behind (omega (arith, is)))
  where
    Later : Type 0
    Later = (c comment : Bool) (outer inner : List Bracket) (zs : List Lexeme) → closers_of outer ≡ closers_of inner ++ cs →
        lexemes_in outer (tokens_at (w + length p.bytes) c ps) ≡ zs ++ z ∷ behind → StayInside cs zs → IsRowOf place (at + length p.bytes) comment outer inner cs ps zs z

    solid : (k : TokenKind) → p.kind ≡ Some k → is_white_kind k ≡ false → (ys : List Lexeme) →
        lexeme (length outer) (token_at k w (length p.bytes) c) (tokens_at (w + length p.bytes) false ps)
        ∷ lexemes_in (after (token_at k w (length p.bytes) c) outer) (tokens_at (w + length p.bytes) false ps) ≡ ys ++ z ∷ behind → StayInside cs ys → Later →
        IsRowOf place at comment outer inner cs (p ∷ ps) ys z
    solid k kind no_white [] e stay later =
        let y = lexeme (length outer) (token_at k w (length p.bytes) c) (tokens_at (w + length p.bytes) false ps) in
        let head : y ≡ z = cons_head y z (lexemes_in (after (token_at k w (length p.bytes) c) outer) (tokens_at (w + length p.bytes) false ps)) behind e in
        let place_z : w ≡ z.span.start = ap (λ (x : Lexeme). x.span.start) head in
        record {
          mid = [];
          part = p;
          rest = ps;
          are = refl;
          kind = kind ∙ ap (λ (x : Lexeme). Some x.kind) head;
          solid = ap (λ (x : Lexeme). is_white_kind x.kind) (sym head) ∙ no_white;
          start = omega (arith, place_z, is);
          stop = (let e = ap (λ (x : Lexeme). x.span.«end») head in omega (arith, place_z, e));
          moved = tt;
          open_inside = signs;
        }
    solid k kind no_white (b ∷ ys) e stay later =
        let n = length p.bytes in
        let t = token_at k w n c in
        let t' = token_at k at n comment in
        let y = lexeme (length outer) t (tokens_at (w + n) false ps) in
        let ys' = lexemes_in (after t outer) (tokens_at (w + n) false ps) in
        let head : y ≡ b = cons_head y b ys' (ys ++ z ∷ behind) e in
        let level : length (closers_of inner ++ cs) ≡ b.level = sym (ap length signs) ∙ length-closers outer ∙ ap (λ (x : Lexeme). x.level) head in
        let stays : length (closers_of inner ++ cs) ≡ length cs → closes_first k cs ≡ false =
        (λ same. ap (λ (x : Lexeme). closes_first x.kind cs) head ∙ stay.0 (sym level ∙ same)) in
        let signs' : closers_of (after t outer) ≡ closers_of (after t' inner) ++ cs =
        closers-same k t.span c outer ∙ ap (closers_after k) signs ∙ closers_inside k (closers_of inner) cs stays ∙ ap (λ ds. ds ++ cs) (sym (closers-same k t'.span comment inner)) in
        first_moved place at w c comment outer inner cs k p ps b ys z is signs kind no_white head
        (later false false (after t outer) (after t' inner) ys signs' (cons_tail y b ys' (ys ++ z ∷ behind) e) stay.1)

    some : (k : TokenKind) → p.kind ≡ Some k → (white : Bool) → is_white_kind k ≡ white → (ys : List Lexeme) →
        cond white (lexemes_in outer (tokens_at (w + length p.bytes) false ps))
        (lexeme (length outer) (token_at k w (length p.bytes) c) (tokens_at (w + length p.bytes) false ps)
        ∷ lexemes_in (after (token_at k w (length p.bytes) c) outer) (tokens_at (w + length p.bytes) false ps)) ≡ ys ++ z ∷ behind → StayInside cs ys → Later →
        IsRowOf place at comment outer inner cs (p ∷ ps) ys z
    some k kind true white ys e stay later =
        skipped_part place at false comment outer inner cs p ps ys z
        (λ mid. ap (λ o. lexemes_in inner (token_then o at (length p.bytes) comment (tokens_at (at + length p.bytes) (is_comment o) mid))) kind ∙ cond-true _ _ _ white)
        (later false false outer inner ys signs e stay)
    some k kind false no_white ys e stay later = solid k kind no_white ys e stay later

    which : (o : Option TokenKind) → p.kind ≡ o → (ys : List Lexeme) →
        lexemes_in outer (token_then o w (length p.bytes) c (tokens_at (w + length p.bytes) (is_comment o) ps)) ≡ ys ++ z ∷ behind → StayInside cs ys → Later →
        IsRowOf place at comment outer inner cs (p ∷ ps) ys z
    which None kind ys e stay later =
        skipped_part place at true comment outer inner cs p ps ys z
        (λ mid. ap (λ o. lexemes_in inner (token_then o at (length p.bytes) comment (tokens_at (at + length p.bytes) (is_comment o) mid))) kind)
        (later true true outer inner ys signs e stay)
    which (Some k) kind ys e stay later = some k kind (is_white_kind k) refl ys e stay later
