-- A byte order mark at the start of a block's body stays there where the block is printed.
use Rattle.std.proofs.Common.{◌≡◌, ◌⊎◌, inl, inr, ℕ, Bool, true, false, cond, nat_eq, not, List, [], ◌∷◌, ◌++◌, length, map, Some, None, Option, refl, sym, ◌∙◌, ap, subst, arith}
use Rattle.std.specs.Prelude.{◌&&◌, if◌then◌else◌}
use Rattle.std.specs.List.{AllByRecursion, starts_with}
use Rattle.std.specs.Str.{IsUtf8, chars, is_utf8}
use Rattle.std.proofs.lemmas.Bool.{and_parts, cond-false, eqb-true, false≢true}
use Rattle.std.proofs.lemmas.Str.{is_utf8-from_IsUtf8}
use Rattle.css_model.specs.declared.token.Gap.TheVariants as gap
use Rattle.css_model.specs.declared.token.TokenKind.{TokenKind}
use Rattle.css_model.specs.declared.token.TokenKind.TheVariants as kind
use Rattle.css_model.specs.Text.Characters.{close_curly, is_white, begins, first_passes, slash, space}
use Rattle.css_model.specs.Text.Kept.{is_lone, is_open, is_white_gap}
use Rattle.css_model.specs.Text.Lexemes.{is_white_kind}
use Rattle.css_model.specs.Text.Tokens.{Part, byte_order_mark, text_of}
use Rattle.css_tokens.specs.Lexed.{IsLexed}
use Rattle.css_tokens.proofs.ForCallers.{lexed_whole, part_len}
use Rattle.list_facts.proofs.Zips.{cons_head, cons_not_empty}
use Rattle.print_laws.proofs.ForCallers.{closers_behind, gap_behind, shown_parts, shown_then}
use Rattle.sheet_laws.proofs.ForCallers.{Shown, closed}
use Rattle.token_laws.proofs.ForCallers.{PartIs, part_is}
use Rattle.opened_laws.proofs.Pieces.Alone.{printed_shown}

-- the first of parts is a token
record BeginWithToken (ps : List Part) : Type 0 where
  part : Part
  rest : List Part
  token : TokenKind
  are : ps ≡ part ∷ rest
  kind : part.kind ≡ Some token
  solid : is_white_kind token ≡ false

-- its bytes are those of the first token that is shown
first_shown : (ps : List Part) (f : BeginWithToken ps) → (s : Shown) × (ss : List Shown) × (shown_parts [] ps ≡ s ∷ ss) × (s.bytes ≡ f.part.bytes)
first_shown ps f =
    let s : Shown = record { kind = f.token; bytes = f.part.bytes; gap = gap_behind false f.rest; level = 0 } in
    let more = shown_parts (closers_behind f.part.kind []) f.rest in
    (s, more, ap (shown_parts []) f.are ∙ at f.part.kind f.kind more, refl)
  where
    at : (o : Option TokenKind) → o ≡ Some f.token → (more : List Shown) → shown_then o f.part.bytes (gap_behind false f.rest) 0 more ≡ record { kind = f.token; bytes = f.part.bytes; gap = gap_behind false f.rest; level = 0 } ∷ more
    at o is more = rw is (cond-false _ _ _ f.solid)

-- behind a comment something stands before a token
comment_stands : (ps : List Part) (z : Part) (more : List Part) → z.kind ≡ Some (kind.Sign close_curly) → gap_behind true (ps ++ z ∷ more) ≡ gap.Nothing → ⊥
comment_stands [] z more sign e = absurd (let h : gap.Comments ≡ gap.Nothing = rw sign at e in cc)
comment_stands (p ∷ ps) z more sign e = which p.kind e (comment_stands ps z more sign)
  where
    token : (w : Bool) → cond w gap.White gap.Comments ≡ gap.Nothing → ⊥
    token true e = absurd (cc)
    token false e = absurd (cc)

    which : (o : Option TokenKind) → gap_behind true (record { kind = o; bytes = p.bytes } ∷ ps ++ z ∷ more) ≡ gap.Nothing → (gap_behind true (ps ++ z ∷ more) ≡ gap.Nothing → ⊥) → ⊥
    which None e later = later e
    which (Some k) e later = token (is_white_kind k) e

token_first : (ps : List Part) (z : Part) (more : List Part) → z.kind ≡ Some (kind.Sign close_curly) → gap_behind false (ps ++ z ∷ more) ≡ gap.Nothing → (ps ≡ []) ⊎ BeginWithToken ps
token_first [] z more sign e = inl refl
token_first (p ∷ ps) z more sign e = which p.kind refl e
  where
    token : (k : TokenKind) → p.kind ≡ Some k → (w : Bool) → is_white_kind k ≡ w → cond w gap.White gap.Nothing ≡ gap.Nothing → ((p ∷ ps) ≡ []) ⊎ BeginWithToken (p ∷ ps)
    token k is true white e = absurd (cc)
    token k is false solid e = inr (record { part = p; rest = ps; token = k; are = refl; kind = is; solid = solid })

    which : (o : Option TokenKind) → p.kind ≡ o → gap_behind false (record { kind = o; bytes = p.bytes } ∷ ps ++ z ∷ more) ≡ gap.Nothing → ((p ∷ ps) ≡ []) ⊎ BeginWithToken (p ∷ ps)
    which None is e = absurd (comment_stands ps z more sign e)
    which (Some k) is e = token k is (is_white_kind k) refl e

-- a text with a byte order mark at its start
record IsMarked (bytes : List ℕ) : Type 0 where
  rest : List ℕ
  are : bytes ≡ 0xEF ∷ 0xBB ∷ 0xBF ∷ rest

mark_of : (bytes : List ℕ) → starts_with nat_eq bytes byte_order_mark ≡ true → IsMarked bytes
mark_of [] mark = absurd (false≢true mark)
mark_of (a ∷ []) mark = absurd (false≢true (and_parts (nat_eq 0xEF a) _ mark).1)
mark_of (a ∷ b ∷ []) mark = absurd (false≢true (and_parts (nat_eq 0xBB b) _ (and_parts (nat_eq 0xEF a) _ mark).1).1)
mark_of (a ∷ b ∷ c ∷ rest) mark =
    let one = and_parts (nat_eq 0xEF a) _ mark in
    let two = and_parts (nat_eq 0xBB b) _ one.1 in
    let three = and_parts (nat_eq 0xBF c) _ two.1 in
    record {
      rest = rest;
      are = ap (λ (x : ℕ). x ∷ b ∷ c ∷ rest) (sym (eqb-true 0xEF a one.0)) ∙ ap (λ (x : ℕ). 0xEF ∷ x ∷ c ∷ rest) (sym (eqb-true 0xBB b two.0)) ∙ ap (λ (x : ℕ). 0xEF ∷ 0xBB ∷ x ∷ rest) (sym (eqb-true 0xBF c three.0));
    }

marked_is : (bytes more : List ℕ) → IsMarked bytes → starts_with nat_eq (bytes ++ more) byte_order_mark ≡ true
marked_is bytes more m = rw m.are refl

-- Parts that begin with the mark begin with a token that does.
record MarkedFirst (ps : List Part) : Type 0 where
  first : BeginWithToken ps
  marked : IsMarked first.part.bytes

-- a part of the mark is not UTF-8 by itself
one_byte : is_utf8 (0xEF ∷ []) ≡ false
unfolding is_utf8 chars
one_byte = refl

two_bytes : is_utf8 (0xEF ∷ 0xBB ∷ []) ≡ false
unfolding is_utf8 chars
two_bytes = refl

-- what a UTF-8 text begins with that begins with the mark
front_of_mark : (v rest : List ℕ) → IsUtf8 v → starts_with nat_eq (v ++ rest) byte_order_mark ≡ true → (v ≡ []) ⊎ IsMarked v
front_of_mark [] rest utf8 mark = inl refl
front_of_mark (a ∷ []) rest utf8 mark =
    let first : 0xEF ≡ a = eqb-true 0xEF a (and_parts (nat_eq 0xEF a) _ mark).0 in
    absurd (false≢true (sym one_byte ∙ is_utf8-from_IsUtf8 (0xEF ∷ []) (subst (λ (n : ℕ). IsUtf8 (n ∷ [])) (sym first) utf8)))
front_of_mark (a ∷ b ∷ []) rest utf8 mark =
    let one = and_parts (nat_eq 0xEF a) _ mark in
    let first : 0xEF ≡ a = eqb-true 0xEF a one.0 in
    let second : 0xBB ≡ b = eqb-true 0xBB b (and_parts (nat_eq 0xBB b) _ one.1).0 in
    absurd (false≢true (sym two_bytes
    ∙ is_utf8-from_IsUtf8 (0xEF ∷ 0xBB ∷ []) (subst (λ (n : ℕ). IsUtf8 (0xEF ∷ n ∷ [])) (sym second) (subst (λ (n : ℕ). IsUtf8 (n ∷ b ∷ [])) (sym first) utf8))))
front_of_mark (a ∷ b ∷ c ∷ v) rest utf8 mark = inr (mark_of (a ∷ b ∷ c ∷ v) mark)

marked_first : (ps : List Part) → IsLexed ps → AllByRecursion (λ p. IsUtf8 p.bytes) ps → starts_with nat_eq (text_of ps) byte_order_mark ≡ true → MarkedFirst ps
marked_first [] lexed utf8 mark = absurd (false≢true mark)
marked_first (p ∷ ps) (here, lexed) (one, utf8) mark = which (front_of_mark p.bytes (text_of ps) one mark) (part_is p.kind p.bytes (text_of ps) here)
  where
    no_white : IsMarked p.bytes → first_passes is_white p.bytes ≡ true → ⊥
    no_white m white = false≢true (sym (ap (first_passes is_white) m.are) ∙ white)

    no_slash : IsMarked p.bytes → begins slash p.bytes ≡ true → ⊥
    no_slash m first = false≢true (sym (ap (begins slash) m.are) ∙ first)

    token : IsMarked p.bytes → PartIs p.kind p.bytes (text_of ps) → MarkedFirst (p ∷ ps)
    token m (inl white) = absurd (no_white m white.first)
    token m (inr (inl comment)) = absurd (no_slash m comment.first)
    token m (inr (inr solid)) = record { first = record { part = p; rest = ps; token = solid.token; are = refl; kind = solid.kind; solid = solid.solid }; marked = m }

    which : (p.bytes ≡ []) ⊎ IsMarked p.bytes → PartIs p.kind p.bytes (text_of ps) → MarkedFirst (p ∷ ps)
    which (inl none) is = absurd (let len = part_len (p.bytes ++ text_of ps) (p.kind, length p.bytes) here in let n = ap length none in omega (arith, n, len.0))
    which (inr m) is = token m is

marked_print : (s : Shown) (more : List ℕ) → IsMarked s.bytes → starts_with nat_eq ((printed_shown s).bytes ++ more) byte_order_mark ≡ true
marked_print s more m = which (is_white_gap s.gap && not (is_lone s.kind)) (is_open s.bytes)
  where
    longer : (bytes : List ℕ) → bytes ≡ 0xEF ∷ 0xBB ∷ 0xBF ∷ m.rest → starts_with nat_eq ((bytes ++ space ∷ []) ++ more) byte_order_mark ≡ true
    longer bytes e = rw e refl

    shut : (o : Bool) → starts_with nat_eq ((if o then s.bytes ++ space ∷ [] else s.bytes) ++ more) byte_order_mark ≡ true
    shut true = longer s.bytes m.are
    shut false = marked_is s.bytes more m

    which : (b o : Bool) → starts_with nat_eq ((if b then closed s.bytes else s.bytes) ++ more) byte_order_mark ≡ true
    which true o = shut (is_open s.bytes)
    which false o = marked_is s.bytes more m

-- Where parts begin with the mark, so do those that are shown as their print, behind a token that nothing stands behind.
pub mark_stays : (ps' ps : List Part) (z : Part) (more : List Part) → shown_parts [] ps' ≡ map printed_shown (shown_parts [] ps) → IsLexed ps → IsUtf8 (text_of ps) →
    z.kind ≡ Some (kind.Sign close_curly) → gap_behind false (ps' ++ z ∷ more) ≡ gap.Nothing → starts_with nat_eq (text_of ps) byte_order_mark ≡ true → starts_with nat_eq (text_of ps') byte_order_mark ≡ true
mark_stays ps' ps z more same lexed utf8 sign none mark = which (token_first ps' z more sign none)
  where
    f : MarkedFirst ps
    f = marked_first ps lexed (lexed_whole ps lexed utf8) mark

    shown' : shown_parts [] ps' ≡ printed_shown (first_shown ps f.first).0 ∷ map printed_shown (first_shown ps f.first).1
    shown' = same ∙ ap (map printed_shown) (first_shown ps f.first).2

    which : (ps' ≡ []) ⊎ BeginWithToken ps' → starts_with nat_eq (text_of ps') byte_order_mark ≡ true
    which (inl empty) = absurd (cons_not_empty (printed_shown (first_shown ps f.first).0) (map printed_shown (first_shown ps f.first).1) (sym shown' ∙ ap (shown_parts []) empty))
    which (inr first) =
        let s = (first_shown ps f.first).0 in
        let s' = first_shown ps' first in
        let is : s'.0 ≡ printed_shown s = cons_head s'.0 (printed_shown s) s'.1 (map printed_shown (first_shown ps f.first).1) (sym s'.2 ∙ shown') in
        let m : IsMarked s.bytes = record { rest = f.marked.rest; are = (first_shown ps f.first).3 ∙ f.marked.are } in
        ap (λ qs. starts_with nat_eq (text_of qs) byte_order_mark) first.are
        ∙ ap (λ bytes. starts_with nat_eq (bytes ++ text_of first.rest) byte_order_mark) (sym s'.3 ∙ ap (λ (t : Shown). t.bytes) is)
        ∙ marked_print s (text_of first.rest) m

-- a token whose print begins with the mark does so itself
spaced_mark : (bytes : List ℕ) → starts_with nat_eq (bytes ++ space ∷ []) byte_order_mark ≡ true → IsMarked bytes
spaced_mark [] mark = absurd (false≢true mark)
spaced_mark (a ∷ []) mark = absurd (false≢true (and_parts (nat_eq 0xEF a) _ mark).1)
spaced_mark (a ∷ b ∷ []) mark = absurd (false≢true (and_parts (nat_eq 0xBB b) _ (and_parts (nat_eq 0xEF a) _ mark).1).1)
spaced_mark (a ∷ b ∷ c ∷ rest) mark = mark_of (a ∷ b ∷ c ∷ rest) mark

print_marked : (s : Shown) → IsMarked (printed_shown s).bytes → IsMarked s.bytes
print_marked s m = which (is_white_gap s.gap && not (is_lone s.kind)) (is_open s.bytes) m
  where
    text_marked : (bytes : List ℕ) → IsMarked bytes → starts_with nat_eq bytes byte_order_mark ≡ true
    text_marked bytes m = rw m.are refl

    which : (b o : Bool) → IsMarked (if b then (if o then s.bytes ++ space ∷ [] else s.bytes) else s.bytes) → IsMarked s.bytes
    which true true m = spaced_mark s.bytes (text_marked (s.bytes ++ space ∷ []) m)
    which true false m = m
    which false o m = m

-- Where parts begin with the mark, so do those that they are the print of, behind a token that nothing stands behind.
pub mark_back : (ps' ps : List Part) (z : Part) (more : List Part) → shown_parts [] ps' ≡ map printed_shown (shown_parts [] ps) → IsLexed ps' → IsUtf8 (text_of ps') →
    z.kind ≡ Some (kind.Sign close_curly) → gap_behind false (ps ++ z ∷ more) ≡ gap.Nothing → starts_with nat_eq (text_of ps') byte_order_mark ≡ true → starts_with nat_eq (text_of ps) byte_order_mark ≡ true
mark_back ps' ps z more same lexed utf8 sign none mark = which (token_first ps z more sign none)
  where
    f : MarkedFirst ps'
    f = marked_first ps' lexed (lexed_whole ps' lexed utf8) mark

    which : (ps ≡ []) ⊎ BeginWithToken ps → starts_with nat_eq (text_of ps) byte_order_mark ≡ true
    which (inl empty) =
        let s' = first_shown ps' f.first in
        absurd (cons_not_empty s'.0 s'.1 (sym s'.2 ∙ same ∙ ap (λ qs. map printed_shown (shown_parts [] qs)) empty))
    which (inr first) =
        let s' = first_shown ps' f.first in
        let s = first_shown ps first in
        let is : s'.0 ≡ printed_shown s.0 = cons_head s'.0 (printed_shown s.0) s'.1 (map printed_shown s.1) (sym s'.2 ∙ same ∙ ap (map printed_shown) s.2) in
        let printed : IsMarked s'.0.bytes = record { rest = f.marked.rest; are = s'.3 ∙ f.marked.are } in
        let marked : IsMarked s.0.bytes = print_marked s.0 (subst (λ (t : Shown). IsMarked t.bytes) is printed) in
        ap (λ qs. starts_with nat_eq (text_of qs) byte_order_mark) first.are ∙ marked_is first.part.bytes (text_of first.rest) (subst IsMarked s.3 marked)

-- The gap behind a token before parts that begin with the mark.
pub mark_behind : (ps : List Part) (z : Part) (more : List Part) → IsLexed ps → IsUtf8 (text_of ps) → starts_with nat_eq (text_of ps) byte_order_mark ≡ true → gap_behind false (ps ++ z ∷ more) ≡ gap.Nothing
mark_behind ps z more lexed utf8 mark =
    let f = (marked_first ps lexed (lexed_whole ps lexed utf8) mark).first in
    ap (λ qs. gap_behind false (qs ++ z ∷ more)) f.are ∙ none_before f.part (f.rest ++ z ∷ more) f.token f.kind f.solid
  where
    none_before : (p : Part) (ps : List Part) (k : TokenKind) → p.kind ≡ Some k → is_white_kind k ≡ false → gap_behind false (p ∷ ps) ≡ gap.Nothing
    none_before p ps k is solid = rw is (cond-false _ _ _ solid)
