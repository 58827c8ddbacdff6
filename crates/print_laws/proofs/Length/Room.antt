-- The room that tokens take in their source, with what is printed behind each.
use Rattle.std.proofs.Common.{ℕ, zero, suc, ◌+◌, ◌-◌, ◌<◌, ◌≤◌, ◌≡◌, ◌↔◌, ◌⊎◌, inl, inr, Bool, true, false, IsTrue, List, [], ◌∷◌, ◌++◌, Ok, Some, length, drop, take, refl, sym, ap, ◌∙◌, subst, arith}
use Rattle.std.specs.Prelude.{if◌then◌else◌}
use Rattle.std.specs.List.{slice_range}
use Rattle.std.proofs.lemmas.Bool.{cases_lt, false≢true, true≢false}
use Rattle.std.proofs.lemmas.List.{length-drop, length-take-le, take-append-drop, drop-drop}
use Rattle.css_model.specs.declared.token.Bracket.{Bracket}
use Rattle.css_model.specs.declared.token.Gap.{Gap}
use Rattle.css_model.specs.declared.token.Gap.TheVariants as gap
use Rattle.css_model.specs.declared.token.Lexeme.{Lexeme}
use Rattle.css_model.specs.declared.token.Token.{Token}
use Rattle.css_model.specs.Text.Characters.{line_feed, space, slash, is_newline, begins, first_passes}
use Rattle.css_model.specs.Text.Kept.{solid, between, gap_text, is_lone, is_open}
use Rattle.css_model.specs.Text.Lexemes.{is_white_kind, gap_of, lexeme, lexemes_in, after}
use Rattle.css_model.specs.Text.Source.{text_at}
use Rattle.css_model.specs.Text.TokenAt.{part_at}
use Rattle.css_model.specs.Text.Units.{white_unit}
use Rattle.css_tokens.specs.Laws.{AreComments, Cover, StandsIn, Restarts}
use Rattle.list_facts.proofs.Sums.{total}
use Rattle.print_laws.proofs.Length.Tokens.{white_begins, lone_newline, newline_white, comments_size, newline_no_slash, white_closes}

-- how many bytes are printed behind a token at most
unfoldable pub cost : List ℕ → Lexeme → ℕ
cost source x = length (between (solid source x))

-- the same by what it hangs on
abbrev pub gap_cost : Bool → Gap → ℕ
gap_cost open_end gap.Nothing = 0
gap_cost open_end gap.Comments = 4
gap_cost open_end gap.White = if open_end then 2 else 1

abbrev pub cost_by : Bool → Bool → Gap → ℕ
cost_by lone open_end g = if lone then 1 else gap_cost open_end g

gap_len : (bytes : List ℕ) (g : Gap) → length (gap_text bytes g) ≡ gap_cost (is_open bytes) g
gap_len bytes gap.Nothing = refl
gap_len bytes gap.Comments = refl
gap_len bytes gap.White = which (is_open bytes)
  where
    which : (b : Bool) → length (if b then space ∷ space ∷ [] else space ∷ []) ≡ (if b then 2 else 1)
    which true = refl
    which false = refl

pub cost_is : (source : List ℕ) (x : Lexeme) → cost source x ≡ cost_by (is_lone x.kind) (is_open (text_at source x.span)) x.gap
unfolding cost
cost_is source x = which (is_lone x.kind)
  where
    which : (b : Bool) → length (if b then line_feed ∷ [] else gap_text (text_at source x.span) x.gap) ≡ cost_by b (is_open (text_at source x.span)) x.gap
    which true = refl
    which false = gap_len (text_at source x.span) x.gap

-- a token of a byte at least, with what is printed behind it
unfoldable pub weight : List ℕ → Lexeme → ℕ
weight source x = suc (x.span.«end» - suc x.span.start) + cost source x

-- tokens in order between two places, each with room for what is printed behind it
abbrev pub Fits : List ℕ → ℕ → List Lexeme → ℕ → Type 0
Fits source from [] to = from ≤ to
Fits source from (x ∷ xs) to = (from ≤ x.span.start) × (x.span.start < x.span.«end») × Fits source (x.span.«end» + cost source x) xs to

pub fits_weights : (source : List ℕ) (from : ℕ) (xs : List Lexeme) (to : ℕ) → Fits source from xs to → from + total (weight source) xs ≤ to
unfolding weight
fits_weights source from [] to fits = omega (arith, fits)
fits_weights source from (x ∷ xs) to (low, some, fits) = omega (arith, low, some, fits_weights source (x.span.«end» + cost source x) xs to fits)

pub fits_lower : (source : List ℕ) (low from : ℕ) (xs : List Lexeme) (to : ℕ) → low ≤ from → Fits source from xs to → Fits source low xs to
fits_lower source low from [] to le fits = omega (arith, le, fits)
fits_lower source low from (x ∷ xs) to le (first, some, fits) = (omega (arith, le, first), some, fits)

-- what is read of a token, by its bytes and those behind it
token_read : (source : List ℕ) (t : Token) → StandsIn source t
    → part_at (text_at source t.span ++ drop t.span.«end» source) ≡ Ok (Some t.kind, length (text_at source t.span))
token_read source t stands =
    let n = t.span.«end» - t.span.start in
    let rest = drop t.span.start source in
    let place : t.span.start + n ≡ t.span.«end» = omega (arith, stands.ordered) in
    let behind : drop n rest ≡ drop t.span.«end» source = drop-drop n t.span.start source ∙ ap (λ (m : ℕ). drop m source) place in
    let whole : text_at source t.span ++ drop t.span.«end» source ≡ rest = ap (λ (cs : List ℕ). take n rest ++ cs) (sym behind) ∙ take-append-drop n rest in
    let size : length (text_at source t.span) ≡ n = length-take-le n rest (omega (arith, stands.ordered, stands.inside, length-drop t.span.start source)) in
    ap part_at whole ∙ stands.reads ∙ ap (λ (m : ℕ). Ok (Some t.kind, m)) (sym size)

-- where comments stand between two places
slice_size : (source : List ℕ) (from to : ℕ) → from ≤ to → to ≤ length source → length (slice_range source from to) ≡ to - from
slice_size source from to low inside = length-take-le (to - from) (drop from source) (omega (arith, inside, low, length-drop from source))

comments_room : (source : List ℕ) (from to : ℕ) → AreComments (slice_range source from to) → from < to → to ≤ length source → (from + 4 ≤ to) × (begins slash (drop from source) ≡ true)
comments_room source from to comments some inside =
    let size = slice_size source from to (omega (arith, some)) inside in
    let are = comments_size (slice_range source from to) comments (omega (arith, size, some)) in
    (omega (arith, are.0, size, some), first (to - from) (drop from source) are.1)
  where
    first : (n : ℕ) (cs : List ℕ) → begins slash (take n cs) ≡ true → begins slash cs ≡ true
    first zero cs is = absurd (cc)
    first (suc n) [] is = is
    first (suc n) (c ∷ cs) is = is

-- behind a lone backslash stands a newline, so no comment
lone_behind : (source : List ℕ) (t : Token) → StandsIn source t → is_lone t.kind ≡ true → first_passes is_newline (drop t.span.«end» source) ≡ true
lone_behind source t stands lone =
    let n = t.span.«end» - t.span.start in
    let is = lone_newline (drop t.span.start source) t.kind n lone stands.reads in
    let place : t.span.start + 1 ≡ t.span.«end» = omega (arith, is.0, stands.ordered) in
    ap (λ (cs : List ℕ). first_passes is_newline cs) (sym (drop-drop 1 t.span.start source ∙ ap (λ (m : ℕ). drop m source) place)) ∙ is.1

lone_no_comment : (source : List ℕ) (t : Token) (to : ℕ) → StandsIn source t → is_lone t.kind ≡ true → AreComments (slice_range source t.span.«end» to) → to ≤ length source → t.span.«end» ≤ to → to ≡ t.span.«end»
lone_no_comment source t to stands lone comments inside low = which (cases_lt t.span.«end» to)
  where
    which : (t.span.«end» < to) ⊎ (to ≤ t.span.«end») → to ≡ t.span.«end»
    which (inl some) = absurd (newline_no_slash (drop t.span.«end» source) (lone_behind source t stands lone) (comments_room source t.span.«end» to comments some inside).1)
    which (inr past) = omega (arith, low, past)

some_begins : (text : List ℕ) → first_passes is_newline text ≡ true → 0 < length text
some_begins [] newline = absurd (false≢true newline)
some_begins (c ∷ cs) newline = omega arith

cost_at : (source : List ℕ) (level : ℕ) (t : Token) (ts : List Token) (lone open_end : Bool) → is_lone t.kind ≡ lone → is_open (text_at source t.span) ≡ open_end
    → cost source (lexeme level t ts) ≡ cost_by lone open_end (gap_of ts)
cost_at source level t ts lone open_end lone_is open_is =
    cost_is source (lexeme level t ts) ∙ ap (λ b. cost_by b (is_open (text_at source t.span)) (gap_of ts)) lone_is ∙ ap (λ b. cost_by lone b (gap_of ts)) open_is

-- the last token
last_behind : (source : List ℕ) (level : ℕ) (t : Token) → StandsIn source t → AreComments (slice_range source t.span.«end» (length source)) → t.span.«end» + cost source (lexeme level t []) ≤ length source
last_behind source level t stands comments = which (is_lone t.kind) refl
  where
    which : (b : Bool) → is_lone t.kind ≡ b → t.span.«end» + cost source (lexeme level t []) ≤ length source
    which true lone =
        let end = lone_no_comment source t (length source) stands lone comments (omega arith) stands.inside in
        let some = some_begins (drop t.span.«end» source) (lone_behind source t stands lone) in
        absurd (omega (arith, end, some, length-drop t.span.«end» source))
    which false other =
        let none : cost source (lexeme level t []) ≡ 0 = cost_at source level t [] false (is_open (text_at source t.span)) other refl in
        omega (arith, none, stands.inside)

-- what stands between two tokens
record Behind (source : List ℕ) (t u : Token) : Type 0 where
  first : StandsIn source t
  second : StandsIn source u
  low : t.span.«end» ≤ u.span.start
  comments : AreComments (slice_range source t.span.«end» u.span.start)
  told : IsTrue u.comment_before ↔ (t.span.«end» < u.span.start)

solid_behind : (source : List ℕ) (level : ℕ) (t u : Token) (us : List Token) → Behind source t u → is_white_kind u.kind ≡ false → t.span.«end» + cost source (lexeme level t (u ∷ us)) ≤ u.span.start
solid_behind source level t u us h solid_is = which (is_lone t.kind) refl u.comment_before refl
  where
    size : ℕ
    size = cost source (lexeme level t (u ∷ us))

    inside : u.span.start ≤ length source
    inside = omega (arith, h.second.ordered, h.second.inside)

    gap_is : (b : Bool) → u.comment_before ≡ b → gap_of (u ∷ us) ≡ (if b then gap.Comments else gap.Nothing)
    gap_is b is = ap (λ (w : Bool). if w then gap.White else if u.comment_before then gap.Comments else gap.Nothing) solid_is ∙ ap (λ (c : Bool). if c then gap.Comments else gap.Nothing) is

    sized : is_lone t.kind ≡ false → (b : Bool) → u.comment_before ≡ b → size ≡ gap_cost (is_open (text_at source t.span)) (if b then gap.Comments else gap.Nothing)
    sized other b is = cost_at source level t (u ∷ us) false (is_open (text_at source t.span)) other refl ∙ ap (gap_cost (is_open (text_at source t.span))) (gap_is b is)

    which : (l : Bool) → is_lone t.kind ≡ l → (b : Bool) → u.comment_before ≡ b → t.span.«end» + size ≤ u.span.start
    which true lone b is =
        let place = lone_no_comment source t u.span.start h.first lone h.comments inside h.low in
        let newline : first_passes is_newline (drop u.span.start source) ≡ true = ap (λ (m : ℕ). first_passes is_newline (drop m source)) place ∙ lone_behind source t h.first lone in
        absurd (false≢true (sym solid_is ∙ newline_white (drop u.span.start source) u.kind (u.span.«end» - u.span.start) newline h.second.reads))
    which false other true is =
        let some = h.told.0 is in
        omega (arith, sized other true is, (comments_room source t.span.«end» u.span.start h.comments some inside).0)
    which false other false is = omega (arith, sized other false is, h.low)

white_behind : (source : List ℕ) (level : ℕ) (t u : Token) (us : List Token) → Behind source t u → is_white_kind t.kind ≡ false → is_white_kind u.kind ≡ true
    → t.span.«end» + cost source (lexeme level t (u ∷ us)) ≤ u.span.«end»
white_behind source level t u us h solid_is white = which (is_lone t.kind) refl (is_open (text_at source t.span)) refl
  where
    size : ℕ
    size = cost source (lexeme level t (u ∷ us))

    sized : (l o : Bool) → is_lone t.kind ≡ l → is_open (text_at source t.span) ≡ o → size ≡ cost_by l o gap.White
    sized l o lone open_end = cost_at source level t (u ∷ us) l o lone open_end ∙ ap (λ (w : Bool). cost_by l o (if w then gap.White else if u.comment_before then gap.Comments else gap.Nothing)) white

    begins_here : t.span.«end» ≡ u.span.start → 0 < white_unit (drop t.span.«end» source)
    begins_here same = white_begins (drop t.span.«end» source) u.kind (u.span.«end» - u.span.start) white (ap (λ (m : ℕ). part_at (drop m source)) same ∙ h.second.reads)

    apart : is_lone t.kind ≡ false → is_open (text_at source t.span) ≡ true → (t.span.«end» < u.span.start) ⊎ (u.span.start ≤ t.span.«end») → t.span.«end» < u.span.start
    apart other open_end (inl some) = some
    apart other open_end (inr past) =
        let same : t.span.«end» ≡ u.span.start = omega (arith, past, h.low) in
        absurd (true≢false (sym open_end ∙ white_closes (text_at source t.span) (drop t.span.«end» source) t.kind solid_is other (begins_here same) (token_read source t h.first)))

    which : (l : Bool) → is_lone t.kind ≡ l → (o : Bool) → is_open (text_at source t.span) ≡ o → t.span.«end» + size ≤ u.span.«end»
    which true lone o open_end = omega (arith, sized true o lone open_end, h.low, h.second.ordered)
    which false other true open_end = omega (arith, sized false true other open_end, apart other open_end (cases_lt t.span.«end» u.span.start), h.second.ordered)
    which false other false open_end = omega (arith, sized false false other open_end, h.low, h.second.ordered)

-- The tokens of a source have room in it.
pub tokens_fit : (source : List ℕ) (brackets : List Bracket) (from : ℕ) (ts : List Token) → Cover source from ts (length source) → Restarts source from ts
    → Fits source from (lexemes_in brackets ts) (length source)
tokens_fit source brackets from [] cover restart = cover.0
tokens_fit source brackets from (t ∷ []) cover restart = which (is_white_kind t.kind)
  where
    which : (w : Bool) → Fits source from (if w then [] else lexeme (length brackets) t [] ∷ []) (length source)
    which true = omega (arith, cover.0, cover.3, restart.1.inside)
    which false = (cover.0, cover.3, last_behind source (length brackets) t restart.1 cover.4.1)
tokens_fit source brackets from (t ∷ u ∷ us) cover restart =
    which (is_white_kind t.kind) refl (is_white_kind u.kind) refl
    (λ bs. tokens_fit source bs t.span.«end» (u ∷ us) cover.4 restart.3)
    (λ bs. tokens_fit source bs u.span.«end» us cover.4.4 restart.3.3)
  where
    h : Behind source t u
    h = record { first = restart.1; second = restart.3.1; low = cover.4.0; comments = cover.4.1; told = cover.4.2 }

    size : ℕ
    size = cost source (lexeme (length brackets) t (u ∷ us))

    behind : (w : Bool) → is_white_kind t.kind ≡ false → is_white_kind u.kind ≡ w → (bs : List Bracket)
        → Fits source t.span.«end» (if w then lexemes_in bs us else lexeme (length bs) u us ∷ lexemes_in (after u bs) us) (length source)
        → Fits source u.span.«end» (lexemes_in bs us) (length source)
        → Fits source (t.span.«end» + size) (if w then lexemes_in bs us else lexeme (length bs) u us ∷ lexemes_in (after u bs) us) (length source)
    behind true solid_is white bs later rest = fits_lower source (t.span.«end» + size) u.span.«end» (lexemes_in bs us) (length source) (white_behind source (length brackets) t u us h solid_is white) rest
    behind false solid_is other bs (low, some, fits) rest = (solid_behind source (length brackets) t u us h other, some, fits)

    which : (w : Bool) → is_white_kind t.kind ≡ w → (v : Bool) → is_white_kind u.kind ≡ v
        → ((bs : List Bracket) → Fits source t.span.«end» (lexemes_in bs (u ∷ us)) (length source))
        → ((bs : List Bracket) → Fits source u.span.«end» (lexemes_in bs us) (length source))
        → Fits source from (if w then lexemes_in brackets (u ∷ us) else lexeme (length brackets) t (u ∷ us) ∷ lexemes_in (after t brackets) (u ∷ us)) (length source)
    which true white v is later rest = fits_lower source from t.span.«end» (lexemes_in brackets (u ∷ us)) (length source) (omega (arith, cover.0, cover.3)) (later brackets)
    which false solid_is v is later rest =
        let bs = after t brackets in
        let here : Fits source (t.span.«end» + size) (if v then lexemes_in bs us else lexeme (length bs) u us ∷ lexemes_in (after u bs) us) (length source) =
        behind v solid_is is bs (subst (λ (w : Bool). Fits source t.span.«end» (if w then lexemes_in bs us else lexeme (length bs) u us ∷ lexemes_in (after u bs) us) (length source)) is (later bs)) (rest bs) in
        (cover.0, cover.3, subst (λ (w : Bool). Fits source (t.span.«end» + size) (if w then lexemes_in bs us else lexeme (length bs) u us ∷ lexemes_in (after u bs) us) (length source)) (sym is) here)
