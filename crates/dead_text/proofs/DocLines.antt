-- The lines of a document hold no line feed, and none of them is the line of a selector.
use Rattle.std.proofs.Common.{ℕ, zero, suc, ◌+◌, ◌/◌, ◌%◌, ◌≡◌, ◌≢◌, ◌<◌, ◌≤◌, Bool, true, false, cond, ◌==◌, ◌||◌, Option, Some, None, List, [], ◌∷◌, ◌++◌, map, refl, sym, ap, ◌∙◌, subst, append_assoc, arith}
use Rattle.std.specs.Prelude.{decimal, nat_lt}
use Rattle.std.specs.Fmt.{digit_glyph, digits, digits_onto}
use Rattle.std.specs.List.{AllByRecursion, filter, flat_map, onto_first}
use Rattle.std.specs.Str.{encode_utf8_all}
use Rattle.std.proofs.lemmas.Bool.{eqb-true, ne_eqb, or_parts, true≢false}
use Rattle.css_model.specs.declared.example.Example.{Example}
use Rattle.css_model.specs.declared.example.RunLine.{RunLine}
use Rattle.css_model.specs.declared.selector.Flag.{Flag}
use Rattle.css_model.specs.declared.selector.Flag.TheVariants.{Link, Visited, Hover, Active, Focus, Target, Enabled, Disabled, Checked}
use Rattle.css_model.specs.declared.selector.Pseudo.{Pseudo}
use Rattle.css_model.specs.declared.selector.Pseudo.TheVariants.{FirstLine, FirstLetter, Before, After}
use Rattle.css_model.specs.Documents.FeatureParts.{FeatureParts}
use Rattle.css_model.specs.Documents.Features.{flags_of}
use Rattle.css_model.specs.Text.Characters.{line_feed, percent, space}
use Rattle.doc_text.specs.DocText.{all_flags, attribute_field, child_name, doc_lines, ended, equals_sign, escaped, escaped_byte, flag_field, flag_fields, head_text, hex_digit, is_marked, is_plain, line_text, line_texts, mark_field, more_fields, pseudo_name, spaced, text_fields}
use Rattle.doc_text.specs.Lines.{holds, lines_of}

-- ---- Digits

abbrev pub IsDigit : ℕ → Type 0
IsDigit c = (48 ≤ c) × (c ≤ 57)

glyph : (n : ℕ) → IsDigit (digit_glyph false (n % 10))
glyph n = by (nat_lt (n % 10) 10) refl
  where
    by : (b : Bool) → nat_lt (n % 10) 10 ≡ b → IsDigit (cond b (48 + n % 10) (87 + n % 10))
    by true test = (omega arith, omega arith)
    by false test = absurd (let small : n % 10 < 10 = omega arith in let other : nat_lt (n % 10) 10 ≡ true = grind (arith, small) in true≢false (sym other ∙ test))

onto : (k n : ℕ) (acc : List ℕ) → AllByRecursion IsDigit acc → AllByRecursion IsDigit (digits_onto k 10 false n acc)
onto zero n acc h = h
onto (suc k) n acc h = by (n / 10 == 0) (onto k (n / 10) (digit_glyph false (n % 10) ∷ acc) (glyph n, h))
  where
    by : (b : Bool) → AllByRecursion IsDigit (digits_onto k 10 false (n / 10) (digit_glyph false (n % 10) ∷ acc)) →
        AllByRecursion IsDigit (cond b (digit_glyph false (n % 10) ∷ acc) (digits_onto k 10 false (n / 10) (digit_glyph false (n % 10) ∷ acc)))
    by true later = (glyph n, h)
    by false later = later

pub decimal_digits : (n : ℕ) → AllByRecursion IsDigit (decimal n)
unfolding digits
decimal_digits n = onto 64 n [] tt

-- ---- Line feeds

abbrev pub IsWhole : List ℕ → Type 0
IsWhole text = holds line_feed text ≡ false

pub whole_append : (xs ys : List ℕ) → IsWhole xs → IsWhole ys → IsWhole (xs ++ ys)
whole_append [] ys h g = g
whole_append (x ∷ xs) ys h g = let both = or_parts (x == line_feed) (holds line_feed xs) h in rw both.0 (whole_append xs ys both.1 g)

digits_whole : (ds : List ℕ) → AllByRecursion IsDigit ds → IsWhole ds
digits_whole [] h = refl
digits_whole (d ∷ ds) h = let low : 48 ≤ d = h.0.0 in rw (ne_eqb d line_feed (omega (arith, low))) (digits_whole ds h.1)

pub decimal_whole : (n : ℕ) → IsWhole (decimal n)
decimal_whole n = digits_whole (decimal n) (decimal_digits n)

flat_whole : {X : Type 0} (f : X → List ℕ) → ((x : X) → IsWhole (f x)) → (xs : List X) → IsWhole (flat_map f xs)
flat_whole f h [] = refl
flat_whole f h (x ∷ xs) = whole_append (f x) (flat_map f xs) (h x) (flat_whole f h xs)

hex_high : (d : ℕ) → 48 ≤ hex_digit d
hex_high d = by (nat_lt d 10)
  where
    by : (b : Bool) → 48 ≤ cond b (0x30 + d) (0x37 + d)
    by true = omega arith
    by false = omega arith

hex_whole : (c d : ℕ) → IsWhole (percent ∷ hex_digit c ∷ hex_digit d ∷ [])
hex_whole c d =
    let one : hex_digit c ≢ line_feed = let high : 48 ≤ hex_digit c = hex_high c in λ e. (let low : hex_digit c ≡ 10 = e in omega arith) in
    let two : hex_digit d ≢ line_feed = let high : 48 ≤ hex_digit d = hex_high d in λ e. (let low : hex_digit d ≡ 10 = e in omega arith) in
    rw (ne_eqb (hex_digit c) line_feed one, ne_eqb (hex_digit d) line_feed two) refl

byte_whole : (b : ℕ) → IsWhole (escaped_byte b)
byte_whole b = by (is_plain b) refl
  where
    plain_whole : (c : Bool) → (b == line_feed) ≡ c → is_plain b ≡ true → (c || false) ≡ false
    plain_whole true is plain = absurd (let bad : is_plain line_feed ≡ true = subst (λ (c : ℕ). is_plain c ≡ true) (eqb-true b line_feed is) plain in true≢false (sym bad))
    plain_whole false is plain = refl

    by : (c : Bool) → is_plain b ≡ c → IsWhole (cond c (b ∷ []) (percent ∷ hex_digit (b / 16) ∷ hex_digit (b % 16) ∷ []))
    by true plain = plain_whole (b == line_feed) refl plain
    by false other = hex_whole (b / 16) (b % 16)

escaped_whole : (text : List ℕ) → IsWhole (escaped text)
escaped_whole text = flat_whole escaped_byte byte_whole (encode_utf8_all text)

-- ---- Fields

spaced_whole : (fields : List (List ℕ)) → AllByRecursion IsWhole fields → IsWhole (spaced fields)
spaced_whole [] h = refl
spaced_whole (f ∷ fields) h = whole_append (space ∷ f) (spaced fields) h.0 (spaced_whole fields h.1)

all_append : (xs ys : List (List ℕ)) → AllByRecursion IsWhole xs → AllByRecursion IsWhole ys → AllByRecursion IsWhole (xs ++ ys)
all_append [] ys h g = g
all_append (x ∷ xs) ys h g = (h.0, all_append xs ys h.1 g)

flag_whole : (flag : Flag) → IsWhole (flag_field flag)
flag_whole Link = refl
flag_whole Visited = refl
flag_whole Hover = refl
flag_whole Active = refl
flag_whole Focus = refl
flag_whole Target = refl
flag_whole Enabled = refl
flag_whole Disabled = refl
flag_whole Checked = refl

flags_whole : (p : Flag → Bool) (flags : List Flag) → AllByRecursion IsWhole (map flag_field (filter p flags))
flags_whole p [] = tt
flags_whole p (flag ∷ flags) = by (p flag) (flags_whole p flags)
  where
    by : (b : Bool) → AllByRecursion IsWhole (map flag_field (filter p flags)) → AllByRecursion IsWhole (map flag_field (cond b (flag ∷ filter p flags) (filter p flags)))
    by true later = (flag_whole flag, later)
    by false later = later

attributes_whole : (attrs : List (List ℕ × List ℕ)) → AllByRecursion IsWhole (map attribute_field attrs)
attributes_whole [] = tt
attributes_whole (a ∷ attrs) = (whole_append (escaped a.0) (equals_sign ∷ escaped a.1) (escaped_whole a.0) (escaped_whole a.1), attributes_whole attrs)

text_whole : (b : Bool) → AllByRecursion IsWhole (text_fields b)
text_whole true = (refl, tt)
text_whole false = tt

mark_whole : (b : Bool) → IsWhole (mark_field b)
mark_whole true = refl
mark_whole false = refl

more_whole : (f : FeatureParts) → AllByRecursion IsWhole (more_fields f)
more_whole f = all_append (text_fields f.text) (flag_fields f.flags ++ map attribute_field f.attrs) (text_whole f.text)
    (all_append (flag_fields f.flags) (map attribute_field f.attrs) (flags_whole (flags_of f.flags) all_flags) (attributes_whole f.attrs))

-- ---- Lines

line_whole : (m : Bool) (l : RunLine) → IsWhole (line_text m l)
line_whole m l =
    whole_append (decimal l.depth) (spaced (decimal l.count ∷ mark_field m ∷ escaped l.element.kind ∷ more_fields l.element)) (decimal_whole l.depth)
    (spaced_whole (decimal l.count ∷ mark_field m ∷ escaped l.element.kind ∷ more_fields l.element) (decimal_whole l.count, (mark_whole m, (escaped_whole l.element.kind, more_whole l.element))))

pseudo_whole : (p : Option Pseudo) → IsWhole (pseudo_name p)
pseudo_whole None = refl
pseudo_whole (Some FirstLine) = refl
pseudo_whole (Some FirstLetter) = refl
pseudo_whole (Some Before) = refl
pseudo_whole (Some After) = refl

child_whole : (c : Bool) → IsWhole (child_name c)
child_whole true = refl
child_whole false = refl

lines_whole : (marked : Option ℕ) (k : ℕ) (lines : List RunLine) → AllByRecursion IsWhole (line_texts marked k lines)
lines_whole marked k [] = tt
lines_whole marked k (l ∷ lines) = (line_whole (is_marked marked k) l, lines_whole marked (suc k) lines)

pub doc_whole : (e : Example) → AllByRecursion IsWhole (doc_lines e)
doc_whole e = (whole_append (child_name e.doc.root_is_child) (pseudo_name e.pseudo) (child_whole e.doc.root_is_child) (pseudo_whole e.pseudo), lines_whole (Some e.marked) 0 e.doc.lines)

-- ---- A text is cut into its lines

cut_first : (front rest : List ℕ) → IsWhole front → lines_of (front ++ line_feed ∷ rest) ≡ front ∷ lines_of rest
cut_first [] rest none = refl
cut_first (c ∷ front) rest none =
    let both = or_parts (c == line_feed) (holds line_feed front) none in
    rw both.0 (ap (onto_first c) (cut_first front rest both.1))

pub lines_back : (lines : List (List ℕ)) → AllByRecursion IsWhole lines → lines_of (ended lines) ≡ lines
lines_back [] h = refl
lines_back (l ∷ lines) h = ap lines_of (append_assoc l (line_feed ∷ []) (ended lines)) ∙ cut_first l (ended lines) h.0 ∙ ap (λ (ls : List (List ℕ)). l ∷ ls) (lines_back lines h.1)

-- ---- Numbers before a sign

pub heads_same : {A : Type 0} (x y : A) (xs ys : List A) → x ∷ xs ≡ y ∷ ys → (x ≡ y) × (xs ≡ ys)
heads_same x y xs ys e = (cc, cc)

-- digits up to another sign
pub record AreCut (ds es : List ℕ) (a b : ℕ) (r s : List ℕ) : Type 0 where
  pub digits : ds ≡ es
  pub sign : a ≡ b
  pub rest : r ≡ s

pub cut_digits : (ds es : List ℕ) (a b : ℕ) (r s : List ℕ) → AllByRecursion IsDigit ds → AllByRecursion IsDigit es → a < 48 → b < 48 → ds ++ a ∷ r ≡ es ++ b ∷ s → AreCut ds es a b r s
cut_digits [] [] a b r s h g low low' e = let both = heads_same a b r s e in record { digits = refl; sign = both.0; rest = both.1 }
cut_digits [] (x ∷ es) a b r s h g low low' e = absurd (let same : a ≡ x = (heads_same a x r (es ++ b ∷ s) e).0 in let high : 48 ≤ x = g.0.0 in omega arith)
cut_digits (x ∷ ds) [] a b r s h g low low' e = absurd (let same : x ≡ b = (heads_same x b (ds ++ a ∷ r) s e).0 in let high : 48 ≤ x = h.0.0 in omega arith)
cut_digits (x ∷ ds) (y ∷ es) a b r s h g low low' e =
    let both = heads_same x y (ds ++ a ∷ r) (es ++ b ∷ s) e in
    let later = cut_digits ds es a b r s h.1 g.1 low low' both.1 in
    record { digits = cc; sign = later.sign; rest = later.rest }

first_low : (ds : List ℕ) (a c : ℕ) (r s : List ℕ) → AllByRecursion IsDigit ds → a < 48 → ds ++ a ∷ r ≡ c ∷ s → c ≤ 57
first_low [] a c r s h low e = let same : a ≡ c = (heads_same a c r s e).0 in omega arith
first_low (d ∷ ds) a c r s h low e = let same : d ≡ c = (heads_same d c (ds ++ a ∷ r) s e).0 in let high : d ≤ 57 = h.0.1 in omega arith

-- a text that begins with a number and a dot is no line of a document
pub doc_differs : (e : Example) (n : ℕ) (rest : List ℕ) → AllByRecursion (λ line. line ≢ decimal n ++ 46 ∷ rest) (doc_lines e)
doc_differs e n rest = (head (e.doc.root_is_child), others (Some e.marked) 0 e.doc.lines)
  where
    head : (c : Bool) → head_text c e.pseudo ≢ decimal n ++ 46 ∷ rest
    head true is = let low = first_low (decimal n) 46 99 rest _ (decimal_digits n) (omega arith) (sym is) in omega (arith, low)
    head false is = let low = first_low (decimal n) 46 99 rest _ (decimal_digits n) (omega arith) (sym is) in omega (arith, low)

    others : (marked : Option ℕ) (k : ℕ) (lines : List RunLine) → AllByRecursion (λ line. line ≢ decimal n ++ 46 ∷ rest) (line_texts marked k lines)
    others marked k [] = tt
    others marked k (l ∷ lines) = (
      (λ is. let cut = cut_digits (decimal l.depth) (decimal n) space 46 _ rest (decimal_digits l.depth) (decimal_digits n) (omega arith) (omega arith) is in
          let same : 32 ≡ 46 = cut.sign in omega (arith, same)),
      others marked (suc k) lines,
    )
