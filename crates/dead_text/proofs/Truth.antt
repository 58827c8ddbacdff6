-- What the lines say of selectors is true.
use Rattle.std.proofs.Common.{append_assoc, ◌≡◌, ◌≢◌, ℕ, false, List, [], ◌∷◌, ◌++◌, length, map, nat_eq, eq-eqb, refl, sym, ◌∙◌, ap, subst, arith}
use Rattle.std.specs.List.{AllByRecursion, Contains, flat_map}
use Rattle.std.specs.Prelude.{codes, decimal}
use Rattle.std.proofs.Math.Logic.{∥∥₁_elim}
use Rattle.std.proofs.lemmas.Bool.{false≢true}
use Rattle.std.proofs.lemmas.List.{length-append}
use Rattle.std.proofs.lemmas.List.Elements.{All-contains}
use Rattle.css_model.specs.declared.example.Example.{Example}
use Rattle.dead_sel.specs.declared.living.Life.{Life}
use Rattle.dead_sel.specs.declared.living.Life.TheVariants.{Dead, Alive, SpacesTaken, Spent}
use Rattle.dead_sel.specs.Living.{IsTrueLife}
use Rattle.doc_text.specs.Lines.{lines_of}
use Rattle.list_facts.proofs.Members.{Contains-here, Contains-there}
use Rattle.overlap.specs.PairsParts.{PairsParts}
use Rattle.dead_text.specs.DeadTexts.{IsTold, TellsOf, Told, evidence_lines, life_word, numbered_line, told_lines}
use Rattle.dead_text.specs.Laws.{AliveSelectorsMatch, DeadSelectorsMatchNothing, IsLineOf}
use Rattle.dead_text.specs.Listing.{NumberedSelector}
use Rattle.dead_text.proofs.DocLines.{IsWhole, cut_digits, decimal_digits, decimal_whole, doc_differs, doc_whole, heads_same, lines_back, whole_append}

-- ---- The words

-- texts with other first letters differ
other_first : (a b : List ℕ) (c d : ℕ) (cs ds : List ℕ) → a ≡ c ∷ cs → b ≡ d ∷ ds → nat_eq c d ≡ false → a ≡ b → ⊥
other_first a b c d cs ds p q differ same = let heads : c ≡ d = let whole : c ∷ cs ≡ d ∷ ds = sym p ∙ same ∙ q in cc in false≢true (sym differ ∙ eq-eqb c d heads)

dead_of : (life : Life) → codes "dead" ≡ life_word life → life ≡ Dead
dead_of Dead is = refl
dead_of (Alive e) is = absurd (other_first (codes "dead") (codes "alive") 100 97 _ _ refl refl refl is)
dead_of SpacesTaken is = absurd (other_first (codes "dead") (codes "outside 12") 100 111 _ _ refl refl refl is)
dead_of (Spent ledger) is = absurd (other_first (codes "dead") (codes "spent") 100 115 _ _ refl refl refl is)

alive_of : (life : Life) → codes "alive" ≡ life_word life → (e : Example) × (life ≡ Alive e)
alive_of Dead is = absurd (other_first (codes "alive") (codes "dead") 97 100 _ _ refl refl refl is)
alive_of (Alive e) is = (e, refl)
alive_of SpacesTaken is = absurd (other_first (codes "alive") (codes "outside 12") 97 111 _ _ refl refl refl is)
alive_of (Spent ledger) is = absurd (other_first (codes "alive") (codes "spent") 97 115 _ _ refl refl refl is)

-- a line with its signs in place
one_sign : (c : ℕ) (text : List ℕ) → (c ∷ []) ++ text ≡ c ∷ text
one_sign c text = refl

signs_shape : (a b w : List ℕ) → a ++ (codes "." ++ (b ++ (codes " " ++ w))) ≡ a ++ 46 ∷ (b ++ 32 ∷ w)
signs_shape a b w =
    let second : codes " " ++ w ≡ 32 ∷ w = one_sign 32 w in
    let first : codes "." ++ (b ++ (codes " " ++ w)) ≡ 46 ∷ (b ++ (codes " " ++ w)) = one_sign 46 (b ++ (codes " " ++ w)) in
    let both : codes "." ++ (b ++ (codes " " ++ w)) ≡ 46 ∷ (b ++ 32 ∷ w) = first ∙ ap (λ (text : List ℕ). 46 ∷ (b ++ text)) second in
    ap (λ (text : List ℕ). a ++ text) both

regrouped : (a b c d e : List ℕ) → (((a ++ b) ++ c) ++ d) ++ e ≡ a ++ (b ++ (c ++ (d ++ e)))
regrouped a b c d e = simp append_assoc

line_shape : (item number : ℕ) (word : List ℕ) → numbered_line item number word ≡ decimal item ++ 46 ∷ (decimal number ++ 32 ∷ word)
line_shape item number word = regrouped (decimal item) (codes ".") (decimal number) (codes " ") word ∙ signs_shape (decimal item) (decimal number) word

-- the word behind the numbers
word_same : (i k j l : ℕ) (v w : List ℕ) → numbered_line i k v ≡ numbered_line j l w → v ≡ w
word_same i k j l v w e =
    let shaped : decimal i ++ 46 ∷ (decimal k ++ 32 ∷ v) ≡ decimal j ++ 46 ∷ (decimal l ++ 32 ∷ w) = sym (line_shape i k v) ∙ e ∙ line_shape j l w in
    let one = cut_digits (decimal i) (decimal j) 46 46 (decimal k ++ 32 ∷ v) (decimal l ++ 32 ∷ w) (decimal_digits i) (decimal_digits j) (omega arith) (omega arith) shaped in
    (cut_digits (decimal k) (decimal l) 32 32 v w (decimal_digits k) (decimal_digits l) (omega arith) (omega arith) one.rest).rest

-- ---- The lines of the text

word_whole : (life : Life) → IsWhole (life_word life)
word_whole Dead = refl
word_whole (Alive e) = refl
word_whole SpacesTaken = refl
word_whole (Spent ledger) = refl

line_whole : (item number : ℕ) (word : List ℕ) → IsWhole word → IsWhole (numbered_line item number word)
line_whole item number word h =
    subst (λ (line : List ℕ). IsWhole line) (sym (line_shape item number word))
    (whole_append (decimal item) (46 ∷ (decimal number ++ 32 ∷ word)) (decimal_whole item) (whole_append (decimal number) (32 ∷ word) (decimal_whole number) h))

evidence_whole : (life : Life) → AllByRecursion IsWhole (evidence_lines life)
evidence_whole Dead = tt
evidence_whole (Alive e) = doc_whole e
evidence_whole SpacesTaken = tt
evidence_whole (Spent ledger) = tt

all_append : (xs ys : List (List ℕ)) → AllByRecursion IsWhole xs → AllByRecursion IsWhole ys → AllByRecursion IsWhole (xs ++ ys)
all_append [] ys h g = g
all_append (x ∷ xs) ys h g = (h.0, all_append xs ys h.1 g)

all_whole : (told : List Told) → AllByRecursion IsWhole (flat_map told_lines told)
all_whole [] = tt
all_whole (t ∷ told) =
    (line_whole t.of.item t.of.number (life_word t.life) (word_whole t.life), all_append (evidence_lines t.life) (flat_map told_lines told) (evidence_whole t.life) (all_whole told))

-- ---- Where a line stands

-- the line of a selector among what is told, and what stands behind it
record Found (told : List Told) (line : List ℕ) (behind : List (List ℕ)) : Type 0 where
  t : Told
  among : Contains told t
  listed : Contains (map (λ t. t.of) told) t.of
  line_is : line ≡ numbered_line t.of.item t.of.number (life_word t.life)
  more : List (List ℕ)
  behind_is : behind ≡ evidence_lines t.life ++ more

-- it is none of these
skip : (line : List ℕ) (behind lines rest before : List (List ℕ)) → AllByRecursion (λ l. l ≢ line) lines → lines ++ rest ≡ before ++ line ∷ behind → (front : List (List ℕ)) × (rest ≡ front ++ line ∷ behind)
skip line behind [] rest before h e = (before, e)
skip line behind (l ∷ lines) rest [] h e = absurd (h.0 (heads_same l line (lines ++ rest) behind e).0)
skip line behind (l ∷ lines) rest (b ∷ before) h e = skip line behind lines rest before h.1 (heads_same l b (lines ++ rest) (before ++ line ∷ behind) e).1

evidence_differs : (life : Life) (n : ℕ) (rest : List ℕ) → AllByRecursion (λ line. line ≢ decimal n ++ 46 ∷ rest) (evidence_lines life)
evidence_differs Dead n rest = tt
evidence_differs (Alive e) n rest = doc_differs e n rest
evidence_differs SpacesTaken n rest = tt
evidence_differs (Spent ledger) n rest = tt

found : (item number : ℕ) (word : List ℕ) (behind : List (List ℕ)) (told : List Told) (before : List (List ℕ)) → flat_map told_lines told ≡ before ++ numbered_line item number word ∷ behind →
    Found told (numbered_line item number word) behind
found item number word behind [] before e =
    absurd (let size : 0 ≡ length (before ++ numbered_line item number word ∷ behind) = ap length e in omega (arith, size, length-append before (numbered_line item number word ∷ behind)))
found item number word behind (t ∷ told) [] e =
    let both = heads_same (numbered_line t.of.item t.of.number (life_word t.life)) (numbered_line item number word) (evidence_lines t.life ++ flat_map told_lines told) behind e in
    record {
      t = t;
      among = Contains-here t told;
      listed = Contains-here t.of (map (λ (t : Told). t.of) told);
      line_is = sym both.0;
      more = flat_map told_lines told;
      behind_is = sym both.1;
    }
found item number word behind (t ∷ told) (b ∷ before) e =
    let line : List ℕ = numbered_line item number word in
    let both = heads_same (numbered_line t.of.item t.of.number (life_word t.life)) b (evidence_lines t.life ++ flat_map told_lines told) (before ++ line ∷ behind) e in
    let other : AllByRecursion (λ l. l ≢ line) (evidence_lines t.life) =
    subst (λ (line : List ℕ). AllByRecursion (λ l. l ≢ line) (evidence_lines t.life)) (sym (line_shape item number word)) (evidence_differs t.life item (decimal number ++ 32 ∷ word)) in
    let left = skip line behind (evidence_lines t.life) (flat_map told_lines told) before other both.1 in
    let later = found item number word behind told left.0 left.1 in
    record {
      t = later.t;
      among = Contains-there t told later.t later.among;
      listed = Contains-there t.of (map (λ (t : Told). t.of) told) later.t.of later.listed;
      line_is = later.line_is;
      more = later.more;
      behind_is = later.behind_is;
    }

-- what is told by a line with a word
record IsSaid (pairs : PairsParts) (source text : List ℕ) (tells : TellsOf pairs source text) (line word : List ℕ) (behind : List (List ℕ)) : Type 0 where
  s : NumberedSelector
  life : Life
  is : IsLineOf tells.items line word s
  word_is : word ≡ life_word life
  is_true : ∥ IsTrueLife s.selector pairs.budget life ∥₁
  more : List (List ℕ)
  behind_is : behind ≡ evidence_lines life ++ more

said : (pairs : PairsParts) (source text : List ℕ) (tells : TellsOf pairs source text) (item number : ℕ) (word : List ℕ) (before behind : List (List ℕ)) →
    lines_of text ≡ before ++ numbered_line item number word ∷ behind → IsSaid pairs source text tells (numbered_line item number word) word behind
said pairs source text tells item number word before behind e =
    let lives = tells.lives in
    let lines : lines_of text ≡ flat_map told_lines lives.told = ap lines_of lives.text_is ∙ lines_back (flat_map told_lines lives.told) (all_whole lives.told) in
    let at = found item number word behind lives.told before (sym lines ∙ e) in
    let same : word ≡ life_word at.t.life = word_same item number at.t.of.item at.t.of.number word (life_word at.t.life) at.line_is in
    record {
      s = at.t.of;
      life = at.t.life;
      is = record {
        listed = subst (λ (ss : List NumberedSelector). Contains ss at.t.of) lives.of_each at.listed;
        line_is = at.line_is ∙ ap (λ (w : List ℕ). numbered_line at.t.of.item at.t.of.number w) (sym same);
      };
      word_is = same;
      is_true = (All-contains (IsTold pairs) lives.told at.t lives.by_answers at.among).is_true;
      more = at.more;
      behind_is = at.behind_is;
    }

pub dead_match_nothing : DeadSelectorsMatchNothing
dead_match_nothing pairs source text tells item number before behind e =
    let is = said pairs source text tells item number (codes "dead") before behind e in
    let dead : ∥ IsTrueLife is.s.selector pairs.budget Dead ∥₁ = subst (λ (life : Life). ∥ IsTrueLife is.s.selector pairs.budget life ∥₁) (dead_of is.life is.word_is) is.is_true in
    (is.s, is.is, λ doc target legal m. ∥∥₁_elim dead (λ a b. absurd a) (λ none. none doc target legal m))

pub alive_match : AliveSelectorsMatch
alive_match pairs source text tells item number before behind e =
    let is = said pairs source text tells item number (codes "alive") before behind e in
    let alive = alive_of is.life is.word_is in (
      is.s,
      is.is,
      alive.0,
      is.more,
      is.behind_is ∙ ap (λ (life : Life). evidence_lines life ++ is.more) alive.1,
      subst (λ (life : Life). ∥ IsTrueLife is.s.selector pairs.budget life ∥₁) alive.1 is.is_true,
    )
