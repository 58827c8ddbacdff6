-- From a text that can be taken at the front, and is better than any other, to what is next.
use Rattle.std.proofs.Common.{ℕ, ◌<◌, ◌≤◌, ◌≡◌, ◌⊎◌, inl, inr, false, ltb, List, [], ◌∷◌, ◌++◌, Result, Ok, Err, Some, length, take, refl, sym, ap, ◌∙◌, subst, arith}
use Rattle.std.proofs.lemmas.Bool.{cases_lt, le-ltb}
use Rattle.std.proofs.lemmas.List.{take_at}
use Rattle.css_model.specs.declared.token.TokenFlaw.{TokenFlaw}
use Rattle.css_model.specs.declared.token.TokenKind.{TokenKind}
use Rattle.css_model.specs.Text.TokenAt.{Shape, done, part_at, rule_at, within}
use Rattle.token_grammar.proofs.ReadRight.{IsReadRight, answer_of}
use Rattle.token_grammar.specs.Longest.{Answer, IsNext, IsTaken}

-- another text is shorter, or is as long and taken for the same
abbrev pub IsWorse : List ℕ → Answer → List ℕ → Answer → Type 0
IsWorse other another front answer = (length other < length front) ⊎ ((length other ≡ length front) × (another ≡ answer))

-- a text at the front, of this size
pub record Decides (text : List ℕ) (answer : Answer) (size : ℕ) : Type 0 where
  pub front : List ℕ
  pub rest : List ℕ
  pub joined : text ≡ front ++ rest
  pub len : length front ≡ size
  pub taken : IsTaken front rest answer
  pub best : (other more : List ℕ) (another : Answer) → text ≡ other ++ more → IsTaken other more another → IsWorse other another front answer

pub same_front : (front rest other more : List ℕ) → front ++ rest ≡ other ++ more → length other ≡ length front → other ≡ front
same_front front rest other more joined sizes =
    sym (take_at other more (length other) refl) ∙ ap (λ (t : List ℕ). take (length other) t) (sym joined) ∙ take_at front rest (length other) (sym sizes)

pub read_right : (text : List ℕ) (r : Result Shape TokenFlaw) (size : ℕ) → part_at text ≡ r → Decides text (answer_of r) size → ((s : Shape) → r ≡ Ok s → s.1 ≡ size) → IsReadRight text
read_right text r size is d sizes = record {
  front = d.front;
  rest = d.rest;
  joined = d.joined;
  next = subst (λ (r : Result Shape TokenFlaw). IsNext d.front d.rest (answer_of r)) (sym is)
      (record { taken = d.taken; longest = λ other more another e taken. short other another (d.best other more another (d.joined ∙ e) taken) });
  len = λ s e. sizes s (sym is ∙ e) ∙ sym d.len;
  alone = λ other more another e next. only other more another e next (d.best other more another e next.taken);
}
  where
    short : (other : List ℕ) (another : Answer) → IsWorse other another d.front (answer_of r) → length other ≤ length d.front
    short other another (inl less) = omega (arith, less)
    short other another (inr (same, e)) = omega (arith, same)

    only : (other more : List ℕ) (another : Answer) → text ≡ other ++ more → IsNext other more another → IsWorse other another d.front (answer_of r)
        → (other ≡ d.front) × (another ≡ answer_of (part_at text))
    only other more another e next (inl less) =
        let most = next.longest d.front d.rest (answer_of r) (sym e ∙ d.joined) d.taken in
        absurd (omega (arith, less, most))
    only other more another e next (inr (same, answers)) =
        (same_front d.front d.rest other more (sym d.joined ∙ e) same, answers ∙ ap answer_of (sym is))

-- a reading that is no longer than its text
pub within_fits : (text : List ℕ) (r : Result Shape TokenFlaw) → ((s : Shape) → r ≡ Ok s → s.1 ≤ length text) → within text r ≡ r
within_fits text (Err f) fits = refl
within_fits text (Ok s) fits = let short : ltb (length text) s.1 ≡ false = le-ltb (length text) s.1 (fits s refl) in rw short refl

pub worse_or_same : (m n : ℕ) → m ≤ n → (m < n) ⊎ (m ≡ n)
worse_or_same m n le = by (cases_lt m n)
  where
    by : (m < n) ⊎ (n ≤ m) → (m < n) ⊎ (m ≡ n)
    by (inl less) = inl less
    by (inr least) = inr (omega (arith, le, least))

-- a reading of a kind and a size
pub done_size : (k : TokenKind) (n : ℕ) (s : Shape) → done k n ≡ Ok s → s.1 ≡ n
done_size k n s e = let shapes : ◌≡◌ {A = Shape} (Some k, n) s = cc (e) in sym (ap (λ (s : Shape). s.1) shapes)

pub done_reads : (text : List ℕ) (k : TokenKind) (n : ℕ) → rule_at text ≡ done k n → n ≤ length text → part_at text ≡ done k n
done_reads text k n rule le = ap (within text) rule ∙ within_fits text (done k n) (λ s e. omega (arith, done_size k n s e, le))

-- texts that are as long before the same
pub same_parts : (a b c d : List ℕ) → a ++ b ≡ c ++ d → length a ≡ length c → (a ≡ c) × (b ≡ d)
same_parts [] b [] d e size = (refl, e)
same_parts [] b (y ∷ ys) d e size = absurd (omega (arith, size))
same_parts (x ∷ xs) b [] d e size = absurd (omega (arith, size))
same_parts (x ∷ xs) b (y ∷ ys) d e size =
    let same : x ≡ y = cc (e) in
    let rest : xs ++ b ≡ ys ++ d = cc (e) in
    let later = same_parts xs b ys d rest (omega (arith, size)) in
    (ap (λ (x : ℕ). x ∷ xs) same ∙ ap (λ (t : List ℕ). y ∷ t) later.0, later.1)

-- of two fronts of a text the longer begins with the other
pub front_of : (a b c d : List ℕ) → a ++ b ≡ c ++ d → length a ≤ length c → (x : List ℕ) × (c ≡ a ++ x)
front_of [] b c d e le = (c, refl)
front_of (x ∷ xs) b [] d e le = absurd (omega (arith, le))
front_of (x ∷ xs) b (y ∷ ys) d e le =
    let same : x ≡ y = cc (e) in
    let rest : xs ++ b ≡ ys ++ d = cc (e) in
    let later = front_of xs b ys d rest (omega (arith, le)) in
    (later.0, ap (λ (y : ℕ). y ∷ ys) (sym same) ∙ ap (λ (t : List ℕ). x ∷ t) later.1)
