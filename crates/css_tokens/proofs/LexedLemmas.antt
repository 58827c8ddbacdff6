-- A text and its parts, each read from the other.
use Rattle.std.proofs.Common.{ℕ, zero, suc, ◌≤◌, ◌≡◌, List, [], ◌∷◌, ◌++◌, Result, Option, Ok, Err, Some, None, length, drop, take, refl, sym, ap, ◌∙◌, subst, arith}
use Rattle.std.proofs.lemmas.List.{length-drop, length-take-le, take-append-drop, drop_at, take_at}
use Rattle.css_model.specs.declared.token.TokenKind.{TokenKind}
use Rattle.css_model.specs.declared.token.TokenFlaw.{TokenFlaw}
use Rattle.css_model.specs.Text.TokenAt.{Shape, part_at}
use Rattle.css_model.specs.Text.Tokens.{Part, Parts, parts, text_of, part_then}
use Rattle.css_tokens.specs.Lexed.{IsLexed, PartsAreLexed, LexedAreParts}
use Rattle.css_tokens.proofs.PartLemmas.{part_len}
use Rattle.css_tokens.proofs.StreamLemmas.{parts_part, parts_flaw}

pub lexed_are_parts : LexedAreParts
lexed_are_parts [] lexed = refl
lexed_are_parts (p ∷ ps) (first, lexed) =
    let text = p.bytes ++ text_of ps in
    let n = length p.bytes in
    let len = part_len text (p.kind, n) first in
    let behind : drop n text ≡ text_of ps = drop_at p.bytes (text_of ps) n refl in
    let front : take n text ≡ p.bytes = take_at p.bytes (text_of ps) n refl in
    let later : parts (drop n text) ≡ record { parts = ps; flaw = None } = ap (λ (cs : List ℕ). parts cs) behind ∙ lexed_are_parts ps lexed in
    parts_part text p.kind n first len.0 len.1
    ∙ ap (λ (more : Parts). part_then (Ok (p.kind, n)) text more) later
    ∙ ap (λ (bytes : List ℕ). record { parts = record { kind = p.kind; bytes = bytes } ∷ ps; flaw = None }) front

-- parts that are read where they stand, and spell the text, where nothing is wrong
record Lexed (text : List ℕ) (p : Parts) : Type 0 where
  lexed : p.flaw ≡ None → IsLexed p.parts × (text_of p.parts ≡ text)

part_again : (text : List ℕ) (k : Option TokenKind) (m : ℕ) (ps : List Part) → part_at text ≡ Ok (k, m) → m ≤ length text → text_of ps ≡ drop m text
    → part_at (take m text ++ text_of ps) ≡ Ok (k, length (take m text))
part_again text k m ps is short rest =
    let whole : take m text ++ text_of ps ≡ text = ap (λ (cs : List ℕ). take m text ++ cs) rest ∙ take-append-drop m text in
    let sized : Ok (k, m) ≡ Ok (k, length (take m text)) = ap (λ (n : ℕ). Ok (k, n)) (sym (length-take-le m text short)) in
    ap part_at whole ∙ is ∙ sized

lexed_of : (n : ℕ) (text : List ℕ) → length text ≤ n → Lexed text (parts text)
lexed_of n [] short = record { lexed = λ _. (tt, refl) }
lexed_of zero (c ∷ cs) short = absurd (omega arith)
lexed_of (suc n) (c ∷ cs) short = which (part_at (c ∷ cs)) refl (λ (text : List ℕ) (short : length text ≤ n). lexed_of n text short)
  where
    which : (r : Result Shape TokenFlaw) → part_at (c ∷ cs) ≡ r → ((text : List ℕ) → length text ≤ n → Lexed text (parts text)) → Lexed (c ∷ cs) (parts (c ∷ cs))
    which (Err f) is later =
        let L : Parts → Type 0 = Lexed (c ∷ cs) in
        let here : L (record { parts = []; flaw = Some f }) = record { lexed = λ (none : ◌≡◌ {A = Option TokenFlaw} (Some f) None). absurd (cc) } in
        subst L (sym (parts_flaw (c ∷ cs) f (omega arith) is)) here
    which (Ok (k, m)) is later =
        let text = c ∷ cs in
        let L : Parts → Type 0 = Lexed text in
        let len = part_len text (k, m) is in
        let rest = later (drop m text) (omega (arith, len.0, length-drop m text)) in
        let more = parts (drop m text) in
        let here : L (part_then (Ok (k, m)) text more) = record {
          lexed = λ (clean : more.flaw ≡ None). (
            (part_again text k m more.parts is len.1 (rest.lexed clean).1, (rest.lexed clean).0),
            ap (λ (cs : List ℕ). take m text ++ cs) (rest.lexed clean).1 ∙ take-append-drop m text,
          );
        } in
        subst L (sym (parts_part text k m is len.0 len.1)) here

pub parts_are_lexed : PartsAreLexed
parts_are_lexed text clean = ((lexed_of (length text) text (omega arith)).lexed clean).0
