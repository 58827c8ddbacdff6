use Rattle.std.proofs.Common.{◌∙◌, ◌-◌, ◌≡◌, List, ℕ, Option, Some, sym, ap, length, map, take, drop, string_bytes, Global}
use Rattle.command_words.specs.Forms.{Arguments, takes_number, with_number, with_word, with_words}
use Rattle.command_words.specs.Views.{arguments_if_some}
use Rattle.command_words.proofs.Words.{number_first, other_first, none_left}
use Rattle.command_words.proofs.arguments.+with_words.Goals as goal

-- an option and its number, as the texts of two words
same_numbers : (option number first second : List ℕ) (before : Option Arguments) → first ≡ option → second ≡ number → with_number option number before ≡ with_number first second before
same_numbers option number first second before p q = ap (λ (w : List ℕ). with_number w number before) (sym p) ∙ ap (λ (w : List ℕ). with_number first w before) (sym q)

pub returns-in-Some : goal.returns-in-Some
returns-in-Some t c =
    let words = c.args.words.now in
    let before = arguments_if_some (Some c.args.before) in
    let flag = ap takes_number (sym c.as_str-in-len2-up.ensures.value) ∙ sym c.takes_number.ensures ∙ c.if-takes_number.true in
    let first = number_first (string_bytes {Z = Global}) before words c.word-item-2.result c.next-item.result c.in-len2-up.len_at_least c.word-item-2.is c.next-item.is flag in
    let read = same_numbers _ _ _ _ before c.as_str-then-takes_number.ensures.value c.as_str-then-takes_number-2.ensures.value ∙ sym c.with_number.ensures ∙ ap arguments_if_some c.in-Some.is in
    c.with_words.ensures ∙ ap (λ (b : Option Arguments). with_words b (map string_bytes (take (length words - 2) (drop 2 words)))) (sym read) ∙ sym first

pub returns-in-None : goal.returns-in-None
returns-in-None t c =
    let words = c.args.words.now in
    let before = arguments_if_some (Some c.args.before) in
    let flag = ap takes_number (sym c.as_str-in-len2-up.ensures.value) ∙ sym c.takes_number.ensures ∙ c.if-takes_number.true in
    let first = number_first (string_bytes {Z = Global}) before words c.word-item-2.result c.next-item.result c.in-len2-up.len_at_least c.word-item-2.is c.next-item.is flag in
    let read = same_numbers _ _ _ _ before c.as_str-then-takes_number.ensures.value c.as_str-then-takes_number-2.ensures.value ∙ sym c.with_number.ensures ∙ ap arguments_if_some c.in-None.is in
    sym (first ∙ ap (λ (b : Option Arguments). with_words b (map string_bytes (take (length words - 2) (drop 2 words)))) read ∙ none_left (map string_bytes (take (length words - 2) (drop 2 words))))

pub returns-in-Some-with_word : goal.returns-in-Some-with_word
returns-in-Some-with_word t c =
    let words = c.args.words.now in
    let before = arguments_if_some (Some c.args.before) in
    let flag = ap takes_number (sym c.as_str-in-len2-up.ensures.value) ∙ sym c.takes_number.ensures ∙ c.if-takes_number.false in
    let first = other_first (string_bytes {Z = Global}) before words c.word-item-2.result c.in-len2-up.len_at_least c.word-item-2.is flag in
    let read = ap (λ (w : List ℕ). with_word w before) (sym c.as_str-else-takes_number.ensures.value) ∙ sym c.with_word-else-takes_number.ensures ∙ ap arguments_if_some c.in-Some-with_word.is in
    c.with_words-in-Some-with_word.ensures ∙ ap (λ (b : Option Arguments). with_words b (map string_bytes (take (length words - 1) (drop 1 words)))) (sym read) ∙ sym first

pub returns-in-None-with_word : goal.returns-in-None-with_word
returns-in-None-with_word t c =
    let words = c.args.words.now in
    let before = arguments_if_some (Some c.args.before) in
    let flag = ap takes_number (sym c.as_str-in-len2-up.ensures.value) ∙ sym c.takes_number.ensures ∙ c.if-takes_number.false in
    let first = other_first (string_bytes {Z = Global}) before words c.word-item-2.result c.in-len2-up.len_at_least c.word-item-2.is flag in
    let read = ap (λ (w : List ℕ). with_word w before) (sym c.as_str-else-takes_number.ensures.value) ∙ sym c.with_word-else-takes_number.ensures ∙ ap arguments_if_some c.in-None-with_word.is in
    sym (first ∙ ap (λ (b : Option Arguments). with_words b (map string_bytes (take (length words - 1) (drop 1 words)))) read ∙ none_left (map string_bytes (take (length words - 1) (drop 1 words))))
