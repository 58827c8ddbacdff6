-- What holds of a text that is put together from the pieces of another one, with separators between
-- them, and what then held of that other text.
use Rattle.std.proofs.Common.{◌≡◌, ◌≢◌, ◌⊎◌, ℕ, Bool, true, false, List, [], ◌∷◌, ◌++◌, refl, sym, ap, subst, inl, inr, ◌∙◌, append_assoc, slice_index_or}
use Rattle.std.specs.List.{All}
use Rattle.std.proofs.lemmas.List.Elements.{All-head, All-tail, All-nil, All-cons, All-weaker}
use Rattle.std.proofs.lemmas.List.{append-nil}
use Rattle.css_model.specs.Text.Characters.{is_white}
use Rattle.css_model.specs.Documents.Attribute.{BeginsWith, EndsWith, HasPart, StandsAlone}
use Rattle.attr_values.specs.Value.{followed, words_then}
use Rattle.attr_values.proofs.Pieces.{begins_before, lies}
use Rattle.attr_values.proofs.WordPieces.{Alone, ends_white, ends-append, alone-stands, stands-alone, alone_splits, alone_nil, alone_whole, alone_anywhere, alone_first, alone_last}

-- the parts of a part
pub part_inside : (text piece v : List ℕ) → HasPart text piece → HasPart piece v → HasPart text v
part_inside text piece v h k = (h.0 ++ k.0, k.1 ++ h.1, h.2 ∙ ap (λ (t : List ℕ). h.0 ++ t ++ h.1) k.2 ∙ simp append_assoc)

pub begins-part : (text v : List ℕ) → BeginsWith text v → HasPart text v
begins-part text v h = ([], h.0, h.1)

pub ends-part : (text v : List ℕ) → EndsWith text v → HasPart text v
ends-part text v h = (h.0, [], h.1 ∙ sym (append-nil (h.0 ++ v)))

pub alone-part : (text v : List ℕ) → StandsAlone text v → HasPart text v
alone-part text v h = (h.0, h.1, h.2)

-- a part without the separator lies before it or behind it
pub part_splits : (c : ℕ) (xs ys v : List ℕ) → All (λ d. d ≢ c) v → HasPart (xs ++ c ∷ ys) v → HasPart xs v ⊎ HasPart ys v
part_splits c xs ys v free h = cases (lies c xs ys h.0 v h.1 free h.2)
  where
    cases : ((more : List ℕ) × (xs ≡ h.0 ++ v ++ more) × (h.1 ≡ more ++ c ∷ ys)) ⊎ ((more : List ℕ) × (h.0 ≡ xs ++ c ∷ more) × (ys ≡ more ++ v ++ h.1)) → HasPart xs v ⊎ HasPart ys v
    cases (inl w) = inl (h.0, w.0, w.1)
    cases (inr w) = inr (w.0, h.1, w.2)

pub end_splits : (c : ℕ) (xs ys v : List ℕ) → All (λ d. d ≢ c) v → EndsWith (xs ++ c ∷ ys) v → EndsWith ys v
end_splits c xs ys v free h = cases (lies c xs ys h.0 v [] free (h.1 ∙ sym (append-nil (h.0 ++ v))))
  where
    none : (more : List ℕ) → [] ≡ more ++ c ∷ ys → ⊥
    none [] e = cc
    none (x ∷ more) e = cc

    cases : ((more : List ℕ) × (xs ≡ h.0 ++ v ++ more) × ([] ≡ more ++ c ∷ ys)) ⊎ ((more : List ℕ) × (h.0 ≡ xs ++ c ∷ more) × (ys ≡ more ++ v ++ [])) → EndsWith ys v
    cases (inl w) = absurd (none w.0 w.2)
    cases (inr w) = (w.0, w.2 ∙ append-nil (w.0 ++ v))

pub begin_splits : (c : ℕ) (xs ys v : List ℕ) → All (λ d. d ≢ c) v → BeginsWith (xs ++ c ∷ ys) v → BeginsWith xs v
begin_splits c xs ys v free h = let w = begins_before c xs ys v h.0 free h.1 in (w.0, w.1)

-- a text with the separator is none without it
pub holds_separator : (c : ℕ) (xs ys v : List ℕ) → All (λ d. d ≢ c) v → xs ++ c ∷ ys ≡ v → ⊥
holds_separator c xs ys v free e = none (begins_before c xs ys v [] free (e ∙ sym (append-nil v)))
  where
    absent : (more : List ℕ) → [] ≡ more ++ c ∷ ys → ⊥
    absent [] e = cc
    absent (x ∷ more) e = cc

    none : ((more : List ℕ) × (xs ≡ v ++ more) × ([] ≡ more ++ c ∷ ys)) → ⊥
    none w = absent w.0 w.2

-- Back: a part without separators was a part.
part_followed : (c : ℕ) (text : List ℕ) (xs : List (List ℕ)) (rest v : List ℕ) → All (λ d. d ≢ c) v → All (HasPart text) xs → (HasPart rest v → HasPart text v) →
    HasPart (followed c xs rest) v → HasPart text v
part_followed c text [] rest v free have back h = back h
part_followed c text (x ∷ xs) rest v free have back h =
    cases (part_followed c text xs rest v free (All-tail (HasPart text) x xs have) back) (part_splits c x (followed c xs rest) v free h)
  where
    cases : (HasPart (followed c xs rest) v → HasPart text v) → HasPart x v ⊎ HasPart (followed c xs rest) v → HasPart text v
    cases later (inl k) = part_inside text x v (All-head (HasPart text) x xs have) k
    cases later (inr k) = later k

part_nil : (v : List ℕ) → v ≢ [] → HasPart [] v → ⊥
part_nil v some h = cases h.0 h.1 v some h.2
  where
    cases : (front rest v : List ℕ) → v ≢ [] → [] ≡ front ++ v ++ rest → ⊥
    cases [] rest [] some e = some refl
    cases [] rest (d ∷ v) some e = cc
    cases (x ∷ front) rest v some e = cc

part_words : (f w : ℕ) (text : List ℕ) (xs : List (List ℕ)) (rest v : List ℕ) → v ≢ [] → All (λ d. d ≢ f) v → (xs ≢ [] → All (λ d. d ≢ w) v) → All (HasPart text) xs →
    (HasPart rest v → HasPart text v) → HasPart (words_then f w xs rest) v → HasPart text v
part_words f w text [] rest v some free clear have back h = back h
part_words f w text (x ∷ xs) rest v some free clear have back h = cases (part_splits w [] (followed w (x ∷ xs) (f ∷ rest)) v clean h)
  where
    clean : All (λ d. d ≢ w) v
    clean = clear (λ e. cc)

    behind : HasPart [] v ⊎ HasPart rest v → HasPart text v
    behind (inl k) = absurd (part_nil v some k)
    behind (inr k) = back k

    cases : HasPart [] v ⊎ HasPart (followed w (x ∷ xs) (f ∷ rest)) v → HasPart text v
    cases (inl k) = absurd (part_nil v some k)
    cases (inr k) = part_followed w text (x ∷ xs) (f ∷ rest) v clean have (λ j. behind (part_splits f [] rest v free j)) k

pub part_back : (f w : ℕ) (text start : List ℕ) (parts words : List (List ℕ)) (last v : List ℕ) → v ≢ [] → All (λ d. d ≢ f) v → (words ≢ [] → All (λ d. d ≢ w) v) →
    BeginsWith text start → All (HasPart text) parts → All (HasPart text) words → EndsWith text last →
    HasPart (start ++ f ∷ followed f parts (words_then f w words last)) v → HasPart text v
part_back f w text start parts words last v some free clear begins have words_have ends h =
    cases (part_splits f start (followed f parts (words_then f w words last)) v free h)
  where
    cases : HasPart start v ⊎ HasPart (followed f parts (words_then f w words last)) v → HasPart text v
    cases (inl k) = part_inside text start v (begins-part text start begins) k
    cases (inr k) = part_followed f text parts (words_then f w words last) v free have
        (part_words f w text words last v some free clear words_have (part_inside text last v (ends-part text last ends))) k

-- Back: a word was a word.
word_followed : (f : ℕ) → is_white f ≡ false → (text : List ℕ) (xs : List (List ℕ)) (rest v : List ℕ) → All (λ d. d ≢ f) v → All (HasPart text) xs →
    (Alone false true rest v → StandsAlone text v) → Alone false true (followed f xs rest) v → StandsAlone text v
word_followed f dark text [] rest v free have back h = back h
word_followed f dark text (x ∷ xs) rest v free have back h =
    cases (word_followed f dark text xs rest v free (All-tail (HasPart text) x xs have) back) (alone_splits f false true x (followed f xs rest) v free h)
  where
    piece : HasPart text x → Alone false false x v → StandsAlone text v
    piece p k = subst (λ (t : List ℕ). StandsAlone t v) (sym p.2) (alone_anywhere p.0 x p.1 v k)

    cases : (Alone false true (followed f xs rest) v → StandsAlone text v) → Alone false (is_white f) x v ⊎ Alone (is_white f) true (followed f xs rest) v → StandsAlone text v
    cases later (inl k) = piece (All-head (HasPart text) x xs have) (subst (λ (b : Bool). Alone false b x v) dark k)
    cases later (inr k) = later (subst (λ (b : Bool). Alone b true (followed f xs rest) v) dark k)

-- a word of the words is one of them
word_among : (w : ℕ) → is_white w ≡ true → (text : List ℕ) (xs : List (List ℕ)) (rest v : List ℕ) → v ≢ [] → All (λ d. d ≢ w) v →
    All (λ x. All (λ d. is_white d ≡ false) x × StandsAlone text x) xs → (Alone true true rest v → StandsAlone text v) →
    Alone true true (followed w xs rest) v → StandsAlone text v
word_among w white text [] rest v some clear have back h = back h
word_among w white text (x ∷ xs) rest v some clear have back h =
    cases (word_among w white text xs rest v some clear (All-tail (λ x. All (λ d. is_white d ≡ false) x × StandsAlone text x) x xs have) back)
    (alone_splits w true true x (followed w xs rest) v clear h)
  where
    here : All (λ d. is_white d ≡ false) x × StandsAlone text x → Alone true (is_white w) x v → StandsAlone text v
    here p k = subst (λ (t : List ℕ). StandsAlone text t) (alone_whole true (is_white w) x v some p.0 k) p.1

    cases : (Alone true true (followed w xs rest) v → StandsAlone text v) → Alone true (is_white w) x v ⊎ Alone (is_white w) true (followed w xs rest) v → StandsAlone text v
    cases later (inl k) = here (All-head (λ x. All (λ d. is_white d ≡ false) x × StandsAlone text x) x xs have) k
    cases later (inr k) = later (subst (λ (b : Bool). Alone b true (followed w xs rest) v) white k)

word_words : (f w : ℕ) → is_white f ≡ false → (text : List ℕ) (xs : List (List ℕ)) (rest v : List ℕ) → (xs ≢ [] → is_white w ≡ true) → v ≢ [] → All (λ d. d ≢ f) v → (xs ≢ [] → All (λ d. d ≢ w) v) →
    All (λ x. All (λ d. is_white d ≡ false) x × StandsAlone text x) xs → (Alone false true rest v → StandsAlone text v) →
    Alone false true (words_then f w xs rest) v → StandsAlone text v
word_words f w dark text [] rest v white some free clear have back h = back h
word_words f w dark text (x ∷ xs) rest v white some free clear have back h = cases (alone_splits w false true [] (followed w (x ∷ xs) (f ∷ rest)) v clean h)
  where
    clean : All (λ d. d ≢ w) v
    clean = clear (λ e. cc)

    is : is_white w ≡ true
    is = white (λ e. cc)

    behind : Alone true (is_white f) [] v ⊎ Alone (is_white f) true rest v → StandsAlone text v
    behind (inl k) = absurd (alone_nil true (is_white f) v some k)
    behind (inr k) = back (subst (λ (b : Bool). Alone b true rest v) dark k)

    cases : Alone false (is_white w) [] v ⊎ Alone (is_white w) true (followed w (x ∷ xs) (f ∷ rest)) v → StandsAlone text v
    cases (inl k) = absurd (alone_nil false (is_white w) v some k)
    cases (inr k) = word_among w is text (x ∷ xs) (f ∷ rest) v some clean have (λ j. behind (alone_splits f true true [] rest v free j))
        (subst (λ (b : Bool). Alone b true (followed w (x ∷ xs) (f ∷ rest)) v) is k)

pub word_back : (f w : ℕ) → is_white f ≡ false → (text start : List ℕ) (parts words : List (List ℕ)) (last v : List ℕ) → (words ≢ [] → is_white w ≡ true) → v ≢ [] → All (λ d. d ≢ f) v → (words ≢ [] → All (λ d. d ≢ w) v) →
    BeginsWith text start → All (HasPart text) parts → All (λ x. All (λ d. is_white d ≡ false) x × StandsAlone text x) words → EndsWith text last →
    StandsAlone (start ++ f ∷ followed f parts (words_then f w words last)) v → StandsAlone text v
word_back f w dark text start parts words last v white some free clear begins have words_have ends h =
    cases (alone_splits f true true start (followed f parts (words_then f w words last)) v free (stands-alone (start ++ f ∷ followed f parts (words_then f w words last)) v h))
  where
    at_end : Alone false true last v → StandsAlone text v
    at_end k = subst (λ (t : List ℕ). StandsAlone t v) (sym ends.1) (alone_last ends.0 last v k)

    at_start : Alone true false start v → StandsAlone text v
    at_start k = subst (λ (t : List ℕ). StandsAlone t v) (sym begins.1) (alone_first start begins.0 v k)

    cases : Alone true (is_white f) start v ⊎ Alone (is_white f) true (followed f parts (words_then f w words last)) v → StandsAlone text v
    cases (inl k) = at_start (subst (λ (b : Bool). Alone true b start v) dark k)
    cases (inr k) = word_followed f dark text parts (words_then f w words last) v free have
        (word_words f w dark text words last v white some free clear words_have at_end)
        (subst (λ (b : Bool). Alone b true (followed f parts (words_then f w words last)) v) dark k)

-- Forth: the pieces are there.
pub part_behind : (front text v : List ℕ) → HasPart text v → HasPart (front ++ text) v
part_behind front text v h = (front ++ h.0, h.1, ap (λ (t : List ℕ). front ++ t) h.2 ∙ simp append_assoc)

pub parts_followed : (c : ℕ) (xs : List (List ℕ)) (rest : List ℕ) → All (HasPart (followed c xs rest)) xs
parts_followed c [] rest = All-nil (HasPart (followed c [] rest))
parts_followed c (x ∷ xs) rest =
    All-cons (HasPart (x ++ c ∷ followed c xs rest)) x xs ([], c ∷ followed c xs rest, refl)
    (All-weaker (HasPart (followed c xs rest)) (HasPart (x ++ c ∷ followed c xs rest)) (λ v h. part_behind x (c ∷ followed c xs rest) v (part_behind (c ∷ []) (followed c xs rest) v h)) xs (parts_followed c xs rest))

alone_behind : (before behind : Bool) (front text v : List ℕ) → Alone (ends_white before front) behind text v → Alone before behind (front ++ text) v
alone_behind before behind front text v h =
    (front ++ h.0, h.1, ap (λ (t : List ℕ). front ++ t) h.2 ∙ simp append_assoc, ends-append before front h.0 ∙ h.3, h.4)

words_followed : (w : ℕ) → is_white w ≡ true → (xs : List (List ℕ)) (rest : List ℕ) → All (Alone true true (followed w xs rest)) xs
words_followed w white [] rest = All-nil (Alone true true (followed w [] rest))
words_followed w white (x ∷ xs) rest =
    All-cons (Alone true true (x ++ w ∷ followed w xs rest)) x xs ([], w ∷ followed w xs rest, refl, refl, white)
    (All-weaker (Alone true true (followed w xs rest)) (Alone true true (x ++ w ∷ followed w xs rest))
    (λ v h. alone_behind true true x (w ∷ followed w xs rest) v (alone_behind (ends_white true x) true (w ∷ []) (followed w xs rest) v (subst (λ (b : Bool). Alone b true (followed w xs rest) v) (sym white) h)))
    xs (words_followed w white xs rest))

words_there : (f w : ℕ) → (before : Bool) (xs : List (List ℕ)) (rest : List ℕ) → (xs ≢ [] → is_white w ≡ true) → All (Alone before true (words_then f w xs rest)) xs
words_there f w before [] rest white = All-nil (Alone before true (words_then f w [] rest))
words_there f w before (x ∷ xs) rest white =
    let is : is_white w ≡ true = white (λ e. cc) in
    All-weaker (Alone true true (followed w (x ∷ xs) (f ∷ rest))) (Alone before true (w ∷ followed w (x ∷ xs) (f ∷ rest)))
    (λ v h. alone_behind before true (w ∷ []) (followed w (x ∷ xs) (f ∷ rest)) v (subst (λ (b : Bool). Alone b true (followed w (x ∷ xs) (f ∷ rest)) v) (sym is) h))
    (x ∷ xs) (words_followed w is (x ∷ xs) (f ∷ rest))

behind_followed : (f : ℕ) → (xs : List (List ℕ)) (rest v : List ℕ) → ((before : Bool) → Alone before true rest v) → (before : Bool) → Alone before true (followed f xs rest) v
behind_followed f [] rest v h before = h before
behind_followed f (x ∷ xs) rest v h before =
    alone_behind before true x (f ∷ followed f xs rest) v (alone_behind (ends_white before x) true (f ∷ []) (followed f xs rest) v (behind_followed f xs rest v h (is_white f)))

pub words_stand : (f w : ℕ) → (start : List ℕ) (parts words : List (List ℕ)) (last : List ℕ) → (words ≢ [] → is_white w ≡ true) →
    All (StandsAlone (start ++ f ∷ followed f parts (words_then f w words last))) words
words_stand f w start parts words last white =
    λ k d l. let v = lookup k d in
    alone-stands (start ++ f ∷ followed f parts (words_then f w words last)) v
    (alone_behind true true start (f ∷ followed f parts (words_then f w words last)) v
    (alone_behind (ends_white true start) true (f ∷ []) (followed f parts (words_then f w words last)) v
    (behind_followed f parts (words_then f w words last) v (λ before. words_there f w before words last white k d l) (is_white f))))
  where
    lookup : ℕ → List ℕ → List ℕ
    lookup k d = slice_index_or words k d

-- what stands before its end
pub last_there : (f w : ℕ) (start : List ℕ) (parts words : List (List ℕ)) (last : List ℕ) →
    (front : List ℕ) × (start ++ f ∷ followed f parts (words_then f w words last) ≡ front ++ f ∷ last)
last_there f w start parts words last = cases parts words start
  where
    cut : (c : ℕ) (xs : List (List ℕ)) (rest : List ℕ) → followed c xs rest ≡ followed c xs [] ++ rest
    cut c [] rest = refl
    cut c (x ∷ xs) rest = ap (λ (t : List ℕ). x ++ c ∷ t) (cut c xs rest) ∙ sym (append_assoc x (c ∷ followed c xs []) rest)

    words_end : (words : List (List ℕ)) → (start : List ℕ) → (front : List ℕ) × (start ++ f ∷ words_then f w words last ≡ front ++ f ∷ last)
    words_end [] start = (start, refl)
    words_end (x ∷ xs) start =
        (start ++ f ∷ w ∷ followed w (x ∷ xs) [], ap (λ (t : List ℕ). start ++ f ∷ w ∷ t) (cut w (x ∷ xs) (f ∷ last)) ∙ sym (append_assoc start (f ∷ w ∷ followed w (x ∷ xs) []) (f ∷ last)))

    cases : (parts words : List (List ℕ)) (start : List ℕ) → (front : List ℕ) × (start ++ f ∷ followed f parts (words_then f w words last) ≡ front ++ f ∷ last)
    cases [] words start = words_end words start
    cases (x ∷ xs) words start =
        let k = cases xs words (start ++ f ∷ x) in
        (k.0, sym (append_assoc start (f ∷ x) (f ∷ followed f xs (words_then f w words last))) ∙ k.1)
