-- Tokens before a white space: each is the same, or takes the white space, where it ends in an open escape.
use Rattle.std.proofs.Common.{ℕ, zero, suc, ◌+◌, ◌<◌, ◌≤◌, ◌≡◌, ◌⊎◌, inl, inr, Bool, true, false, cond, ltb, ◌==◌, ◌&&◌, List, [], ◌∷◌, ◌++◌, Result, Ok, Err, Some, None, Option, length, drop, refl, sym, ap, ◌∙◌, subst, arith}
use Rattle.std.proofs.lemmas.Bool.{ltb-true, lt-ltb}
use Rattle.std.proofs.lemmas.List.{drop-append-le, length-drop}
use Rattle.css_model.specs.declared.token.TokenKind.{TokenKind}
use Rattle.css_model.specs.declared.token.TokenFlaw.{TokenFlaw}
use Rattle.css_model.specs.declared.token.TokenFlaw.TheVariants as flaw
use Rattle.css_model.specs.declared.token.TokenKind.TheVariants as kind
use Rattle.css_model.specs.Text.Characters.{space, backslash, dash, slash, star, hash, percent, less_than, at_sign, open_round, begins}
use Rattle.css_model.specs.Text.Units.{name_unit, name_start, name_len, number_len}
use Rattle.css_model.specs.Text.TokenAt.{Shape, done, slash_shape, comment_shape, hash_shape, number_shape, less_shape, at_shape}
use Rattle.css_model.specs.Text.Kept.{is_open}
use Rattle.token_laws.proofs.Spaces.Units.{run_zero}
use Rattle.token_laws.proofs.Spaces.Runs.{run_near, name_start_same}
use Rattle.token_laws.proofs.Spaces.Numbers.{number_pass}
use Rattle.token_laws.proofs.Spaces.LastBytes.{last_closed, only_is, done_len, itself_of, IsShut}
use Rattle.css_tokens.proofs.ForCallers.{run_none}

-- how many bytes a token takes before a white space
abbrev pub near_len : List ℕ → ℕ
near_len v = cond (is_open v) (suc (length v)) (length v)

-- what is read before `new`, where a token of this kind was read; if it ends itself, that is known without it
abbrev pub Nearly : TokenKind → List ℕ → Result Shape TokenFlaw → Type 0
Nearly k v shape = (shape ≡ done k (near_len v)) ⊎ IsShut k v

-- where a token takes the white space, no name goes on behind it, and nothing is called
pub record Apart (v more : List ℕ) : Type 0 where
  pub no_name : is_open v ≡ true → name_unit more ≡ 0
  pub no_round : is_open v ≡ true → begins open_round more ≡ false

pub closed_len : (v : List ℕ) → is_open v ≡ false → near_len v ≡ length v
closed_len v closed = rw closed refl

near_one : (c : ℕ) (cs : List ℕ) → (c == backslash) ≡ false → suc (near_len cs) ≡ near_len (c ∷ cs)
near_one c cs other = rw other (which (is_open cs))
  where
    which : (b : Bool) → ◌≡◌ {A = ℕ} (suc (cond b (suc (length cs)) (length cs))) (cond b (suc (suc (length cs))) (suc (length cs)))
    which true = refl
    which false = refl

-- the kind of what was read
pub kind_of : (j k : TokenKind) (n m len : ℕ) → done j n ≡ done k m → done j len ≡ done k len
kind_of j k n m len is =
    let shapes : ◌≡◌ {A = Shape} (Some j, n) (Some k, m) = cc in
    ap (λ (s : Shape). Ok (s.0, len)) shapes

-- what begins with a number has at least its bytes
pub number_least : (n : ℕ) (rest : List ℕ) (k : TokenKind) (len : ℕ) → number_shape n rest ≡ done k len → n ≤ len
number_least n rest k len is = which (ltb 0 (name_start rest)) (begins percent rest) (name_len rest) is
  where
    which : (b p : Bool) (m : ℕ) → cond b (done kind.Dimension (n + m)) (cond p (done kind.Percentage (n + 1)) (done kind.Number n)) ≡ done k len → n ≤ len
    which true p m is = omega (arith, done_len kind.Dimension k (n + m) len is)
    which false true m is = omega (arith, done_len kind.Percentage k (n + 1) len is)
    which false false m is = omega (arith, done_len kind.Number k n len is)

module _ (old more : List ℕ) (k : TokenKind) where
  abbrev pub new : List ℕ
  new = space ∷ more

  pub slash_near : (cs : List ℕ) → slash_shape (cs ++ old) ≡ done k (suc (length cs)) → Nearly k (slash ∷ cs) (slash_shape (cs ++ new))
  slash_near cs is = which (begins star (cs ++ old)) is
    where
      comment : (b : Bool) (n : ℕ) → cond b (Ok (None, n)) (Err flaw.EndInside) ≡ done k (suc (length cs)) → ⊥
      comment true n is =
          let shapes : ◌≡◌ {A = Shape} (None, n) (Some k, suc (length cs)) = cc in
          let kinds : ◌≡◌ {A = Option TokenKind} None (Some k) = ap (λ (s : Shape). s.0) shapes in
          cc
      comment false n is = cc

      which : (b : Bool) → cond b (comment_shape (drop 1 (cs ++ old))) (done (kind.Delim slash) 1) ≡ done k (suc (length cs)) → Nearly k (slash ∷ cs) (slash_shape (cs ++ new))
      which true is = absurd (comment _ _ is)
      which false is = single cs is
        where
          single : (cs : List ℕ) → done (kind.Delim slash) 1 ≡ done k (suc (length cs)) → Nearly k (slash ∷ cs) (slash_shape (cs ++ new))
          single [] is = inl is
          single (c ∷ cs) is = absurd (let len = done_len (kind.Delim slash) k 1 (suc (suc (length cs))) is in omega (arith, len))

  -- a name that ends with the text
  pub record NameNear (u : List ℕ) : Type 0 where
    pub len : name_len (u ++ new) ≡ near_len u
    pub starts : ltb 0 (name_start (u ++ new)) ≡ ltb 0 (name_start (u ++ old))

  pub name_near : (u : List ℕ) → (is_open u ≡ true → name_unit more ≡ 0) → name_len (u ++ old) ≡ length u → NameNear u
  name_near u apart is = record { len = run_near old more u 0 apart is; starts = name_start_same old new refl u is }

  -- a name begins as long as it has a byte
  name_begins : (u : List ℕ) → name_len (u ++ old) ≡ length u → ltb 0 (name_unit (u ++ old)) ≡ true → 0 < length u
  name_begins [] is some = absurd (let none = run_zero name_unit old refl is in omega (arith, none, ltb-true 0 (name_unit old) some))
  name_begins (c ∷ cs) is some = omega arith

  still_begins : (u : List ℕ) → 0 < length u → name_len (u ++ new) ≡ near_len u → ltb 0 (name_unit (u ++ new)) ≡ true
  still_begins u some is = which (name_unit (u ++ new)) refl
    where
      long : (b : Bool) → 0 < cond b (suc (length u)) (length u)
      long true = omega arith
      long false = some

      which : (n : ℕ) → name_unit (u ++ new) ≡ n → ltb 0 (name_unit (u ++ new)) ≡ true
      which zero none = absurd (omega (arith, run_none name_unit (u ++ new) none, is, long (is_open u)))
      which (suc n) first = lt-ltb 0 (name_unit (u ++ new)) (omega (arith, first))

  pub hash_near : (cs : List ℕ) → (is_open cs ≡ true → name_unit more ≡ 0) → hash_shape (cs ++ old) ≡ done k (suc (length cs)) → Nearly k (hash ∷ cs) (hash_shape (cs ++ new))
  hash_near cs apart is = which (ltb 0 (name_unit (cs ++ old))) refl is
    where
      single : (cs : List ℕ) → ltb 0 (name_unit (cs ++ old)) ≡ false → done (kind.Delim hash) 1 ≡ done k (suc (length cs)) → Nearly k (hash ∷ cs) (hash_shape (cs ++ new))
      single [] other is = inl is
      single (c ∷ cs) other is = absurd (let len = done_len (kind.Delim hash) k 1 (suc (suc (length cs))) is in omega (arith, len))

      which : (b : Bool) → ltb 0 (name_unit (cs ++ old)) ≡ b
          → cond b (done (cond (ltb 0 (name_start (cs ++ old))) kind.IdHash kind.Hash) (1 + name_len (cs ++ old))) (done (kind.Delim hash) 1) ≡ done k (suc (length cs))
          → Nearly k (hash ∷ cs) (hash_shape (cs ++ new))
      which false first is = single cs first is
      which true first is =
          let hashed : Bool → TokenKind = λ (b : Bool). cond b kind.IdHash kind.Hash in
          let len : 1 + name_len (cs ++ old) ≡ suc (length cs) = done_len _ k (1 + name_len (cs ++ old)) (suc (length cs)) is in
          let ends : name_len (cs ++ old) ≡ length cs = omega (arith, len) in
          let near = name_near cs apart ends in
          let still : ltb 0 (name_unit (cs ++ new)) ≡ true = still_begins cs (name_begins cs ends first) near.len in
          let here : hash_shape (cs ++ new) ≡ done (hashed (ltb 0 (name_start (cs ++ new)))) (1 + name_len (cs ++ new)) = rw still refl in
          let size : 1 + name_len (cs ++ new) ≡ near_len (hash ∷ cs) = omega (arith, near.len, near_one hash cs refl) in
          let kinds : done (hashed (ltb 0 (name_start (cs ++ old)))) (near_len (hash ∷ cs)) ≡ done k (near_len (hash ∷ cs)) = kind_of _ k (1 + name_len (cs ++ old)) (suc (length cs)) (near_len (hash ∷ cs)) is in
          inl (here ∙ ap (λ (n : ℕ). done (hashed (ltb 0 (name_start (cs ++ new)))) n) size ∙ ap (λ (b : Bool). done (hashed b) (near_len (hash ∷ cs))) near.starts ∙ kinds)

  pub at_near : (cs : List ℕ) → (is_open cs ≡ true → name_unit more ≡ 0) → at_shape (cs ++ old) ≡ done k (suc (length cs)) → Nearly k (at_sign ∷ cs) (at_shape (cs ++ new))
  at_near cs apart is = which (ltb 0 (name_start (cs ++ old))) refl is
    where
      single : (cs : List ℕ) → done (kind.Delim at_sign) 1 ≡ done k (suc (length cs)) → Nearly k (at_sign ∷ cs) (at_shape (cs ++ new))
      single [] is = inl is
      single (c ∷ cs) is = absurd (let len = done_len (kind.Delim at_sign) k 1 (suc (suc (length cs))) is in omega (arith, len))

      which : (b : Bool) → ltb 0 (name_start (cs ++ old)) ≡ b → cond b (done kind.AtKeyword (1 + name_len (cs ++ old))) (done (kind.Delim at_sign) 1) ≡ done k (suc (length cs))
          → Nearly k (at_sign ∷ cs) (at_shape (cs ++ new))
      which false first is = single cs is
      which true first is =
          let len : 1 + name_len (cs ++ old) ≡ suc (length cs) = done_len kind.AtKeyword k (1 + name_len (cs ++ old)) (suc (length cs)) is in
          let near = name_near cs apart (omega (arith, len)) in
          let still : ltb 0 (name_start (cs ++ new)) ≡ true = near.starts ∙ first in
          let here : at_shape (cs ++ new) ≡ done kind.AtKeyword (1 + name_len (cs ++ new)) = rw still refl in
          let size : 1 + name_len (cs ++ new) ≡ near_len (at_sign ∷ cs) = omega (arith, near.len, near_one at_sign cs refl) in
          inl (here ∙ ap (done kind.AtKeyword) size ∙ kind_of kind.AtKeyword k (1 + name_len (cs ++ old)) (suc (length cs)) (near_len (at_sign ∷ cs)) is)

  -- what stands behind a number of n bytes
  unit_near : (n : ℕ) (v u : List ℕ) → length v ≡ n + length u → is_open u ≡ is_open v → (is_open v ≡ true → name_unit more ≡ 0) → number_shape n (u ++ old) ≡ done k (length v)
      → Nearly k v (number_shape n (u ++ new))
  unit_near n v u size ends apart is = which (ltb 0 (name_start (u ++ old))) (begins percent (u ++ old)) refl refl is
    where
      wide : (b : Bool) → is_open v ≡ b → n + near_len u ≡ near_len v
      wide true open_end = rw (ends ∙ open_end, open_end) (omega (arith, size))
      wide false open_end = rw (ends ∙ open_end, open_end) (omega (arith, size))

      bare : (u : List ℕ) → length u ≡ 0 → is_open u ≡ is_open v → done kind.Number n ≡ done k (length v) → Nearly k v (number_shape n (u ++ new))
      bare [] none ends is = inl (is ∙ ap (done k) (sym (closed_len v (sym ends))))
      bare (c ∷ cs) none ends is = absurd (omega arith)

      which : (b p : Bool) → ltb 0 (name_start (u ++ old)) ≡ b → begins percent (u ++ old) ≡ p
          → cond b (done kind.Dimension (n + name_len (u ++ old))) (cond p (done kind.Percentage (n + 1)) (done kind.Number n)) ≡ done k (length v)
          → Nearly k v (number_shape n (u ++ new))
      which true p starts hundred is =
          let len : n + name_len (u ++ old) ≡ length v = done_len kind.Dimension k (n + name_len (u ++ old)) (length v) is in
          let near = name_near u (λ (open_end : is_open u ≡ true). apart (sym ends ∙ open_end)) (omega (arith, len, size)) in
          let still : ltb 0 (name_start (u ++ new)) ≡ true = near.starts ∙ starts in
          let here : number_shape n (u ++ new) ≡ done kind.Dimension (n + name_len (u ++ new)) = rw still refl in
          let whole : n + name_len (u ++ new) ≡ near_len v = omega (arith, near.len, wide (is_open v) refl) in
          inl (here ∙ ap (done kind.Dimension) whole ∙ kind_of kind.Dimension k (n + name_len (u ++ old)) (length v) (near_len v) is)
      which false true starts hundred is =
          let len : n + 1 ≡ length v = done_len kind.Percentage k (n + 1) (length v) is in
          let last : u ≡ percent ∷ [] = only_is percent u old (omega (arith, len, size)) hundred in
          let closed : is_open v ≡ false = sym ends ∙ ap is_open last in
          inl (ap (λ (u : List ℕ). number_shape n (u ++ new)) last ∙ is ∙ ap (done k) (sym (closed_len v closed)))
      which false false starts hundred is =
          let len : n ≡ length v = done_len kind.Number k n (length v) is in
          bare u (omega (arith, len, size)) ends is

  -- a number
  pub number_near : (v : List ℕ) → (is_open v ≡ true → name_unit more ≡ 0) → number_shape (number_len (v ++ old)) (drop (number_len (v ++ old)) (v ++ old)) ≡ done k (length v)
      → Nearly k v (number_shape (number_len (v ++ new)) (drop (number_len (v ++ new)) (v ++ new)))
  number_near v apart is =
      let n = number_len (v ++ old) in
      let fits : n ≤ length v = number_least n (drop n (v ++ old)) k (length v) is in
      let pass = number_pass old more v fits in
      let cut : (rest : List ℕ) → drop n (v ++ rest) ≡ drop n v ++ rest = λ rest. drop-append-le n v rest fits in
      let here : number_shape n (drop n v ++ old) ≡ done k (length v) = ap (number_shape n) (sym (cut old)) ∙ is in
      let near = unit_near n v (drop n v) (omega (arith, fits, length-drop n v)) pass.ends apart here in
      let whole : number_shape (number_len (v ++ new)) (drop (number_len (v ++ new)) (v ++ new)) ≡ number_shape n (drop n v ++ new) =
      ap (λ (n : ℕ). number_shape n (drop n (v ++ new))) pass.same ∙ ap (number_shape n) (cut new) in
      subst (Nearly k v) (sym whole) near

  pub less_near : (cs : List ℕ) → less_shape (cs ++ old) ≡ done k (suc (length cs)) → Nearly k (less_than ∷ cs) (less_shape (cs ++ new))
  less_near [] is = which (begins 33 old && (begins dash (drop 1 old) && begins dash (drop 2 old))) is
    where
      which : (b : Bool) → cond b (done kind.CommentOpen 4) (done (kind.Delim less_than) 1) ≡ done k 1 → Nearly k (less_than ∷ []) (less_shape new)
      which true is = absurd (let len = done_len kind.CommentOpen k 4 1 is in omega (arith, len))
      which false is = inl is
  less_near (a ∷ []) is = absurd (which (a == 33 && (begins dash old && begins dash (drop 1 old))) is)
    where
      which : (b : Bool) → cond b (done kind.CommentOpen 4) (done (kind.Delim less_than) 1) ≡ done k 2 → ⊥
      which true is = let len = done_len kind.CommentOpen k 4 2 is in omega (arith, len)
      which false is = let len = done_len (kind.Delim less_than) k 1 2 is in omega (arith, len)
  less_near (a ∷ b ∷ cs) is = which (a == 33) (b == dash) (begins dash (cs ++ old)) refl is
    where
      which : (x y z : Bool) → begins dash (cs ++ old) ≡ z → cond (x && (y && z)) (done kind.CommentOpen 4) (done (kind.Delim less_than) 1) ≡ done k (suc (suc (suc (length cs))))
          → Nearly k (less_than ∷ a ∷ b ∷ cs) (less_shape (a ∷ b ∷ cs ++ new))
      which false y z third is = absurd (let len = done_len (kind.Delim less_than) k 1 _ is in omega (arith, len))
      which true false z third is = absurd (let len = done_len (kind.Delim less_than) k 1 _ is in omega (arith, len))
      which true true false third is = absurd (let len = done_len (kind.Delim less_than) k 1 _ is in omega (arith, len))
      which true true true third here =
          let len : ◌≡◌ {A = ℕ} 4 (suc (suc (suc (length cs)))) = done_len kind.CommentOpen k 4 _ here in
          let last : cs ≡ dash ∷ [] = only_is dash cs old (omega (arith, len)) third in
          inr (record {
            itself = itself_of kind.CommentOpen k 4 _ here refl;
            closed = last_closed dash (less_than ∷ a ∷ b ∷ cs) (record { no_digit = refl; no_backslash = refl }) (record { at = 3; is = last });
          })
