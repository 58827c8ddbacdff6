-- Names and what they call before a white space.
use Rattle.std.proofs.Common.{ℕ, zero, suc, Some, ◌+◌, ◌<◌, ◌≤◌, ◌≡◌, ◌⊎◌, inl, inr, Bool, true, false, cond, ltb, List, [], ◌∷◌, ◌++◌, length, drop, take, refl, sym, ap, ◌∙◌, arith}
use Rattle.std.proofs.lemmas.List.{drop-append-le, length-drop}
use Rattle.css_model.specs.declared.token.TokenKind.{TokenKind}
use Rattle.css_model.specs.declared.token.TokenKind.TheVariants as kind
use Rattle.css_model.specs.Text.Characters.{space, open_round, close_round, begins}
use Rattle.css_model.specs.Text.Units.{name_start, name_len}
use Rattle.css_model.specs.Text.TokenAt.{done, opened_shape, named_shape}
use Rattle.css_model.specs.Text.Kept.{is_open}
use Rattle.token_laws.proofs.Spaces.LastBytes.{LastIs, last_behind, last_closed, only_is, done_len, opened_last, IsShut}
use Rattle.token_laws.proofs.Ends.RuleBounds.{opened_len}
use Rattle.token_laws.proofs.Spaces.Rules.{near_len, Apart, kind_of}
use Rattle.token_laws.proofs.Spaces.Rules as near

module _ (old more : List ℕ) (k : TokenKind) where
  abbrev new : List ℕ
  new = space ∷ more

  past_space : (v : List ℕ) → drop (suc (length v)) (v ++ new) ≡ more
  past_space [] = refl
  past_space (c ∷ cs) = past_space cs

  at_space : (v : List ℕ) → drop (length v) (v ++ new) ≡ new
  at_space [] = refl
  at_space (c ∷ cs) = at_space cs

  -- a text that begins with a name, and what is read there
  pub record IdentNear (v : List ℕ) : Type 0 where
    pub starts : ltb 0 (name_start (v ++ new)) ≡ true
    pub near : named_shape (v ++ new) ≡ done k (near_len v)

  ident_near : (v : List ℕ) → Apart v more → ltb 0 (name_start (v ++ old)) ≡ true → name_len (v ++ old) ≡ length v → done kind.Ident (length v) ≡ done k (length v) → IdentNear v
  ident_near v apart starts len is =
      let named = near.name_near old more k v apart.no_name len in
      let behind : begins open_round (drop (name_len (v ++ new)) (v ++ new)) ≡ false = ap (λ (n : ℕ). begins open_round (drop n (v ++ new))) named.len ∙ no_round (is_open v) refl in
      let here : named_shape (v ++ new) ≡ done kind.Ident (name_len (v ++ new)) = rw behind refl in
      record {
        starts = named.starts ∙ starts;
        near = (here ∙ ap (done kind.Ident) named.len ∙ kind_of kind.Ident k (length v) (length v) (near_len v) is);
      }
    where
      no_round : (b : Bool) → is_open v ≡ b → begins open_round (drop (cond b (suc (length v)) (length v)) (v ++ new)) ≡ false
      no_round true open_end = ap (begins open_round) (past_space v) ∙ apart.no_round open_end
      no_round false open_end = ap (begins open_round) (at_space v)

  -- a name and `(`, and what follows them
  opened_shut : (v : List ℕ) → begins open_round (drop (name_len (v ++ old)) (v ++ old)) ≡ true
      → opened_shape (take (name_len (v ++ old)) (v ++ old)) (name_len (v ++ old) + 1) (drop (name_len (v ++ old) + 1) (v ++ old)) ≡ done k (length v) → IsShut k v
  opened_shut v first is =
      let n = name_len (v ++ old) in
      let name = take n (v ++ old) in
      let inside : n + 1 ≤ length v = opened_len name (n + 1) (drop (n + 1) (v ++ old)) (Some k, length v) is in
      let cut : drop (n + 1) (v ++ old) ≡ drop (n + 1) v ++ old = drop-append-le (n + 1) v old inside in
      let size : length v ≡ n + 1 + length (drop (n + 1) v) = omega (arith, inside, length-drop (n + 1) v) in
      let opened = opened_last name (n + 1) (drop (n + 1) v) old k (ap (opened_shape name (n + 1)) (sym cut) ∙ is ∙ ap (done k) size) in
      record { itself = opened.itself; closed = which (length (drop (n + 1) v)) refl inside opened.last }
    where
      which : (m : ℕ) → length (drop (name_len (v ++ old) + 1) v) ≡ m → name_len (v ++ old) + 1 ≤ length v
          → (0 < length (drop (name_len (v ++ old) + 1) v) → LastIs close_round (drop (name_len (v ++ old) + 1) v)) → is_open v ≡ false
      which (suc m) len inside last =
          last_closed close_round v (record { no_digit = refl; no_backslash = refl }) (last_behind close_round (name_len (v ++ old) + 1) v (last (omega (arith, len))))
      which zero len inside last =
          let n = name_len (v ++ old) in
          let one : length (drop n v) ≡ 1 = omega (arith, inside, len, length-drop n v, length-drop (n + 1) v) in
          let round : drop n v ≡ open_round ∷ [] = only_is open_round (drop n v) old one (ap (begins open_round) (sym (drop-append-le n v old (omega (arith, inside)))) ∙ first) in
          last_closed open_round v (record { no_digit = refl; no_backslash = refl }) (record { at = n; is = round })

  pub named_near : (v : List ℕ) → Apart v more → ltb 0 (name_start (v ++ old)) ≡ true → named_shape (v ++ old) ≡ done k (length v) → IdentNear v ⊎ IsShut k v
  named_near v apart starts is = which (begins open_round (drop (name_len (v ++ old)) (v ++ old))) refl is
    where
      which : (b : Bool) → begins open_round (drop (name_len (v ++ old)) (v ++ old)) ≡ b
          → cond b (opened_shape (take (name_len (v ++ old)) (v ++ old)) (name_len (v ++ old) + 1) (drop (name_len (v ++ old) + 1) (v ++ old))) (done kind.Ident (name_len (v ++ old)))
          ≡ done k (length v) → IdentNear v ⊎ IsShut k v
      which true first here = inr (opened_shut v first here)
      which false first here =
          let len : name_len (v ++ old) ≡ length v = done_len kind.Ident k (name_len (v ++ old)) (length v) here in
          inl (ident_near v apart starts len (ap (done kind.Ident) (sym len) ∙ here))
