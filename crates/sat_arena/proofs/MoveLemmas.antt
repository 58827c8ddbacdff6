-- A clause that watches `to` in place of `lit`: the three kinds of lists.
use Rattle.std.proofs.Common.{◌≡◌, ◌≢◌, ◌+◌, ◌⊎◌, ℕ, List, ◌∷◌, ◌++◌, get_or, refl, sym, subst, ◌∙◌, inl, inr}
use Rattle.std.specs.List.{Contains}
use Rattle.std.proofs.lemmas.Bool.{cases_eq}
use Rattle.sat_arena.specs.Links.{Linked, link}
use Rattle.sat_arena.specs.Words.{Watches, IsList}
use Rattle.sat_arena.proofs.Members.{contains-head, contains-there, contains-cases, contains-wider, contains-narrower, distinct-more, distinct-without}
use Rattle.sat_arena.proofs.LinkLemmas.{linked-same}
use Rattle.sat_arena.proofs.WriteLemmas.{SameBodies}

-- the clause's own watches: one was `lit` and is `to`, and the other is as it was
abbrev pub OwnWatches : List ℕ → List ℕ → ℕ → ℕ → ℕ → Type 0
OwnWatches words after c lit to = ((get_or words c 0 ≡ lit) × ((get_or after c 0 ≡ to) × (get_or after (c + 2) 0 ≡ get_or words (c + 2) 0))) ⊎ ((get_or words (c + 2) 0 ≡ lit) × ((get_or after c 0 ≡ get_or words c 0) × (get_or after (c + 2) 0 ≡ to)))

-- what the words say after a move
pub record Moved (words after starts : List ℕ) (c lit to : ℕ) : Type 0 where
  pub there : Contains starts c
  pub two : get_or words c 0 ≡ get_or words (c + 2) 0 → ⊥
  pub new_one : get_or words c 0 ≡ to → ⊥
  pub new_other : get_or words (c + 2) 0 ≡ to → ⊥
  pub bodies : SameBodies words after starts
  pub heads : (d : ℕ) → Contains starts d → (d ≡ c → ⊥) → (get_or after d 0 ≡ get_or words d 0) × (get_or after (d + 2) 0 ≡ get_or words (d + 2) 0)
  pub own : OwnWatches words after c lit to
  pub links : (d m : ℕ) → Contains starts d → Watches words m d → (m ≡ lit → ⊥) → link after m d ≡ link words m d

-- another clause watches what it watched
other-watches : (words after starts : List ℕ) (c lit to d m : ℕ) → Moved words after starts c lit to → Contains starts d → (d ≡ c → ⊥) → (Watches words m d → Watches after m d) × (Watches after m d → Watches words m d)
other-watches words after starts c lit to d m v h ne =
    let e = v.heads d h ne in
    let W : ℕ → ℕ → Type 0 = λ a b. (a ≢ b) × ((a ≡ m) ⊎ (b ≡ m)) in
    let there : (a b a' b' : ℕ) → a' ≡ a → b' ≡ b → W a b → W a' b' = λ a b a' b' p q w. subst (λ x. W x b') (sym p) (subst (λ x. W a x) (sym q) w) in
    (there (get_or words d 0) (get_or words (d + 2) 0) (get_or after d 0) (get_or after (d + 2) 0) e.0 e.1, there (get_or after d 0) (get_or after (d + 2) 0) (get_or words d 0) (get_or words (d + 2) 0) (sym e.0) (sym e.1))

-- the clause itself watches every third literal as it did
own-watches : (words after starts : List ℕ) (c lit to m : ℕ) → Moved words after starts c lit to → (m ≡ lit → ⊥) → (m ≡ to → ⊥) → (Watches words m c → Watches after m c) × (Watches after m c → Watches words m c)
own-watches words after starts c lit to m v nl nt =
    elim v.own [
      | inl o ↦ (
        λ w. (λ q. v.new_other (sym o.1.1 ∙ (sym q ∙ o.1.0)), elim w.1 [ inl e ↦ absurd (nl (sym e ∙ o.0)) | inr e ↦ inr (o.1.1 ∙ e) ]),
        λ w. (v.two, elim w.1 [ inl e ↦ absurd (nt (sym e ∙ o.1.0)) | inr e ↦ inr (sym o.1.1 ∙ e) ]),
      )
      | inr o ↦ (
        λ w. (λ q. v.new_one (sym o.1.0 ∙ (q ∙ o.1.1)), elim w.1 [ inl e ↦ inl (o.1.0 ∙ e) | inr e ↦ absurd (nl (sym e ∙ o.0)) ]),
        λ w. (v.two, elim w.1 [ inl e ↦ inl (sym o.1.0 ∙ e) | inr e ↦ absurd (nt (sym e ∙ o.1.1)) ]),
      )
    ]

-- and it watches `to`, and `lit` no longer
own-new : (words after starts : List ℕ) (c lit to : ℕ) → Moved words after starts c lit to → Watches after to c × (Watches after lit c → lit ≡ to)
own-new words after starts c lit to v =
    elim v.own [
      | inl o ↦ (
        (λ q. v.new_other (sym o.1.1 ∙ (sym q ∙ o.1.0)), inl o.1.0),
        λ w. elim w.1 [ inl e ↦ sym e ∙ o.1.0 | inr e ↦ absurd (v.two (o.0 ∙ (sym e ∙ o.1.1))) ],
      )
      | inr o ↦ (
        (λ q. v.new_one (sym o.1.0 ∙ (q ∙ o.1.1)), inr o.1.1),
        λ w. elim w.1 [ inl e ↦ absurd (v.two (sym o.1.0 ∙ (e ∙ sym o.0))) | inr e ↦ sym e ∙ o.1.1 ],
      )
    ]

-- the list of a third literal
pub moved-other : (words after starts : List ℕ) (c lit to m at : ℕ) (cs : List ℕ) → Moved words after starts c lit to → (m ≡ lit → ⊥) → (m ≡ to → ⊥) → IsList words starts m at cs → IsList after starts m at cs
moved-other words after starts c lit to m at cs v nl nt i =
    let both : (d : ℕ) → Contains starts d → (Watches words m d → Watches after m d) × (Watches after m d → Watches words m d) = λ d h. elim (cases_eq d c) [
      | inl e ↦ let P : ℕ → Type 0 = λ x. (Watches words m x → Watches after m x) × (Watches after m x → Watches words m x) in subst P (sym e) (own-watches words after starts c lit to m v nl nt)
      | inr ne ↦ other-watches words after starts c lit to d m v h ne
    ] in
    record {
      linked = linked-same (link words m) (link after m) 0 at cs (λ d h. let o = i.only d h in v.links d m o.0 o.1 nl) i.linked;
      distinct = i.distinct;
      only = λ d h. let o = i.only d h in (o.0, (both d o.0).0 o.1);
      all = λ d h w. i.all d h ((both d h).1 w);
    }

-- the list of the new watch
pub moved-to : (words after starts : List ℕ) (c lit to at : ℕ) (cs : List ℕ) → Moved words after starts c lit to → (lit ≡ to → ⊥) → link after to c ≡ at → IsList words starts to at cs → IsList after starts to c (c ∷ cs)
moved-to words after starts c lit to at cs v ne e i =
    let never : Watches words to c → ⊥ = λ w. elim w.1 [ inl q ↦ v.new_one q | inr q ↦ v.new_other q ] in
    let other : (d : ℕ) → Contains cs d → d ≡ c → ⊥ = λ d h q. never (subst (Watches words to) q (i.only d h).1) in
    let P : ℕ → Type 0 = λ x. Linked (link after to) 0 x cs in
    record {
      linked = (refl, subst P (sym e) (linked-same (link words to) (link after to) 0 at cs (λ d h. let o = i.only d h in v.links d to o.0 o.1 (λ q. ne (sym q))) i.linked));
      distinct = distinct-more c cs (λ h. other c h refl) i.distinct;
      only = λ d h. elim (contains-cases c cs d h) [
        | inl q ↦ let Q : ℕ → Type 0 = λ x. Contains starts x × Watches after to x in subst Q q (v.there, (own-new words after starts c lit to v).0)
        | inr k ↦ let o = i.only d k in (o.0, (other-watches words after starts c lit to d to v o.0 (other d k)).0 o.1)
      ];
      all = λ d h w. elim (cases_eq d c) [
        | inl q ↦ contains-head c cs d (sym q)
        | inr q ↦ contains-there c cs d (i.all d h ((other-watches words after starts c lit to d to v h q).1 w))
      ];
    }

-- the list of the old watch
pub moved-from : (words after starts : List ℕ) (c lit to at after_at : ℕ) (xs ys : List ℕ) → Moved words after starts c lit to → (lit ≡ to → ⊥) → Linked (link after lit) 0 after_at (xs ++ ys) → IsList words starts lit at (xs ++ c ∷ ys) → IsList after starts lit after_at (xs ++ ys)
moved-from words after starts c lit to at after_at xs ys v ne l i =
    let w = distinct-without xs c ys i.distinct in
    let other : (d : ℕ) → Contains (xs ++ ys) d → d ≡ c → ⊥ = λ d h q. w.1 (subst (Contains (xs ++ ys)) q h) in
    record {
      linked = l;
      distinct = w.0;
      only = λ d h. let o = i.only d (contains-wider xs ys c d h) in (o.0, (other-watches words after starts c lit to d lit v o.0 (other d h)).0 o.1);
      all = λ d h k.
          let nd : d ≡ c → ⊥ = λ q. ne ((own-new words after starts c lit to v).1 (subst (Watches after lit) q k)) in
          contains-narrower xs ys c d (i.all d h ((other-watches words after starts c lit to d lit v h nd).1 k)) nd;
    }
