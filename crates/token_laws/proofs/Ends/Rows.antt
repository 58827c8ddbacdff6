-- Rows of parts before other rests.
use Rattle.std.proofs.Common.{◌≡◌, true, List, [], ◌∷◌, ◌++◌}
use Rattle.css_model.specs.Text.Tokens.{Part, text_of}
use Rattle.token_laws.specs.Alike.{EndsAlike, LooksThrough, RowsEndAlike}
use Rattle.css_tokens.specs.Lexed.{IsLexed}
use Rattle.token_laws.proofs.Ends.Alike.{alike_front}
use Rattle.token_laws.proofs.Ends.Looks.{looks_front, through_front}
use Rattle.token_laws.proofs.Ends.Rests.{ends_nil, is_plain}
use Rattle.token_laws.proofs.Ends.Rules.{part_again}

pub ends_front : (p q : Part) (old new : List Part) → IsLexed (q ∷ old) → IsLexed (q ∷ new) → LooksThrough q.kind (text_of old) (text_of new)
    → EndsAlike p (text_of (q ∷ old)) (text_of (q ∷ new))
ends_front p q old new (before, _) (now, _) through = record {
  alike = λ _. alike_front q.bytes (text_of old) (text_of new) q.kind now;
  looks = looks_front p.kind p.bytes q.bytes (text_of old) (text_of new) q.kind through before now;
  through = through_front p.kind q.bytes (text_of old) (text_of new) q.kind now;
}

pub first_again : (p : Part) (old new : List Part) → IsLexed (p ∷ old) → IsLexed new → EndsAlike p (text_of old) (text_of new) → IsLexed (p ∷ new)
first_again p old new (before, _) later ends = (part_again p.bytes (text_of old) (text_of new) p.kind ends.alike ends.looks before, later)

-- a row with what its first part lets others see
record Row (first : Part) (old new : List Part) : Type 0 where
  lexed : IsLexed (first ∷ new)
  through : LooksThrough first.kind (text_of old) (text_of new)

row_step : (p q : Part) (old new : List Part) → IsLexed (p ∷ q ∷ old) → Row q old new → Row p (q ∷ old) (q ∷ new)
row_step p q old new (before, later) row =
    let ends = ends_front p q old new later row.lexed row.through in
    record { lexed = first_again p (q ∷ old) (q ∷ new) (before, later) row.lexed ends; through = ends.through }

row_again : (p : Part) (ps : List Part) (last : Part) (old new : List Part) → IsLexed (p ∷ ps ++ last ∷ old) → IsLexed new → EndsAlike last (text_of old) (text_of new)
    → Row p (ps ++ last ∷ old) (ps ++ last ∷ new)
row_again p [] last old new (before, later) lexed ends = row_step p last old new (before, later) (record { lexed = first_again last old new later lexed ends; through = ends.through })
row_again p (q ∷ qs) last old new (before, later) lexed ends = row_step p q (qs ++ last ∷ old) (qs ++ last ∷ new) (before, later) (row_again q qs last old new later lexed ends)

pub rows_again : RowsEndAlike
rows_again [] last old new before later ends = first_again last old new before later ends
rows_again (p ∷ ps) last old new before later ends = (row_again p ps last old new before later ends).lexed

-- the front of parts that are read where they stand, by itself
pub row_alone : (ps : List Part) (last : Part) (old : List Part) → is_plain last.kind ≡ true → IsLexed (ps ++ last ∷ old) → IsLexed (ps ++ last ∷ [])
row_alone ps last old plain before = rows_again ps last old [] before tt (ends_nil last (text_of old) plain)
