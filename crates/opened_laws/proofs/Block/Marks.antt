-- The kinds and the levels of tokens, also where they stand in a block.
use Rattle.std.proofs.Common.{◌≡◌, ℕ, suc, ◌==◌, Bool, arith}
use Rattle.std.specs.Prelude.{◌&&◌}
use Rattle.css_model.specs.declared.token.Lexeme.{Lexeme}
use Rattle.css_model.specs.declared.token.TokenKind.{TokenKind}
use Rattle.css_model.specs.Text.Characters.{close_curly}
use Rattle.css_model.specs.Text.Lexemes.{is_sign_of}

pub one_more : (n : ℕ) → (suc n == 1) ≡ (n == 0)
one_more n = grind arith

-- the kind of a token, and how many brackets are open before it
pub record Mark : Type 0 where
  pub kind : TokenKind
  pub level : ℕ

abbrev pub mark : Lexeme → Mark
mark x = record { kind = x.kind; level = x.level }

abbrev pub deeper_mark : Mark → Mark
deeper_mark m = record { kind = m.kind; level = suc m.level }

-- a `}` that closes a block, and one inside no bracket
abbrev pub closes_at : ℕ → Mark → Bool
closes_at level m = is_sign_of close_curly m.kind && m.level == level
