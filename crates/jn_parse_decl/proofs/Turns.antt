-- The loop over pieces, and what its end says of a file.
use Rattle.std.proofs.Common.{◌≡◌, ℕ, suc, ◌-◌, ◌<◌, List, [], ◌∷◌, length, refl, sym, ap, ◌∙◌, subst, arith, inl, inr, Option, Some, None}
use Rattle.jn_base.specs.declared.number.FileNo.{FileNo}
use Rattle.jn_base.specs.declared.place.Row.{Row}
use Rattle.jn_base.specs.declared.code.Code.TheVariants.{S1, S2}
use Rattle.jn_trees.specs.declared.token.Token.{Token}
use Rattle.jn_trees.specs.declared.token.TokenKind.{TokenKind}
use Rattle.jn_trees.specs.Trees.{SourceTree}
use Rattle.jn_trees.specs.Spelling.{spell_file}
use Rattle.jn_trees.specs.WellFormed.{GoodFile}
use Rattle.jn_trees.specs.Pieces.{Piece, Around, AtStart, behind, pieces, IsPlace, kinds, IsTooDeep, Shallow, token_place, IsSyntaxRow}
use Rattle.jn_parse_decl_law.specs.Built.{Built, add, finished}
use Rattle.jn_parse_decl_law.specs.PieceReader.{piece_reader}
use Rattle.jn_parse_decl_law.specs.Progress.{IsReached}
use Rattle.jn_parse_decl.specs.Ends.{EndsAt, IsWhole, NoFile}

pub as_many : (ts : List Token) → length (kinds ts) ≡ length ts
as_many [] = refl
as_many (t ∷ ts) = ap suc (as_many ts)

-- a piece more
pub moved : ((ts : List TokenKind) (built : Built) (around : Around) (rest : List TokenKind) (piece : Piece) (left : List TokenKind) → IsReached ts built around rest → piece_reader around rest ≡ Some (piece, left) → IsReached ts (add built piece) (behind around piece) left)
    → (ts : List TokenKind) (b c : Built) (a z : Around) (rest left : List TokenKind) (p : Piece) → IsReached ts b a rest → ◌≡◌ {A = Option (Piece × List TokenKind)} (Some (p, left)) (piece_reader a rest) → z ≡ behind a p → c ≡ add b p → IsReached ts c z left
moved more ts b c a z rest left p h read around built =
    subst (λ (x : Built). IsReached ts x z left) (sym built) (subst (λ (y : Around). IsReached ts (add b p) y left) (sym around) (more ts b a rest p left h (sym read)))

no_tokens : (ts : List Token) → length ts ≡ 0 → kinds ts ≡ []
no_tokens [] e = refl
no_tokens (t ∷ ts) e = absurd (omega arith)

-- the laws of the loop
module _ (found : (ts : List TokenKind) (built : Built) (around : Around) (tree : SourceTree) → IsReached ts built around [] → finished built ≡ Some tree → GoodFile tree × (ts ≡ spell_file tree))
    (only : (ts : List TokenKind) (built : Built) (around : Around) (rest : List TokenKind) → IsReached ts built around rest → piece_reader around rest ≡ None → (tree : SourceTree) → GoodFile tree → ts ≡ spell_file tree → (rest ≡ []) × (finished built ≡ Some tree))
    (stops : (ts : List TokenKind) (built : Built) (around : Around) (rest : List TokenKind) → IsReached ts built around rest → piece_reader around rest ≡ None → IsPlace pieces AtStart ts (length ts - length rest)) where
  place_is : (tokens left : List Token) (b : Built) (n : ℕ) → EndsAt (kinds tokens) b (kinds left) → n ≡ length tokens - length left → IsPlace pieces AtStart (kinds tokens) n
  place_is tokens left b n e same =
      let is : length (kinds tokens) - length (kinds left) ≡ n = ap (λ k. k - length (kinds left)) (as_many tokens) ∙ ap (λ k. length tokens - k) (as_many left) ∙ sym same in
      subst (λ k. IsPlace pieces AtStart (kinds tokens) k) is (stops (kinds tokens) b e.around (kinds left) e.reached e.stuck)

  -- tokens are left
  pub cut : (tokens left : List Token) (b : Built) (n : ℕ) → EndsAt (kinds tokens) b (kinds left) → n ≡ length tokens - length left → 0 < length left → NoFile (kinds tokens) n
  cut tokens left b n e same some = record {
    no_tree = λ tree good spelled.
        let none : length (kinds left) ≡ 0 = ap length (only (kinds tokens) b e.around (kinds left) e.reached e.stuck tree good spelled).0 in
        absurd (omega (arith, none, as_many left));
    ends = place_is tokens left b n e same;
  }

  -- something is open
  pub unfinished : (tokens left : List Token) (b : Built) (n : ℕ) → EndsAt (kinds tokens) b (kinds left) → n ≡ length tokens - length left → finished b ≡ None → NoFile (kinds tokens) n
  unfinished tokens left b n e same open_still = record {
    no_tree = λ tree good spelled.
        let is : finished b ≡ Some tree = (only (kinds tokens) b e.around (kinds left) e.reached e.stuck tree good spelled).1 in
        cc;
    ends = place_is tokens left b n e same;
  }

  -- all is read, and nothing is open
  pub whole : (tokens left : List Token) (b : Built) (tree : SourceTree) → EndsAt (kinds tokens) b (kinds left) → length left ≡ 0 → finished b ≡ Some tree → IsWhole (kinds tokens) tree
  whole tokens left b tree e none is =
      found (kinds tokens) b e.around tree (subst (λ rest. IsReached (kinds tokens) b e.around rest) (no_tokens left none) e.reached) is

-- rows

pub deep_row : (file : FileNo) (end : ℕ) (tokens : List Token) (n : ℕ) (row : Row) → IsTooDeep (kinds tokens) n → row ≡ record { span = token_place file end tokens n; code = S2 } → IsSyntaxRow file end tokens row
deep_row file end tokens n row deep is = inl (record { place = n; deep = deep; is = is })

pub plain_row : (file : FileNo) (end : ℕ) (tokens : List Token) (n : ℕ) (row : Row) → Shallow (kinds tokens) → NoFile (kinds tokens) n → row ≡ record { span = token_place file end tokens n; code = S1 } → IsSyntaxRow file end tokens row
plain_row file end tokens n row shallow none is = inr (record { place = n; shallow = shallow; no_tree = none.no_tree; ends = none.ends; is = is })
