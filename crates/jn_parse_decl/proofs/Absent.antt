-- What is read where a token does not come first.
use Rattle.std.proofs.Common.{◌≡◌, List, [], ◌∷◌, refl}
use Rattle.jn_base.specs.declared.number.NameNo.{NameNo}
use Rattle.jn_trees.specs.declared.token.TokenKind.{TokenKind}
use Rattle.jn_trees.specs.declared.token.TokenKind.TheVariants.{Id, Void, LeftParen, RightBrace}
use Rattle.jn_trees.specs.declared.context.Owner.{Owner}
use Rattle.jn_trees.specs.Trees.{Mark}
use Rattle.jn_parse_stmt_law.specs.Parts.{read_type_use}
use Rattle.jn_parse_decl_law.specs.PieceReader.{read_member, member_behind, read_all_marks, after_type, typed_member}

pub no_type_end : (o : Owner) (ts : List TokenKind) → ((rest : List TokenKind) → ts ≡ RightBrace ∷ rest → ⊥) → read_member o ts ≡ member_behind o (read_all_marks ts).0 (read_all_marks ts).1
no_type_end o [] h = refl
no_type_end o (RightBrace ∷ ts) h = absurd (h ts refl)
no_type_end o (_ ∷ ts) h = refl

pub no_head : (o : Owner) (ms : List Mark) (ts : List TokenKind) → ((rest : List TokenKind) → ts ≡ Void ∷ rest → ⊥) → ((n : NameNo) (rest : List TokenKind) → ts ≡ Id n ∷ LeftParen ∷ rest → ⊥) → member_behind o ms ts ≡ after_type (typed_member o ms) (read_type_use ts)
no_head o ms [] h k = refl
no_head o ms (Void ∷ ts) h k = absurd (h ts refl)
no_head o ms (Id n ∷ []) h k = refl
no_head o ms (Id n ∷ LeftParen ∷ ts) h k = absurd (k n ts refl)
no_head o ms (Id n ∷ _ ∷ ts) h k = refl
no_head o ms (_ ∷ ts) h k = refl
