-- What is read where a token comes first, from what stands after it.
use Rattle.std.proofs.Common.{◌≡◌, List, ◌∷◌, sym, ap, ◌∙◌, Some}
use Rattle.jn_base.specs.declared.number.NameNo.{NameNo}
use Rattle.jn_trees.specs.declared.token.TokenKind.{TokenKind}
use Rattle.jn_trees.specs.declared.token.TokenKind.TheVariants.{Id, Void, LeftParen, RightBrace}
use Rattle.jn_trees.specs.declared.context.Owner.{Owner}
use Rattle.jn_trees.specs.Trees.{Mark, TypeUseTree}
use Rattle.jn_parse_stmt_law.specs.Parts.{read_type_use}
use Rattle.jn_parse_decl_law.specs.PieceReader.{TryPiece, read_member, member_behind, read_all_marks, after_type, typed_member}
use Rattle.jn_parse_decl.proofs.Absent.{no_type_end, no_head}

pub member_reads : (w : Owner) (ts us : List TokenKind) (ms : List Mark) (o : TryPiece) → ((rest : List TokenKind) → ts ≡ RightBrace ∷ rest → ⊥) → read_all_marks ts ≡ (ms, us) → o ≡ member_behind w ms us → o ≡ read_member w ts
member_reads w ts us ms o h e is = is ∙ ap (λ r. member_behind w r.0 r.1) (sym e) ∙ sym (no_type_end w ts h)

pub typed_reads : (w : Owner) (ms : List Mark) (ts us : List TokenKind) (u : TypeUseTree) (o : TryPiece) → ((rest : List TokenKind) → ts ≡ Void ∷ rest → ⊥) → ((n : NameNo) (rest : List TokenKind) → ts ≡ Id n ∷ LeftParen ∷ rest → ⊥) → read_type_use ts ≡ Some (u, us) → o ≡ typed_member w ms u us → o ≡ member_behind w ms ts
typed_reads w ms ts us u o h k e is = is ∙ ap (λ r. after_type (typed_member w ms) r) (sym e) ∙ sym (no_head w ms ts h k)
