-- Placed trees differ in places alone.
use Rattle.std.proofs.Common.{◌≡◌, List, [], ◌∷◌, ◌++◌, refl, ap, ◌∙◌}
use Rattle.std.specs.Prelude.{drop}
use Rattle.jn_base.specs.declared.number.NameNo.{NameNo}
use Rattle.jn_trees.specs.declared.token.Token.{Token}
use Rattle.jn_trees.specs.declared.token.TokenKind.TheVariants.{Id, New, LeftParen, RightParen, LeftBrace, LeftBracket, RightBracket, Dot, Comma, Question, Colon, Super}
use Rattle.jn_trees.specs.declared.expression.Identifier.{Identifier}
use Rattle.jn_trees.specs.Trees.{BaseTree, ClassBase, IntBase, BooleanBase, Tree, Trees, LiteralTree, NameTree, ThisTree, ParenTree, FieldTree, CallTree, OwnCallTree, SuperCallTree, IndexTree, NewTree, NewArrayTree, ArrayOfTree, PostfixTree, PrefixTree, UnaryTree, CastTree, BinaryTree, InstanceOfTree, ConditionalTree, AssignTree, NoTrees, MoreTrees}
use Rattle.jn_trees.specs.Spelling.{spell, spell_annotations, base_token, operator_token, assign_token}
use Rattle.jn_places.specs.Placed.{MorePlacedTrees, PlacedParen, PlacedField, PlacedCall, PlacedOwnCall, PlacedSuperCall, PlacedIndex, PlacedNew, PlacedNewArray, PlacedArrayOf, PlacedPostfix, PlacedPrefix, PlacedUnary, PlacedCast, PlacedBinary, PlacedInstanceOf, PlacedConditional, PlacedAssign}
use Rattle.jn_places.specs.Places.{behind, place, place_list, place_base, place_annotations, place_annotation, spell_annotation}
use Rattle.jn_places_law.specs.Bare.{no_span}
use Rattle.jn_places_law.specs.Erased.{bare_annotation, bare_annotations, bare_base, bare_tree, bare_trees}

abbrev bare_id : NameNo → Identifier
bare_id n = record { name = n; span = no_span }

pub notes_placed : (ts us : List Token) (ns : List NameNo) → bare_annotations (place_annotations ts ns) ≡ bare_annotations (place_annotations us ns)
notes_placed ts us [] = refl
notes_placed ts us (n ∷ ns) = ap (λ r. bare_annotation (place_annotation ts n) ∷ r) (notes_placed (behind ts (spell_annotation n)) (behind us (spell_annotation n)) ns)

pub base_placed : (ts us : List Token) (b : BaseTree) → bare_base (place_base ts b) ≡ bare_base (place_base us b)
base_placed ts us (ClassBase n) = refl
base_placed ts us IntBase = refl
base_placed ts us BooleanBase = refl

mutual
  pub placed : (ts us : List Token) (e : Tree) → bare_tree (place ts e) ≡ bare_tree (place us e)
  placed ts us (LiteralTree l) = refl
  placed ts us (NameTree n) = refl
  placed ts us ThisTree = refl
  placed ts us (ParenTree e) = ap (λ z. PlacedParen z no_span) (placed (drop 1 ts) (drop 1 us) e)
  placed ts us (FieldTree e n) = ap (λ z. PlacedField z (bare_id n) no_span) (placed ts us e)
  placed ts us (CallTree e n es) = ap (λ z. PlacedCall z (bare_id n) (bare_trees (place_list (behind (behind ts (spell e ++ Dot ∷ [])) (Id n ∷ LeftParen ∷ [])) es)) no_span) (placed ts us e) ∙ ap (λ z. PlacedCall (bare_tree (place us e)) (bare_id n) z no_span) (listed (behind (behind ts (spell e ++ Dot ∷ [])) (Id n ∷ LeftParen ∷ [])) (behind (behind us (spell e ++ Dot ∷ [])) (Id n ∷ LeftParen ∷ [])) es)
  placed ts us (OwnCallTree n es) = ap (λ z. PlacedOwnCall (bare_id n) z no_span) (listed (behind ts (Id n ∷ LeftParen ∷ [])) (behind us (Id n ∷ LeftParen ∷ [])) es)
  placed ts us (SuperCallTree n es) = ap (λ z. PlacedSuperCall (bare_id n) z no_span) (listed (behind (behind ts (Super ∷ Dot ∷ [])) (Id n ∷ LeftParen ∷ [])) (behind (behind us (Super ∷ Dot ∷ [])) (Id n ∷ LeftParen ∷ [])) es)
  placed ts us (IndexTree a i) = ap (λ z. PlacedIndex z (bare_tree (place (behind ts (spell a ++ LeftBracket ∷ [])) i)) no_span) (placed ts us a) ∙ ap (λ z. PlacedIndex (bare_tree (place us a)) z no_span) (placed (behind ts (spell a ++ LeftBracket ∷ [])) (behind us (spell a ++ LeftBracket ∷ [])) i)
  placed ts us (NewTree n es) = ap (λ z. PlacedNew (bare_id n) z no_span) (listed (behind ts (New ∷ Id n ∷ LeftParen ∷ [])) (behind us (New ∷ Id n ∷ LeftParen ∷ [])) es)
  placed ts us (NewArrayTree ns b e) = ap (λ z. PlacedNewArray z (bare_base (place_base (behind ts (New ∷ spell_annotations ns)) b)) (bare_tree (place (behind (behind ts (New ∷ spell_annotations ns)) (base_token b ∷ LeftBracket ∷ [])) e)) no_span) (notes_placed (drop 1 ts) (drop 1 us) ns) ∙ ap (λ z. PlacedNewArray (bare_annotations (place_annotations (drop 1 us) ns)) z (bare_tree (place (behind (behind ts (New ∷ spell_annotations ns)) (base_token b ∷ LeftBracket ∷ [])) e)) no_span) (base_placed (behind ts (New ∷ spell_annotations ns)) (behind us (New ∷ spell_annotations ns)) b) ∙ ap (λ z. PlacedNewArray (bare_annotations (place_annotations (drop 1 us) ns)) (bare_base (place_base (behind us (New ∷ spell_annotations ns)) b)) z no_span) (placed (behind (behind ts (New ∷ spell_annotations ns)) (base_token b ∷ LeftBracket ∷ [])) (behind (behind us (New ∷ spell_annotations ns)) (base_token b ∷ LeftBracket ∷ [])) e)
  placed ts us (ArrayOfTree ns b es) = ap (λ z. PlacedArrayOf z (bare_base (place_base (behind ts (New ∷ spell_annotations ns)) b)) (bare_trees (place_list (behind (behind ts (New ∷ spell_annotations ns)) (base_token b ∷ LeftBracket ∷ RightBracket ∷ LeftBrace ∷ [])) es)) no_span) (notes_placed (drop 1 ts) (drop 1 us) ns) ∙ ap (λ z. PlacedArrayOf (bare_annotations (place_annotations (drop 1 us) ns)) z (bare_trees (place_list (behind (behind ts (New ∷ spell_annotations ns)) (base_token b ∷ LeftBracket ∷ RightBracket ∷ LeftBrace ∷ [])) es)) no_span) (base_placed (behind ts (New ∷ spell_annotations ns)) (behind us (New ∷ spell_annotations ns)) b) ∙ ap (λ z. PlacedArrayOf (bare_annotations (place_annotations (drop 1 us) ns)) (bare_base (place_base (behind us (New ∷ spell_annotations ns)) b)) z no_span) (listed (behind (behind ts (New ∷ spell_annotations ns)) (base_token b ∷ LeftBracket ∷ RightBracket ∷ LeftBrace ∷ [])) (behind (behind us (New ∷ spell_annotations ns)) (base_token b ∷ LeftBracket ∷ RightBracket ∷ LeftBrace ∷ [])) es)
  placed ts us (PostfixTree e s) = ap (λ z. PlacedPostfix z s no_span) (placed ts us e)
  placed ts us (PrefixTree s e) = ap (λ z. PlacedPrefix s z no_span) (placed (drop 1 ts) (drop 1 us) e)
  placed ts us (UnaryTree o e) = ap (λ z. PlacedUnary o z no_span) (placed (drop 1 ts) (drop 1 us) e)
  placed ts us (CastTree n e) = ap (λ z. PlacedCast (bare_id n) z no_span) (placed (behind ts (LeftParen ∷ Id n ∷ RightParen ∷ [])) (behind us (LeftParen ∷ Id n ∷ RightParen ∷ [])) e)
  placed ts us (BinaryTree l o r) = ap (λ z. PlacedBinary z o (bare_tree (place (behind ts (spell l ++ operator_token o ∷ [])) r)) no_span) (placed ts us l) ∙ ap (λ z. PlacedBinary (bare_tree (place us l)) o z no_span) (placed (behind ts (spell l ++ operator_token o ∷ [])) (behind us (spell l ++ operator_token o ∷ [])) r)
  placed ts us (InstanceOfTree e n) = ap (λ z. PlacedInstanceOf z (bare_id n) no_span) (placed ts us e)
  placed ts us (ConditionalTree c a b) = ap (λ z. PlacedConditional z (bare_tree (place (behind ts (spell c ++ Question ∷ [])) a)) (bare_tree (place (behind (behind ts (spell c ++ Question ∷ [])) (spell a ++ Colon ∷ [])) b)) no_span) (placed ts us c) ∙ ap (λ z. PlacedConditional (bare_tree (place us c)) z (bare_tree (place (behind (behind ts (spell c ++ Question ∷ [])) (spell a ++ Colon ∷ [])) b)) no_span) (placed (behind ts (spell c ++ Question ∷ [])) (behind us (spell c ++ Question ∷ [])) a) ∙ ap (λ z. PlacedConditional (bare_tree (place us c)) (bare_tree (place (behind us (spell c ++ Question ∷ [])) a)) z no_span) (placed (behind (behind ts (spell c ++ Question ∷ [])) (spell a ++ Colon ∷ [])) (behind (behind us (spell c ++ Question ∷ [])) (spell a ++ Colon ∷ [])) b)
  placed ts us (AssignTree l o r) = ap (λ z. PlacedAssign z o (bare_tree (place (behind ts (spell l ++ assign_token o ∷ [])) r)) no_span) (placed ts us l) ∙ ap (λ z. PlacedAssign (bare_tree (place us l)) o z no_span) (placed (behind ts (spell l ++ assign_token o ∷ [])) (behind us (spell l ++ assign_token o ∷ [])) r)

  pub listed : (ts us : List Token) (es : Trees) → bare_trees (place_list ts es) ≡ bare_trees (place_list us es)
  listed ts us NoTrees = refl
  listed ts us (MoreTrees e es) = ap (λ z. MorePlacedTrees z (bare_trees (place_list (behind ts (spell e ++ Comma ∷ [])) es))) (placed ts us e) ∙ ap (MorePlacedTrees (bare_tree (place us e))) (listed (behind ts (spell e ++ Comma ∷ [])) (behind us (spell e ++ Comma ∷ [])) es)
