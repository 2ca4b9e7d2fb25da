-- Parts of spellings: what stands before an item of a list, the front of a new array, and one modifier.
use Rattle.std.specs.Prelude.{ℕ, Option, Bool, true, false, List, [], ◌∷◌, ◌++◌, cond, nat_eq}
use Rattle.jn_base.specs.declared.number.NameNo.{NameNo}
use Rattle.jn_trees.specs.declared.token.TokenKind.{TokenKind}
use Rattle.jn_trees.specs.declared.token.TokenKind.TheVariants.{Id, Final, For, Comma, Colon, At, New, LeftParen, RightParen, LeftBracket, Semicolon}
use Rattle.jn_trees.specs.declared.expression.UnaryOperator.{UnaryOperator}
use Rattle.jn_trees.specs.declared.expression.UnaryOperator.TheVariants.{Minus, Not}
use Rattle.jn_trees.specs.Trees.{BaseTree, Tree, Trees, InitTree, TypeUseTree, LocalMark, AnnotationMark, FinalMark}
use Rattle.jn_trees.specs.WellFormed.{is_least_number}
use Rattle.jn_trees.specs.Spelling.{base_token, spell_annotations, spell, spell_list, spell_init, spell_optional, spell_marks, spell_type_use}

-- a comma before each but the first
abbrev pub separator : ℕ → List TokenKind
separator place = cond (nat_eq place 0) [] (Comma ∷ [])

-- a new array through its opening bracket (JLS 15.10.1)
abbrev pub new_front : List NameNo → BaseTree → List TokenKind
new_front ns b = New ∷ (spell_annotations ns ++ base_token b ∷ LeftBracket ∷ [])

abbrev pub spell_local_mark : LocalMark → List TokenKind
spell_local_mark (AnnotationMark n) = At ∷ Id n ∷ []
spell_local_mark FinalMark = Final ∷ []

-- a word and a condition in parentheses (JLS 14.9, 14.12, 14.13)
abbrev pub condition : TokenKind → Tree → List TokenKind
condition word e = word ∷ LeftParen ∷ (spell e ++ RightParen ∷ [])

-- a `for` through its closing parenthesis (JLS 14.14.1)
abbrev pub for_head : InitTree → Option Tree → Trees → List TokenKind
for_head i c us = For ∷ LeftParen ∷ (spell_init i ++ (spell_optional c ++ Semicolon ∷ spell_list RightParen us))

-- a `for` over an array through its colon (JLS 14.14.2)
abbrev pub each_head : List LocalMark → TypeUseTree → NameNo → List TokenKind
each_head ms u n = For ∷ LeftParen ∷ (spell_marks ms ++ (spell_type_use u ++ Id n ∷ Colon ∷ []))

-- a call of another constructor (JLS 8.8.7.1)
abbrev pub other_call : TokenKind → Trees → List TokenKind
other_call word es = word ∷ LeftParen ∷ (spell_list RightParen es ++ Semicolon ∷ [])

abbrev pub is_not_sign : UnaryOperator → Bool
is_not_sign Not = true
is_not_sign _ = false

-- a minus sign and the number that stands after it alone (JLS 3.10.1)
abbrev pub is_least_signed : UnaryOperator → Tree → Bool
is_least_signed Minus e = is_least_number e
is_least_signed _ e = false
