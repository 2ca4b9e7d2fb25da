-- The spelling of expressions from a number on.
use Rattle.std.proofs.Common.{◌≡◌, ℕ, ◌+◌, List, [], ◌∷◌, ◌++◌, Bool, true, false, cond, nat_eq, refl, sym, ap, ◌∙◌, arith, append_assoc}
use Rattle.jn_trees.specs.declared.token.TokenKind.{TokenKind}
use Rattle.jn_trees.specs.declared.token.TokenKind.TheVariants.{Comma}
use Rattle.jn_trees.specs.Trees.{Tree, Trees, NoTrees, MoreTrees}
use Rattle.jn_trees.specs.Spelling.{spell, spell_list, spell_more}
use Rattle.jn_trees_spelling.specs.Parts.{separator}

-- the expressions from this number on, through what ends them
abbrev pub spell_from : TokenKind → ℕ → Trees → List TokenKind
spell_from end place ts = cond (nat_eq place 0) (spell_list end ts) (spell_more end ts)

from_more : (first : Bool) (end : TokenKind) (t : Tree) (ts : Trees) → cond first (spell_list end (MoreTrees t ts)) (spell_more end (MoreTrees t ts)) ≡ cond first [] (Comma ∷ []) ++ (spell t ++ spell_more end ts)
from_more true end t ts = refl
from_more false end t ts = refl

from_none : (first : Bool) (end : TokenKind) → cond first (spell_list end NoTrees) (spell_more end NoTrees) ≡ end ∷ []
from_none true end = refl
from_none false end = refl

behind_first : (n : ℕ) → nat_eq (n + 1) 0 ≡ false
behind_first n = grind arith

pub listed_more : (end : TokenKind) (place : ℕ) (t : Tree) (left rest : Trees) (old mid new : List TokenKind) → left ≡ MoreTrees t rest → mid ≡ old ++ separator place → new ≡ mid ++ spell t → new ++ spell_from end (place + 1) rest ≡ old ++ spell_from end place left
listed_more end place t left rest old mid new l m n =
    ap (λ k. new ++ cond k (spell_list end rest) (spell_more end rest)) (behind_first place)
    ∙ ap (λ k. k ++ spell_more end rest) (n ∙ ap (λ k. k ++ spell t) m)
    ∙ regrouped old (separator place) (spell t) (spell_more end rest)
    ∙ ap (λ k. old ++ k) (sym (ap (spell_from end place) l ∙ from_more (nat_eq place 0) end t rest))
  where
    regrouped : (a b c d : List TokenKind) → ((a ++ b) ++ c) ++ d ≡ a ++ (b ++ (c ++ d))
    regrouped a b c d = simp append_assoc

pub listed_none : (end : TokenKind) (place : ℕ) (left : Trees) (old : List TokenKind) → left ≡ NoTrees → old ++ end ∷ [] ≡ old ++ spell_from end place left
listed_none end place left old l = ap (λ k. old ++ k) (sym (ap (spell_from end place) l ∙ from_none (nat_eq place 0) end))
