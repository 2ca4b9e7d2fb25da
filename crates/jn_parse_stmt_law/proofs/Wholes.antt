-- What an expression reader gives, from its two facts; lists of expressions.
use Rattle.std.proofs.Common.{◌≡◌, ℕ, zero, suc, ◌<◌, ◌≤◌, List, [], ◌∷◌, ◌++◌, length, refl, ap, ◌∙◌, arith, append_assoc, length-append, Some, None, true}
use Rattle.jn_trees.specs.declared.token.TokenKind.{TokenKind}
use Rattle.jn_trees.specs.declared.token.TokenKind.TheVariants.{RightParen, Semicolon, Comma}
use Rattle.jn_trees.specs.Trees.{Tree, Trees, NoTrees, MoreTrees}
use Rattle.jn_trees.specs.Spelling.{spell, spell_list, spell_more}
use Rattle.jn_trees.specs.WellFormed.{Good, AllGood, nesting, nesting_all, assignment_rank}
use Rattle.jn_trees.specs.Longest.{Try}
use Rattle.jn_parse_expr_law.specs.Follow.{reach_of, Reads}
use Rattle.jn_parse_expr_law.specs.Reader.{TryAll, bind_all, bind_items, add_first, items_behind, items_from, all_items, close_arguments, arguments_in}
use Rattle.jn_parse_expr_law.proofs.Sound.{Sound, SoundItems, items_sound, SoundAll}
use Rattle.jn_parse_stmt_law.specs.Parts.{then_read, ended, read_initial}
use Rattle.jn_parse_stmt_law.proofs.Begins.{begins, Quiet, begins_tree, arguments_there, initial_there}

-- `whole` reads the longest expression of nesting at most d
pub record Whole (d : ℕ) (whole : List TokenKind → Try) : Type 0 where
  pub sound : (ts : List TokenKind) → Sound assignment_rank d ts (whole ts)
  pub reads : (t : Tree) (rest : List TokenKind) → Good t → nesting t ≤ d → Reads t rest (whole (spell t ++ rest))

exact_of : (t : Tree) (rest : List TokenKind) (o : Try) → Reads t rest o → assignment_rank < reach_of rest → o ≡ Some (t, rest)
exact_of t rest None h k = absurd h
exact_of t rest (Some r) h k = ap (λ x. Some x) (h.1 k)

pub exact_tree : (d : ℕ) (whole : List TokenKind → Try) → Whole d whole → (t : Tree) (rest : List TokenKind) → Good t → nesting t ≤ d → assignment_rank < reach_of rest → whole (spell t ++ rest) ≡ Some (t, rest)
exact_tree d whole w t rest g m k = exact_of t rest (whole (spell t ++ rest)) (w.reads t rest g m) k

-- lists, by what closes them
pub record Closes (end : TokenKind) : Type 0 where
  pub far : (ts : List TokenKind) → assignment_rank < reach_of (end ∷ ts)
  pub stops : (more : List TokenKind → TryAll) (t : Tree) (ts : List TokenKind) → items_behind more t (end ∷ ts) ≡ Some (MoreTrees t NoTrees, end ∷ ts)

closes_paren : Closes RightParen
closes_paren = record { far = λ ts. omega arith; stops = λ more t ts. refl }

closes_semicolon : Closes Semicolon
closes_semicolon = record { far = λ ts. omega arith; stops = λ more t ts. refl }

abbrev count : Trees → ℕ
count NoTrees = 0
count (MoreTrees t ts) = suc (count ts)

some_tokens : (end : TokenKind) (es : Trees) → count es < length (spell_more end es)
some_tokens end NoTrees = omega arith
some_tokens end (MoreTrees t es) = omega (arith, some_tokens end es, length-append (spell t) (spell_more end es))

far_more : (end : TokenKind) → Closes end → (es : Trees) (rest : List TokenKind) → assignment_rank < reach_of (spell_more end es ++ rest)
far_more end c NoTrees rest = c.far rest
far_more end c (MoreTrees t es) rest = omega arith

from_exact : (d : ℕ) (whole : List TokenKind → Try) → Whole d whole → (end : TokenKind) → Closes end → (t : Tree) (es : Trees) (n : ℕ) (rest : List TokenKind) → AllGood (MoreTrees t es) → nesting_all (MoreTrees t es) ≤ d → count es < n
    → items_from whole n (spell t ++ (spell_more end es ++ rest)) ≡ Some (MoreTrees t es, end ∷ rest)
from_exact d whole w end c t es zero rest g m lt = absurd (omega (arith, lt))
from_exact d whole w end c t NoTrees (suc n) rest g m lt =
    ap (λ o. bind_all o (items_behind (items_from whole n))) (exact_tree d whole w t (end ∷ rest) g.0 (omega (arith, m)) (c.far rest)) ∙ c.stops (items_from whole n) t rest
from_exact d whole w end c t (MoreTrees u es) (suc n) rest g m lt =
    let tail = spell_more end (MoreTrees u es) ++ rest in
    ap (λ o. bind_all o (items_behind (items_from whole n))) (exact_tree d whole w t tail g.0 (omega (arith, m)) (omega arith))
    ∙ ap (λ x. add_first t (items_from whole n x)) (append_assoc (spell u) (spell_more end es) rest)
    ∙ ap (λ o. add_first t o) (from_exact d whole w end c u es n rest g.1 (omega (arith, m)) (omega (arith, lt)))

all_exact : (d : ℕ) (whole : List TokenKind → Try) → Whole d whole → (end : TokenKind) → Closes end → (t : Tree) (es : Trees) (rest : List TokenKind) → AllGood (MoreTrees t es) → nesting_all (MoreTrees t es) ≤ d
    → all_items whole (spell t ++ (spell_more end es ++ rest)) ≡ Some (MoreTrees t es, end ∷ rest)
unfolding all_items
all_exact d whole w end c t es rest g m =
    let ts = spell t ++ (spell_more end es ++ rest) in
    let long : count es < suc (length ts) = omega (arith, some_tokens end es, length-append (spell t) (spell_more end es ++ rest), length-append (spell_more end es) rest) in
    from_exact d whole w end c t es (suc (length ts)) rest g m long

pub begins_list : (end : TokenKind) (t : Tree) (es : Trees) (rest : List TokenKind) → Quiet (spell_more end es ++ rest) → begins ((spell t ++ spell_more end es) ++ rest) ≡ true
begins_list end t es rest q = ap begins (append_assoc (spell t) (spell_more end es) rest) ∙ begins_tree t (spell_more end es ++ rest) q

quiet_paren : (es : Trees) (rest : List TokenKind) → Quiet (spell_more RightParen es ++ rest)
quiet_paren NoTrees rest = (refl, refl)
quiet_paren (MoreTrees t es) rest = (refl, refl)

pub quiet_semicolon : (es : Trees) (rest : List TokenKind) → Quiet (spell_more Semicolon es ++ rest)
quiet_semicolon NoTrees rest = (refl, refl)
quiet_semicolon (MoreTrees t es) rest = (refl, refl)

-- arguments through the closing parenthesis
pub arguments_exact : (d : ℕ) (whole : List TokenKind → Try) → Whole d whole → (es : Trees) (rest : List TokenKind) → AllGood es → nesting_all es ≤ d → arguments_in whole (spell_list RightParen es ++ rest) ≡ Some (es, rest)
arguments_exact d whole w NoTrees rest g m = refl
arguments_exact d whole w (MoreTrees t es) rest g m =
    arguments_there whole ((spell t ++ spell_more RightParen es) ++ rest) (begins_list RightParen t es rest (quiet_paren es rest))
    ∙ ap (λ x. bind_items (all_items whole x) close_arguments) (append_assoc (spell t) (spell_more RightParen es) rest)
    ∙ ap (λ o. bind_items o close_arguments) (all_exact d whole w RightParen closes_paren t es rest g m)

-- expressions through the semicolon
pub initial_exact : (d : ℕ) (whole : List TokenKind → Try) → Whole d whole → (es : Trees) (rest : List TokenKind) → AllGood es → nesting_all es ≤ d → read_initial whole (spell_list Semicolon es ++ rest) ≡ Some (es, rest)
initial_exact d whole w NoTrees rest g m = refl
initial_exact d whole w (MoreTrees t es) rest g m =
    initial_there whole ((spell t ++ spell_more Semicolon es) ++ rest) (begins_list Semicolon t es rest (quiet_semicolon es rest))
    ∙ ap (λ x. then_read (all_items whole x) ended) (append_assoc (spell t) (spell_more Semicolon es) rest)
    ∙ ap (λ o. then_read o ended) (all_exact d whole w Semicolon closes_semicolon t es rest g m)

initial_ended : (d : ℕ) (ts : List TokenKind) (es : Trees) (rest : List TokenKind) → SoundItems d ts (Some (es, rest)) → SoundAll Semicolon d ts (ended es rest)
initial_ended d ts es [] s = tt
initial_ended d ts es (Semicolon ∷ rest) s = (first_of_more ts es rest (s.0 Semicolon rest refl), s.1, s.2)
  where
    first_of_more : (ts : List TokenKind) (es : Trees) (rest : List TokenKind) → Comma ∷ ts ≡ spell_more Semicolon es ++ rest → ts ≡ spell_list Semicolon es ++ rest
    first_of_more ts NoTrees rest e = cc
    first_of_more ts (MoreTrees t es) rest e = cc
initial_ended d ts es (_ ∷ rest) s = tt

initial_then : (d : ℕ) (ts : List TokenKind) (o : TryAll) → SoundItems d ts o → SoundAll Semicolon d ts (then_read o ended)
initial_then d ts None s = tt
initial_then d ts (Some r) s = initial_ended d ts r.0 r.1 s

pub initial_sound : (d : ℕ) (whole : List TokenKind → Try) → Whole d whole → (ts : List TokenKind) → SoundAll Semicolon d ts (read_initial whole ts)
initial_sound d whole w (Semicolon ∷ ts) = (refl, tt, omega arith)
initial_sound d whole w ts = initial_then d ts (all_items whole ts) (items_sound d whole w.sound ts)
