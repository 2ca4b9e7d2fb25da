-- A text's tokens from its own names on, and from all names on.
use Rattle.std.proofs.Common.{◌≡◌, ℕ, ◌≤◌, Bool, true, false, cond, List, [], ◌∷◌, ◌++◌, length, refl, sym, ap, ◌∙◌, subst, append_assoc, append-nil, arith}
use Rattle.std.specs.Prelude.{encode_utf8_all, bytes_eq, get_or}
use Rattle.jn_base.specs.declared.number.FileNo.{FileNo}
use Rattle.jn_trees.specs.Names.{with_name, number_in, Extends}
use Rattle.jn_trees.specs.declared.token.Token.{Token}
use Rattle.jn_trees.specs.declared.token.TokenKind.{TokenKind}
use Rattle.jn_trees.specs.declared.token.TokenKind.TheVariants.{Id, Str}
use Rattle.jn_lexer.specs.Lexemes.{Lexeme, Word, Quoted, Numeral, Fixed, IsSpelling}
use Rattle.jn_lexer.specs.Spelling.{spelling}
use Rattle.jn_lexer.specs.Pieces.{Piece, Behind}
use Rattle.jn_lexer.specs.Lexed.{names_with, kind_of, names_after, tokens_of, Lexed}
use Rattle.jn_lexer.proofs.OneList.{one_list}
use Rattle.jn_base.specs.declared.number.NameNo.{NameNo}
use Rattle.jn_renumber.specs.Merged.{merged, merged_numbers}
use Rattle.jn_renumber.specs.Tokens.{kind_by, tokens_by}
use Rattle.jn_renumber.specs.Renumbered.{renumbered_file}
use Rattle.jn_renumber.proofs.Entries.{has, front, added, stays, numbered, entry_is, merged_with}
use Rattle.jn_renumber.proofs.TreesOfTokens.{placed_renumbered}
use Rattle.jn_renumber.proofs.SameRow.{same_row}
use Rattle.jn_base.specs.declared.place.Row.{Row}
use Rattle.jn_trees.specs.Pieces.{IsSyntaxRow}
use Rattle.jn_places.specs.Placed.{PlacedFile}
use Rattle.jn_places.specs.Places.{IsPlacedFile}

-- the names grow at their end
one_extends : (own : List (List ℕ)) (l : Lexeme) → Extends own (names_with own l)
one_extends own (Word text) = grown (has own (encode_utf8_all text))
  where
    grown : (b : Bool) → Extends own (cond b own (own ++ encode_utf8_all text ∷ []))
    grown true = ([], sym (append-nil own))
    grown false = (encode_utf8_all text ∷ [], refl)
one_extends own (Quoted text) = grown (has own (encode_utf8_all text))
  where
    grown : (b : Bool) → Extends own (cond b own (own ++ encode_utf8_all text ∷ []))
    grown true = ([], sym (append-nil own))
    grown false = (encode_utf8_all text ∷ [], refl)
one_extends own (Numeral value) = ([], sym (append-nil own))
one_extends own (Fixed kind) = ([], sym (append-nil own))

all_extend : (own : List (List ℕ)) (ps : List Piece) → Extends own (names_after own ps)
all_extend own [] = ([], sym (append-nil own))
all_extend own (p ∷ ps) =
    let one = one_extends own p.lexeme in
    let more = all_extend (names_with own p.lexeme) ps in
    (one.0 ++ more.0, more.1 ∙ ap (λ r. r ++ more.0) one.1 ∙ append_assoc own one.0 more.0)

-- a token with one spelling has no name
kind_fixed : (numbers : List NameNo) (kind : TokenKind) → 1 ≤ length (spelling kind) → kind_by numbers kind ≡ kind
kind_fixed numbers (Id name) h = absurd (omega (arith, h))
kind_fixed numbers (Str name) h = absurd (omega (arith, h))
kind_fixed numbers kind h = refl

one_kind : (all own more : List (List ℕ)) (l : Lexeme) (word : List ℕ) → IsSpelling l word → kind_of (merged all own) l ≡ kind_by (merged_numbers all (names_with own l ++ more)) (kind_of own l)
one_kind all own more (Word text) word s = ap Id (sym (entry_is all own more (encode_utf8_all text) _))
one_kind all own more (Quoted text) word s = ap Str (sym (entry_is all own more (encode_utf8_all text) _))
one_kind all own more (Numeral value) word s = refl
one_kind all own more (Fixed kind) word s = sym (kind_fixed _ kind (subst (λ (w : List ℕ). 1 ≤ length w) s.0 s.1))

names_one : (all own : List (List ℕ)) (l : Lexeme) → names_with (merged all own) l ≡ merged all (names_with own l)
names_one all own (Word text) = sym (merged_with all own (encode_utf8_all text))
names_one all own (Quoted text) = sym (merged_with all own (encode_utf8_all text))
names_one all own (Numeral value) = refl
names_one all own (Fixed kind) = refl

names_same : (all own : List (List ℕ)) (ps : List Piece) → names_after (merged all own) ps ≡ merged all (names_after own ps)
names_same all own [] = refl
names_same all own (p ∷ ps) = ap (λ n. names_after n ps) (names_one all own p.lexeme) ∙ names_same all (names_with own p.lexeme) ps

two : {A B C : Type 0} (f : A → B → C) {a x : A} {b y : B} → a ≡ x → b ≡ y → f a b ≡ f x y
two f p q = cc

tokens_same : (file : FileNo) (all own : List (List ℕ)) (ps : List Piece) (text rest : List ℕ) (at place : ℕ) → Behind text at ps rest place → tokens_of file (merged all own) ps ≡ tokens_by (merged_numbers all (names_after own ps)) (tokens_of file own ps)
tokens_same file all own [] text rest at place b = refl
tokens_same file all own (p ∷ ps) text rest at place b =
    let more = all_extend (names_with own p.lexeme) ps in
    let kind : kind_of (merged all own) p.lexeme ≡ kind_by (merged_numbers all (names_after (names_with own p.lexeme) ps)) (kind_of own p.lexeme) =
    one_kind all own more.0 p.lexeme b.1.word b.1.spelled ∙ ap (λ n. kind_by (merged_numbers all n) (kind_of own p.lexeme)) (sym more.1) in
    two (λ k (r : List Token). (record { kind = k; span = record { file = file; from = p.from; to = p.to } }) ∷ r) kind
    (ap (λ n. tokens_of file n ps) (names_one all own p.lexeme) ∙ tokens_same file all (names_with own p.lexeme) ps b.0 rest p.to place b.2)

pub lexed : (file : FileNo) (text : List ℕ) (known all own : List (List ℕ)) (tokens : List Token) → merged all known ≡ all → Lexed file text known tokens own → Lexed file text all (tokens_by (merged_numbers all own) tokens) (merged all own)
lexed file text known all own tokens k l = record {
  utf8 = l.utf8;
  plain = l.plain;
  pieces = l.pieces;
  are = l.are;
  tokens_are =
      two (λ o ts. tokens_by (merged_numbers all o) ts) l.names_are l.tokens_are
      ∙ sym (tokens_same file all known l.pieces _ _ _ _ l.are.behind)
      ∙ ap (λ n. tokens_of file n l.pieces) k;
  names_are = ap (merged all) l.names_are ∙ sym (names_same all known l.pieces) ∙ ap (λ n. names_after n l.pieces) k;
}

pub only_lexed : (file : FileNo) (text : List ℕ) (known all own new : List (List ℕ)) (tokens others : List Token) → merged all known ≡ all → Lexed file text known tokens own → Lexed file text all others new → (others ≡ tokens_by (merged_numbers all own) tokens) × (new ≡ merged all own)
only_lexed file text known all own new tokens others k l o = one_list file text all others (tokens_by (merged_numbers all own) tokens) new (merged all own) o (lexed file text known all own tokens k l)

-- the number of a text that is among all names, where all are merged into the own ones, is its own number
own_number : (own mine names all more further : List (List ℕ)) (text : List ℕ) (d : NameNo) → own ≡ with_name mine text ++ more → all ≡ with_name names text ++ further → get_or (merged_numbers own all) (number_in names text) d ≡ numbered (number_in mine text)
own_number own mine names all more further text d o a =
    let first = front (bytes_eq text) (with_name mine text) more (added mine text).0 in
    let there : has own text ≡ true = subst (λ l. has l text ≡ true) (sym o) first.0 in
    let number : number_in own text ≡ number_in mine text = ap (λ l. number_in l text) o ∙ first.1 ∙ (added mine text).1 in
    ap (λ l. get_or (merged_numbers own l) (number_in names text) d) a
    ∙ entry_is own names further text d
    ∙ ap numbered ((stays own names text there).1 ∙ number)

back_kind : (own mine names all more further : List (List ℕ)) (l : Lexeme) (word : List ℕ) → IsSpelling l word → own ≡ names_with mine l ++ more → all ≡ names_with names l ++ further → kind_by (merged_numbers own all) (kind_of names l) ≡ kind_of mine l
back_kind own mine names all more further (Word text) word s o a = ap Id (own_number own mine names all more further (encode_utf8_all text) _ o a)
back_kind own mine names all more further (Quoted text) word s o a = ap Str (own_number own mine names all more further (encode_utf8_all text) _ o a)
back_kind own mine names all more further (Numeral value) word s o a = refl
back_kind own mine names all more further (Fixed kind) word s o a = kind_fixed _ kind (subst (λ (w : List ℕ). 1 ≤ length w) s.0 s.1)

-- the tokens from these names on, renumbered by all names as they are merged into the own ones, are those from `mine` on
back_tokens : (file : FileNo) (own all mine names : List (List ℕ)) (ps : List Piece) (text rest : List ℕ) (at place : ℕ) → Behind text at ps rest place → own ≡ names_after mine ps → all ≡ names_after names ps → tokens_by (merged_numbers own all) (tokens_of file names ps) ≡ tokens_of file mine ps
back_tokens file own all mine names [] text rest at place b o a = refl
back_tokens file own all mine names (p ∷ ps) text rest at place b o a =
    let more = all_extend (names_with mine p.lexeme) ps in
    let further = all_extend (names_with names p.lexeme) ps in
    two (λ k (r : List Token). (record { kind = k; span = record { file = file; from = p.from; to = p.to } }) ∷ r)
    (back_kind own mine names all more.0 further.0 p.lexeme b.1.word b.1.spelled (o ∙ more.1) (a ∙ further.1))
    (back_tokens file own all (names_with mine p.lexeme) (names_with names p.lexeme) ps b.0 rest p.to place b.2 o a)

-- the new numbers can be undone
pub undone : (file : FileNo) (text : List ℕ) (known all own : List (List ℕ)) (tokens : List Token) → merged all known ≡ all → Lexed file text known tokens own → tokens_by (merged_numbers own (merged all own)) (tokens_by (merged_numbers all own) tokens) ≡ tokens
unfolding lexed
undone file text known all own tokens k l =
    let new = lexed file text known all own tokens k l in
    let there : tokens_by (merged_numbers all own) tokens ≡ tokens_of file all l.pieces = new.tokens_are in
    let names : merged all own ≡ names_after all l.pieces = new.names_are in
    ap (λ ts. tokens_by (merged_numbers own (merged all own)) ts) there
    ∙ back_tokens file own (merged all own) known all l.pieces _ _ _ _ l.are.behind l.names_are names
    ∙ sym l.tokens_are

pub parsed : (file : FileNo) (text : List ℕ) (known all own : List (List ℕ)) (tokens : List Token) (tree : PlacedFile) → merged all known ≡ all → Lexed file text known tokens own → IsPlacedFile tokens tree → Lexed file text all (tokens_by (merged_numbers all own) tokens) (merged all own) × IsPlacedFile (tokens_by (merged_numbers all own) tokens) (renumbered_file (merged_numbers all own) tree)
parsed file text known all own tokens tree k l is = (lexed file text known all own tokens k l, placed_renumbered (merged_numbers all own) tokens tree is)

pub same_syntax_row : (file : FileNo) (text : List ℕ) (known all own : List (List ℕ)) (tokens : List Token) (end : ℕ) (row : Row) → merged all known ≡ all → Lexed file text known tokens own → IsSyntaxRow file end tokens row → IsSyntaxRow file end (tokens_by (merged_numbers all own) tokens) row
same_syntax_row file text known all own tokens end row k l is = same_row (merged_numbers all own) (merged_numbers own (merged all own)) file end tokens row (undone file text known all own tokens k l) is
