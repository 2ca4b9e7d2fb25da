-- No token has a line feed in it.
use Rattle.std.proofs.Common.{◌≡◌, ℕ, Bool, true, false, not, List, [], ◌∷◌, ◌++◌, refl, sym, ap, ◌∙◌, subst, lit<}
use Rattle.std.specs.Prelude.{nat_eq}
use Rattle.std.specs.List.{list_all}
use Rattle.std.proofs.lemmas.Bool.{eqb-true, and_parts, false≢true}
use Rattle.jn_trees.specs.declared.token.TokenKind.{TokenKind}
use Rattle.jn_trees.specs.declared.token.TokenKind.TheVariants.{Id}
use Rattle.jn_lexer.specs.Characters.{is_part, is_line_end, is_in_line, AllAre}
use Rattle.jn_lexer.specs.Spelling.{spelling}
use Rattle.jn_lexer.specs.Lexemes.{Lexeme, Word, Quoted, Numeral, Fixed, Part, Plain, Escape, IsSpelling, inside, AreParts}
use Rattle.jn_lexer.proofs.Classes.{part_ascii}
use Rattle.jn_lexer.proofs.Quotes.{plain_is}
use Rattle.jn_lexer.proofs.Standing.{start_parts, digit_parts, first}

abbrev pub not_feed : ℕ → Bool
not_feed c = not (nat_eq c 10)

-- what isn't true of the line feed
no_feed_where : (p : ℕ → Bool) (c : ℕ) → p 10 ≡ false → p c ≡ true → not_feed c ≡ true
no_feed_where p c f h = here (nat_eq c 10) refl
  where
    here : (b : Bool) → nat_eq c 10 ≡ b → not b ≡ true
    here true e = absurd (false≢true (sym f ∙ ap p (sym (eqb-true c 10 e)) ∙ h))
    here false e = refl

pub all_no_feed : (p : ℕ → Bool) (cs : List ℕ) → p 10 ≡ false → AllAre p cs → AllAre not_feed cs
all_no_feed p [] f h = tt
all_no_feed p (c ∷ cs) f h = (no_feed_where p c f h.0, all_no_feed p cs f h.1)

pub in_line_10 : is_in_line 10 ≡ false
unfolding is_in_line is_line_end
in_line_10 = refl

line_end_10 : is_line_end 10 ≡ true
unfolding is_line_end
line_end_10 = refl

part_10 : is_part 10 ≡ false
part_10 = part_ascii 10 (lit< tt)

no_line_end : (c : ℕ) → is_line_end c ≡ false → not_feed c ≡ true
no_line_end c h = no_feed_where (λ x. not (is_line_end x)) c (ap not line_end_10) (ap not h)

inside_no_feed : (ps : List Part) → AreParts ps → AllAre not_feed (inside ps ++ 34 ∷ [])
inside_no_feed [] h = (refl, tt)
inside_no_feed (Plain c ∷ ps) h = (no_line_end c (plain_is c h.0).2, inside_no_feed ps h.1)
inside_no_feed (Escape e ∷ ps) h = (refl, (no_line_end e h.0, inside_no_feed ps h.1))

kind_no_feed : (kind : TokenKind) → list_all not_feed (spelling kind) ≡ true
kind_no_feed (Id name) = refl
kind_no_feed _ = refl

all_of : (p : ℕ → Bool) (cs : List ℕ) → list_all p cs ≡ true → AllAre p cs
all_of p [] h = tt
all_of p (c ∷ cs) h = let q = and_parts (p c) (list_all p cs) h in (q.0, all_of p cs q.1)

pub no_feed : (l : Lexeme) (word : List ℕ) → IsSpelling l word → AllAre not_feed word
no_feed (Word text) [] h = tt
no_feed (Word text) (w ∷ ws) h = all_no_feed is_part (w ∷ ws) part_10 (start_parts (Word text) w ws h h.1.0)
no_feed (Quoted value) word h = subst (AllAre not_feed) (sym h.is) (refl, inside_no_feed h.parts h.good)
no_feed (Numeral value) [] h = tt
no_feed (Numeral value) (w ∷ ws) h = all_no_feed is_part (w ∷ ws) part_10 (digit_parts (Numeral value) w ws h (first (Numeral value) w ws h))
no_feed (Fixed kind) word h = subst (AllAre not_feed) (sym h.0) (all_of not_feed (spelling kind) (kind_no_feed kind))
