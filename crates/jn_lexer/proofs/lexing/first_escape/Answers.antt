use Rattle.std.proofs.Common.{◌≡◌, ◌∙◌, ap, sym, false, subst, [], ◌∷◌}
use Rattle.std.specs.List.{list_any}
use Rattle.jn_lexer.specs.Faults.{is_backslash, HasNoUnicodeEscape}
use Rattle.jn_lexer.proofs.Escaping.{no_escape, an_escape, no_backslash, no_pair}
use Rattle.std.proofs.lemmas.Bool.{false≢true}
use Rattle.std.proofs.lemmas.Str.Pattern.{contains_text}
use Rattle.jn_lexer.proofs.lexing.first_escape.Goals as goal

pub returns-then-not-contains : goal.returns-then-not-contains
returns-then-not-contains c =
    let none : list_any is_backslash c.args.decoded.now ≡ false = sym (c.contains.ensures.value ∙ ap (list_any is_backslash) c.as_bytes.ensures.value) ∙ c.if-not-contains.true in
    subst HasNoUnicodeEscape (sym c.requires) (no_backslash c.args.decoded.now c.utf8.decoded none)

pub returns-then-not-contains-2 : goal.returns-then-not-contains-2
returns-then-not-contains-2 c =
    let has = contains_text c.contains-2.result (92 ∷ 117 ∷ []) c.args.decoded.now c.contains-2.ensures.cases in
    subst HasNoUnicodeEscape (sym c.requires) (no_pair c.args.decoded.now c.utf8.decoded (λ s. absurd (false≢true (sym c.if-not-contains-2.true ∙ has.1 s))))

pub returns-in-Some : goal.returns-in-Some
returns-in-Some c = an_escape c.args.text.now c.in-Some.letter (sym c.escape_at.ensures.value ∙ c.in-Some.is)

pub returns-in-None : goal.returns-in-None
returns-in-None c = no_escape c.args.text.now (sym c.escape_at.ensures.value ∙ c.in-None.is)
