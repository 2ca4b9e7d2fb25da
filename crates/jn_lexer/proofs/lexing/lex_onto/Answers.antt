use Rattle.std.proofs.Common.{◌≡◌, ◌∙◌, ap, subst, arith, inr}
use Rattle.std.specs.Prelude.{chars}
use Rattle.jn_lexer.specs.Characters.{width}
use Rattle.jn_lexer.specs.Faults.{HasNoUnicodeEscape, IsTokenFault, LexicalFault}
use Rattle.jn_lexer.specs.Pieces.{ArePieces}
use Rattle.jn_lexer.specs.Moved.{LexedOnto, IsLexingOnto}
use Rattle.jn_lexer.proofs.Widths.{width-chars}
use Rattle.jn_lexer.proofs.Reading.{if_refused}
use Rattle.jn_lexer.proofs.Onto.{on_ok}
use Rattle.jn_lexer.proofs.lexing.lex_onto.Goals as goal

pub row_at-requires-clause-fits : goal.row_at-requires-clause-fits
row_at-requires-clause-fits c =
    let h = c.in-Ok.ensures.cases in
    let e : c.deref-in-Some.result.now ≡ chars c.args.text.now = c.deref-in-Some.ensures.value ∙ c.in-Ok-characters.ensures ∙ ap chars h.0 in
    let w = ap width e ∙ width-chars c.args.text.now h.1 in
    let f = c.requires.spans in
    omega (arith, w, f)

pub tokens_onto-requires-clause-same : goal.tokens_onto-requires-clause-same
tokens_onto-requires-clause-same c = c.deref-2.ensures.value ∙ c.in-Ok-characters.ensures

pub returns-clause-ok : goal.returns-clause-ok
returns-clause-ok c =
    let h = c.in-Ok.ensures.cases in
    let whole : c.deref.result.now ≡ chars c.args.text.now = c.deref.ensures.value ∙ c.in-Ok-characters.ensures ∙ ap chars h.0 in
    let e : c.deref-2.result.now ≡ chars c.args.text.now = c.deref-2.ensures.value ∙ c.in-Ok-characters.ensures ∙ ap chars h.0 in
    let plain : HasNoUnicodeEscape (chars c.args.text.now) = subst HasNoUnicodeEscape whole c.in_default.ensures in
    on_ok (IsLexingOnto c.args.file c.deref-2.result.now c.args.at c.args.names.now c.args.tokens.now.items c.tokens_onto.new.names c.tokens_onto.new.tokens.items) (LexedOnto c.args.file c.args.text.now c.args.at c.args.names.now c.args.tokens.now.items c.tokens_onto.new.names c.tokens_onto.new.tokens.items)
    (λ o. record { own = o.own; put = o.put; lexed = record { utf8 = h.1; plain = plain; pieces = o.lexing.pieces; are = subst (λ xs. ArePieces xs o.lexing.pieces) e o.lexing.are; tokens_are = o.lexing.tokens_are; names_are = o.lexing.names_are } })
    c.tokens_onto.result c.tokens_onto.ensures.ok

pub returns-clause-refused : goal.returns-clause-refused
returns-clause-refused c =
    let h = c.in-Ok.ensures.cases in
    let whole : c.deref.result.now ≡ chars c.args.text.now = c.deref.ensures.value ∙ c.in-Ok-characters.ensures ∙ ap chars h.0 in
    let e : c.deref-2.result.now ≡ chars c.args.text.now = c.deref-2.ensures.value ∙ c.in-Ok-characters.ensures ∙ ap chars h.0 in
    let plain : HasNoUnicodeEscape (chars c.args.text.now) = subst HasNoUnicodeEscape whole c.in_default.ensures in
    if_refused (λ row. IsTokenFault c.args.file c.deref-2.result.now row) (λ row. LexicalFault c.args.file c.args.text.now row)
    (λ row f. inr (inr (record { utf8 = h.1; plain = plain; fault = subst (λ xs. IsTokenFault c.args.file xs row) e f })))
    c.tokens_onto.result c.tokens_onto.ensures.refused
