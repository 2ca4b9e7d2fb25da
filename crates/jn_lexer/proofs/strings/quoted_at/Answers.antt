use Rattle.std.proofs.Common.{◌≡◌, ◌∙◌, sym}
use Rattle.std.proofs.lemmas.List.{take_rest}
use Rattle.std.specs.Prelude.{false, drop, take}
use Rattle.jn_lexer.specs.Scan.{string_len, bad_letter}
use Rattle.jn_lexer.proofs.Quotes.{open_fault, escape_fault, quoted_token}
use Rattle.jn_lexer.proofs.strings.quoted_at.Goals as goal

pub returns-in-None : goal.returns-in-None
returns-in-None c = open_fault c.args.text.now c.requires.quote (sym (rw take_rest at c.string_len.ensures.value) ∙ c.in-None.is)

pub returns-in-Some-bad_letter : goal.returns-in-Some-bad_letter
returns-in-Some-bad_letter c =
    let s : c.string_len.result ≡ string_len false (drop 1 c.args.text.now) = rw take_rest at c.string_len.ensures.value in
    let b : c.bad_letter.result ≡ bad_letter false (take c.in-Some.count (drop 1 c.args.text.now)) = rw take_rest at c.bad_letter.ensures.value in
    escape_fault c.args.text.now c.requires.quote c.in-Some.count c.in-Some-bad_letter.before (sym s ∙ c.in-Some.is) (sym b ∙ c.in-Some-bad_letter.is)

pub returns-in-None-bad_letter : goal.returns-in-None-bad_letter
returns-in-None-bad_letter c =
    let s : c.string_len.result ≡ string_len false (drop 1 c.args.text.now) = rw take_rest at c.string_len.ensures.value in
    let b : c.bad_letter.result ≡ bad_letter false (take c.in-Some.count (drop 1 c.args.text.now)) = rw take_rest at c.bad_letter.ensures.value in
    quoted_token c.args.text.now c.requires.quote c.in-Some.count (sym s ∙ c.in-Some.is) (sym b ∙ c.in-None-bad_letter.is)
