use Rattle.std.proofs.Common.{◌≡◌, ◌∙◌, ap, sym, true}
use Rattle.std.specs.Char.{is_ascii_digit}
use Rattle.std.specs.List.{list_all}
use Rattle.jn_cli.proofs.Numbers.{read}
use Rattle.jn_cli.proofs.number.number_of.Goals as goal

pub returns : goal.returns
returns c =
    let digits : list_all is_ascii_digit c.args.text.now ≡ true = ap (list_all is_ascii_digit) (sym c.as_bytes.ensures.value) ∙ sym c.are_digits.ensures ∙ c.if-not-are_digits.false in
    let low = c.if-text-lt1.false in
    let high = c.if-text-gt10.false in
    c.ok.ensures.value ∙ read c.args.text.now c.parse.result c.parse.ensures.value.0 digits low high
