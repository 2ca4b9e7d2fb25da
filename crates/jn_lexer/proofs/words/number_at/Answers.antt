use Rattle.std.proofs.Common.{◌≡◌, ◌∙◌, sym}
use Rattle.std.proofs.lemmas.List.{take_rest}
use Rattle.std.specs.Prelude.{drop}
use Rattle.jn_lexer.specs.Scan.{begins_dot}
use Rattle.jn_lexer.proofs.Standing.{number_token, number_free, dotted_fault, numeral_fault}
use Rattle.jn_lexer.proofs.words.number_at.Goals as goal

pub returns-then-begins_dot : goal.returns-then-begins_dot
returns-then-begins_dot c =
    let d : c.begins_dot.result ≡ begins_dot (drop c.run_len-count.result c.args.text.now) = rw take_rest at c.begins_dot.ensures in
    dotted_fault c.args.text.now c.run_len-count.result c.run_len-count.ensures.value c.requires (sym d ∙ c.if-begins_dot.true)

pub returns-in-Some : goal.returns-in-Some
returns-in-Some c =
    let d : c.begins_dot.result ≡ begins_dot (drop c.run_len-count.result c.args.text.now) = rw take_rest at c.begins_dot.ensures in
    number_token c.args.text.now c.run_len-count.result c.run_len-count.ensures.value c.requires c.in-Some.value c.in-Some.ensures (number_free c.args.text.now c.run_len-count.result c.run_len-count.ensures.value c.requires (sym d ∙ c.if-begins_dot.false))

pub returns-in-None : goal.returns-in-None
returns-in-None c = numeral_fault c.args.text.now c.run_len-count.result c.run_len-count.ensures.value c.requires c.in-None.ensures
