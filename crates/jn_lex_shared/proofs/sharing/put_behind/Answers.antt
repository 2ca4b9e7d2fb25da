use Rattle.std.proofs.Common.{◌+◌, ◌≤◌, ◌∙◌, length, take, drop, arith}
use Rattle.std.proofs.lemmas.List.{length-take-le, length-drop}
use Rattle.jn_known.specs.Known.{known_names}
use Rattle.jn_lexer.proofs.Few.{few_names}
use Rattle.jn_lex_shared.proofs.Parts.{if_put}
use Rattle.jn_lex_shared.proofs.sharing.put_behind.Goals as goal

pub merge-requires : goal.merge-requires
merge-requires c =
    let front : length c.args.names.now ≤ 30 + length (take c.args.cut c.args.text.now) = few_names c.args.file _ known_names _ _ c.requires.front in
    let back : length c.args.own.now ≤ 30 + length (drop c.args.cut c.args.text.now) = few_names c.args.file _ known_names _ _ c.requires.back.lexed in
    let taken = length-take-le c.args.cut c.args.text.now c.requires.cut.0 in
    let left = length-drop c.args.cut c.args.text.now in
    let few = c.requires.bytes in
    omega (arith, front, back, taken, left, few)

pub returns : goal.returns
returns c =
    let numbers = c.as_slice.ensures.value ∙ c.in_ok-numbers.ensures.numbers in
    if_put c.args.file c.args.text.now c.args.cut c.args.names.now c.args.own.now c.merge.new.names c.args.tokens.now.items c.args.others.now.items c.put_renumbered.new.tokens.items c.as_slice.result.now numbers c.in_ok-numbers.ensures.names c.requires.cut c.requires.front c.requires.back c.put_renumbered.result c.put_renumbered.ensures.ok
