use Rattle.std.proofs.Common.{◌<◌, length, drop, arith}
use Rattle.jn_cert_form.proofs.Choosing.{whole_most}
use Rattle.jn_cert_form.proofs.choices.next_choice.Goals as goal

pub returns-in-Some-clause-most : goal.returns-in-Some-clause-most
returns-in-Some-clause-most c = λ w j h k.
    let choices = c.args.choices.now in
    let inside = c.requires.inside in
    let low = c.in-Some.ensures.1 in
    let mine : c.in-Some.place < length choices = omega (arith, low, inside) in
    let other : j < length choices = omega (arith, k, inside) in
    whole_most (drop c.args.at c.args.cert.now) choices c.args.width c.in-Some.place j c.requires.wide mine other c.in-Some.ensures.2
