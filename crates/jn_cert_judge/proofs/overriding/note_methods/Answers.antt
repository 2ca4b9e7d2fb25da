use Rattle.std.proofs.Common.{◌≡◌, ◌+◌, ◌∷◌, drop, sym, ap, ◌∙◌, arith}
use Rattle.std.proofs.lemmas.List.{drop_more}
use Rattle.jn_cert_judge.proofs.NotedMethods.{all_noted, noted_more}
use Rattle.jn_cert_judge.proofs.overriding.note_methods.Goals as goal

pub loop-at-preserved : goal.loop-at-preserved
loop-at-preserved c =
    let i = c.loop-at.at in
    let list = c.args.list.now in
    let o = c.index-list-at.result in
    let d : drop i list ≡ o ∷ drop (i + 1) list = drop_more list i o c.loop-at-test.true ∙ ap (λ u. u ∷ drop (i + 1) list) (sym c.index-list-at.is) in
    noted_more c.args.program.now c.args.sig.now list i o c.loop-at.noted c.in_ok-noted.noted _ d c.in_ok-noted.ensures c.loop-at.invariant

pub returns : goal.returns
returns c = all_noted c.args.program.now c.args.sig.now c.args.list.now c.loop-at.at c.args.least c.loop-at.noted (let past = c.loop-at-test.false in omega (arith, past)) c.requires.overriders c.loop-at.invariant
