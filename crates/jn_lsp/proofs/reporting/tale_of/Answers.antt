use Rattle.std.proofs.Common.{sym, subst}
use Rattle.jn_lsp.proofs.Finding.{IsByRules, IsRefused, told_checked, told_refused}
use Rattle.jn_lsp.proofs.reporting.tale_of.Goals as goal

pub returns-in_ok-told-in-Refused : goal.returns-in_ok-told-in-Refused
returns-in_ok-told-in-Refused c =
    let checked = c.args.checked.now in
    told_refused c.args.infer c.args.encoding c.args.last.now c.args.files.now checked.places.items c.as_slice-rows.result.now checked.verdict c.args.notes.now c.in_ok-told-in-Refused.told.items c.requires.noted (subst IsRefused (sym c.in-Refused.is) tt) c.as_slice-rows.ensures.value c.in_ok-told-in-Refused.ensures

pub returns-in_ok-told-in-Rejected : goal.returns-in_ok-told-in-Rejected
returns-in_ok-told-in-Rejected c =
    let checked = c.args.checked.now in
    told_checked c.args.infer c.args.encoding c.args.last.now c.args.files.now checked.places.items c.as_slice-rows.result.now checked.verdict c.args.notes.now c.in_ok-told-in-Rejected.told.items c.requires.noted (subst IsByRules (sym c.in-Rejected.is) tt) c.as_slice-rows.ensures.value c.in_ok-told-in-Rejected.ensures

pub returns-in_ok-told-in-Accepted : goal.returns-in_ok-told-in-Accepted
returns-in_ok-told-in-Accepted c =
    let checked = c.args.checked.now in
    told_checked c.args.infer c.args.encoding c.args.last.now c.args.files.now checked.places.items c.as_slice-rows.result.now checked.verdict c.args.notes.now c.in_ok-told-in-Accepted.told.items c.requires.noted (subst IsByRules (sym c.in-Accepted.is) tt) c.as_slice-rows.ensures.value c.in_ok-told-in-Accepted.ensures
