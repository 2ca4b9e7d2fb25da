use Rattle.std.proofs.Common.{refl, sym, subst}
use Rattle.jn_recheck.specs.Sessions.{Reports, session_of}
use Rattle.jn_recheck.proofs.Unchanged.{told_again}
use Rattle.jn_recheck.proofs.telling.tell_last.Goals as goal

pub returns : goal.returns
returns c =
    let t = c.in_ok-checked.checked in
    let session = session_of c.args.infer c.args.files.now c.args.last.now c.args.kept.now in
    subst (λ n. Reports session session t.rows.items t.places.items t.verdict t.files n) (sym c.in_ok-checked.ensures.bodies)
    (told_again session c.args.files.now c.args.last.now c.args.report.now t.files t.rows.items t.places.items t.verdict refl refl c.requires.same c.requires.told c.in_ok-checked.ensures.shown c.in_ok-checked.ensures.files)
