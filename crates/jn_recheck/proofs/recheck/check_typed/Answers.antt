use Rattle.std.proofs.Common.{◌<◌, ◌^◌, length, sym, ap, subst}
use Rattle.jn_contrib.specs.Entries.{AreOverriders}
use Rattle.jn_points.specs.declared.program.Program.{Program}
use Rattle.jn_recheck_law.specs.Reusable.{Solved}
use Rattle.jn_recheck.specs.KeptRows.{TellsSame}
use Rattle.jn_recheck.proofs.Comparing.{known_stands}
use Rattle.jn_recheck.proofs.Rechecking.{checked_again}
use Rattle.jn_recheck.proofs.recheck.check_typed.Goals as goal

pub least_sig-requires-clause-overriders : goal.least_sig-requires-clause-overriders
least_sig-requires-clause-overriders g c κs within =
    subst (AreOverriders c.args.base) (sym c.as_slice.ensures.value) c.in_ok-list.ensures

pub least_sig-requires-clause-same : goal.least_sig-requires-clause-same
least_sig-requires-clause-same g c κs within = subst (λ (P : Program). TellsSame c.args.kept.now c.args.names P c.tells_same-same.result) c.program.ensures.is c.tells_same-same.ensures

pub least_sig-requires-clause-known : goal.least_sig-requires-clause-known
least_sig-requires-clause-known g c κs within = known_stands c.args.kept.now c.args.base c.args.unchanged.now c.as_slice-2.result.now c.as_slice-2.ensures.value c.requires.unchanged

pub rules_again-requires-clause-same : goal.rules_again-requires-clause-same
rules_again-requires-clause-same g c κs within = subst (λ (P : Program). TellsSame c.args.kept.now c.args.names P c.tells_same-same.result) c.program.ensures.is c.tells_same-same.ensures

pub rules_again-requires-clause-overriders : goal.rules_again-requires-clause-overriders
rules_again-requires-clause-overriders g c κs within = c.in_ok-list.ensures

pub rules_again-requires-clause-least : goal.rules_again-requires-clause-least
rules_again-requires-clause-least g c κs within = c.in_ok-sig.ensures

pub returns-clause-recheck : goal.returns-clause-recheck
returns-clause-recheck g c =
    let sig = c.in_ok-sig.sig in
    let least = c.in_ok-sig.ensures in
    let found = c.in_ok-rows.field-0 in
    checked_again c.args.infer c.args.files.now c.args.names c.args.base sig found.rows.items c.of_vec.result c.args.kept.now found.kept found.made c.requires.program least c.in_ok-rows.ensures.rows c.in_ok-rows.ensures.kept c.in_ok-rows.ensures.made c.of_vec.ensures

pub returns-clause-program : goal.returns-clause-program
returns-clause-program g c = ap (λ (s : Solved). s.program) c.in_ok-rows.ensures.kept
