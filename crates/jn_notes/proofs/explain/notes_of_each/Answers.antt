use Rattle.std.proofs.Common.{◌<◌, ◌+◌, length, take, sym, subst, arith, ◌∙◌}
use Rattle.jn_points.specs.declared.program.Program.{Program}
use Rattle.jn_contrib.specs.Entries.{AreOverriders}
use Rattle.jn_notes.specs.Noted.{AreEach}
use Rattle.jn_notes.specs.Walked.{Subject}
use Rattle.jn_notes.proofs.Noting.{none_rows, row_more}
use Rattle.jn_notes.proofs.explain.notes_of_each.Goals as goal

pub loop-row-init : goal.loop-row-init
loop-row-init c =
    let v = c.args.of.now in
    (none_rows v.program v.names v.sig v.tables c.args.rows.now c.new-list.result.items c.new-list.ensures.items, c.new-walk.ensures)

pub overriders_at-there-requires-clause-overriders : goal.overriders_at-there-requires-clause-overriders
overriders_at-there-requires-clause-overriders c = subst (λ (P : Program). AreOverriders P c.args.overriders.now) (sym c.basis-basis.ensures.program) c.requires.overriders

pub loop-row-preserved : goal.loop-row-preserved
loop-row-preserved c =
    let w = c.loop-row.walk in
    let rows = c.args.rows.now in
    let i = c.loop-row.row-index in
    let old = c.loop-row.list.items in
    let new = c.put.new.items.items in
    let lt : i < length rows = omega (arith, c.loop-row-test.true) in
    let same = c.loop-row.invariant.1 in
    let before = subst (λ (u : Subject). AreEach u.program u.names u.sig u.tables (take i rows) old) (sym same) c.loop-row.invariant.0 in
    let more = row_more w.program w.names w.sig w.tables rows i _ c.in_ok-notes.notes old new lt c.in_ok-notes.ensures.notes c.in_ok-put.ensures before in (
      subst (λ (u : Subject). AreEach u.program u.names u.sig u.tables (take (i + 1) rows) new) same more,
      c.in_ok-notes.ensures.same ∙ same,
    )
