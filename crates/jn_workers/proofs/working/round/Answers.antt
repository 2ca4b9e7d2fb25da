use Rattle.std.proofs.Common.{◌+◌, refl, ap, ◌∙◌, arith}
use Rattle.jn_workers.specs.Ends.{SeenBelow, SeenIn, SeenUpTo, StillSeen}
use Rattle.jn_workers.proofs.ScanFacts.{scan_sees, seen_more, took_on}
use Rattle.jn_workers.proofs.working.round.Goals as goal

pub loop-word-init : goal.loop-word-init
loop-word-init g c = record {
  own = c.requires.ready.own;
  idle = c.requires.ready.idle;
  share = refl;
  bound = λ less. absurd (omega arith);
  took = (refl, λ b inside low. absurd (omega arith));
}

pub loop-word-preserved : goal.loop-word-preserved
loop-word-preserved g c =
    let d = g.C.Constraints.describe in
    let it = c.args.table.now.counted.system in
    let i = c.loop-word.invariant in
    let s = c.scan-bits.ensures in
    let e = c.in_ok-more.ensures in
    let before = c.loop-word.pass.seat.me.0 in
    let seen = c.scan-bits.new.pass.seat.me.0 in
    let after = c.visit.new.pass.seat.me.0 in
    let o = scan_sees d it before i.own.1 c.loop-word.word c.scan-bits.result seen s.view in
    record {
      own = e.worked.own;
      idle = e.worked.idle;
      share = e.worked.share ∙ (ap (λ x. x.share) s.view ∙ i.share);
      bound = λ _. e.worked.bound;
      took = took_on c.loop-word.took c.in_ok-more.more c.args.pass.now.seat.me.0 before seen after
          (SeenBelow (d it) before c.loop-word.word) (StillSeen seen after × (SeenIn (d it) seen c.loop-word.word c.scan-bits.result → SeenUpTo (d it) after c.loop-word.word 64)) (SeenBelow (d it) after (c.loop-word.word + 1))
          i.took (ap (λ x. x.taken) s.view) e.took (λ below kept. seen_more (d it) before seen after c.loop-word.word below o.0 kept.0 (kept.1 o.1));
    }
