use Rattle.std.proofs.Common.{◌≡◌, ◌<◌, ℕ, bit_or, get_or, length, sym, ap, ◌∙◌, subst, refl, arith, eq-eqb, true≢false}
use Rattle.std.proofs.lemmas.Bool.{eqb-true}
use mathlib.Core.Option.{some}
use lib.ListN.{get_elem?}
use Rattle.jn_base.specs.declared.number.WordNo.{WordNo}
use Rattle.jn_sigtable.specs.System.{Within, bits_for}
use Rattle.jn_worklist.proofs.PlanFacts.{entry_at, plan_length, readers_fit, readers_due}
use Rattle.jn_worklist.proofs.DueBy.{due_by_more}
use Rattle.jn_worklist.proofs.RaiseSteps.{raises_on, entry_within}
use Rattle.jn_worklist.proofs.raising.raise_one.Goals as goal

pub raise_word-found-requires-clause-range : goal.raise_word-found-requires-clause-range
raise_word-found-requires-clause-range g c =
    let it = c.args.task.now.table.now.counted.system in
    let o : WordNo × ℕ = get_or c.args.output.now c.args.at (record { 0 = 0 }, 0) in
    (g.met.C.Constraints.laws it).named c.args.task.now.body.0 c.args.values.now c.args.task.now.inside c.requires.count c.args.at o
    (subst (λ l. get_elem? l c.args.at ≡ some o) c.requires.output (entry_at c.args.output.now c.args.at (record { 0 = 0 }, 0) c.requires.at))

pub raise_word-found-requires-clause-output : goal.raise_word-found-requires-clause-output
raise_word-found-requires-clause-output g c =
    let d = g.C.Constraints.describe in
    let it = c.args.task.now.table.now.counted.system in
    let h = c.requires.raising.raising in
    let o : WordNo × ℕ = get_or c.args.output.now c.args.at (record { 0 = 0 }, 0) in (
      c.args.task.now.body.0,
      h.body,
      h.read,
      subst (λ l. Within o.1 (bits_for l o.0.0)) (c.requires.output ∙ ap (λ l. (d it).output c.args.task.now.body.0 l) (sym h.are))
          (entry_within c.args.output.now c.args.at o (entry_at c.args.output.now c.args.at (record { 0 = 0 }, 0) c.requires.at)),
    )

pub readers-requires : goal.readers-requires
readers-requires g c =
    let it = c.args.task.now.table.now.counted.system in
    let o : WordNo × ℕ = get_or c.args.output.now c.args.at (record { 0 = 0 }, 0) in
    let inside = (g.met.C.Constraints.laws it).named c.args.task.now.body.0 c.args.values.now c.args.task.now.inside c.requires.count c.args.at o
    (subst (λ l. get_elem? l c.args.at ≡ some o) c.requires.output (entry_at c.args.output.now c.args.at (record { 0 = 0 }, 0) c.requires.at)) in
    let n = plan_length (g.C.Constraints.describe it) c.args.task.now.plan.now c.args.task.now.planned in omega arith

pub add_bodies-requires : goal.add_bodies-requires
add_bodies-requires g c =
    let it = c.args.task.now.table.now.counted.system in
    let o : WordNo × ℕ = get_or c.args.output.now c.args.at (record { 0 = 0 }, 0) in
    let inside = (g.met.C.Constraints.laws it).named c.args.task.now.body.0 c.args.values.now c.args.task.now.inside c.requires.count c.args.at o
    (subst (λ l. get_elem? l c.args.at ≡ some o) c.requires.output (entry_at c.args.output.now c.args.at (record { 0 = 0 }, 0) c.requires.at)) in
    record { room = readers_fit (g.C.Constraints.describe it) c.args.task.now.plan.now c.args.task.now.planned o.0.0 inside c.readers.result.now c.readers.ensures (length c.args.due.now) c.requires.raising.raising.count }

pub returns-then-found-bits-clause-raising : goal.returns-then-found-bits-clause-raising
returns-then-found-bits-clause-raising g c =
    let d = g.C.Constraints.describe in
    let it = c.args.task.now.table.now.counted.system in
    let o : WordNo × ℕ = get_or c.args.output.now c.args.at (record { 0 = 0 }, 0) in
    let at = entry_at c.args.output.now c.args.at (record { 0 = 0 }, 0) c.requires.at in
    let inside = (g.met.C.Constraints.laws it).named c.args.task.now.body.0 c.args.values.now c.args.task.now.inside c.requires.count c.args.at o (subst (λ l. get_elem? l c.args.at ≡ some o) c.requires.output at) in
    let r = c.add_bodies.ensures in
    let t = c.if-found-bits.true in
    record {
      own = c.raise_word-found.ensures.own;
      raising = raises_on d it c.args.task.now.body.0 c.args.pass.now.seat.me.0 c.args.values.now c.args.pass.now.seat.me.0 c.raise_word-found.new.pass.seat.me.0 c.args.output.now c.args.at c.raise_word-found.result o c.args.due.now c.add_bodies.new.due
          c.requires.raising.own.1 c.requires.raising.raising at c.raise_word-found.ensures.view (r.count ∙ c.requires.raising.raising.count)
          (λ e. absurd (t (eqb-true (bit_or c.raise_word-found.result o.1) c.raise_word-found.result e)))
          (λ e. readers_due (d it) c.args.task.now.plan.now c.args.task.now.planned o.0.0 inside c.readers.result.now c.readers.ensures c.args.due.now c.add_bodies.new.due r.bits);
    }

pub returns-else-found-bits-clause-raising : goal.returns-else-found-bits-clause-raising
returns-else-found-bits-clause-raising g c =
    let d = g.C.Constraints.describe in
    let it = c.args.task.now.table.now.counted.system in
    let o : WordNo × ℕ = get_or c.args.output.now c.args.at (record { 0 = 0 }, 0) in
    let at = entry_at c.args.output.now c.args.at (record { 0 = 0 }, 0) c.requires.at in
    let t = c.if-found-bits.false in
    record {
      own = c.raise_word-found.ensures.own;
      raising = raises_on d it c.args.task.now.body.0 c.args.pass.now.seat.me.0 c.args.values.now c.args.pass.now.seat.me.0 c.raise_word-found.new.pass.seat.me.0 c.args.output.now c.args.at c.raise_word-found.result o c.args.due.now c.args.due.now
          c.requires.raising.own.1 c.requires.raising.raising at c.raise_word-found.ensures.view c.requires.raising.raising.count (λ _. refl)
          (λ e. absurd (true≢false (sym (eq-eqb (bit_or c.raise_word-found.result o.1) c.raise_word-found.result t) ∙ e)));
    }

pub returns-then-found-bits-clause-from : goal.returns-then-found-bits-clause-from
returns-then-found-bits-clause-from g c =
    let inside : c.args.at < length c.args.new.now = let p = c.requires.at in let q = c.requires.flags in omega arith in
    due_by_more c.args.task.now.plan.now c.args.output.now c.args.new.now c.args.due.now c.add_bodies.new.due c.args.at c.readers.result.now inside c.readers.ensures c.add_bodies.ensures.bits c.requires.from
