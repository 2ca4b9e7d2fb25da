use Rattle.std.proofs.Common.{◌≡◌, ◌+◌, ◌<◌, ◌≤◌, ◌/◌, ℕ, length, sym, ap, ◌∙◌, subst, refl}
use Rattle.jn_sigtable.specs.Machine.{after_take, described, IsAtRest}
use Rattle.jn_sigtable.specs.declared.view.View.{View}
use Rattle.jn_sigtable.specs.System.{System}
use Rattle.jn_sigtable.specs.Words.{bound_of}
use Rattle.jn_sigtable.proofs.Keeping.{lawful_at}
use Rattle.jn_sigtable.proofs.TakeKept.{take_allowed, dirty_inside, tells_clear, tells_taken, take_share, take_limit}
use Rattle.jn_sigtable.proofs.table.SigTable.take_body.Goals as goal

pub fetch_and-old-requires : goal.fetch_and-old-requires
fetch_and-old-requires g c =
    let h = c.args.self.now in
    let d = described g.C.Constraints.describe in
    let is : h.counted.words ≡ (d h.table.shared.key.system).words = h.counted.words_is ∙ ap (λ x. (d x).words) (sym h.same) in
    let inside : c.args.body.0 < (d h.table.shared.key.system).bodies = subst (λ x. c.args.body.0 < (d x).bodies) (sym h.same) c.requires.range in (
      c.requires.own.0,
      subst (λ n. h.counted.words + c.args.body.0 / 64 < n) (sym h.count) (subst (λ w. w + c.args.body.0 / 64 < h.counted.count) (sym h.counted.words_is) (dirty_inside (g.C.Constraints.describe h.counted.system) h.counted.count c.args.body.0 c.requires.range h.counted.count_is)),
      take_allowed d h.table.shared.key (lawful_at g.C.Constraints.describe h.counted.system h.table.shared.key.system h.same (g.met.C.Constraints.laws h.counted.system)) h.table.shared.table_id.slots c.args.pass.now.seat.id (h.counted.words + c.args.body.0 / 64) c.args.body.0 c.args.pass.now.seat.me.0 c.args.pass.now.seat.me.1 c.args.pass.now.live inside (ap (λ x. x + c.args.body.0 / 64) is) (subst (λ x. IsAtRest (d x) c.args.pass.now.seat.me.0) (sym c.requires.own.1) c.requires.idle),
    )

told : (g : _) (c : goal.After-fetch_and-old g) → c.fetch_and-old.new.seat.me ≡ (after_take (described g.C.Constraints.describe) c.args.pass.now.seat.me.0 c.args.body.0 c.fetch_and-old.result, c.args.pass.now.seat.me.1)
told g c =
    let h = c.args.self.now in
    let d = described g.C.Constraints.describe in
    c.fetch_and-old.ensures.2.0 c.args.body.0 (ap (λ x. x + c.args.body.0 / 64) (h.counted.words_is ∙ ap (λ x. (d x).words) (sym c.requires.own.1))) refl

in_bound : {C : Type 0} (d : C → System) (v : View C) (b n : ℕ) (w : View C) (most : ℕ) → w ≡ after_take d v b n → v.limit ≡ most → w.taken ≤ w.limit → w.taken ≤ most
in_bound d v b n w most e limit within = subst (λ (x : ℕ). w.taken ≤ x) (ap (λ x. x.limit) e ∙ (take_limit d v b n ∙ limit)) within

pub invariant_of-pass : goal.invariant_of-pass
invariant_of-pass g c =
    let d = described g.C.Constraints.describe in
    record {
      empty = ap (λ x. x.1) (told g c) ∙ c.args.pass.now.empty;
      live = subst (λ x. 0 < length x) (sym (ap (λ x. x.0.share) (told g c) ∙ take_share d c.args.pass.now.seat.me.0 c.args.body.0 c.fetch_and-old.result)) c.args.pass.now.live;
    }

pub returns-then-old-bit-eq0-clause-view : goal.returns-then-old-bit-eq0-clause-view
returns-then-old-bit-eq0-clause-view g c =
    let h = c.args.self.now in
    let d = described g.C.Constraints.describe in
    let t = c.fetch_and-old.ensures.2.0 c.args.body.0 (ap (λ x. x + c.args.body.0 / 64) (h.counted.words_is ∙ ap (λ x. (d x).words) (sym c.requires.own.1))) refl in
    ap (λ x. x.0) t ∙ tells_clear d c.args.pass.now.seat.me.0 c.args.body.0 c.fetch_and-old.result c.if-old-bit-eq0.true

pub returns-else-old-bit-eq0-clause-view : goal.returns-else-old-bit-eq0-clause-view
returns-else-old-bit-eq0-clause-view g c =
    let h = c.args.self.now in
    let d = described g.C.Constraints.describe in
    let t = c.fetch_and-old.ensures.2.0 c.args.body.0 (ap (λ x. x + c.args.body.0 / 64) (h.counted.words_is ∙ ap (λ x. (d x).words) (sym c.requires.own.1))) refl in
    (refl, ap (λ x. x.0) t ∙ tells_taken d c.args.pass.now.seat.me.0 c.args.body.0 c.fetch_and-old.result c.if-old-bit-eq0.false)

pub returns-then-old-bit-eq0-clause-bound : goal.returns-then-old-bit-eq0-clause-bound
returns-then-old-bit-eq0-clause-bound g c =
    in_bound (described g.C.Constraints.describe) c.args.pass.now.seat.me.0 c.args.body.0 c.fetch_and-old.result c.fetch_and-old.new.seat.me.0 (bound_of g.C.Constraints.describe c.args.self.now)
    (ap (λ x. x.0) (c.fetch_and-old.ensures.2.0 c.args.body.0 (ap (λ x. x + c.args.body.0 / 64) (c.args.self.now.counted.words_is ∙ ap (λ x. (described g.C.Constraints.describe x).words) (sym c.requires.own.1))) refl)) c.requires.own.2 c.fetch_and-old.ensures.2.1

pub returns-else-old-bit-eq0-clause-bound : goal.returns-else-old-bit-eq0-clause-bound
returns-else-old-bit-eq0-clause-bound g c =
    in_bound (described g.C.Constraints.describe) c.args.pass.now.seat.me.0 c.args.body.0 c.fetch_and-old.result c.fetch_and-old.new.seat.me.0 (bound_of g.C.Constraints.describe c.args.self.now)
    (ap (λ x. x.0) (c.fetch_and-old.ensures.2.0 c.args.body.0 (ap (λ x. x + c.args.body.0 / 64) (c.args.self.now.counted.words_is ∙ ap (λ x. (described g.C.Constraints.describe x).words) (sym c.requires.own.1))) refl)) c.requires.own.2 c.fetch_and-old.ensures.2.1
