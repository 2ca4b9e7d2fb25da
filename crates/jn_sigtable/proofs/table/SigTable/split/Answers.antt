use Rattle.std.proofs.Common.{◌≡◌, ℕ, ◌+◌, ◌<◌, length, sym, ap, ◌∙◌, subst, arith}
use Rattle.jn_sigtable.specs.Machine.{described, dirty_words}
use Rattle.jn_sigtable.proofs.Keeping.{lawful_at}
use Rattle.jn_sigtable.proofs.SplitKept.{split_allowed, live_left}
use Rattle.jn_sigtable.proofs.table.SigTable.split.Goals as goal

pub split_seat-seat-requires : goal.split_seat-seat-requires
split_seat-seat-requires g c =
    let h = c.args.self.now in
    let d = described g.C.Constraints.describe in
    let law = lawful_at g.C.Constraints.describe h.counted.system h.table.shared.key.system h.same (g.met.C.Constraints.laws h.counted.system) in
    let is : h.counted.words ≡ (d h.table.shared.key.system).words = h.counted.words_is ∙ ap (λ x. (d x).words) (sym h.same) in
    let m : ℕ = (g.C.Constraints.describe h.counted.system).words in
    let e : (d h.table.shared.key.system).words ≡ m = ap (λ x. (d x).words) h.same in
    let total : h.table.shared.table_id.words ≡ m + dirty_words (g.C.Constraints.describe h.counted.system) = h.count ∙ h.counted.count_is in
    let size : h.counted.words ≡ m = h.counted.words_is in
    let any = h.counted.any in
    (c.requires.own.0, omega arith, split_allowed d h.table.shared.key c.args.pass.now.seat.id c.args.pass.now.seat.me.0 c.args.pass.now.live)

pub invariant_of-pass : goal.invariant_of-pass
invariant_of-pass g c =
    let t = c.split_seat-seat.ensures in
    record { empty = ap (λ x. x.1) t.2 ∙ c.args.pass.now.empty; live = subst (λ x. 0 < length x) (sym (ap (λ x. x.0.share) t.2)) (live_left c.args.pass.now.seat.me.0.share c.args.pass.now.live) }
