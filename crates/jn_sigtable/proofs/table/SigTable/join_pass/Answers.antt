use Rattle.std.proofs.Common.{◌≡◌, ℕ, ◌+◌, sym, ap, ◌∙◌, subst, refl, arith}
use Rattle.jn_sigtable.specs.Machine.{described, dirty_words, IsAtRest}
use Rattle.jn_sigtable.proofs.Keeping.{lawful_at}
use Rattle.jn_sigtable.specs.Machine.{spent}
use Rattle.jn_sigtable.proofs.SplitKept.{join_allowed}
use Rattle.jn_sigtable.proofs.table.SigTable.join_pass.Goals as goal

pub join_seat-requires : goal.join_seat-requires
join_seat-requires g c =
    let h = c.args.self.now in
    let d = described g.C.Constraints.describe in
    let law = lawful_at g.C.Constraints.describe h.counted.system h.table.shared.key.system h.same (g.met.C.Constraints.laws h.counted.system) in
    let is : h.counted.words ≡ (d h.table.shared.key.system).words = h.counted.words_is ∙ ap (λ x. (d x).words) (sym h.same) in
    let m : ℕ = (g.C.Constraints.describe h.counted.system).words in
    let e : (d h.table.shared.key.system).words ≡ m = ap (λ x. (d x).words) h.same in
    let total : h.table.shared.table_id.words ≡ m + dirty_words (g.C.Constraints.describe h.counted.system) = h.count ∙ h.counted.count_is in
    let size : h.counted.words ≡ m = h.counted.words_is in
    let any = h.counted.any in (
      c.requires.own.0,
      c.requires.other.0,
      c.args.other.empty,
      omega arith,
      join_allowed d h.table.shared.key law spent refl refl refl refl c.args.pass.now.seat.id c.args.other.seat.id c.args.pass.now.seat.me.0 c.args.other.seat.me.0 c.args.pass.now.live c.args.other.live (subst (λ x. IsAtRest (d x) c.args.other.seat.me.0) (sym c.requires.other.1) c.requires.idle),
    )
