use Rattle.std.proofs.Common.{◌≡◌, ℕ, ◌+◌, ◌<◌, sym, ap, ◌∙◌, subst, arith}
use Rattle.jn_sigtable.specs.System.{Within, bits_for}
use Rattle.jn_sigtable.specs.Machine.{described, dirty_words}
use Rattle.jn_sigtable.proofs.Keeping.{lawful_at}
use Rattle.jn_sigtable.proofs.RaiseKept.{raise_allowed}
use Rattle.jn_sigtable.proofs.table.SigTable.raise_word.Goals as goal

pub fetch_or-requires : goal.fetch_or-requires
fetch_or-requires g c =
    let h = c.args.self.now in
    let d = described g.C.Constraints.describe in
    let law = lawful_at g.C.Constraints.describe h.counted.system h.table.shared.key.system h.same (g.met.C.Constraints.laws h.counted.system) in
    let is : h.counted.words ≡ (d h.table.shared.key.system).words = h.counted.words_is ∙ ap (λ x. (d x).words) (sym h.same) in
    let m : ℕ = (g.C.Constraints.describe h.counted.system).words in
    let e : (d h.table.shared.key.system).words ≡ m = ap (λ x. (d x).words) h.same in
    let total : h.table.shared.table_id.words ≡ m + dirty_words (g.C.Constraints.describe h.counted.system) = h.count ∙ h.counted.count_is in
    let size : h.counted.words ≡ m = h.counted.words_is in
    let r = c.requires.range in
    let o = c.requires.output in (
      c.requires.own.0,
      omega arith,
      raise_allowed d h.table.shared.key law h.table.shared.table_id.slots c.args.pass.now.seat.id c.args.word.0 o.0 c.args.bits c.args.pass.now.seat.me.0 c.args.pass.now.seat.me.1 c.args.pass.now.live (subst (λ x. c.args.word.0 < x) (sym e) r)
          o.1 (c.requires.own.1 ∙ sym h.same) (subst (λ x. Within c.args.bits (bits_for ((d x).output o.0 c.args.pass.now.seat.me.0.values) c.args.word.0)) (sym c.requires.own.1) o.3) (omega arith),
    )
