use Rattle.std.proofs.Common.{◌≡◌, ℕ, ◌+◌, ◌<◌, sym, ap, ◌∙◌, subst, arith}
use Rattle.jn_sigtable.specs.Machine.{described, dirty_words}
use Rattle.jn_sigtable.proofs.Keeping.{lawful_at}
use Rattle.jn_sigtable.proofs.ReadKept.{read_allowed}
use Rattle.jn_sigtable.proofs.table.SigTable.read_word.Goals as goal

pub load-requires : goal.load-requires
load-requires g c =
    let h = c.args.self.now in
    let d = described g.C.Constraints.describe in
    let law = lawful_at g.C.Constraints.describe h.counted.system h.table.shared.key.system h.same (g.met.C.Constraints.laws h.counted.system) in
    let is : h.counted.words ≡ (d h.table.shared.key.system).words = h.counted.words_is ∙ ap (λ x. (d x).words) (sym h.same) in
    let m : ℕ = (g.C.Constraints.describe h.counted.system).words in
    let e : (d h.table.shared.key.system).words ≡ m = ap (λ x. (d x).words) h.same in
    let total : h.table.shared.table_id.words ≡ m + dirty_words (g.C.Constraints.describe h.counted.system) = h.count ∙ h.counted.count_is in
    let size : h.counted.words ≡ m = h.counted.words_is in
    let r = c.requires.range in
    (c.requires.own.0, omega arith, read_allowed d h.table.shared.key h.table.shared.table_id.slots c.args.pass.now.seat.id c.args.word.0 c.args.pass.now.seat.me.0 c.args.pass.now.seat.me.1 c.args.pass.now.live (subst (λ x. c.args.word.0 < x) (sym e) r))
