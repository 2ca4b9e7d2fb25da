use Rattle.std.proofs.Common.{◌≡◌, ℕ, ◌+◌, ◌<◌, length, sym, ap, ◌∙◌, subst, arith}
use Rattle.jn_sigtable.specs.Machine.{described, dirty_words}
use Rattle.jn_sigtable.proofs.Keeping.{lawful_at}
use Rattle.jn_sigtable.proofs.MarkKept.{mark_allowed}
use Rattle.jn_sigtable.proofs.table.SigTable.mark.Goals as goal

pub fetch_or-requires : goal.fetch_or-requires
fetch_or-requires g c =
    let h = c.args.self.now in
    let d = described g.C.Constraints.describe in
    let law = lawful_at g.C.Constraints.describe h.counted.system h.table.shared.key.system h.same (g.met.C.Constraints.laws h.counted.system) in
    let is : h.counted.words ≡ (d h.table.shared.key.system).words = h.counted.words_is ∙ ap (λ x. (d x).words) (sym h.same) in
    let m : ℕ = (g.C.Constraints.describe h.counted.system).words in
    let e : (d h.table.shared.key.system).words ≡ m = ap (λ x. (d x).words) h.same in
    let total : h.table.shared.table_id.words ≡ m + dirty_words (g.C.Constraints.describe h.counted.system) = h.count ∙ h.counted.count_is in
    let size : h.counted.words ≡ m = h.counted.words_is in
    let r = c.requires.range in (
      c.requires.own.0,
      omega arith,
      mark_allowed d h.table.shared.key law h.table.shared.table_id.slots c.args.pass.now.seat.id (h.counted.words + c.args.dirty.0) c.args.dirty.0 c.args.bits c.args.pass.now.seat.me.0 c.args.pass.now.seat.me.1 c.args.pass.now.live c.requires.due
          (subst (λ x. c.args.dirty.0 < dirty_words (d x)) (sym h.same) r) (ap (λ x. x + c.args.dirty.0) is),
    )

pub invariant_of-pass : goal.invariant_of-pass
invariant_of-pass g c =
    let t = c.fetch_or.ensures.2 c.args.dirty.0 (ap (λ x. x + c.args.dirty.0) (c.args.self.now.counted.words_is ∙ ap (λ x. (described g.C.Constraints.describe x).words) (sym c.requires.own.1))) in
    record { empty = ap (λ x. x.1) t ∙ c.args.pass.now.empty; live = subst (λ x. 0 < length x) (sym (ap (λ x. x.0.share) t)) c.args.pass.now.live }

pub returns-clause-own : goal.returns-clause-own
returns-clause-own g c =
    let t = c.fetch_or.ensures.2 c.args.dirty.0 (ap (λ x. x + c.args.dirty.0) (c.args.self.now.counted.words_is ∙ ap (λ x. (described g.C.Constraints.describe x).words) (sym c.requires.own.1))) in
    (c.fetch_or.ensures.0 ∙ c.requires.own.0, ap (λ x. x.0.system) t ∙ c.requires.own.1, ap (λ x. x.0.limit) t ∙ c.requires.own.2)

pub returns-clause-view : goal.returns-clause-view
returns-clause-view g c =
    let t = c.fetch_or.ensures.2 c.args.dirty.0 (ap (λ x. x + c.args.dirty.0) (c.args.self.now.counted.words_is ∙ ap (λ x. (described g.C.Constraints.describe x).words) (sym c.requires.own.1))) in ap (λ x. x.0) t
