use Rattle.std.proofs.Common.{ℕ, Ok}
use Rattle.jn_sharing.proofs.Making.{both_made}
use Rattle.jn_sharing.proofs.sharing.both.Goals as goal

pub returns : goal.returns
returns g c =
    let Makes : ℕ → g.row.X.Denot → Type 0 = λ n x. (w : ℕ) × goal.W-post g c.args.work.now n w (Ok x) in
    let ours = rw c.in_ok-ours.was at c.requires.ours in
    let theirs = rw c.in_ok-theirs.was at c.requires.theirs in
    both_made Makes c.in_ok-ours.ours.items c.in_ok-theirs.theirs.items c.append.new.self.items c.in_ok-append.ensures.items ours theirs
