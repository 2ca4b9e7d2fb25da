use Rattle.std.proofs.Common.{sym, ◌∙◌}
use Rattle.jn_places.specs.PlacedView.{placed_members}
use Rattle.jn_program.specs.Gathering.{numbered_of}
use Rattle.jn_program.proofs.Numbers.{unwritten_more}
use Rattle.jn_program.proofs.sources.class.Goals as goal

pub returns : goal.returns
returns c =
    unwritten_more (numbered_of c.args.made.now) (numbered_of c.members.new.made) (numbered_of c.add.new.self) (placed_members c.args.all.now)
    c.in_ok-members.ensures (sym c.writes_constructor.ensures ∙ c.if-writes_constructor.false) c.in_ok-add.ensures
