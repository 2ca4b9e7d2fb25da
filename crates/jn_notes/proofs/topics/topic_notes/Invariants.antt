use Rattle.std.proofs.Common.{◌≡◌, map, take}
use Rattle.jn_notes.specs.Spoken.{topic_note}
use Rattle.jn_notes.proofs.topics.topic_notes.Given as goal

abbrev pub invariant-loop-topic : goal.invariant-loop-topic
invariant-loop-topic l = l.notes.items ≡ map (topic_note l.program l.names l.span) (take l.topic-index l.topics)
