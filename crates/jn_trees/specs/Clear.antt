-- Modifiers after words that stand before them.
use Rattle.std.specs.Prelude.{List, Bool, false, not, ◌&&◌, ◌||◌, Option, Some, None}
use Rattle.jn_trees.specs.Trees.{Mark, PublicMark, StaticMark, ConstantMark, AbstractMark}
use Rattle.jn_trees.specs.WellFormed.{clashes_none, no_clash}
use Rattle.jn_trees.specs.declared.well_formed.Words.{Words}

-- none clashes with this mark, where one stands before
abbrev pub unless : Bool → Mark → List Mark → Bool
unless before m ms = not before || clashes_none m ms

-- no two clash, neither among each other nor with a word before
abbrev pub clear : Words → List Mark → Bool
clear w ms = no_clash ms && (unless w.access PublicMark ms && (unless w.fixed StaticMark ms && (unless w.constant ConstantMark ms && unless w.without_body AbstractMark ms)))

-- there were words that clash, or these are clear
abbrev pub clear_behind : Option Words → List Mark → Bool
clear_behind None ms = false
clear_behind (Some w) ms = clear w ms
