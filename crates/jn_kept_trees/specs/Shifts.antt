-- Numbers in place of others.
use Rattle.std.specs.Prelude.{ℕ, ◌≡◌, ◌<◌, List, length, get_or}
use Rattle.jn_base.specs.declared.number.NameNo.{NameNo}

-- what has one old number has one new number
abbrev pub AreConsistent : List NameNo → List NameNo → Type 0
AreConsistent old new = (i j : ℕ) (d e : NameNo) → i < length old → j < length old → get_or old i d ≡ get_or old j d → get_or new i e ≡ get_or new j e

-- it has the new number at each old one
abbrev pub LeadsFrom : List NameNo → List NameNo → List NameNo → Type 0
LeadsFrom old new shift = (i : ℕ) (d e f : NameNo) → i < length old → get_or shift (get_or old i d).0 e ≡ get_or new i f
