-- Types of fields, parameters and results that are the same but for places and what is written of nullness and initialization.
use Rattle.std.proofs.Common.{◌≡◌, false}
use Rattle.jn_heads.specs.declared.head.Notes.{Notes}
use Rattle.jn_heads.specs.declared.head.TypeHead.{TypeHead}
use Rattle.jn_heads.specs.Heads.{no_notes}
use Rattle.jn_heads_law.specs.Plain.{plain_use, plain_type, plain_kind}

pub same_words : (m n : Notes) → m.non_null ≡ n.non_null → m.nullable ≡ n.nullable → m.initialized ≡ n.initialized → m.under ≡ n.under → m.unknown ≡ n.unknown → m.monotonic ≡ n.monotonic → m ≡ n
same_words m n a b c d e f = λ i. record { non_null = a i; nullable = b i; initialized = c i; under = d i; unknown = e i; monotonic = f i }

pub same_types : (s t : TypeHead) → s.array ≡ t.array → s.elements ≡ t.elements → plain_use s.base ≡ plain_use t.base → plain_type s ≡ plain_type t
same_types s t a e b = λ i. record { base = b i; array = a i; notes = no_notes; elements = e i }

pub same_kinds : (s t : TypeHead) → s.array ≡ t.array → s.elements ≡ t.elements → s.notes.monotonic ≡ t.notes.monotonic → plain_use s.base ≡ plain_use t.base → plain_kind s ≡ plain_kind t
same_kinds s t a e m b = λ i. record { base = b i; array = a i; notes = record { non_null = false; nullable = false; initialized = false; under = false; unknown = false; monotonic = m i }; elements = e i }
