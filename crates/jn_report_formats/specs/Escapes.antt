-- How bytes are written where some have a meaning of their own.
use Rattle.std.specs.Prelude.{ℕ, ◌+◌, ◌/◌, ◌%◌, ◌==◌, ◌&&◌, ◌||◌, nat_lt, Bool, List, [], ◌∷◌, ◌++◌, codes, if◌then◌else◌}
use Rattle.std.specs.Char.{is_ascii_alphanumeric}
use Rattle.std.specs.List.{flat_map}
use Rattle.jn_report_formats.specs.declared.escapes.Escape.{Escape}
use Rattle.jn_report_formats.specs.declared.escapes.Escape.TheVariants.{Message, Property, Json, Uri}

-- the hexadecimal digit, in upper case, of a number below 16
abbrev pub hex_digit : ℕ → ℕ
hex_digit value = if nat_lt value 10 then 48 + value else 55 + value

-- a byte as two hexadecimal digits
abbrev pub hex_pair : ℕ → List ℕ
hex_pair byte = hex_digit (byte / 16) ∷ hex_digit (byte % 16) ∷ []

-- the message of a workflow command (GitHub Actions, workflow commands): `%`, CR and LF as their numbers
abbrev pub message_byte : ℕ → List ℕ
message_byte byte = if byte == 37 then codes "%25" else if byte == 13 then codes "%0D" else if byte == 10 then codes "%0A" else byte ∷ []

-- the value of a property of such a command: `:` and `,`, too
abbrev pub property_byte : ℕ → List ℕ
property_byte byte = if byte == 58 then codes "%3A" else if byte == 44 then codes "%2C" else message_byte byte

-- a control character in an attribute (XML 1.0, 2.2 and 3.3.3): tab, LF and CR as references, and U+FFFD for any other, which XML can't hold
abbrev pub xml_control : ℕ → List ℕ
xml_control byte = if byte == 9 then codes "&#9;" else if byte == 10 then codes "&#10;" else if byte == 13 then codes "&#13;" else 239 ∷ 191 ∷ 189 ∷ []

-- the value of an attribute (XML 1.0, 2.4), byte by byte
abbrev pub xml_byte : ℕ → List ℕ
xml_byte byte =
    if byte == 38 then codes "&amp;"
    else if byte == 60 then codes "&lt;"
    else if byte == 62 then codes "&gt;"
    else if byte == 34 then codes "&quot;"
    else if byte == 39 then codes "&apos;"
    else if nat_lt byte 32 then xml_control byte
    else byte ∷ []

-- U+FFFE and U+FFFF, which XML can't hold either (XML 1.0, 2.2), by their bytes in UTF-8
abbrev pub ends_unfit : ℕ → ℕ → ℕ → Bool
ends_unfit second last byte = second == 239 && last == 191 && (byte == 190 || byte == 191)

-- a byte after these two: of the last byte of U+FFFE or U+FFFF that of U+FFFD is made, whose first two bytes are theirs
abbrev pub xml_behind : ℕ → ℕ → ℕ → List ℕ
xml_behind second last byte = if ends_unfit second last byte then 189 ∷ [] else xml_byte byte

abbrev pub xml_from : ℕ → ℕ → List ℕ → List ℕ
xml_from second last [] = []
xml_from second last (byte ∷ rest) = xml_behind second last byte ++ xml_from last byte rest

-- the value of an attribute
abbrev pub xml_text : List ℕ → List ℕ
xml_text text = xml_from 0 0 text

-- a string (RFC 8259, 7)
abbrev pub json_byte : ℕ → List ℕ
json_byte byte =
    if byte == 34 then codes "\\\""
    else if byte == 92 then codes "\\\\"
    else if nat_lt byte 32 then codes "\\u00" ++ hex_pair byte
    else byte ∷ []

-- letters, digits and `-._~`, which stand for themselves in a URI, and the `/` between segments (RFC 3986, 2.3 and 3.3)
abbrev pub stands_in_uri : ℕ → Bool
stands_in_uri byte = is_ascii_alphanumeric byte || byte == 45 || byte == 46 || byte == 95 || byte == 126 || byte == 47

-- the path of a URI (RFC 3986, 2.1)
abbrev pub uri_byte : ℕ → List ℕ
uri_byte byte = if stands_in_uri byte then byte ∷ [] else codes "%" ++ hex_pair byte

abbrev pub escaped_byte : Escape → ℕ → List ℕ
escaped_byte Message byte = message_byte byte
escaped_byte Property byte = property_byte byte
escaped_byte Json byte = json_byte byte
escaped_byte Uri byte = uri_byte byte

-- a text, byte by byte
abbrev pub escaped : Escape → List ℕ → List ℕ
escaped escape text = flat_map (escaped_byte escape) text
