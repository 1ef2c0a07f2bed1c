-- The room of a text, and what of a list of bytes fits in. Assumes nothing.
use Rattle.std.specs.Prelude.{ℕ, List, take}

-- bytes of a text
abbrev pub text_room : ℕ
text_room = 2048

-- what has no room is left out
unfoldable pub kept : List ℕ → List ℕ
kept xs = take text_room xs
