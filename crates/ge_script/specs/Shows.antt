-- What the reader's own types show.
use Rattle.std.specs.Prelude.{ℕ, List, Option, Some, None}
use Rattle.ge_script.specs.declared.header.Header.{Header}

-- a header as the definitions have it
abbrev pub says_header : Option Header → Option (ℕ × List ℕ × List ℕ)
says_header None = None
says_header (Some h) = Some (h.moment, h.user.now, h.group.now)
