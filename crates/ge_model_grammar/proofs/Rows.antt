use Rattle.std.specs.Prelude.{◌≡◌, [], ◌∷◌, codes, refl, Some, None}
use Rattle.ge_model_grammar.specs.ScriptLines.{requests_of}
use Rattle.ge_model_grammar.specs.Header.{header_parts}

two : requests_of (codes "@10 ann staff\nqsub\n@@x\n@9 b c\n") ≡ codes "@10 ann staff\nqsub\n@@x\n" ∷ codes "@9 b c\n" ∷ []
two = refl

head : header_parts (codes "@10 ann staff") ≡ Some (10, codes "ann", codes "staff")
head = refl

blanks : header_parts (codes "@10  ann staff") ≡ None
blanks = refl
