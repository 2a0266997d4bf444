use Rattle.std.proofs.Common.{sym, ◌∙◌}
use Rattle.ge_codec.specs.Rising.{last_key-keys}
use Rattle.ge_codec.proofs.maps.IndexPairs.last_key.Goals as goal

pub returns-in-Some : goal.returns-in-Some
returns-in-Some g c = sym (last_key-keys c.args.self.now c.next_back.new.self c.in-Some.last.now (sym c.keys.ensures.rest ∙ c.in-Some.ensures.steps))
