use Rattle.std.proofs.Common.{◌≡◌, ◌++◌, take, map}
use Rattle.std.specs.Prelude.{codes, flat_map}
use Rattle.ge_model_report.specs.Grants.{grant_text}
use Rattle.ge_listing.proofs.grants.append_others.Given as goal

abbrev pub invariant-loop-grant : goal.invariant-loop-grant
invariant-loop-grant l = l.text.items ≡ l.fn.text.items ++ flat_map (λ next. codes "," ++ next) (map grant_text (take l.grant-index l.grants))
