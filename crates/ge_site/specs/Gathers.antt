-- What a call that gathers hosts answers. Want of memory is always a free answer.
use Rattle.std.specs.Prelude.{◌≡◌, ℕ, List, Result, Ok, Err}
use Rattle.ge_model_rows.specs.declared.GroupFault.{GroupFault}
use Rattle.ge_site.specs.declared.gathering.MembersFault.{MembersFault}
use Rattle.ge_site.specs.declared.gathering.MembersFault.TheVariants.{Group, NoMemory}

abbrev pub Gathers : Result (List (List ℕ)) MembersFault → Result (List (List ℕ)) GroupFault → Type 0
Gathers (Ok hosts) answer = answer ≡ Ok hosts
Gathers (Err (Group fault)) answer = answer ≡ Err fault
Gathers (Err NoMemory) answer = Unit {0}
