-- The script that is made up from a number: eight hosts and a queue over them, and then at every tenth second a job, a run
-- behind every fourth job and the end of a task behind every second.
use Rattle.std.specs.Prelude.{ℕ, zero, suc, ◌+◌, ◌*◌, ◌/◌, ◌%◌, Bool, ◌==◌, if◌then◌else◌, List, [], ◌∷◌, ◌++◌, flat_map, codes, decimal}
use Rattle.ge_outside.specs.Draws.{next_state, drawn}

-- a request: its header, and one line of text
abbrev pub request : ℕ → List ℕ → List ℕ → List ℕ → List ℕ
request moment user group line = codes "@" ++ decimal moment ++ codes " " ++ user ++ codes " " ++ group ++ codes "\n" ++ line ++ codes "\n"

-- what root asks for first
abbrev pub opening_requests : List (List ℕ)
opening_requests =
    codes "@0 root root\nqconf -Ae\nhostname g0\n"
    ∷ codes "@0 root root\nqconf -Ae\nhostname g1\n"
    ∷ codes "@0 root root\nqconf -Ae\nhostname g2\n"
    ∷ codes "@0 root root\nqconf -Ae\nhostname g3\n"
    ∷ codes "@0 root root\nqconf -Ae\nhostname g4\n"
    ∷ codes "@0 root root\nqconf -Ae\nhostname g5\n"
    ∷ codes "@0 root root\nqconf -Ae\nhostname g6\n"
    ∷ codes "@0 root root\nqconf -Ae\nhostname g7\n"
    ∷ codes "@0 root root\nqconf -Aq\nqname gen.q\nhostlist g0 g1 g2 g3 g4 g5 g6 g7\nslots 4\n"
    ∷ codes "@0 root root\nqconf -Msconf\nmax_reservation 4\n"
    ∷ []

-- whether a job may be reserved for: one of four
abbrev pub reserve_word : ℕ → List ℕ
reserve_word draw = if draw == 0 then codes "y" else codes "n"

abbrev pub submit_line : ℕ → ℕ → ℕ → List ℕ
submit_line job minutes reserve =
    codes "qsub -N g" ++ decimal job ++ codes " -l h_rt=" ++ decimal (60 * (minutes + 1)) ++ codes " -R " ++ reserve_word reserve ++ codes " work"

-- a job takes three draws: its user of five, its minutes, and whether it may be reserved for
abbrev pub submit_drawn : ℕ → ℕ → ℕ → ℕ → List ℕ
submit_drawn job first second third =
    request (10 * job) (codes "u" ++ decimal (drawn first 5)) (codes "gen") (submit_line job (drawn second 20) (drawn third 4))

unfoldable pub submit_request : ℕ → ℕ → List ℕ
submit_request job state = submit_drawn job (next_state state) (next_state (next_state state)) (next_state (next_state (next_state state)))

-- the state after these three
abbrev pub state_behind_job : ℕ → ℕ
state_behind_job state = next_state (next_state (next_state state))

unfoldable pub run_request : ℕ → List ℕ
run_request job = request (10 * job) (codes "root") (codes "root") (codes "sched")

-- the report of an end takes one draw, the seconds of processor time
abbrev pub end_line : ℕ → ℕ → List ℕ
end_line serial seconds = codes "end " ++ decimal serial ++ codes " 0 " ++ decimal seconds ++ codes " 0 0"

unfoldable pub end_request : ℕ → ℕ → List ℕ
end_request job state = request (10 * job) (codes "root") (codes "root") (end_line (job / 2) (drawn (next_state state) 100))

abbrev pub has_run : ℕ → Bool
has_run job = job % 4 == 0

abbrev pub has_end : ℕ → Bool
has_end job = job % 2 == 0

-- the requests from a job on, of which there are so many more
abbrev pub requests_from : ℕ → ℕ → ℕ → List (List ℕ)
requests_from zero job state = []
requests_from (suc more) job state =
    let behind = state_behind_job state in
    let run = if has_run job then run_request job ∷ [] else [] in
    let ends = if has_end job then end_request job behind ∷ [] else [] in
    submit_request job state ∷ (run ++ (ends ++ requests_from more (job + 1) (if has_end job then next_state behind else behind)))

-- the requests of the script of a number
unfoldable pub generated_requests : ℕ → List (List ℕ)
generated_requests number = opening_requests ++ requests_from number 1 number

-- and their bytes, one request after the other
abbrev pub script_of_requests : List (List ℕ) → List ℕ
script_of_requests requests = flat_map (λ r. r) requests

abbrev pub generated_script : ℕ → List ℕ
generated_script number = script_of_requests (generated_requests number)
