-- What a stop may leave at the end of a call, from what it may leave at each moment of the call.
use Rattle.std.proofs.Common.{ℕ, ◌≤◌, List, [], ◌∷◌, length, false, inl, arith}
use Rattle.ge_model_journal.specs.Disk.{Content, IsImageNow, IsImageSince}
use Rattle.ge_model_rows.specs.ClusterRows.{Cluster}
use Rattle.ge_model_program.specs.Runs.{EachStandsFor}
use Rattle.ge_spool.specs.declared.spool.Spool.{Spool}
use Rattle.ge_spool.proofs.Settling.{still-moments}
use Rattle.ge_serve.specs.Areas.{Areas}
use Rattle.ge_serve.specs.Homes.{IsHome}
use Rattle.ge_serve.proofs.Standing.{stands-for}

-- what a stop may leave now is what it may have left since some moment before
pub now-since : (told : List Content) (start : ℕ) (image : List ℕ) → start ≤ length told → IsImageNow told image → IsImageSince start told image
now-since [] start image later left = absurd left
now-since (now ∷ earlier) start image later left = (later, inl left)

-- where a master is at home, every pair of images stands for its cluster
pub home-images : (spool : Spool) (cluster : Cluster) (now : Areas) → IsHome (record { spool = spool; cluster = cluster; stopping = false }) now → EachStandsFor now.a now.b cluster
home-images spool cluster now home = λ c d of_c of_d.
    stands-for c d home.state cluster
    (still-moments spool now.a now.b home.state home.settled c d (now-since now.a (length now.a) c (omega arith) of_c) (now-since now.b (length now.b) d (omega arith) of_d))
    home.holds

-- what holds at each moment of a call holds where it ends
pub ends-images : (a new_a b new_b : List Content) (Q : List ℕ → List ℕ → Type 0) → length a ≤ length new_a → length b ≤ length new_b
    → ((c d : List ℕ) → IsImageSince (length a) new_a c → IsImageSince (length b) new_b d → Q c d) → (c d : List ℕ) → IsImageNow new_a c → IsImageNow new_b d → Q c d
ends-images a new_a b new_b Q later_a later_b each = λ c d of_c of_d. each c d (now-since new_a (length a) c later_a of_c) (now-since new_b (length b) d later_b of_d)
